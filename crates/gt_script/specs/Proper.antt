-- What holds of each value of the answers' types: numbers fit their types, and names, paths and records are such.
use Rattle.std.specs.Prelude.{◌≡◌, ℕ, ◌<◌, ◌^◌, List, length, IfSome, Result, Ok, Err}
use Rattle.std.specs.List.{AllByRecursion}
use Rattle.hex.specs.Hex.{IsBytes}
use Rattle.gt_name.specs.References.{IsRefName}
use Rattle.gt_name.specs.Paths.{IsPath}
use Rattle.gt_object.specs.Whole.{IsRecord}
use Rattle.gt_model.specs.declared.reference.RefValue.{RefValue}
use Rattle.gt_model.specs.declared.needer.Needer.{Needer}
use Rattle.gt_model.specs.declared.needer.Needer.TheVariants.{Ref, Object as NeedingObject}
use Rattle.gt_model.specs.declared.done.Done.{Done}
use Rattle.gt_model.specs.declared.done.Done.TheVariants as done
use Rattle.gt_model.specs.declared.refusal.Refusal.{Refusal}
use Rattle.gt_model.specs.declared.refusal.Refusal.TheVariants as refusal

abbrev pub Fits : ℕ → Type 0
Fits n = n < 2 ^ 64

abbrev pub IsName : List ℕ → Type 0
IsName name = (length name ≡ 20) × IsBytes name

abbrev pub IsNeeder : Needer → Type 0
IsNeeder (Ref name) = IsRefName name
IsNeeder (NeedingObject name) = IsName name

abbrev pub IsValue : RefValue → Type 0
IsValue r = IsName r.value × IsRefName r.name

abbrev pub IsDone : Done → Type 0
IsDone (done.Created position pool) = Fits position
IsDone (done.Deleted position) = Fits position
IsDone (done.Linked position) = Fits position
IsDone (done.Begun position) = Fits position
IsDone (done.Committed position) = Fits position
IsDone (done.Finished position) = Fits position
IsDone (done.HouseOpen position) = Fits position
IsDone (done.HouseDone position) = Fits position
IsDone (done.Applied position) = Fits position
IsDone (done.Trimmed low) = Fits low
IsDone (done.Value value) = IfSome value IsName
IsDone (done.Refs list) = Fits (length list) × AllByRecursion IsValue list
IsDone (done.Object whole) = IsRecord whole × IsBytes whole
IsDone (done.Named name) = IsName name
IsDone done.Staged = Unit {0}
IsDone done.Checked = Unit {0}
IsDone done.Aborted = Unit {0}
IsDone (done.Step ready) = Unit {0}
IsDone done.Swept = Unit {0}
IsDone done.Restarted = Unit {0}

abbrev pub IsRefusal : Refusal → Type 0
IsRefusal (refusal.Behind seen front) = Fits seen × Fits front
IsRefusal (refusal.Absent name) = IsName name
IsRefusal (refusal.ReferenceConflict name expected actual) = IsRefName name × IsName expected × IsName actual
IsRefusal (refusal.DirectoryConflict name existing) = IsRefName name × IsRefName existing
IsRefusal (refusal.MissingObject name needed_by) = IsName name × IsNeeder needed_by
IsRefusal (refusal.HousekeepingConflict position) = Fits position
IsRefusal (refusal.PrunedObject name position) = IsName name × Fits position
IsRefusal (refusal.BadObject at) = Fits at
IsRefusal (refusal.BadRef rule at) = Fits rule × Fits at
IsRefusal (refusal.BadPath at) = Fits at
IsRefusal (refusal.PoolInUse member) = IsPath member
IsRefusal (refusal.Unsure position) = Fits position
IsRefusal (refusal.MapUnsure number) = Fits number
IsRefusal (refusal.Damaged file at) = Fits file.kind × Fits file.number × Fits at
IsRefusal _ = Unit {0}

abbrev pub IsProper : Result Done Refusal → Type 0
IsProper (Ok d) = IsDone d
IsProper (Err r) = IsRefusal r
