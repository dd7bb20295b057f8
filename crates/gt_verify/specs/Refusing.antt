-- What an answer of the code says in the words of the definition.
use Rattle.std.specs.Prelude.{◌≡◌, ◌⊎◌, Result, Ok, Err}
use Rattle.gt_model.specs.declared.refusal.Refusal.{Refusal}
use Rattle.gt_model.specs.declared.refusal.Refusal.TheVariants.{RepositoryGone, ReferenceConflict, DirectoryConflict, MissingObject, Memory}
use Rattle.gt_model.specs.Verdicts.{Ready}
use Rattle.gt_verify.specs.declared.error.VerifyError.{VerifyError}
use Rattle.gt_verify.specs.declared.error.VerifyError.TheVariants.{RepositoryGone as Gone, ReferenceConflict as Conflict, DirectoryConflict as Folder, MissingObject as Missing, Memory as OutOfMemory}
use Rattle.gt_verify.specs.declared.ready.Ready.{Ready as ReadyHere}

-- what a good commit does
abbrev pub ready_of : ReadyHere → Ready
ready_of r = record { refs = r.refs; needed = r.needed; added = r.added }

-- the refusal that an error is
abbrev pub refusal_of : VerifyError → Refusal
refusal_of Gone = RepositoryGone
refusal_of (Conflict name expected actual) = ReferenceConflict name expected actual
refusal_of (Folder name existing) = DirectoryConflict name existing
refusal_of (Missing name needer) = MissingObject name needer
refusal_of OutOfMemory = Memory

-- A verdict is answered as it is, or memory ran out.
abbrev pub IsVerdict : Result Ready Refusal → Result ReadyHere VerifyError → Type 0
IsVerdict verdict (Ok ready) = verdict ≡ Ok (ready_of ready)
IsVerdict verdict (Err e) = (e ≡ OutOfMemory) ⊎ (verdict ≡ Err (refusal_of e))
