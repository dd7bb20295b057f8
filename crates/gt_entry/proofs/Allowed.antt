-- What may stand where, as far as the reader has come.
use Rattle.std.proofs.Common.{◌≡◌, ℕ, ◌^◌, ◌<◌, true, List, [], length, Option, Some, None}
use Rattle.gt_bytes.specs.Spelling.{Follows}
use Rattle.gt_model.specs.declared.added.Added.{Added}
use Rattle.gt_model.specs.declared.change.Change.{Change}
use Rattle.gt_model.specs.declared.change.Change.TheVariants.{Create, Delete, Link, Write, Repack, Prune, PackRefs, Unlink}
use Rattle.gt_model.specs.declared.entry.Entry.{Entry}
use Rattle.gt_model.specs.declared.update.RefUpdate.{RefUpdate}
use Rattle.gt_entry.specs.declared.version.Version.{Version}
use Rattle.gt_entry.specs.declared.version.Version.TheVariants.{First, Second}
use Rattle.gt_entry.specs.Fits.{IsNumber, IsName}
use Rattle.gt_entry.specs.Reading.{good_path, good_ref, is_new, above, added_name, is_record}
use Rattle.gt_entry.specs.Spelling.{same}

abbrev pub IsPathText : List ℕ → Type 0
IsPathText t = (length t < 2 ^ 16) × (good_path t ≡ true)

abbrev pub IsRefText : List ℕ → Type 0
IsRefText t = (length t < 2 ^ 16) × (good_ref t ≡ true)

abbrev pub IsTarget : Version → Option (List ℕ) → Type 0
IsTarget First None = ⊥
IsTarget First (Some new) = IsName new
IsTarget Second None = Unit {0}
IsTarget Second (Some new) = IsName new

abbrev pub MayUpdate : Version → List RefUpdate → RefUpdate → Type 0
MayUpdate v before u = (IsRefText u.name × (is_new before u.name ≡ true)) × (IsName u.old × IsTarget v u.new)

abbrev pub MayName : List (List ℕ) → List ℕ → Type 0
MayName before x = IsName x × (above same before x ≡ true)

abbrev pub IsWhole : List ℕ → Type 0
IsWhole whole = (length whole < 2 ^ 32) × (is_record whole ≡ true)

abbrev pub MayAdd : List Added → Added → Type 0
MayAdd before a = (IsName a.name × (above added_name before a.name ≡ true)) × IsWhole a.whole

abbrev pub Are : {A : Type 0} → (List A → A → Type 0) → List A → Type 0
Are May xs = (length xs < 2 ^ 32) × Follows May [] xs

abbrev pub FitsWrite : Version → List RefUpdate × (List (List ℕ) × List Added) → Type 0
FitsWrite v x = Are (MayUpdate v) x.0 × (Are MayName x.1.0 × Are MayAdd x.1.1)

abbrev pub FitsPacking : ℕ × List (List ℕ) → Type 0
FitsPacking x = IsNumber x.0 × Are MayName x.1

abbrev pub FitsChange : Version → Change → Type 0
FitsChange First (Create pool) = Unit {0}
FitsChange First Delete = Unit {0}
FitsChange First (Link pool) = IsPathText pool
FitsChange First (Write refs needed added) = FitsWrite First (refs, (needed, added))
FitsChange First (Repack file dropped) = FitsPacking (file, dropped)
FitsChange First (Prune file dropped) = FitsPacking (file, dropped)
FitsChange First (PackRefs file) = IsNumber file
FitsChange First (Unlink file) = IsNumber file
FitsChange Second (Create pool) = ⊥
FitsChange Second Delete = ⊥
FitsChange Second (Link pool) = ⊥
FitsChange Second (Write refs needed added) = FitsWrite Second (refs, (needed, added))
FitsChange Second (Repack file dropped) = ⊥
FitsChange Second (Prune file dropped) = ⊥
FitsChange Second (PackRefs file) = ⊥
FitsChange Second (Unlink file) = ⊥

abbrev pub FitsBody : Version → Entry → Type 0
FitsBody v e = IsNumber e.position × (IsPathText e.path × FitsChange v e.change)
