-- What an answer says of the disk that was asked.
use Rattle.std.specs.Prelude.{◌≡◌, ◌⊎◌, ℕ, ◌+◌, ◌≤◌, false, IsTrue, List, take, Option, Some, None, Result, Ok}
use Rattle.gt_apply.specs.Plan.{planned_files}
use Rattle.gt_checkpoint.specs.Advancing.{calls_of}
use Rattle.gt_disk.specs.Files.{Rose}
use Rattle.gt_model.specs.declared.done.Done.{Done}
use Rattle.gt_model.specs.declared.done.Done.TheVariants.{Object}
use Rattle.gt_model.specs.declared.entry.Entry.{Entry}
use Rattle.gt_model.specs.declared.refusal.Refusal.{Refusal}
use Rattle.gt_model.specs.Machine.{State, is_faulty, entries_past}

-- What is answered is this; or both are objects, of which a disk that doesn't tell may have given another one.
abbrev pub IsLike : Result Done Refusal → Result Done Refusal → Type 0
IsLike answer told = (answer ≡ told) ⊎ ((given held : List ℕ) × (answer ≡ Ok (Object given)) × (told ≡ Ok (Object held)))

-- A failing disk is blamed where its count of faults rose, and only there: no fault hides behind another answer.
pub record CallCause (before after : ℕ) (answer : Result Done Refusal) : Type 0 where
  pub later : before ≤ after
  pub fault : IsTrue (is_faulty answer) → Rose before after
  pub sure : is_faulty answer ≡ false → after ≡ before

-- how many calls of the disk find out whether an entry in doubt is in the log
abbrev pub settling_calls : Option Entry → ℕ
settling_calls None = 0
settling_calls (Some e) = 2

-- how many calls of the disk apply the next entries at most, where nothing is in doubt: those of the new files, and four for the manifest and turn
abbrev pub application_calls : State → ℕ → ℕ
application_calls s n = calls_of (planned_files s.next (take n (entries_past s s.applied))) + 4
