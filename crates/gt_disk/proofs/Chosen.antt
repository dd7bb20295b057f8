-- A choice is among what a stop may leave.
use Rattle.std.proofs.Common.{◌≡◌, ℕ, ◌+◌, ◌/◌, List, [], replicate, Some, None, refl, inl, inr, sym, ◌∙◌, ap, subst, arith}
use Rattle.std.proofs.lemmas.List.{length-replicate, append-nil}
use Rattle.gt_disk.specs.declared.file_id.FileId.{FileId}
use Rattle.gt_disk.specs.declared.call.Call.{Call}
use Rattle.gt_disk.specs.declared.stop.Stop.{Stop}
use Rattle.gt_disk.specs.declared.stop.Stop.TheVariants.{Least, Most, Junk}
use Rattle.gt_disk.specs.Files.{Content, FileState, still, grown, loose, Leaves}
use Rattle.gt_disk.specs.Calls.{Contents, content_of, cell_at}
use Rattle.gt_disk.specs.Stopped.{least, junk, chosen}
use Rattle.gt_disk.specs.Shows.{shows_from}

least_leaves : (s : FileState) → Leaves s (least s)
least_leaves (still x) = refl
least_leaves (grown None k) = inl (refl, refl)
least_leaves (grown (Some x) k) = inr ([], omega arith, ap Some (sym (append-nil x)))
least_leaves loose = tt

junk_leaves : (s : FileState) → Leaves s (junk s)
junk_leaves (still x) = refl
junk_leaves (grown x k) = inr (replicate ((k + 1) / 2) 0xAA, omega (arith, length-replicate {A = ℕ} ((k + 1) / 2) 0xAA), refl)
junk_leaves loose = tt

pub chosen_leaves : (choice : Stop) (start : Contents) (f : FileId) (calls : List Call) → Leaves (cell_at start f calls).state (chosen choice (cell_at start f calls))
chosen_leaves Most start f calls = shows_from start f calls
chosen_leaves Least start f calls = least_leaves (cell_at start f calls).state
chosen_leaves Junk start f calls = junk_leaves (cell_at start f calls).state

-- a disk that begins with the chosen files reads as an image
pub image_chosen : (choice : Stop) (start new_start : Contents) (before new_calls : List Call) → ((f : FileId) → content_of new_start f ≡ chosen choice (cell_at start f before)) → new_calls ≡ []
    → (f : FileId) → Leaves (cell_at start f before).state (cell_at new_start f new_calls).shown
image_chosen choice start new_start before new_calls is none f =
    let reads : (cell_at new_start f new_calls).shown ≡ chosen choice (cell_at start f before) = ap (λ (cs : List Call). (cell_at new_start f cs).shown) none ∙ is f in
    subst (λ (x : Content). Leaves (cell_at start f before).state x) (sym reads) (chosen_leaves choice start f before)
