-- What a read of a disk in memory shows is among what a stop may leave.
use Rattle.std.specs.Prelude.{ℕ, ◌≤◌, true, false, cond, List, [], ◌∷◌, ◌++◌, length, take, Some}
use Rattle.std.proofs.Common.{refl, sym, ◌∙◌, ap, subst, arith, inr, ⊎_elim, length-append, length-take, append_assoc}
use Rattle.std.proofs.lemmas.List.{take_all}
use Rattle.std.specs.Option.{unwrap_or}
use Rattle.gt_disk.specs.declared.file_id.FileId.{FileId}
use Rattle.gt_disk.specs.declared.call.Call.{Call}
use Rattle.gt_disk.specs.declared.call.Call.TheVariants.{Write, Append, Remove, Sync}
use Rattle.gt_disk.specs.Files.{Content, FileState, still, grown, loose, grow, appended, Leaves, IsImage, now}
use Rattle.gt_disk.specs.Calls.{Cell, Contents, changed, file_of, stepped, same_file, cell_from, cell_at, first_cell, view_of}

abbrev Own : Cell → Type 0
Own cell = Leaves cell.state cell.shown

own_grow : (s : FileState) (x : Content) (piece : List ℕ) (k : ℕ) → length piece ≤ k → Leaves s x → Leaves (grow k s) (appended x piece)
own_grow (still y) x piece k le is = inr (piece, le, ap (λ (z : Content). appended z piece) is)
own_grow (grown y j) x piece k le is = ⊎_elim
    (λ none. inr (piece, omega arith, ap (λ (z : Content). appended z piece) (none.1 ∙ sym none.0)))
    (λ (more, short, is_more). inr (
      more ++ piece,
      omega (arith, short, length-append more piece),
      ap (λ (z : Content). appended z piece) is_more ∙ ap Some (append_assoc (unwrap_or y []) more piece),
    ))
    is
own_grow loose x piece k le is = tt

own_changed : (cell : Cell) (c : Call) → Own cell → Own (changed cell c)
own_changed cell (Write g bytes) own = tt
own_changed cell (Append g bytes kept) own = own_grow cell.state cell.shown (take kept bytes.items) (length bytes.items) (omega (arith, length-take kept bytes.items)) own
own_changed cell (Remove g gone) own = tt
own_changed cell (Sync g) own = refl

own_step : (f : FileId) (cell : Cell) (c : Call) → Own cell → Own (stepped f cell c)
own_step f cell c own = elim (same_file (file_of c) f) as (λ b. Own (cond b (changed cell c) cell)) [ true ↦ own_changed cell c own | false ↦ own ]

own_from : (f : FileId) (cell : Cell) (calls : List Call) → Own cell → Own (cell_from f cell calls)
own_from f cell [] own = own
own_from f cell (c ∷ cs) own = own_from f (stepped f cell c) cs (own_step f cell c own)

pub shows_from : (start : Contents) (f : FileId) (calls : List Call) → Leaves (cell_at start f calls).state (cell_at start f calls).shown
shows_from start f calls = own_from f (first_cell start f) calls refl

pub shows_calls : (start : Contents) (calls : List Call) → IsImage (now (view_of start calls)) (view_of start calls).reads
shows_calls start calls f =
    subst (λ (cs : List Call). Leaves (cell_at start f cs).state (cell_at start f calls).shown) (sym (take_all (length calls) calls (omega arith))) (shows_from start f calls)
