-- A replay of calls, and what a stop after them leaves.
use Rattle.std.proofs.Common.{◌≡◌, Bool, true, false, cond, Option, Some, refl, sym, ◌∙◌, ap}
use Rattle.std.specs.Ordering.{is_eq}
use Rattle.std.specs.BTreeMap as tree
use Rattle.std.specs.BTreeMap.{BTreeMap}
use Rattle.gt_disk.specs.declared.file_id.FileId.{FileId}
use Rattle.gt_disk.specs.declared.call.Call.{Call}
use Rattle.gt_disk.specs.declared.replayed.Replayed.{Replayed}
use Rattle.gt_disk.specs.Files.{file_cmp}
use Rattle.gt_disk.specs.Calls.{same_file, Contents, Cell, file_of, changed, stepped, first_cell}
use Rattle.gt_disk.specs.Stopped.{cell_of, cell_or, cell_in}
use Rattle.gt_disk.proofs.Replay.{same_file-true, is_eq-file_cmp, stepped_same, stepped_other}

abbrev pub Cells : Type 0
Cells = BTreeMap FileId Replayed

-- a map at one file, and at the others
at_file : {X : Type 0} (old new : BTreeMap FileId X) (file : FileId) (w : Option X) → ((q : FileId) → tree.get file_cmp new q ≡ cond (is_eq (file_cmp file q)) w (tree.get file_cmp old q))
    → (q : FileId) → same_file file q ≡ true → tree.get file_cmp new q ≡ w
at_file old new file w updates q same = updates q ∙ ap (λ (b : Bool). cond b w (tree.get file_cmp old q)) (is_eq-file_cmp file q ∙ same)

at_other : {X : Type 0} (old new : BTreeMap FileId X) (file : FileId) (w : Option X) → ((q : FileId) → tree.get file_cmp new q ≡ cond (is_eq (file_cmp file q)) w (tree.get file_cmp old q))
    → (q : FileId) → same_file file q ≡ false → tree.get file_cmp new q ≡ tree.get file_cmp old q
at_other old new file w updates q apart = updates q ∙ ap (λ (b : Bool). cond b w (tree.get file_cmp old q)) (is_eq-file_cmp file q ∙ apart)

-- one call more on a file that was taken out, and is put back
pub replayed_step : (start : Contents) (old between new : Cells) (c : Call) (file : FileId) (before after : Replayed) → file ≡ file_of c → cell_of before ≡ cell_in start old file
    → ((q : FileId) → same_file file q ≡ false → cell_in start between q ≡ cell_in start old q) → cell_of after ≡ changed (cell_of before) c
    → ((q : FileId) → tree.get file_cmp new q ≡ cond (is_eq (file_cmp file q)) (Some after) (tree.get file_cmp between q)) → (q : FileId) → cell_in start new q ≡ stepped q (cell_in start old q) c
replayed_step start old between new c file before after on was others does updates q = by (same_file file q) refl
  where
    by : (b : Bool) → same_file file q ≡ b → cell_in start new q ≡ stepped q (cell_in start old q) c
    by true same =
        let here : file ≡ q = same_file-true file q same in
        ap (cell_or (first_cell start q)) (at_file between new file (Some after) updates q same)
        ∙ does
        ∙ ap (λ (x : Cell). changed x c) (was ∙ ap (λ (f : FileId). cell_in start old f) here)
        ∙ sym (stepped_same q (cell_in start old q) c (sym on ∙ here))
    by false apart =
        ap (cell_or (first_cell start q)) (at_other between new file (Some after) updates q apart)
        ∙ others q apart
        ∙ sym (stepped_other q (cell_in start old q) c (ap (λ (f : FileId). same_file f q) (sym on) ∙ apart))
