use Rattle.std.proofs.Common.{◌≡◌, ◌∙◌, ◌<◌, ◌≤◌, ◌++◌, ◌∷◌, [], ℕ, true, cond, List, length, get_or, take, ap, subst, sym}
use Rattle.std.proofs.lemmas.List.{take_all}
use Rattle.std.specs.List.{IsDistinct}
use Rattle.std.specs.BTreeSet.{Updates, contains}
use Rattle.gt_disk.specs.Calls.{same_file}
use Rattle.gt_disk.specs.Files.{file_cmp}
use Rattle.gt_disk.specs.declared.file_id.FileId.{FileId}
use Rattle.gt_trim.specs.Unnamed.{is_among, removable_of}
use Rattle.gt_trim.proofs.Exact.{among_removable, distinct_removable}
use Rattle.gt_trim.proofs.Sets.{files_next, set_next}
use Rattle.gt_trim.proofs.unnamed.removable.Goals as goal

pub known-preserved : goal.known-preserved
known-preserved c =
    let known : List FileId = c.args.known.now in
    let i : ℕ = c.known.file-index in
    let d : FileId = record { kind = 0; number = 0 } in
    let lt : i < length known = rw c.as_slice-file-items.ensures at c.known-test.true in
    let noted = c.in_ok-note.ensures.noted in
    let out = c.in_ok-note.ensures.out in
    let made : c.note.new.files ≡ cond (contains file_cmp c.known.out (get_or known i d)) c.known.files (c.known.files ++ get_or known i d ∷ []) = rw c.as_slice-file-items.ensures at noted in
    let up : Updates file_cmp c.known.out c.note.new.out (get_or known i d) true = rw c.as_slice-file-items.ensures at out in
    record {
      files = files_next known c.args.named.now i d lt c.known.out c.known.files c.note.new.files made c.known.invariant.out c.known.invariant.files;
      out = set_next known c.args.named.now i d lt c.known.out c.note.new.out up.0 c.known.invariant.out;
    }

pub returns-clause-exact : goal.returns-clause-exact
returns-clause-exact c = λ f.
    let le : length c.args.known.now ≤ c.known.file-index = rw c.as_slice-file-items.ensures at c.known-test.false in
    let is : c.known.files ≡ removable_of c.args.known.now c.args.named.now = c.known.invariant.files ∙ ap (λ (fs : List FileId). removable_of fs c.args.named.now) (take_all c.known.file-index c.args.known.now le) in
    ap (λ (fs : List FileId). is_among fs f) is ∙ among_removable c.args.known.now c.args.named.now f

pub returns-clause-once : goal.returns-clause-once
returns-clause-once c =
    subst (λ (fs : List FileId). IsDistinct same_file fs) (sym c.known.invariant.files) (distinct_removable (take c.known.file-index c.args.known.now) c.args.named.now)
