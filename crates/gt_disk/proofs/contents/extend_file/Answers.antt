use Rattle.std.proofs.Common.{◌≡◌, Some, None, ℕ, Vec, ap, subst, sym, refl, ◌∙◌, rules}
use Rattle.std.specs.Prelude.{OnErr, Ok, Err, Result, Option, IsSome}
use Rattle.std.specs.declared.alloc.AllocError.{AllocError}
use Rattle.std.specs.BTreeMap as tree
use Rattle.std.specs.declared.alloc.Global.{Global}
use Rattle.gt_disk.specs.declared.file_id.FileId.{FileId}
use Rattle.gt_disk.specs.Files.{file_cmp}
use Rattle.gt_disk.specs.Calls.{Contents, content, content_of}
use Rattle.gt_disk.specs.Contents.{Puts}
use Rattle.gt_disk.proofs.Kept.{puts_update, puts_same}
use Rattle.gt_disk.proofs.contents.extend_file.Goals as goal

pub returns-in_err-extend_from_slice-clause-err : goal.returns-in_err-extend_from_slice-clause-err
returns-in_err-extend_from_slice-clause-err c =
    let old : Contents = c.args.files.now in
    let new : Contents = c.get_mut.follows.lender c.extend_from_slice.new.self in
    let value : Some c.in-Some.content.now ≡ tree.get file_cmp old c.args.file = c.in-Some.ensures.value in
    let found : IsSome (tree.get file_cmp old c.args.file) = subst (λ (o : Option (Vec ℕ Global)). IsSome o) value refl in
    let puts : Puts old new c.args.file (Some c.extend_from_slice.new.self.items) = puts_update old new c.args.file (Some c.extend_from_slice.new.self) ((c.get_mut.follows.holds c.extend_from_slice.new.self).3 found).0 in
    let kept : Some c.extend_from_slice.new.self.items ≡ content_of old c.args.file = ap Some c.in_err-extend_from_slice.ensures.items ∙ ap content value in
    let same : (f : FileId) → content_of new f ≡ content_of old f = puts_same old new c.args.file (Some c.extend_from_slice.new.self.items) puts kept in
    elim c.from_residual.result as (λ (r : Result (Unit {0}) AllocError). OnErr r ((f : FileId) → content_of new f ≡ content_of old f)) [ Ok x ↦ tt | Err e ↦ same ]

pub returns-in-Ok-clause-ok : goal.returns-in-Ok-clause-ok
returns-in-Ok-clause-ok c =
    let none : content_of c.args.files.now c.args.file ≡ None = ap content (sym c.in_default.ensures.value) in
    let items : c.in_ok-to_vec.field-0.items ≡ c.args.piece.now = search rules in
    let puts : Puts c.get_mut.follows.lender-at-none c.insert.new.self c.args.file (Some c.in_ok-to_vec.field-0.items) =
    puts_update c.get_mut.follows.lender-at-none c.insert.new.self c.args.file (Some c.in_ok-to_vec.field-0) c.in-Ok.ensures.updates.0 in
    rw none (rw (items, c.get_mut.follows.holds-at-none) at puts)
