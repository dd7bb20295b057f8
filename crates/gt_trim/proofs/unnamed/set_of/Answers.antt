use Rattle.std.proofs.Common.{List, get_or, take, subst, sym}
use Rattle.std.proofs.lemmas.List.{take_more}
use Rattle.gt_disk.specs.declared.file_id.FileId.{FileId}
use Rattle.gt_trim.specs.Unnamed.{Agrees}
use Rattle.gt_trim.proofs.Sets.{agrees_more}
use Rattle.gt_trim.proofs.unnamed.set_of.Goals as goal

pub files-preserved : goal.files-preserved
files-preserved c =
    let all = c.args.files.now in
    let i = c.files.file-index in
    let d : FileId = record { kind = 0; number = 0 } in
    subst (λ (fs : List FileId). Agrees c.insert.new.self fs) (sym (take_more all i d c.files-test.true))
    (agrees_more c.files.set c.insert.new.self (get_or all i d) c.in-Ok.ensures.updates.0 (take i all) c.files.invariant)
