use Rattle.std.proofs.Common.{◌≡◌, take}
use Rattle.gt_model.specs.Contents.{with_refs}
use Rattle.gt_session.specs.Pieces.{names_of}
use Rattle.gt_session.proofs.listing.lay_over.Given as goal

abbrev pub invariant-loop-i : goal.invariant-loop-i
invariant-loop-i l = names_of l.table.entries ≡ with_refs (names_of l.fn.table.entries) (take l.i l.stage.staged.refs)
