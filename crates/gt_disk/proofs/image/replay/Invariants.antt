use Rattle.std.proofs.Common.{◌≡◌, take}
use Rattle.gt_disk.specs.declared.file_id.FileId.{FileId}
use Rattle.gt_disk.specs.Calls.{cell_at}
use Rattle.gt_disk.specs.Stopped.{cell_in}
use Rattle.gt_disk.proofs.image.replay.Given as goal

abbrev pub invariant-loop-call : goal.invariant-loop-call
invariant-loop-call l = (f : FileId) → cell_in l.start l.cells f ≡ cell_at l.start f (take l.call-index l.calls)
