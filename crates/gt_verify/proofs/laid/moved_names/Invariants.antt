use Rattle.std.proofs.Common.{◌≡◌, take}
use Rattle.gt_verify.specs.Folders.{moved_names}
use Rattle.gt_verify.proofs.laid.moved_names.Given as goal

abbrev pub invariant-loop-update : goal.invariant-loop-update
invariant-loop-update l = l.names.items ≡ moved_names (take l.update-index l.refs)
