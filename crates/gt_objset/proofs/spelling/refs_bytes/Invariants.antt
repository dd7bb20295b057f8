use Rattle.std.proofs.Common.{◌≡◌, ◌+◌, drop, sum_by}
use Rattle.gt_objset.specs.Places.{ref_bytes}
use Rattle.gt_objset.proofs.spelling.refs_bytes.Given as goal

abbrev pub invariant-loop-update : goal.invariant-loop-update
invariant-loop-update l = l.sum + sum_by (ref_bytes l.checks) (drop l.update-index l.refs) ≡ sum_by (ref_bytes l.checks) l.refs
