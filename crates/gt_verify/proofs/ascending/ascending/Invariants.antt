use Rattle.std.proofs.Common.{◌≡◌, map}
use Rattle.gt_verify.proofs.ascending.ascending.Given as goal

abbrev pub invariant-loop-name : goal.invariant-loop-name
invariant-loop-name l = l.list ≡ map (λ n. n.now) l.yielded
