use Rattle.std.proofs.Common.{◌≡◌, map}
use Rattle.gt_reftext.specs.Packed.{to_ref}
use Rattle.gt_reftext.proofs.so_far.listed.Given as goal

abbrev pub invariant-refs : goal.invariant-refs
invariant-refs l = l.list ≡ map to_ref l.yielded
