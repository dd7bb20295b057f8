use Rattle.std.proofs.Common.{◌≡◌, ◌++◌, drop, map}
use Rattle.gt_reftable.specs.Table.{ref_at}
use Rattle.gt_reftable.proofs.listing.add_refs.Given as goal

-- what is left adds up to the same
abbrev pub invariant-loop-item : goal.invariant-loop-item
invariant-loop-item l = l.out ++ map (ref_at l.path) (drop l.item-index l.refs) ≡ l.fn.out ++ map (ref_at l.path) l.refs
