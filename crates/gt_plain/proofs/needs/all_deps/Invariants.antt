use Rattle.std.proofs.Common.{◌≡◌, ◌++◌, drop, flat_map}
use Rattle.gt_object.specs.Whole.{deps}
use Rattle.gt_plain.proofs.needs.all_deps.Given as goal

-- what was found, and what is left to look through
abbrev pub invariant-loop-item : goal.invariant-loop-item
invariant-loop-item l = l.names.items ++ flat_map (λ a. deps a.whole) (drop l.item-index l.records) ≡ flat_map (λ a. deps a.whole) l.records
