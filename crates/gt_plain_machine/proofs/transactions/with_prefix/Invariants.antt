use Rattle.std.proofs.Common.{◌≡◌, ◌++◌, drop, filter, map, nat_eq}
use Rattle.std.specs.List.{starts_with}
use Rattle.gt_plain_machine.proofs.transactions.with_prefix.Given as goal

-- what was found, and what is left to look through
abbrev pub invariant-loop-item : goal.invariant-loop-item
invariant-loop-item l = l.list ++ map (λ e. record { name = e.0; value = e.1 }) (filter (λ e. starts_with nat_eq e.0 l.prefix) (drop l.item-index l.refs)) ≡ map (λ e. record { name = e.0; value = e.1 }) (filter (λ e. starts_with nat_eq e.0 l.prefix) l.refs)
