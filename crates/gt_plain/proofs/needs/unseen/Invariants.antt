use Rattle.std.proofs.Common.{◌≡◌, ◌++◌, filter, not, map}
use Rattle.gt_model.specs.Contents.{is_visible}
use Rattle.gt_plain.proofs.needs.unseen.Given as goal

-- what was found, and what is left to look through
abbrev pub invariant-loop-item : goal.invariant-loop-item
invariant-loop-item l =
    l.added.items ++ filter (λ a. not (is_visible l.content l.path a.name)) l.item-iterator ≡ filter (λ a. not (is_visible l.content l.path a.name)) (map (λ e. e.1) l.tree.entries)
