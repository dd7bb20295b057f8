use Rattle.std.proofs.Common.{◌≡◌, ℕ, ◌||◌, List, map, drop}
use Rattle.std.specs.List.{list_any}
use Rattle.std.specs.BTreeSet as set
use Rattle.std.specs.Ordering.{eq_by_cmp}
use Rattle.gt_model.specs.Contents.{key_cmp}
use Rattle.gt_apply.proofs.repos.path_set.Given as goal

-- the paths so far, and those that are left
abbrev pub invariant-loop-entry : goal.invariant-loop-entry
invariant-loop-entry l = (q : List ℕ) → (set.contains key_cmp l.paths q || list_any (eq_by_cmp key_cmp q) (map (λ e. e.path) (drop l.entry-index l.entries))) ≡ list_any (eq_by_cmp key_cmp q) (map (λ e. e.path) l.entries)
