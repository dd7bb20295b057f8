use Rattle.std.proofs.Common.{◌≡◌, ◌||◌, ℕ, List, drop}
use Rattle.std.specs.BTreeSet as set
use Rattle.std.specs.List.{list_any}
use Rattle.std.specs.Ordering.{eq_by_cmp}
use Rattle.gt_model.specs.Contents.{key_cmp}
use Rattle.gt_objset.proofs.merging.insert_all.Given as goal

abbrev pub invariant-loop-name : goal.invariant-loop-name
invariant-loop-name l = (x : List ℕ) → (list_any (λ n. eq_by_cmp key_cmp x n) (drop l.name-index l.names) || set.contains key_cmp l.all x) ≡ (list_any (λ n. eq_by_cmp key_cmp x n) l.names || set.contains key_cmp l.fn.all x)
