use Rattle.std.proofs.Common.{◌≡◌, ◌∙◌, List, ℕ, IfOk, subst, sym, ap}
use Rattle.std.specs.FinMap as map
use Rattle.gt_moves.specs.Laying.{Lengths}
use Rattle.gt_versions.proofs.Keys.{entries_of}
use Rattle.gt_moves.proofs.laying.lengths_of.Goals as goal

pub returns : goal.returns
returns c =
    subst (λ (es : List (List ℕ × ℕ)). IfOk c.list_of.result (λ list. list ≡ es))
    (sym (entries_of c.in_ok-tree.tree.entries c.list_of.ensures.ordered) ∙ ap (λ (m : Lengths). map.entries m) c.in_ok-tree.ensures) c.list_of.ensures.list
