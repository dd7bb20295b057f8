use Rattle.std.proofs.Common.{◌≡◌, ◌∙◌, ℕ, List, ap, map as list_map, subst, sym, IfOk}
use Rattle.std.specs.FinMap as map
use Rattle.std.specs.FinMap.{FinMap}
use Rattle.gt_model.specs.Contents.{key_cmp}
use Rattle.gt_plain.proofs.Maps.{entries_of}
use Rattle.gt_plain_files.proofs.numbers.PlainNumbers.list.Goals as goal

pub returns : goal.returns
returns c =
    subst (λ (es : List (List ℕ × ℕ)). IfOk c.values_of.result (λ v. v.items ≡ list_map (λ r. r.1) es))
    (sym (entries_of c.self.inside.tree.entries c.values_of.ensures.ordered) ∙ ap (λ (m : FinMap key_cmp ℕ). map.entries m) c.self.view_is) c.values_of.ensures.values
