use Rattle.std.proofs.Common.{◌≡◌, ◌∙◌, ℕ, List, ap, subst, sym, IfOk}
use Rattle.std.specs.FinMap as map
use Rattle.gt_model.specs.Contents.{Names}
use Rattle.gt_plain.proofs.Maps.{entries_of}
use Rattle.gt_plain.proofs.refs.PlainRefs.entries.Goals as goal

pub returns : goal.returns
returns c =
    subst (λ (es : List (List ℕ × List ℕ)). IfOk c.copies_of.result (λ v. v.items ≡ es))
    (sym (entries_of c.self.inside.tree.entries c.copies_of.ensures.ordered) ∙ ap (λ (m : Names). map.entries m) c.self.view_is) c.copies_of.ensures.copies
