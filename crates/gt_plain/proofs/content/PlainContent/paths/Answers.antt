use Rattle.std.proofs.Common.{◌≡◌, ◌∙◌, ℕ, List, ap, subst, IfOk}
use Rattle.std.specs.FinMap as finite
use Rattle.gt_model.specs.Contents.{Content}
use Rattle.gt_plain.proofs.Maps.{keys_of}
use Rattle.gt_plain.proofs.content.PlainContent.paths.Goals as goal

pub returns : goal.returns
returns c =
    subst (λ (keys : List (List ℕ)). IfOk c.paths_of.result (λ v. v.items ≡ keys))
    (keys_of c.self.inside.repos.entries c.paths_of.ensures.ordered ∙ ap (λ (m : Content). finite.keys m) c.self.view_is) c.paths_of.ensures.paths
