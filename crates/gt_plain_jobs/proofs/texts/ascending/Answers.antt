use Rattle.std.proofs.Common.{◌≡◌, ◌∙◌, ℕ, List, ap, subst, IfOk}
use Rattle.std.specs.FinMap as finite
use Rattle.gt_model.specs.Contents.{Names}
use Rattle.gt_plain.proofs.Maps.{keys_of}
use Rattle.gt_plain_jobs.proofs.texts.ascending.Goals as goal

pub returns : goal.returns
returns c =
    subst (λ (keys : List (List ℕ)). IfOk c.keys_of.result (λ v. v.items ≡ keys)) (keys_of c.in_ok-tree.tree.entries c.keys_of.ensures.ordered ∙ ap (λ (m : Names). finite.keys m) c.in_ok-tree.ensures) c.keys_of.ensures.keys
