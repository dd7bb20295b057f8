use Rattle.std.proofs.Common.{◌≡◌, List, ℕ, IfOk, subst}
use Rattle.gt_apply.proofs.WriteLaws.{paths_are}
use Rattle.gt_apply.proofs.repos.paths_of.Goals as goal

pub returns : goal.returns
returns c =
    subst (λ (ps : List (List ℕ)). IfOk c.listed.result (λ v. v.items ≡ ps)) (paths_are c.args.entries.now c.in_ok-paths.paths.keys c.listed.ensures.ordered c.in_ok-paths.ensures) c.listed.ensures.list
