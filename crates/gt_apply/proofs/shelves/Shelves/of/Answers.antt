use Rattle.std.proofs.Common.{◌∙◌, List, ap, map as map_list}
use Rattle.std.specs.FinMap as map
use Rattle.gt_manifest.specs.declared.manifest.RepoFiles.{RepoFiles}
use Rattle.gt_apply.specs.Plan.{shelves_of}
use Rattle.gt_apply.proofs.TreeLaws.{onto, onto-empty, onto-pop}
use Rattle.gt_apply.proofs.shelves.Shelves.of.Goals as goal

pub loop-repo-init : goal.loop-repo-init
loop-repo-init c =
    ap (onto (map_list (λ r. (r.path, r)) c.in_ok-left.left)) c.new-shelves.ensures
    ∙ onto-empty (map_list (λ r. (r.path, r)) c.in_ok-left.left)
    ∙ ap (λ (rs : List RepoFiles). shelves_of rs) c.in_ok-left.ensures

pub loop-repo-preserved : goal.loop-repo-preserved
loop-repo-preserved c =
    onto-pop (λ r. (r.path, r)) c.loop-repo.left c.pop.new.self c.in-Some.repo c.loop-repo.shelves c.put.new.self (shelves_of c.args.repos.now) c.in-Some.ensures
    (c.in_ok-put.ensures ∙ ap (λ p. map.insert c.loop-repo.shelves p c.in-Some.repo) c.in_ok-path.ensures) c.loop-repo.invariant
