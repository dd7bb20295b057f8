use Rattle.std.proofs.Common.{◌+◌, ◌∷◌, drop, subst, List, ap, ◌∙◌, sym}
use Rattle.std.proofs.lemmas.List.{drop_more}
use Rattle.gt_base.specs.declared.held.BaseRepo.{BaseRepo}
use Rattle.gt_table.specs.Seeds.{Left}
use Rattle.gt_table.proofs.seeding.seed_all.Goals as goal

pub loop-repo-preserved : goal.loop-repo-preserved
loop-repo-preserved c =
    let repos = c.args.repos.now in
    let i = c.loop-repo.repo-index in
    let repo = c.repo-item.result in
    let begin = c.args.refs.now.floor in
    let is = drop_more repos i repo c.loop-repo-test.true ∙ ap (λ r. r ∷ drop (i + 1) repos) (sym c.repo-item.is) in
    let P : List BaseRepo → Type 0 = λ l. Left begin l repos c.loop-repo.refs c.loop-repo.objects in
    c.in_default.ensures begin (drop (i + 1) repos) repos (subst P is c.loop-repo.invariant)
