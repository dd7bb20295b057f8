use Rattle.std.proofs.Common.{◌≡◌, ◌∙◌, sym, subst, OnOk}
use Rattle.gt_apply.specs.Plan.{Shelves, placed}
use Rattle.gt_apply.specs.Steps.{files_in}
use Rattle.gt_apply.proofs.TreeLaws.{changed-none, changed-put}
use Rattle.gt_apply.proofs.entering.place.Goals as goal

pub returns-in_default : goal.returns-in_default
returns-in_default c =
    c.take.ensures.left ∙ changed-none c.args.shelves.now c.args.path.now (placed c.args.number (files_in c.args.writes.now)) (sym c.in_default.is ∙ c.take.ensures.taken)

pub returns : goal.returns
returns c =
    subst (λ (s : Shelves). OnOk c.put.result (c.put.new.self ≡ s))
    (changed-put c.args.shelves.now c.args.path.now (placed c.args.number (files_in c.args.writes.now)) c.in-Some.repo c.in_ok-repo.repo c.in_ok-path.path c.take.new.self
    (sym c.in-Some.is ∙ c.take.ensures.taken) c.take.ensures.left c.in_ok-repo.ensures c.in_ok-path.ensures)
    c.put.ensures
