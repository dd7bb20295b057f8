use Rattle.std.proofs.Common.{◌∙◌, ap, sym, ◌++◌, ◌-◌, ◌+◌, ℕ, List}
use Rattle.gt_model.specs.Jobs.{chain}
use Rattle.gt_plain_jobs.proofs.Chains.{goes_on, ends}
use Rattle.gt_plain_jobs.proofs.tags.chain.Goals as goal

pub returns-in-None : goal.returns-in-None
returns-in-None c =
    c.in_ok-push.ensures.items
    ∙ ends c.args.content.now c.args.path.now c.args.count c.loop-at._at c.loop-at.last c.loop-at.names.items (chain c.args.content.now c.args.path.now c.args.count c.args.name.now) c.loop-at.invariant c.loop-at-test.true (sym c.in-None.is ∙ c.in_ok-next.ensures)

pub loop-at-preserved : goal.loop-at-preserved
loop-at-preserved c =
    ap (λ (names : List (List ℕ)). names ++ chain c.args.content.now c.args.path.now (c.args.count - (c.loop-at._at + 1)) c.in-Some.next) c.in_ok-push.ensures.items
    ∙ goes_on c.args.content.now c.args.path.now c.args.count c.loop-at._at c.loop-at.last c.loop-at.names.items (chain c.args.content.now c.args.path.now c.args.count c.args.name.now) c.loop-at.invariant c.loop-at-test.true c.in-Some.next (sym c.in-Some.is ∙ c.in_ok-next.ensures)
