use Rattle.std.proofs.Common.{◌+◌, ◌≤◌, sym, subst, length, arith}
use Rattle.gt_plain_jobs.specs.Marking.{Pairs}
use Rattle.gt_plain_jobs.proofs.Gathered.{IsGathered, begins, goes, done}
use Rattle.gt_plain_jobs.proofs.marks.marked.Goals as goal

pub loop-index-init : goal.loop-index-init
loop-index-init c = subst (λ (ps : Pairs). IsGathered c.args.content.now c.args.path.now 0 ps) (sym c.in_ok-pairs.ensures) (begins c.args.content.now c.args.path.now)

pub returns-then-len-index : goal.returns-then-len-index
returns-then-len-index c =
    done c.args.content.now c.args.path.now c.loop-index.index c.loop-index.pairs.items (let all : length c.loop-index.pairs.items ≤ c.loop-index.index = omega arith in all) c.loop-index.invariant

pub loop-index-preserved : goal.loop-index-preserved
loop-index-preserved c =
    subst (λ (ps : Pairs). IsGathered c.args.content.now c.args.path.now (c.loop-index.index + 1) ps) (sym c.in_ok-follow.ensures)
    (goes c.args.content.now c.args.path.now c.loop-index.index c.loop-index.pairs.items c.loop-index.invariant)

pub returns : goal.returns
returns c = done c.args.content.now c.args.path.now c.loop-index.index c.loop-index.pairs.items (let all : length c.loop-index.pairs.items ≤ c.loop-index.index = omega arith in all) c.loop-index.invariant
