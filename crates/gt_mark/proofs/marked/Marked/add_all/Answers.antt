use Rattle.std.proofs.Common.{◌≡◌}
use Rattle.std.specs.List.{IsAmong}
use Rattle.gt_mark.specs.Reach.{Pair}
use Rattle.gt_mark.proofs.Pairs.{extends, all_more, there_more, all_taken}
use Rattle.gt_mark.proofs.marked.Marked.add_all.Goals as goal

pub returns-in_err-add-clause-finds : goal.returns-in_err-add-clause-finds
returns-in_err-add-clause-finds c =
    all_more c.args.pairs.now c.args.self.now c.loop-pair.self c.add.new.self c.loop-pair.pair-index c.pair-item.result c.loop-pair-test.true c.pair-item.is c.loop-pair.invariant.finds c.add.ensures.finds

pub loop-pair-preserved : goal.loop-pair-preserved
loop-pair-preserved c = record {
  finds = all_more c.args.pairs.now c.args.self.now c.loop-pair.self c.add.new.self c.loop-pair.pair-index c.pair-item.result c.loop-pair-test.true c.pair-item.is c.loop-pair.invariant.finds c.add.ensures.finds;
  there =
      there_more (λ (p : Pair). p) c.args.pairs.now c.loop-pair.self c.add.new.self c.loop-pair.pair-index c.pair-item.result c.loop-pair-test.true c.pair-item.is
      (extends (λ p. p ≡ c.pair-item.result) c.loop-pair.self c.add.new.self c.add.ensures.finds) c.loop-pair.invariant.there c.in_ok-add.ensures.there;
}

pub returns-clause-there : goal.returns-clause-there
returns-clause-there c = all_taken (IsAmong c.loop-pair.self) c.args.pairs.now c.loop-pair.pair-index c.loop-pair-test.false c.loop-pair.invariant.there
