use Rattle.std.proofs.Common.{◌≡◌, ℕ, List, subst}
use Rattle.std.specs.List.{IsAmong}
use Rattle.gt_mark.proofs.Pairs.{extends, names_more, there_more, all_taken}
use Rattle.gt_mark.proofs.marked.Marked.add_names.Goals as goal

pub returns-in_err-add-clause-finds : goal.returns-in_err-add-clause-finds
returns-in_err-add-clause-finds c =
    names_more c.args.path c.args.names.now c.args.self.now c.loop-name.self c.add.new.self c.loop-name.name-index c.loop-name.pair.0 c.name-item.result c.loop-name-test.true c.name-item.is
    c.loop-name.invariant.path c.loop-name.invariant.finds c.add.ensures.finds

pub loop-name-preserved : goal.loop-name-preserved
loop-name-preserved c = record {
  path = c.loop-name.invariant.path;
  finds =
      names_more c.args.path c.args.names.now c.args.self.now c.loop-name.self c.add.new.self c.loop-name.name-index c.loop-name.pair.0 c.name-item.result c.loop-name-test.true c.name-item.is
      c.loop-name.invariant.path c.loop-name.invariant.finds c.add.ensures.finds;
  there =
      there_more (λ (n : List ℕ). (c.args.path, n)) c.args.names.now c.loop-name.self c.add.new.self c.loop-name.name-index c.name-item.result c.loop-name-test.true c.name-item.is
      (extends (λ p. p ≡ (c.loop-name.pair.0, c.name-item.result)) c.loop-name.self c.add.new.self c.add.ensures.finds) c.loop-name.invariant.there
      (subst (λ (path : List ℕ). IsAmong c.add.new.self (path, c.name-item.result)) c.loop-name.invariant.path c.in_ok-add.ensures.there);
}

pub returns-clause-there : goal.returns-clause-there
returns-clause-there c = all_taken (λ (n : List ℕ). IsAmong c.loop-name.self (c.args.path, n)) c.args.names.now c.loop-name.name-index c.loop-name-test.false c.loop-name.invariant.there
