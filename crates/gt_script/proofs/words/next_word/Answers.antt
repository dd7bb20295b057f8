use Rattle.std.proofs.Common.{arith}
use Rattle.gt_script.proofs.SplitLemmas.{left-more}
use Rattle.gt_script.proofs.words.next_word.Goals as goal

pub returns-else-at-text-clause-ok : goal.returns-else-at-text-clause-ok
returns-else-at-text-clause-ok c = rw (left-more c.args.text.now c.args.at (omega arith)) c.word_from.ensures.ok

pub returns-else-at-text-clause-err : goal.returns-else-at-text-clause-err
returns-else-at-text-clause-err c = rw (left-more c.args.text.now c.args.at (omega arith)) c.word_from.ensures.err
