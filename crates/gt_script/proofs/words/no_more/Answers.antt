use Rattle.std.proofs.Common.{arith}
use Rattle.gt_script.proofs.SplitLemmas.{no_word-more}
use Rattle.gt_script.proofs.words.no_more.Goals as goal

pub returns-else-at-text-clause-err : goal.returns-else-at-text-clause-err
returns-else-at-text-clause-err c = no_word-more c.args.text.now c.args.at (omega arith)
