use Rattle.gt_script.proofs.AnswerBackLemmas.{different}
use Rattle.gt_script.proofs.laws.answers_print_differently.Goals as goal

pub returns : goal.returns
returns c = different
