use Rattle.gt_pass.proofs.Moves.{begins}
use Rattle.gt_pass.proofs.passes.Passes.new.Goals as goal

pub of_words-requires : goal.of_words-requires
of_words-requires c = begins
