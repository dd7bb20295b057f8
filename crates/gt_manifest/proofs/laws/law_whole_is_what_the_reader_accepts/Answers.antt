use Rattle.gt_manifest.proofs.WholeLemmas.{whole_iff}
use Rattle.gt_manifest.proofs.laws.law_whole_is_what_the_reader_accepts.Goals as goal

pub returns : goal.returns
returns c = whole_iff
