use Rattle.gt_entry.proofs.WholeLemmas.{no_front}
use Rattle.gt_entry.proofs.laws.law_no_entry_begins_another.Goals as goal

pub returns : goal.returns
returns c = no_front
