use Rattle.gt_entry.proofs.WholeLemmas.{entry_takes}
use Rattle.gt_entry.proofs.laws.law_entries_are_read_exactly.Goals as goal

pub returns : goal.returns
returns c = entry_takes
