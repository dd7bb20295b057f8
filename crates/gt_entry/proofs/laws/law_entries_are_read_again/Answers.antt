use Rattle.std.proofs.Common.{refl}
use Rattle.gt_entry.specs.Spelling.{spelling}
use Rattle.gt_entry.proofs.WholeLemmas.{entry_again}
use Rattle.gt_entry.proofs.laws.law_entries_are_read_again.Goals as goal

pub returns : goal.returns
returns c = λ e is may. entry_again (spelling e) e is may refl
