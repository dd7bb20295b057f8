use Rattle.gt_journal.proofs.Placed.{placed_is}
use Rattle.gt_journal.proofs.laws.placed_records_are_held.Goals as goal

pub returns-clause-held : goal.returns-clause-held
returns-clause-held c l states files position path name whole place all few stored packs sound shows is has = (placed_is l states files position path name whole place all few stored packs sound shows is has).is

pub returns-clause-good : goal.returns-clause-good
returns-clause-good c l states files position path name whole place all few stored packs sound shows is has = (placed_is l states files position path name whole place all few stored packs sound shows is has).of_name
