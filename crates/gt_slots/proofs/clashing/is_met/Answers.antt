use Rattle.gt_slots.proofs.ClashLaws.{met_gone}
use Rattle.gt_slots.proofs.clashing.is_met.Goals as goal

pub returns-in-Ok : goal.returns-in-Ok
returns-in-Ok c = λ _. met_gone c.args.name.now c.args.names.now c.in-Ok.field-0 c.in-Ok.ensures.bound c.in-Ok.ensures.ok
