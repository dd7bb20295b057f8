use Rattle.gt_model.proofs.Damage.{never_damaged}
use Rattle.gt_model.proofs.machine_laws.nothing_is_damaged.Goals as goal

pub returns : goal.returns
returns c = never_damaged
