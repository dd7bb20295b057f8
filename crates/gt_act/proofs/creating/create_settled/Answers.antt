use Rattle.std.proofs.Common.{Ok, Err, rules}
use Rattle.gt_act.specs.PartitionState.{state_of}
use Rattle.gt_act.proofs.Stepping.{creation_acts}
use Rattle.gt_act.proofs.creating.create_settled.Goals as goal

pub returns-in-Ok-clause-acts : goal.returns-in-Ok-clause-acts
returns-in-Ok-clause-acts g c = creation_acts c.args.limits.now (state_of c.args.state.now) (state_of c.add_change.new.state) c.args.path.now c.args.pool (Ok c.in-Ok.position) (search rules) c.in-Ok.ensures.adds

pub returns-in-Err-clause-acts : goal.returns-in-Err-clause-acts
returns-in-Err-clause-acts g c = creation_acts c.args.limits.now (state_of c.args.state.now) (state_of c.add_change.new.state) c.args.path.now c.args.pool (Err c.in-Err.ended) (search rules) c.in-Err.ensures.adds
