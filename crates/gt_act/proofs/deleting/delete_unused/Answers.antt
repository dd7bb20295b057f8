use Rattle.std.proofs.Common.{Ok, Err}
use Rattle.gt_act.specs.PartitionState.{state_of}
use Rattle.gt_act.proofs.Stepping.{deletion_acts}
use Rattle.gt_act.proofs.deleting.delete_unused.Goals as goal

pub returns-in-Ok-clause-acts : goal.returns-in-Ok-clause-acts
returns-in-Ok-clause-acts g c = deletion_acts c.args.limits.now (state_of c.args.state.now) (state_of c.add_change.new.state) c.args.path.now (Ok c.in-Ok.position) c.requires.there c.requires.unused c.in-Ok.ensures.adds

pub returns-in-Err-clause-acts : goal.returns-in-Err-clause-acts
returns-in-Err-clause-acts g c = deletion_acts c.args.limits.now (state_of c.args.state.now) (state_of c.add_change.new.state) c.args.path.now (Err c.in-Err.ended) c.requires.there c.requires.unused c.in-Err.ensures.adds
