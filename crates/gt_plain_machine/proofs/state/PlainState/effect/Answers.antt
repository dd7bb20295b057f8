use Rattle.std.proofs.Common.{◌≡◌, true, subst}
use Rattle.gt_model.specs.declared.event.Event.{Event}
use Rattle.gt_model.specs.Machine.{is_asked, is_transaction, is_job, is_ready_job}
use Rattle.gt_plain_machine.specs.States.{as_state}
use Rattle.gt_plain_machine.proofs.Ends.{live}
use Rattle.gt_plain_machine.proofs.state.PlainState.effect.Goals as goal

pub commit-requires : goal.commit-requires
commit-requires c = live is_transaction c.args.self.now.pins c.in-Commit.pin (subst (λ (e : Event). is_asked (as_state c.args.self.now) e ≡ true) c.in-Commit.is c.requires)

pub house_step-requires : goal.house_step-requires
house_step-requires c = live is_job c.args.self.now.pins c.in-HouseStep.pin (subst (λ (e : Event). is_asked (as_state c.args.self.now) e ≡ true) c.in-HouseStep.is c.requires)

pub house_commit-requires : goal.house_commit-requires
house_commit-requires c = live is_ready_job c.args.self.now.pins c.in-HouseCommit.pin (subst (λ (e : Event). is_asked (as_state c.args.self.now) e ≡ true) c.in-HouseCommit.is c.requires)
