use Rattle.std.proofs.Common.{◌≡◌, List, Some, true, sym, ◌∙◌, refl, ap, subst}
use Rattle.gt_model.specs.Machine.{State, Pin, is_live}
use Rattle.gt_part.specs.Shown.{memory}
use Rattle.gt_pins.specs.Ends.{ends}
use Rattle.gt_act.proofs.Commits.{Leaves, commit_ends, pin_kept, pin_gone}
use Rattle.gt_part.proofs.partition.Partition.commit.Goals as goal

pub returns-then-holds-clause-ended : goal.returns-then-holds-clause-ended
returns-then-holds-clause-ended g c =
    let is : c.args.pass.now ≡ Some c.in-Some.pin = sym c.take.ensures.value ∙ c.in-Some.is in
    let old = c.args.self.now in
    let new = c.commit_by-answer.new.self in
    let staged = c.args.stage.now.staged in
    let called = c.commit_by-answer.ensures.called in
    let stepped = called.exact refl (memory old) refl in
    let ended = commit_ends old.limits c.in-Some.pin staged.refs staged.records (memory old) stepped.after c.commit_by-answer.result stepped.step in
    let leaves = subst (λ (pins : List Pin). Leaves (ends c.commit_by-answer.result) c.in-Some.pin old.live pins) (ap (λ (s : State). s.pins) (sym stepped.stands)) ended in
    rw is (pin_kept (ends c.commit_by-answer.result) c.in-Some.pin old.live new.live leaves (sym c.holds.ensures ∙ c.if-holds.true))

pub returns-else-holds-clause-ended : goal.returns-else-holds-clause-ended
returns-else-holds-clause-ended g c =
    let is : c.args.pass.now ≡ Some c.in-Some.pin = sym c.take.ensures.value ∙ c.in-Some.is in
    let old = c.args.self.now in
    let new = c.commit_by-answer.new.self in
    let staged = c.args.stage.now.staged in
    let called = c.commit_by-answer.ensures.called in
    let stepped = called.exact refl (memory old) refl in
    let ended = commit_ends old.limits c.in-Some.pin staged.refs staged.records (memory old) stepped.after c.commit_by-answer.result stepped.step in
    let leaves = subst (λ (pins : List Pin). Leaves (ends c.commit_by-answer.result) c.in-Some.pin old.live pins) (ap (λ (s : State). s.pins) (sym stepped.stands)) ended in
    let live : is_live old.live c.in-Some.pin ≡ true = rw is at c.requires.live in
    rw (is, c.take.ensures.after) (pin_gone (ends c.commit_by-answer.result) c.in-Some.pin old.live new.live leaves live (sym c.holds.ensures ∙ c.if-holds.false))
