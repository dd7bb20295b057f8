use Rattle.std.proofs.Common.{cond, sym, ap, ◌∙◌}
use Rattle.std.specs.FinMap as map
use Rattle.gt_model.specs.Machine.{references}
use Rattle.gt_slots.specs.Present.{refs_since}
use Rattle.gt_reftable.proofs.RefsLaws.{no_refs}
use Rattle.gt_reftable.proofs.ReadLaws.{no_references}
use Rattle.gt_reftable.proofs.current.Current.list.Goals as goal

pub returns-then-self : goal.returns-then-self
returns-then-self c = rw (← c.self.view_is) (
    c.new.ensures
    ∙ sym (no_references c.args.prefix.now)
    ∙ ap (λ m. references m c.args.prefix.now) (sym (no_refs c.args.position))
    ∙ ap (λ b. references (refs_since 0 c.args.position (cond b map.empty c.self.inside.refs)) c.args.prefix.now) (sym c.if-self.true))
