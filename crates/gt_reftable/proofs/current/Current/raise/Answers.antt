use Rattle.std.proofs.Common.{Bool, cond, sym, subst}
use Rattle.std.specs.FinMap as map
use Rattle.gt_slots.specs.Raised.{Raises}
use Rattle.gt_slots.specs.Slots.{Slots}
use Rattle.gt_reftable.proofs.RaisingLaws.{none_raised}
use Rattle.gt_reftable.proofs.current.Current.raise.Goals as goal

pub returns-then-self : goal.returns-then-self
returns-then-self c =
    let New : Slots → Type 0 = λ m. Raises 0 c.args.to (cond c.self.inside.is_over map.empty c.self.inside.refs) m in
    let Over : Bool → Type 0 = λ b. Raises 0 c.args.to (cond b map.empty c.self.inside.refs) map.empty in
    rw (← c.self.view_is) (subst New (sym c.clear-then-self.ensures) (subst Over (sym c.if-self.true) (none_raised c.args.to)))
