use Rattle.gt_reftable.proofs.CurrentLaws.{trim_of}
use Rattle.gt_reftable.proofs.current.Current.trim_one.Goals as goal

pub returns : goal.returns
returns c = rw (← c.self.view_is) (trim_of c.args.position c.args.name.now c.self.inside.is_over c.self.inside.refs c.trim_slot.new.refs c.trim_slot.ensures)
