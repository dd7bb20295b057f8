use Rattle.gt_object.proofs.WholeLaws.{holds_none}
use Rattle.gt_object.proofs.record.Record.bytes.Goals as goal

pub returns-clause-sound : goal.returns-clause-sound
returns-clause-sound c = let h = holds_none c.self.inside.kind c.self.inside.begin c.self.inside.bytes.items c.self.invariant in rw (← c.self.view_is) h
