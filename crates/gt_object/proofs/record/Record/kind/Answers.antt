use Rattle.gt_object.proofs.Parts.{kind_is}
use Rattle.gt_object.proofs.record.Record.kind.Goals as goal

pub returns : goal.returns
returns c = let h = kind_is c.self.inside.bytes.items c.self.inside.kind c.self.inside.begin c.self.invariant.head in rw (← c.self.view_is) h
