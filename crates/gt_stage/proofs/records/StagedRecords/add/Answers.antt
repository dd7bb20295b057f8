use Rattle.std.proofs.Common.{length, ap}
use Rattle.gt_stage.proofs.Tables.{put_done, counted_more}
use Rattle.gt_stage.proofs.records.StagedRecords.add.Goals as goal

pub invariant_of-self : goal.invariant_of-self
invariant_of-self c =
    counted_more c.args.self.now c.self.inside.table.entries c.insert.new.self.entries c.args.name c.args.whole c.self.inside.size _ c.self.view_is c.requires.absent c.requires.named c.in-Ok.ensures.entries c.in-Ok.ensures.unique (ap length c.bytes.ensures.value) c.self.invariant

pub returns-in-Ok-clause-ok : goal.returns-in-Ok-clause-ok
returns-in-Ok-clause-ok c =
    put_done c.args.self.now c.self.inside.table.entries c.insert.new.self.entries c.args.name c.args.whole c.self.view_is c.requires.absent c.requires.named c.in-Ok.ensures.entries
