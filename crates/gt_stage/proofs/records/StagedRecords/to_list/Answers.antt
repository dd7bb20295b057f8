use Rattle.gt_stage.proofs.Tables.{copied_more}
use Rattle.gt_stage.proofs.records.StagedRecords.to_list.Goals as goal

pub loop-i-preserved : goal.loop-i-preserved
loop-i-preserved c =
    copied_more c.args.self.now c.loop-i.list c.push.new.self c.loop-i.i c.in_ok-copy_at.field-0 c.loop-i.invariant c.in_ok-copy_at.ensures c.in_ok-push.ensures.ok
