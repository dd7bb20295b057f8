use Rattle.gt_disk.proofs.Leaving.{replayed_step}
use Rattle.gt_disk.proofs.image.replay_one.Goals as goal

pub returns-in-Ok : goal.returns-in-Ok
returns-in-Ok c =
    replayed_step c.args.start.now c.args.cells.now c.take_cell.new.cells c.insert.new.self c.args.call.now c.file-file.result c.in_ok-before.before c.in_ok-after.after c.file-file.ensures c.in_ok-before.ensures.cell
    c.take_cell.ensures.others c.in_ok-after.ensures c.in-Ok.ensures.updates.0
