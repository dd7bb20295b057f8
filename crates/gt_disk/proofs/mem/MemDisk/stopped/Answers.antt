use Rattle.std.proofs.Common.{take}
use Rattle.gt_disk.proofs.Chosen.{image_chosen}
use Rattle.gt_disk.proofs.mem.MemDisk.stopped.Goals as goal

pub returns-clause-image : goal.returns-clause-image
returns-clause-image c =
    image_chosen c.args.choice c.args.self.now.records.start c.in_ok-stopped.field-0.start (take c.args.tick c.args.self.now.records.calls.items) c.in_ok-stopped.field-0.calls.items c.in_ok-stopped.ensures.chosen
    c.in_ok-stopped.ensures.calls
