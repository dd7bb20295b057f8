use Rattle.std.proofs.Common.{◌≡◌}
use Rattle.std.specs.BTreeMap.{btree_map_len}
use Rattle.gt_disk.specs.declared.file_id.FileId.{FileId}
use Rattle.gt_disk.specs.Stopped.{cell_in, chosen}
use Rattle.gt_disk.proofs.image.leave_all.Given as goal

abbrev pub invariant-loop-file : goal.invariant-loop-file
invariant-loop-file l = (f : FileId) → chosen l.choice (cell_in l.files l.cells f) ≡ chosen l.choice (cell_in l.fn.files l.fn.cells f)

abbrev pub decreases-loop-file : goal.decreases-loop-file
decreases-loop-file l = btree_map_len l.cells
