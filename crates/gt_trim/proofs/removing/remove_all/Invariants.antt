use Rattle.std.proofs.Common.{◌≡◌, ◌≤◌, ◌+◌, ◌*◌, take, IsTrue}
use Rattle.gt_disk.specs.Files.{now}
use Rattle.gt_disk.specs.Moments.{Since}
use Rattle.gt_trim.specs.Removing.{AreGone, LeavesOthers, OnlyRemoves, ReadsOthers}
use Rattle.gt_trim.proofs.removing.remove_all.Given as goal

abbrev pub invariant-files : goal.invariant-files
invariant-files g l = record {
  gone : IsTrue g.D.Disk.tells → AreGone (take l.file-index l.files) (now (g.D.Disk.view l.disk));
  reads : IsTrue g.D.Disk.tells → ReadsOthers l.files (g.D.Disk.view l.fn.disk).reads (g.D.Disk.view l.disk).reads;
  others : IsTrue g.D.Disk.tells → Since (LeavesOthers l.files (now (g.D.Disk.view l.fn.disk))) (g.D.Disk.view l.fn.disk) (g.D.Disk.view l.disk);
  going : IsTrue g.D.Disk.tells → Since (OnlyRemoves l.files (now (g.D.Disk.view l.fn.disk))) (g.D.Disk.view l.fn.disk) (g.D.Disk.view l.disk);
  later : (g.D.Disk.view l.fn.disk).clock ≤ (g.D.Disk.view l.disk).clock;
  faults : g.D.Disk.fault_count l.disk ≡ g.D.Disk.fault_count l.fn.disk;
  counted : g.D.Disk.call_count l.disk ≤ g.D.Disk.call_count l.fn.disk + 2 * l.file-index;
}
