use Rattle.std.proofs.Common.{◌≡◌, ◌≤◌, ◌+◌, drop, take, IsTrue}
use Rattle.gt_applied.specs.Applied.{HaveSpellings}
use Rattle.gt_checkpoint.specs.Advancing.{AreKept, calls_of}
use Rattle.gt_checkpoint.specs.Writing.{OnlyThese}
use Rattle.gt_disk.specs.Files.{now}
use Rattle.gt_disk.specs.Moments.{Since}
use Rattle.gt_checkpoint.proofs.files.write_all.Given as goal

abbrev pub invariant-files : goal.invariant-files
invariant-files g l = record {
  spelled : HaveSpellings (take l.new-index l.files);
  kept : IsTrue g.D.Disk.tells → AreKept (take l.new-index l.files) (now (g.D.Disk.view l.disk));
  moments : IsTrue g.D.Disk.tells → Since (OnlyThese l.files (now (g.D.Disk.view l.fn.disk))) (g.D.Disk.view l.fn.disk) (g.D.Disk.view l.disk);
  later : (g.D.Disk.view l.fn.disk).clock ≤ (g.D.Disk.view l.disk).clock;
  faults : g.D.Disk.fault_count l.disk ≡ g.D.Disk.fault_count l.fn.disk;
  counted : g.D.Disk.call_count l.disk + calls_of (drop l.new-index l.files) ≤ g.D.Disk.call_count l.fn.disk + calls_of l.files;
}
