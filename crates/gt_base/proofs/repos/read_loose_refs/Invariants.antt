use Rattle.std.proofs.Common.{◌≡◌, ◌≤◌, drop, IsTrue}
use Rattle.gt_disk.specs.Files.{Quiet}
use Rattle.gt_reading.specs.Reading.{run, each_in, one_more, list_in}
use Rattle.gt_base.specs.Recovery.{loose_in}
use Rattle.gt_base.proofs.repos.read_loose_refs.Given as goal

abbrev pub invariant-refs : goal.invariant-refs
invariant-refs g l = record {
  later : (g.D.Disk.view l.fn.disk).clock ≤ (g.D.Disk.view l.disk).clock;
  faults : g.D.Disk.fault_count l.disk ≡ g.D.Disk.fault_count l.fn.disk;
  quiet : IsTrue g.D.Disk.tells → Quiet (g.D.Disk.view l.fn.disk) (g.D.Disk.view l.disk);
  rest : IsTrue g.D.Disk.tells
      → run (g.D.Disk.view l.fn.disk).reads (list_in loose_in l.loose) ≡ run (g.D.Disk.view l.fn.disk).reads (each_in (one_more loose_in) l.refs (drop l.file-index l.loose));
}
