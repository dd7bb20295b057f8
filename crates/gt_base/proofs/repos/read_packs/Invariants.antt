use Rattle.std.proofs.Common.{◌≡◌, ◌≤◌, drop, IsTrue}
use Rattle.gt_disk.specs.Files.{Quiet}
use Rattle.gt_reading.specs.Reading.{run, each_in, one_more, list_in}
use Rattle.gt_base.specs.Recovery.{pack_in}
use Rattle.gt_base.proofs.repos.read_packs.Given as goal

abbrev pub invariant-packs : goal.invariant-packs
invariant-packs g l = record {
  later : (g.D.Disk.view l.fn.disk).clock ≤ (g.D.Disk.view l.disk).clock;
  faults : g.D.Disk.fault_count l.disk ≡ g.D.Disk.fault_count l.fn.disk;
  quiet : IsTrue g.D.Disk.tells → Quiet (g.D.Disk.view l.fn.disk) (g.D.Disk.view l.disk);
  rest : IsTrue g.D.Disk.tells
      → run (g.D.Disk.view l.fn.disk).reads (list_in pack_in l.numbers) ≡ run (g.D.Disk.view l.fn.disk).reads (each_in (one_more pack_in) l.packs (drop l.number-index l.numbers));
}
