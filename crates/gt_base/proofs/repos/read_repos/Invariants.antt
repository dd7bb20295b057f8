use Rattle.std.proofs.Common.{◌≡◌, ◌≤◌, take, drop, IsTrue}
use Rattle.gt_disk.specs.Files.{Quiet}
use Rattle.gt_reading.specs.Reading.{run, each_in, one_more, list_in}
use Rattle.gt_base.specs.Loading.{headings, manifest_headings}
use Rattle.gt_base.specs.Recovery.{repo_in}
use Rattle.gt_base.proofs.repos.read_repos.Given as goal

abbrev pub invariant-repos : goal.invariant-repos
invariant-repos g l = record {
  later : (g.D.Disk.view l.fn.disk).clock ≤ (g.D.Disk.view l.disk).clock;
  faults : g.D.Disk.fault_count l.disk ≡ g.D.Disk.fault_count l.fn.disk;
  quiet : IsTrue g.D.Disk.tells → Quiet (g.D.Disk.view l.fn.disk) (g.D.Disk.view l.disk);
  rest : IsTrue g.D.Disk.tells
      → run (g.D.Disk.view l.fn.disk).reads (list_in repo_in l.all) ≡ run (g.D.Disk.view l.fn.disk).reads (each_in (one_more repo_in) l.repos (drop l.files-index l.all));
  headings : headings l.repos ≡ manifest_headings (take l.files-index l.all);
}
