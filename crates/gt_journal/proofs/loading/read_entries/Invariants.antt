use Rattle.std.proofs.Common.{◌≡◌, ◌≤◌, ◌+◌, ◌-◌, IsTrue}
use Rattle.gt_base.specs.Held.{content_of}
use Rattle.gt_disk.specs.Files.{Quiet}
use Rattle.gt_model.specs.Batches.{next_past}
use Rattle.gt_table.specs.Table.{IsUnmoved, front, content}
use Rattle.gt_journal.specs.Carried.{IsLogged}
use Rattle.gt_journal.proofs.ReadLog.{read_log, prepend}
use Rattle.gt_journal.proofs.loading.read_entries.Given as goal

abbrev pub invariant-loop-n : goal.invariant-loop-n
invariant-loop-n g l = record {
  begins : l.table.past.begin ≡ l.begin;
  holds : l.table.past.repos ≡ l.repos;
  counted : l.n ≡ front l.table.past;
  logged : IsLogged l.table.past;
  unmoved : IsUnmoved l.table;
  numbers : l.next ≡ next_past l.first_free l.table.past.log;
  later : (g.D.Disk.view l.fn.disk).clock ≤ (g.D.Disk.view l.disk).clock;
  faults : g.D.Disk.fault_count l.disk ≡ g.D.Disk.fault_count l.fn.disk;
  quiet : IsTrue g.D.Disk.tells → Quiet (g.D.Disk.view l.fn.disk) (g.D.Disk.view l.disk);
  loaded : IsTrue g.D.Disk.tells
      → read_log (g.D.Disk.view l.fn.disk).reads (content_of l.repos) (l.begin + 1) (l.log.len - l.begin) ≡ prepend l.table.past.log (read_log (g.D.Disk.view l.fn.disk).reads (content l.table.past) (l.n + 1) (l.log.len - l.n));
}
