use Rattle.std.proofs.Common.{◌≡◌, ◌≤◌, ◌+◌, ◌++◌, List, length, drop, take, IsTrue, map as map_list}
use Rattle.gt_applied.specs.Applied.{to_packed}
use Rattle.gt_disk.specs.Kinds.{pack_file}
use Rattle.gt_disk.specs.Moments.{Runs, AnyState}
use Rattle.gt_pack.specs.Building.{IsWritten}
use Rattle.gt_pack.specs.Reading.{last_name}
use Rattle.gt_pack.specs.Spelling.{Packed, ArePacked}
use Rattle.gt_checkpoint.proofs.files.add_records.Given as goal

abbrev pub invariant-records : goal.invariant-records
invariant-records g l = record {
  room : length l.builder.items + length (drop l.record-index l.records) ≡ l.builder.count;
  packed : ArePacked (last_name l.builder.items) (map_list to_packed (drop l.record-index l.records));
  file : l.builder.file ≡ l.fn.builder.file;
  written : IsTrue g.D.Disk.tells → (ps : List Packed) → IsWritten l.fn.builder ps (g.D.Disk.view l.fn.disk) → IsWritten l.builder (ps ++ map_list to_packed (take l.record-index l.records)) (g.D.Disk.view l.disk);
  run : IsTrue g.D.Disk.tells → Runs (pack_file l.fn.builder.file) AnyState (g.D.Disk.view l.fn.disk) (g.D.Disk.view l.disk);
  later : (g.D.Disk.view l.fn.disk).clock ≤ (g.D.Disk.view l.disk).clock;
  faults : g.D.Disk.fault_count l.disk ≡ g.D.Disk.fault_count l.fn.disk;
  counted : g.D.Disk.call_count l.disk ≤ g.D.Disk.call_count l.fn.disk + l.record-index;
}
