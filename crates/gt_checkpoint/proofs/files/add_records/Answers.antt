use Rattle.std.proofs.Common.{◌∙◌, ◌++◌, ℕ, take, subst, arith, map as map_list}
use Rattle.gt_applied.specs.Applied.{to_packed}
use Rattle.gt_disk.specs.Kinds.{pack_file}
use Rattle.gt_disk.specs.Moments.{Runs, AnyState}
use Rattle.gt_disk.proofs.Steps.{runs_join}
use Rattle.gt_checkpoint.proofs.Records.{room_left, rest_packed, same_file, one_more}
use Rattle.gt_checkpoint.proofs.files.add_records.Goals as goal

pub records-preserved : goal.records-preserved
records-preserved g c =
    let all = c.args.records.now in
    let i = c.records.record-index in
    let r = c.record-item.result in
    let old = c.records.builder in
    let new = c.add.new.self in
    let before = g.D.Disk.view c.records.disk in
    let after = g.D.Disk.view c.add.new.disk in
    record {
      room = room_left all i r c.records-test.true c.record-item.is old new c.bytes.result.now c.bytes.ensures.value c.in_ok-add.ensures.ok c.records.invariant.room;
      packed = rest_packed all i r c.records-test.true c.record-item.is old new c.bytes.result.now c.bytes.ensures.value c.in_ok-add.ensures.ok c.records.invariant.packed;
      file = same_file all i r c.records-test.true c.record-item.is old new c.bytes.result.now c.bytes.ensures.value c.in_ok-add.ensures.ok ∙ c.records.invariant.file;
      written = λ told ps first.
          one_more all i r c.records-test.true c.record-item.is old new c.bytes.result.now c.bytes.ensures.value c.in_ok-add.ensures.ok ps after
          (c.in_ok-add.ensures.written told (ps ++ map_list to_packed (take c.records.record-index c.args.records.now)) (c.records.invariant.written told ps first));
      run = λ told.
          runs_join (pack_file c.args.builder.now.file) AnyState (g.D.Disk.view c.args.disk.now) before after (c.records.invariant.run told)
          (subst (λ (n : ℕ). Runs (pack_file n) AnyState before after) c.records.invariant.file (c.add.ensures.run told));
      later = omega (arith, c.records.invariant.later, c.add.ensures.later);
      faults = c.in_ok-add.ensures.cause.ok ∙ c.records.invariant.faults;
      counted = omega (arith, c.records.invariant.counted, c.add.ensures.counted);
    }
