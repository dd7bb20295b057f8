use Rattle.std.proofs.Common.{◌∙◌, arith}
use Rattle.gt_disk.specs.declared.file_id.FileId.{FileId}
use Rattle.gt_trim.proofs.Removals.{gone_more, going_more, others_more, reads_more}
use Rattle.gt_trim.proofs.removing.remove_all.Goals as goal

pub returns-in_err-remove_synced-clause-any_moment : goal.returns-in_err-remove_synced-clause-any_moment
returns-in_err-remove_synced-clause-any_moment g c told =
    others_more c.args.files.now c.files.file-index (record { kind = 0; number = 0 }) c.files-test.true (g.D.Disk.view c.args.disk.now) (g.D.Disk.view c.files.disk) (g.D.Disk.view c.remove_synced.new.disk) (c.remove_synced.ensures.run told) (c.files.invariant.others told)

pub files-preserved : goal.files-preserved
files-preserved g c =
    let all = c.args.files.now in
    let i = c.files.file-index in
    let d : FileId = record { kind = 0; number = 0 } in
    let lt = c.files-test.true in
    let u = g.D.Disk.view c.args.disk.now in
    let v = g.D.Disk.view c.files.disk in
    let w = g.D.Disk.view c.remove_synced.new.disk in
    record {
      gone = λ told. gone_more all i d lt v w (c.remove_synced.ensures.run told) (c.in_ok-remove_synced.ensures.gone told) (c.files.invariant.gone told);
      reads = λ told. reads_more all i d lt u v w (c.remove_synced.ensures.run told) (c.files.invariant.reads told);
      others = λ told. others_more all i d lt u v w (c.remove_synced.ensures.run told) (c.files.invariant.others told);
      going = λ told. going_more all i d lt u v w (c.remove_synced.ensures.run told) (c.files.invariant.going told);
      later = omega (arith, c.files.invariant.later, c.remove_synced.ensures.later);
      faults = c.in_ok-remove_synced.ensures.cause.ok ∙ c.files.invariant.faults;
      counted = omega (arith, c.files.invariant.counted, c.remove_synced.ensures.counted);
    }
