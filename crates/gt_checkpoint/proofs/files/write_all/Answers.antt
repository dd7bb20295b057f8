use Rattle.std.proofs.Common.{◌∙◌, ◌+◌, arith}
use Rattle.gt_checkpoint.proofs.Rows.{own_number, at_place}
use Rattle.gt_checkpoint.proofs.Kept.{spelled_more, counted_more, kept_more, only_more}
use Rattle.gt_checkpoint.proofs.files.write_all.Goals as goal

pub write_file-requires-clause-kind : goal.write_file-requires-clause-kind
write_file-requires-clause-kind g c =
    own_number (c.requires.row.0 + c.files.new-index) c.new-item.result (at_place c.requires.row.0 c.args.files.now c.files.new-index c.new-item.result c.files-test.true c.new-item.is c.requires.row.1)

pub returns-in_err-write_file-clause-any_moment : goal.returns-in_err-write_file-clause-any_moment
returns-in_err-write_file-clause-any_moment g c told =
    only_more c.args.files.now c.files.new-index c.new-item.result c.files-test.true c.new-item.is (g.D.Disk.view c.args.disk.now) (g.D.Disk.view c.files.disk) (g.D.Disk.view c.write_file.new.disk) (c.files.invariant.moments told) (c.write_file.ensures.run told)

pub files-preserved : goal.files-preserved
files-preserved g c =
    let all = c.args.files.now in
    let i = c.files.new-index in
    let f = c.new-item.result in
    let lt = c.files-test.true in
    record {
      spelled = spelled_more all i f lt c.new-item.is c.files.invariant.spelled c.in_ok-write_file.ensures.spelled;
      kept = λ told. kept_more all i f lt c.new-item.is c.requires.row.0 c.requires.row.1 (g.D.Disk.view c.files.disk) (g.D.Disk.view c.write_file.new.disk) (c.write_file.ensures.run told) (c.in_ok-write_file.ensures.kept told) (c.files.invariant.kept told);
      moments = λ told. only_more all i f lt c.new-item.is (g.D.Disk.view c.args.disk.now) (g.D.Disk.view c.files.disk) (g.D.Disk.view c.write_file.new.disk) (c.files.invariant.moments told) (c.write_file.ensures.run told);
      later = omega (arith, c.files.invariant.later, c.write_file.ensures.later);
      faults = c.in_ok-write_file.ensures.cause.ok ∙ c.files.invariant.faults;
      counted = omega (arith, c.files.invariant.counted, c.write_file.ensures.counted, counted_more c.args.files.now c.files.new-index c.new-item.result c.files-test.true c.new-item.is);
    }
