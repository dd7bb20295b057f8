use Rattle.std.proofs.Common.{sym, ◌∙◌, subst}
use Rattle.std.proofs.lemmas.Result.{err_from_is_err_and}
use Rattle.gt_apply.specs.Fitting.{IsShort}
use Rattle.gt_apply.specs.Plan.{planned, planned_files}
use Rattle.gt_disk.specs.Files.{now}
use Rattle.gt_manifest.specs.Whole.{Fits}
use Rattle.gt_manifest.specs.declared.version.Version.TheVariants.{Second}
use Rattle.gt_checkpoint.specs.Writing.{ArePackable, StandInRow}
use Rattle.gt_checkpoint.proofs.Planned.{planned_in_row, planned_packable, same_plan}
use Rattle.gt_checkpoint.proofs.Advances.{while_writing, after_failing, while_switching, after_switching}
use Rattle.gt_checkpoint.proofs.advancing.advance.Goals as goal

pub write_files-requires-clause-row : goal.write_files-requires-clause-row
write_files-requires-clause-row g c =
    (c.args.next, subst (StandInRow c.args.next) (sym (c.as_slice.ensures ∙ c.in-Ok.ensures.files)) (planned_in_row c.args.next c.args.entries.now))

pub write_files-requires-clause-packable : goal.write_files-requires-clause-packable
write_files-requires-clause-packable g c = subst ArePackable (sym (c.as_slice.ensures ∙ c.in-Ok.ensures.files)) (planned_packable c.args.next c.args.entries.now c.requires.next.1.typed)

-- ---- where a file wasn't written

pub returns-in_err-write_files-clause-any_moment : goal.returns-in_err-write_files-clause-any_moment
returns-in_err-write_files-clause-any_moment g c told counts =
    let from = c.args.base.now.manifest in
    let files = c.as_slice.ensures ∙ c.in-Ok.ensures.files in
    while_writing from.epoch c.args.next (planned from c.args.next c.args.entries.now) (planned_files c.args.next c.args.entries.now) (planned_in_row c.args.next c.args.entries.now) c.from_residual.result
    (g.D.Disk.view c.args.disk.now) (g.D.Disk.view c.write_files.new.disk) counts (rw files at (c.write_files.ensures.any_moment told))

pub returns-in_err-write_files-clause-after : goal.returns-in_err-write_files-clause-after
returns-in_err-write_files-clause-after g c told counts =
    let from = c.args.base.now.manifest in
    let files = c.as_slice.ensures ∙ c.in-Ok.ensures.files in
    let p = err_from_is_err_and c.from_residual.result c.from_residual.ensures.1 in
    rw (p.1, p.2)
    (after_failing from.epoch c.args.next (planned from c.args.next c.args.entries.now) (planned_files c.args.next c.args.entries.now) (planned_in_row c.args.next c.args.entries.now) c.in_err-write_files.field-0.0
    (g.D.Disk.view c.args.disk.now) (g.D.Disk.view c.write_files.new.disk) c.in_err-write_files.ensures.sure counts (rw files at (c.write_files.ensures.any_moment told)))

-- ---- its spelling

pub switch-requires-clause-fits : goal.switch-requires-clause-fits
switch-requires-clause-fits g c =
    let from = c.args.base.now.manifest in
    let to = same_plan c.manifest.result.now c.args.base.now.manifest c.args.next c.args.entries.now c.in-Ok.to c.in-Ok.ensures.manifest c.manifest.ensures in
    subst (Fits Second) (sym to) (c.plans_fit.ensures.fits from c.args.next c.args.entries.now c.requires.next.0 c.requires.next.1 (subst IsShort to (c.is_short.ensures.0 c.if-not-is_short.false)))

pub returns-clause-fits : goal.returns-clause-fits
returns-clause-fits g c untouched memory =
    let from = c.args.base.now.manifest in
    let to = same_plan c.manifest.result.now c.args.base.now.manifest c.args.next c.args.entries.now c.in-Ok.to c.in-Ok.ensures.manifest c.manifest.ensures in
    c.plans_fit.ensures.fits from c.args.next c.args.entries.now c.requires.next.0 c.requires.next.1 (subst IsShort to (c.is_short.ensures.0 c.if-not-is_short.false))

-- ---- where all were written

pub returns-clause-any_moment : goal.returns-clause-any_moment
returns-clause-any_moment g c told counts =
    let from = c.args.base.now.manifest in
    let to = same_plan c.manifest.result.now c.args.base.now.manifest c.args.next c.args.entries.now c.in-Ok.to c.in-Ok.ensures.manifest c.manifest.ensures in
    let files = c.as_slice.ensures ∙ c.in-Ok.ensures.files in
    while_switching from.epoch c.args.next (planned from c.args.next c.args.entries.now) (planned_files c.args.next c.args.entries.now) (planned_in_row c.args.next c.args.entries.now) (rw files at c.in_ok-write_files.ensures.spelled)
    (g.D.Disk.view c.args.disk.now) (g.D.Disk.view c.write_files.new.disk) counts (rw files at (c.write_files.ensures.any_moment told)) (rw files at (c.in_ok-write_files.ensures.kept told))
    c.switch.result (g.D.Disk.view c.switch.new.disk) c.in-Ok.to to (c.switch.ensures.any_moment told)

pub returns-clause-after : goal.returns-clause-after
returns-clause-after g c told counts =
    let from = c.args.base.now.manifest in
    let to = same_plan c.manifest.result.now c.args.base.now.manifest c.args.next c.args.entries.now c.in-Ok.to c.in-Ok.ensures.manifest c.manifest.ensures in
    let files = c.as_slice.ensures ∙ c.in-Ok.ensures.files in
    after_switching from.epoch c.args.next (planned from c.args.next c.args.entries.now) (planned_files c.args.next c.args.entries.now) (planned_in_row c.args.next c.args.entries.now) (rw files at c.in_ok-write_files.ensures.spelled)
    (g.D.Disk.view c.args.disk.now) (g.D.Disk.view c.write_files.new.disk) counts (rw files at (c.write_files.ensures.any_moment told)) (rw files at (c.in_ok-write_files.ensures.kept told))
    c.switch.result (now (g.D.Disk.view c.switch.new.disk)) c.in-Ok.to to (c.switch.ensures.after told)
