use Rattle.std.proofs.lemmas.Result.{err_from_is_err_and}
use Rattle.gt_base.proofs.OneRepo.{no_packs, no_packed, no_loose, all_read}
use Rattle.gt_base.proofs.repos.read_repo.Goals as goal

pub returns-in_err-packs-clause-answer : goal.returns-in_err-packs-clause-answer
returns-in_err-packs-clause-answer g c told =
    let p = err_from_is_err_and c.from_residual.result c.from_residual.ensures.1 in
    let h = rw c.as_slice.ensures at (c.in_err-packs.ensures.answer told) in
    rw (p.1, p.2) (no_packs c.args.files.now (g.D.Disk.view c.args.disk.now) c.in_err-packs.field-0.0 h)

pub returns-in_err-packed-clause-answer : goal.returns-in_err-packed-clause-answer
returns-in_err-packed-clause-answer g c told =
    let p = err_from_is_err_and c.from_residual-in_err-packed.result c.from_residual-in_err-packed.ensures.1 in
    let h = rw c.as_slice.ensures at (c.in_ok-packs.ensures.answer told) in
    rw (p.1, p.2) (no_packed c.args.files.now (g.D.Disk.view c.args.disk.now) (g.D.Disk.view c.read_packs.new.disk) c.in_ok-packs.packs h (c.read_packs.ensures.quiet told) c.in_err-packed.field-0.0 (c.in_err-packed.ensures.answer told))

pub returns-in_err-loose-clause-answer : goal.returns-in_err-loose-clause-answer
returns-in_err-loose-clause-answer g c told =
    let p = err_from_is_err_and c.from_residual-in_err-loose.result c.from_residual-in_err-loose.ensures.1 in
    let h = rw c.as_slice.ensures at (c.in_ok-packs.ensures.answer told) in
    let i = rw c.as_slice-2.ensures at (c.in_err-loose.ensures.answer told) in
    rw (p.1, p.2) (no_loose c.args.files.now (g.D.Disk.view c.args.disk.now) (g.D.Disk.view c.read_packs.new.disk) c.in_ok-packs.packs h (c.read_packs.ensures.quiet told) (g.D.Disk.view c.read_packed_refs.new.disk) c.in_ok-packed.packed (c.in_ok-packed.ensures.answer told) (c.read_packed_refs.ensures.quiet told) c.in_err-loose.field-0.0 i)

pub returns-clause-answer : goal.returns-clause-answer
returns-clause-answer g c told =
    let h = rw c.as_slice.ensures at (c.in_ok-packs.ensures.answer told) in
    let i = rw c.as_slice-2.ensures at (c.in_ok-loose.ensures.answer told) in
    all_read c.args.files.now (g.D.Disk.view c.args.disk.now) (g.D.Disk.view c.read_packs.new.disk) c.in_ok-packs.packs h (c.read_packs.ensures.quiet told) (g.D.Disk.view c.read_packed_refs.new.disk) c.in_ok-packed.packed (c.in_ok-packed.ensures.answer told) (c.read_packed_refs.ensures.quiet told) c.in_ok-loose.loose c.with_files.result i c.with_files.ensures.repo c.with_files.ensures.memory
