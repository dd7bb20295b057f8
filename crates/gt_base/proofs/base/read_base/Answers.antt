use Rattle.std.proofs.lemmas.Result.{err_from_is_err_and}
use Rattle.gt_base.proofs.OneRepo.{no_repos, all_repos}
use Rattle.gt_base.proofs.base.read_base.Goals as goal

pub returns-in_err-repos-clause-answer : goal.returns-in_err-repos-clause-answer
returns-in_err-repos-clause-answer g c told =
    let p = err_from_is_err_and c.from_residual-in_err-repos.result c.from_residual-in_err-repos.ensures.1 in
    let h = rw c.as_slice.ensures at (c.in_err-repos.ensures.answer told) in
    rw (p.1, p.2) (no_repos c.args.epoch c.args.gate (g.D.Disk.view c.args.disk.now) (g.D.Disk.view c.read_manifest.new.disk) c.in_ok-manifest.manifest (c.in_ok-manifest.ensures.answer told) (c.read_manifest.ensures.quiet told) c.in_err-repos.field-0.0 h)

pub returns-clause-answer : goal.returns-clause-answer
returns-clause-answer g c told =
    let h = rw c.as_slice.ensures at (c.in_ok-repos.ensures.answer told) in
    all_repos c.args.epoch c.args.gate (g.D.Disk.view c.args.disk.now) (g.D.Disk.view c.read_manifest.new.disk) c.in_ok-manifest.manifest (c.in_ok-manifest.ensures.answer told) (c.read_manifest.ensures.quiet told) c.in_ok-repos.repos h
