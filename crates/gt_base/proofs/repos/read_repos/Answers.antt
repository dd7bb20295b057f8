use Rattle.std.proofs.Common.{Ok, Err, arith, ◌∙◌}
use Rattle.std.proofs.lemmas.Result.{err_from_is_err_and}
use Rattle.gt_base.specs.Recovery.{repo_in}
use Rattle.gt_base.proofs.Headings.{headings_next}
use Rattle.gt_base.proofs.Lists.{list_next, list_blames, reads_before, quiet_join}
use Rattle.gt_base.proofs.repos.read_repos.Goals as goal

pub returns-in_err-repo-clause-answer : goal.returns-in_err-repo-clause-answer
returns-in_err-repo-clause-answer g c told =
    let p = err_from_is_err_and c.from_residual.result c.from_residual.ensures.1 in
    let h = reads_before (repo_in c.files-item.result) (g.D.Disk.view c.args.disk.now) (g.D.Disk.view c.repos.disk) (Err c.in_err-repo.field-0.0) (c.repos.invariant.quiet told) (c.in_err-repo.ensures.answer told) in
    rw (p.1, p.2) (list_blames repo_in (g.D.Disk.view c.args.disk.now).reads _ c.repos.repos c.args.all.now c.repos.files-index c.files-item.result c.repos-test.true c.files-item.is (c.repos.invariant.rest told) c.in_err-repo.field-0.0 h)

pub repos-preserved : goal.repos-preserved
repos-preserved g c = record {
  later = omega (arith, c.repos.invariant.later, c.in_ok-repo.ensures.later);
  faults = c.in_ok-repo.ensures.cause.others (λ is. absurd (cc (is))) ∙ c.repos.invariant.faults;
  quiet = λ told. quiet_join _ _ _ (c.repos.invariant.quiet told) (c.in_ok-repo.ensures.quiet told);
  rest = λ told.
      let h = reads_before (repo_in c.files-item.result) (g.D.Disk.view c.args.disk.now) (g.D.Disk.view c.repos.disk) (Ok c.in_ok-repo.repo) (c.repos.invariant.quiet told) (c.in_ok-repo.ensures.answer told) in
      list_next repo_in (g.D.Disk.view c.args.disk.now).reads _ c.repos.repos c.args.all.now c.repos.files-index c.files-item.result c.repos-test.true c.files-item.is (c.repos.invariant.rest told) c.in_ok-repo.repo c.push.new.self h c.in_default.ensures.ok;
  headings = headings_next c.repos.repos c.push.new.self c.args.all.now c.repos.files-index c.files-item.result c.in_ok-repo.repo c.repos-test.true c.files-item.is c.repos.invariant.headings c.in_ok-repo.ensures.heading c.in_default.ensures.ok;
}
