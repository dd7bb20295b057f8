use Rattle.gt_reftable.proofs.TrackLaws.{place_ok}
use Rattle.gt_reftable.proofs.repo.RepoRefs.prepare_update.Goals as goal

pub returns-clause-ok : goal.returns-clause-ok
returns-clause-ok c = place_ok c.prepare-2.result (record { lives = c.self.inside.lives; refs = c.prepare.new.self; current = c.prepare-2.new.self }) c.args.update.now.name c.args.update.now.new c.in_default.ensures.ok c.prepare-2.ensures.ok
