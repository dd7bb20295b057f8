use Rattle.std.proofs.Common.{◌∙◌}
use Rattle.gt_reftable.specs.Tracks.{refs_of}
use Rattle.gt_reftable.proofs.AllLaws.{repo_added}
use Rattle.gt_reftable.proofs.listing.add_repo.Goals as goal

pub returns-in-Ok : goal.returns-in-Ok
returns-in-Ok c = repo_added c.add_refs.result c.args.out.now c.add_refs.new.out c.args.path.now (refs_of c.args.repo.now c.args.position) c.as_slice.result.now (c.as_slice.ensures ∙ c.in-Ok.ensures) c.add_refs.ensures
