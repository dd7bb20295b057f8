use Rattle.gt_reftable.proofs.RefsLaws.{newest_refs}
use Rattle.gt_reftable.proofs.ReadLaws.{listed_found}
use Rattle.gt_reftable.proofs.repo.RepoRefs.list_newest.Goals as goal

pub returns : goal.returns
returns c =
    let up = rw (← c.self.view_is) at c.requires.values in
    rw (← c.self.view_is) (listed_found c.list.result _ _ c.args.prefix.now (newest_refs c.args.position _ up) c.list.ensures)
