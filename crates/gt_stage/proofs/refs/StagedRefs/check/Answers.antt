use Rattle.gt_stage.proofs.Tables.{check_done}
use Rattle.gt_stage.proofs.refs.StagedRefs.check.Goals as goal
use Rattle.gt_stage.proofs.refs.StagedRefs.check.Goals.{in-Ok, in-Err}

pub returns-clause-ok : goal.returns-clause-ok
returns-clause-ok c =
    elim c.match-insert.branch [
      | in-Ok w ↦ rw w.result-is (check_done c.args.self.now c.self.inside.table.entries c.insert.new.self.entries c.args.name c.args.old c.self.view_is c.requires w.in-Ok.ensures.entries)
      | in-Err w ↦ rw w.result-is tt
    ]
