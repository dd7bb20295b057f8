use Rattle.std.proofs.Common.{◌∙◌}
use Rattle.gt_stage.proofs.Tables.{set_done}
use Rattle.gt_stage.proofs.refs.StagedRefs.set.Goals as goal
use Rattle.gt_stage.proofs.refs.StagedRefs.set.Goals.{in-Ok, in-Err}

pub returns-clause-ok : goal.returns-clause-ok
returns-clause-ok c =
    elim c.match-insert.branch [
      | in-Ok w ↦ rw w.result-is (set_done c.args.self.now c.self.inside.table.entries c.insert.new.self.entries c.args.name c.args.old c.args.new c.copied.result c.with_new-staged.result c.self.view_is (c.copied.ensures ∙ c.get.ensures.value) c.with_new-staged.ensures w.in-Ok.ensures.entries)
      | in-Err w ↦ rw w.result-is tt
    ]
