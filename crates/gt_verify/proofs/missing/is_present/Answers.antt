use Rattle.std.proofs.Common.{Bool, ◌||◌, ap, ◌∙◌}
use Rattle.gt_model.specs.Verdicts.{is_staged}
use Rattle.gt_verify.proofs.Owning.{found_staged}
use Rattle.gt_verify.proofs.missing.is_present.Goals as goal

pub returns-else-visible : goal.returns-else-visible
returns-else-visible g c =
    found_staged c.own_record.result c.args.stage.now.staged.records c.args.name.now c.is_some.result c.own_record.ensures c.is_some.ensures
    ∙ ap (λ (b : Bool). b || is_staged c.args.stage.now.staged c.args.name.now) c.if-visible.ensures
