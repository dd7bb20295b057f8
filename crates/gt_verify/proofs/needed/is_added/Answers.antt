use Rattle.std.proofs.Common.{Bool, ◌&&◌, not, sym, ap, ◌∙◌}
use Rattle.gt_model.specs.Contents.{is_visible}
use Rattle.gt_verify.proofs.Owning.{found_staged}
use Rattle.gt_verify.proofs.needed.is_added.Goals as goal

pub returns-then-is_some : goal.returns-then-is_some
returns-then-is_some g c =
    let staged = found_staged c.own_record.result c.args.stage.now.staged.records c.args.name.now c.is_some.result c.own_record.ensures c.is_some.ensures in
    ap not c.visible.ensures ∙ ap (λ (b : Bool). b && not (is_visible (g.L.Look.content c.args.front.now) c.args.path.now c.args.name.now)) (sym c.if-is_some.true ∙ staged)

pub returns-else-is_some : goal.returns-else-is_some
returns-else-is_some g c =
    let staged = found_staged c.own_record.result c.args.stage.now.staged.records c.args.name.now c.is_some.result c.own_record.ensures c.is_some.ensures in
    c.if-is_some.false ∙ ap (λ (b : Bool). b && not (is_visible (g.L.Look.content c.args.front.now) c.args.path.now c.args.name.now)) (sym c.if-is_some.false ∙ staged)
