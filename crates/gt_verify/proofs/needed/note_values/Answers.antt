use Rattle.std.proofs.Common.{ℕ, not, List, take, ap, ◌∙◌}
use Rattle.std.proofs.lemmas.List.Elements.{filter-append, filter_map-append}
use Rattle.gt_model.specs.declared.update.RefUpdate.{RefUpdate}
use Rattle.gt_model.specs.Verdicts.{is_added, target}
use Rattle.gt_verify.specs.Checks.{old_ones, values_of}
use Rattle.gt_verify.proofs.Owning.{noted, taken_item}
use Rattle.gt_verify.proofs.needed.note_values.Goals as goal

pub loop-update-preserved : goal.loop-update-preserved
loop-update-preserved g c =
    let content = g.L.Look.content c.args.front.now in
    let old = old_ones content c.args.path.now c.args.stage.now.staged in
    noted (λ (us : List RefUpdate). old (values_of us))
    (λ us vs. ap old (filter_map-append target us vs) ∙ filter-append (λ (n : List ℕ). not (is_added content c.args.path.now c.args.stage.now.staged n)) (values_of us) (values_of vs))
    c.args.names.now c.loop-update.names c.note_value.new.names
    (take c.loop-update.update-index c.args.refs.now) _ c.update-item.result (taken_item c.args.refs.now c.loop-update.update-index c.update-item.result c.loop-update-test.true c.update-item.is) c.loop-update.invariant c.in_ok-note_value.ensures
