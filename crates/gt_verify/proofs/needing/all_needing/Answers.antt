use Rattle.std.proofs.Common.{[], take}
use Rattle.std.proofs.lemmas.List.Elements.{filter_map-append}
use Rattle.gt_verify.specs.Checks.{all_needing, needing_of}
use Rattle.gt_verify.proofs.Owning.{noted, taken_item}
use Rattle.gt_verify.proofs.needing.all_needing.Goals as goal

pub loop-name-preserved : goal.loop-name-preserved
loop-name-preserved c =
    let records = c.args.stage.now.staged.records in
    noted (all_needing records) (filter_map-append (needing_of records)) [] c.loop-name.list c.add_needing.new.list
    (take c.loop-name.name-index c.args.names.now) _ c.name-item.result (taken_item c.args.names.now c.loop-name.name-index c.name-item.result c.loop-name-test.true c.name-item.is) c.loop-name.invariant c.in_ok-add_needing.ensures
