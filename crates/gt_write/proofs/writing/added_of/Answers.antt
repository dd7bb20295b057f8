use Rattle.std.proofs.Common.{[], take}
use Rattle.std.proofs.lemmas.List.Elements.{filter_map-append}
use Rattle.gt_verify.proofs.Owning.{noted, taken_item}
use Rattle.gt_write.specs.Writing.{record_under, records_of}
use Rattle.gt_write.proofs.writing.added_of.Goals as goal

pub loop-name-preserved : goal.loop-name-preserved
loop-name-preserved c =
    let staged = c.args.stage.now.staged in
    let names = c.as_slice-name-items.result.now in
    noted (records_of staged) (filter_map-append (record_under staged)) [] c.loop-name.list c.add_record.new.list
    (take c.loop-name.name-index names) _ c.name-item.result (taken_item names c.loop-name.name-index c.name-item.result c.loop-name-test.true c.name-item.is) c.loop-name.invariant c.in_ok-add_record.ensures
