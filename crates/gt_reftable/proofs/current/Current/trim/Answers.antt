use Rattle.std.proofs.Common.{◌≡◌, ◌+◌, ◌∷◌, List, drop, sym, ◌∙◌}
use Rattle.std.specs.FinMap as map
use Rattle.gt_model.specs.declared.update.RefUpdate.{RefUpdate}
use Rattle.gt_slots.specs.Slots.{items_of}
use Rattle.gt_reftable.proofs.TrackLaws.{item_of}
use Rattle.gt_reftable.proofs.CurrentLaws.{trim_more, trim_end}
use Rattle.gt_reftable.proofs.current.Current.trim.Goals as goal

pub loop-update-preserved : goal.loop-update-preserved
loop-update-preserved c = λ x.
    let rest : List RefUpdate = drop (c.loop-update.update-index + 1) c.args.updates.now in
    let here : List RefUpdate = drop c.loop-update.update-index c.args.updates.now in
    let step : here ≡ c.update-item.result ∷ rest = item_of c.args.updates.now c.loop-update.update-index c.update-item.result c.loop-update-test.true c.update-item.is in
    trim_more c.args.position x here rest c.update-item.result c.loop-update.self c.trim_one.new.self _ step (c.trim_one.ensures x) (c.loop-update.invariant x)

pub returns : goal.returns
returns c = λ x. sym (trim_end c.args.position x c.args.updates.now c.loop-update.update-index (items_of (map.get c.loop-update.self x)) c.loop-update-test.false) ∙ c.loop-update.invariant x
