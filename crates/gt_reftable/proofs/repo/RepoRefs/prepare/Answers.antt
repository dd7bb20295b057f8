use Rattle.std.proofs.Common.{◌≡◌, ◌+◌, ◌∷◌, List, drop}
use Rattle.gt_model.specs.declared.update.RefUpdate.{RefUpdate}
use Rattle.gt_reftable.proofs.TrackLaws.{item_of, room_with, room_end, roomier_more, roomier_same}
use Rattle.gt_reftable.proofs.repo.RepoRefs.prepare.Goals as goal

pub loop-update-init : goal.loop-update-init
loop-update-init c = record { same = roomier_same c.args.self.now; done = λ t r q h. h }

pub loop-update-preserved : goal.loop-update-preserved
loop-update-preserved c =
    let u : RefUpdate = c.update-item.result in
    let rest : List RefUpdate = drop (c.loop-update.update-index + 1) c.args.updates.now in
    let here : List RefUpdate = drop c.loop-update.update-index c.args.updates.now in
    let step : drop c.loop-update.update-index c.args.updates.now ≡ c.update-item.result ∷ drop (c.loop-update.update-index + 1) c.args.updates.now = item_of c.args.updates.now c.loop-update.update-index c.update-item.result c.loop-update-test.true c.update-item.is in
    record {
      same = roomier_more c.args.self.now c.loop-update.self c.prepare_update.new.self c.loop-update.invariant.same c.in_default.ensures.same;
      done = λ t r q h. c.loop-update.invariant.done t (roomier_more c.loop-update.self c.prepare_update.new.self t c.in_default.ensures.same r) q (room_with q c.prepare_update.new.self t here rest u step r (c.in_default.ensures.ok q) h);
    }

pub returns-in-Err-clause-same : goal.returns-in-Err-clause-same
returns-in-Err-clause-same c = roomier_more c.args.self.now c.loop-update.self c.prepare_update.new.self c.loop-update.invariant.same c.prepare_update.ensures.same

pub returns-clause-ok : goal.returns-clause-ok
returns-clause-ok c = λ q. c.loop-update.invariant.done c.loop-update.self (roomier_same c.loop-update.self) q (room_end q c.loop-update.self c.args.updates.now c.loop-update.update-index c.loop-update-test.false)
