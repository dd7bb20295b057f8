use Rattle.std.proofs.Common.{◌≡◌, ◌+◌, ◌∷◌, List, drop, ◌∙◌}
use Rattle.gt_model.specs.declared.update.RefUpdate.{RefUpdate}
use Rattle.gt_reftable.proofs.TrackLaws.{item_of, room_of_rest, place_of_first, room_after}
use Rattle.gt_reftable.proofs.UpdateLaws.{write_more, update_before, step_after}
use Rattle.gt_reftable.proofs.WriteLaws.{others_kept}
use Rattle.gt_reftable.proofs.repo.RepoRefs.put_updates.Goals as goal

pub put_update-requires-clause-room : goal.put_update-requires-clause-room
put_update-requires-clause-room c =
    let step : drop c.loop-update.update-index c.args.updates.now ≡ c.update-item.result ∷ drop (c.loop-update.update-index + 1) c.args.updates.now = item_of c.args.updates.now c.loop-update.update-index c.update-item.result c.loop-update-test.true c.update-item.is in
    place_of_first c.args.position c.loop-update.self (drop c.loop-update.update-index c.args.updates.now) (drop (c.loop-update.update-index + 1) c.args.updates.now) c.update-item.result step c.loop-update.invariant.room

pub loop-update-preserved : goal.loop-update-preserved
loop-update-preserved c =
    let u : RefUpdate = c.update-item.result in
    let rest : List RefUpdate = drop (c.loop-update.update-index + 1) c.args.updates.now in
    let here : List RefUpdate = drop c.loop-update.update-index c.args.updates.now in
    let step : drop c.loop-update.update-index c.args.updates.now ≡ c.update-item.result ∷ drop (c.loop-update.update-index + 1) c.args.updates.now = item_of c.args.updates.now c.loop-update.update-index c.update-item.result c.loop-update-test.true c.update-item.is in
    record {
      newest = step_after c.args.position u c.loop-update.self c.put_update.new.self c.put_update.ensures c.loop-update.invariant.newest;
      room = room_after c.args.position u c.loop-update.self c.put_update.new.self c.put_update.ensures rest (room_of_rest c.args.position c.loop-update.self here rest u step c.loop-update.invariant.room);
      done = λ p x l. write_more c.args.position p x here rest u c.loop-update.self c.put_update.new.self _ c.put_update.ensures c.loop-update.invariant.newest l step (c.loop-update.invariant.done p x l);
      earlier = λ p x l. update_before c.args.position p x u c.loop-update.self c.put_update.new.self c.put_update.ensures l ∙ c.loop-update.invariant.earlier p x l;
      others = λ x t. others_kept c.args.position c.args.updates.now c.loop-update.update-index u x c.loop-update.self.current c.put_update.new.self.current c.loop-update-test.true c.update-item.is c.put_update.ensures.current t ∙ c.loop-update.invariant.others x t;
    }
