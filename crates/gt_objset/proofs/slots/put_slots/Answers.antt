use Rattle.std.proofs.Common.{◌≡◌, ◌+◌, ◌∷◌, ◌∙◌, List, ℕ, Option, None, drop, sym, ap}
use Rattle.gt_versions.proofs.Keys.{at_key}
use Rattle.gt_objset.specs.declared.place.Place.{Place}
use Rattle.gt_objset.specs.Places.{last_put}
use Rattle.gt_objset.specs.Track.{put_if, items_of}
use Rattle.gt_objset.proofs.SlotLaws.{item_of, put_upto, put_room, put_done, put_end, rest_room}
use Rattle.gt_objset.proofs.slots.put_slots.Goals as goal

pub put_slot-requires-clause-room : goal.put_slot-requires-clause-room
put_slot-requires-clause-room c =
    let step : drop c.loop-put.put-index c.args.puts.now ≡ c.put-item.result ∷ drop (c.loop-put.put-index + 1) c.args.puts.now = item_of c.args.puts.now c.loop-put.put-index c.put-item.result c.loop-put-test.true c.put-item.is in
    (rest_room c.args.position (λ x. at_key c.loop-put.slots.entries x) (drop c.loop-put.put-index c.args.puts.now) (drop (c.loop-put.put-index + 1) c.args.puts.now) c.put-item.result step c.loop-put.invariant.room).0

pub loop-put-preserved : goal.loop-put-preserved
loop-put-preserved c =
    let rest : List (List ℕ × Option Place) = drop (c.loop-put.put-index + 1) c.args.puts.now in
    let here : List (List ℕ × Option Place) = drop c.loop-put.put-index c.args.puts.now in
    let es = c.loop-put.slots.entries in
    let fs = c.put_slot.new.slots.entries in
    let step : drop c.loop-put.put-index c.args.puts.now ≡ c.put-item.result ∷ drop (c.loop-put.put-index + 1) c.args.puts.now = item_of c.args.puts.now c.loop-put.put-index c.put-item.result c.loop-put-test.true c.put-item.is in
    record {
      upto = put_upto c.args.position c.put-item.result.0 c.put-item.result.1 c.loop-put.slots.entries c.put_slot.new.slots.entries c.put_slot.ensures.here c.put_slot.ensures.some c.put_slot.ensures.others c.loop-put.invariant.upto;
      room = put_room c.args.position c.put-item.result.0 c.put-item.result.1 c.loop-put.slots.entries c.put_slot.new.slots.entries c.put_slot.ensures.here c.put_slot.ensures.some c.put_slot.ensures.others rest
          (rest_room c.args.position (λ x. at_key c.loop-put.slots.entries x) here rest c.put-item.result step c.loop-put.invariant.room).1;
      done = λ x.
          put_done c.args.position c.put-item.result.0 c.put-item.result.1 c.loop-put.slots.entries c.put_slot.new.slots.entries c.put_slot.ensures.here c.put_slot.ensures.some c.put_slot.ensures.others rest x
          ∙ ap (λ ps. put_if c.args.position (last_put ps x None) (items_of (at_key c.loop-put.slots.entries x))) (sym step)
          ∙ c.loop-put.invariant.done x;
    }

pub returns : goal.returns
returns c = λ x. sym (put_end c.args.position c.args.puts.now c.loop-put.put-index x (items_of (at_key c.loop-put.slots.entries x)) c.loop-put-test.false) ∙ c.loop-put.invariant.done x
