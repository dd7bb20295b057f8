use Rattle.std.proofs.Common.{◌≡◌, ◌+◌, ◌∷◌, List, ℕ, Option, drop}
use Rattle.gt_versions.proofs.Keys.{at_key}
use Rattle.gt_objset.specs.declared.place.Place.{Place}
use Rattle.gt_objset.proofs.SlotLaws.{item_of, with_room, room_end, same_room, more_room}
use Rattle.gt_objset.proofs.slots.reserve_slots.Goals as goal

pub loop-put-init : goal.loop-put-init
loop-put-init c = record { same = same_room (λ x. at_key c.args.slots.now.entries x); done = λ f r q h. h }

pub loop-put-preserved : goal.loop-put-preserved
loop-put-preserved c =
    let rest : List (List ℕ × Option Place) = drop (c.loop-put.put-index + 1) c.args.puts.now in
    let here : List (List ℕ × Option Place) = drop c.loop-put.put-index c.args.puts.now in
    let step : drop c.loop-put.put-index c.args.puts.now ≡ c.put-item.result ∷ drop (c.loop-put.put-index + 1) c.args.puts.now = item_of c.args.puts.now c.loop-put.put-index c.put-item.result c.loop-put-test.true c.put-item.is in
    record {
      same = more_room (λ x. at_key c.args.slots.now.entries x) (λ x. at_key c.loop-put.slots.entries x) (λ x. at_key c.reserve_slot.new.slots.entries x) c.loop-put.invariant.same c.in_default.ensures.same;
      done = λ f r q h. c.loop-put.invariant.done f (more_room (λ x. at_key c.loop-put.slots.entries x) (λ x. at_key c.reserve_slot.new.slots.entries x) f c.in_default.ensures.same r) q
          (with_room q f here rest c.put-item.result step (r.kept q c.put-item.result.0 (c.in_default.ensures.ok q)) h);
    }

pub returns-in-Err-clause-same : goal.returns-in-Err-clause-same
returns-in-Err-clause-same c = more_room (λ x. at_key c.args.slots.now.entries x) (λ x. at_key c.loop-put.slots.entries x) (λ x. at_key c.reserve_slot.new.slots.entries x) c.loop-put.invariant.same c.reserve_slot.ensures.same

pub returns-clause-ok : goal.returns-clause-ok
returns-clause-ok c = λ q. c.loop-put.invariant.done (λ x. at_key c.loop-put.slots.entries x) (same_room (λ x. at_key c.loop-put.slots.entries x)) q (room_end q (λ x. at_key c.loop-put.slots.entries x) c.args.puts.now c.loop-put.put-index c.loop-put-test.false)
