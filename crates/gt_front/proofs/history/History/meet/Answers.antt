use Rattle.std.proofs.Common.{rules, arith, ap, ◌∙◌, length}
use Rattle.gt_front.specs.Views.{both}
use Rattle.gt_front.proofs.Moves.{loads, splits, joins, met}
use Rattle.gt_front.proofs.history.History.meet.Goals as goal

pub split_seat-copy-requires : goal.split_seat-copy-requires
split_seat-copy-requires c = (search rules, search rules, splits _ _ _ (ap (λ m. m.0.spent) c.reader.invariant))

pub join_seat-requires : goal.join_seat-requires
join_seat-requires c = (
  search rules,
  search rules,
  search rules,
  search rules,
  joins _ _ _ _ _ (ap (λ m. m.0.spent) c.owner.invariant) (ap (λ m. m.0.spent) c.split_seat-copy.ensures.4) (ap (λ m. m.0.owns) c.split_seat-copy.ensures.4),
)

pub load-requires : goal.load-requires
load-requires c = (search rules, search rules, loads _ _ _ _ (ap (λ m. m.0.spent) c.join_seat.ensures.2 ∙ ap (λ m. m.0.spent) c.owner.invariant))

pub split_seat-known-requires : goal.split_seat-known-requires
split_seat-known-requires c = (search rules, search rules, splits _ _ _ (ap (λ m. m.0.spent) c.load.ensures.2.0 ∙ ap (λ m. m.0.spent) c.join_seat.ensures.2 ∙ ap (λ m. m.0.spent) c.owner.invariant))

pub join_seat-requires-2 : goal.join_seat-requires-2
join_seat-requires-2 c = (
  search rules,
  search rules,
  search rules,
  search rules,
  joins _ _ _ _ _ (ap (λ m. m.0.spent) c.split_seat-copy.ensures.2 ∙ ap (λ m. m.0.spent) c.reader.invariant) (ap (λ m. m.0.spent) c.split_seat-known.ensures.4) (ap (λ m. m.0.owns) c.split_seat-known.ensures.4),
)

pub returns-clause-list : goal.returns-clause-list
returns-clause-list c =
    (met c.reader.inside.seat.me.0 c.owner.inside.seat.me.0 c.split_seat-copy.result.me.0 c.join_seat.new.seat.me.0 c.load.new.seat.me.0 c.split_seat-known.result.me.0 c.join_seat-2.new.seat.me.0 c.load.result
    (ap (λ m. m.0.owns) c.reader.invariant)
    (ap (λ m. m.0.owns) c.owner.invariant)
    (ap (λ m. m.0) c.split_seat-copy.ensures.4)
    (ap (λ m. m.0) c.join_seat.ensures.2)
    (ap (λ m. m.0) c.load.ensures.2.0)
    c.load.ensures.2.1
    (ap (λ m. m.0) c.split_seat-known.ensures.4)
    (ap (λ m. m.0) c.join_seat-2.ensures.2 ∙ ap (λ m. both m.0 c.split_seat-known.result.me.0) c.split_seat-copy.ensures.2)).0 ∙ ap (λ k. k.list) c.owner.view_is

pub returns-clause-number : goal.returns-clause-number
returns-clause-number c =
    let t = met c.reader.inside.seat.me.0 c.owner.inside.seat.me.0 c.split_seat-copy.result.me.0 c.join_seat.new.seat.me.0 c.load.new.seat.me.0 c.split_seat-known.result.me.0 c.join_seat-2.new.seat.me.0 c.load.result
    (ap (λ m. m.0.owns) c.reader.invariant)
    (ap (λ m. m.0.owns) c.owner.invariant)
    (ap (λ m. m.0) c.split_seat-copy.ensures.4)
    (ap (λ m. m.0) c.join_seat.ensures.2)
    (ap (λ m. m.0) c.load.ensures.2.0)
    c.load.ensures.2.1
    (ap (λ m. m.0) c.split_seat-known.ensures.4)
    (ap (λ m. m.0) c.join_seat-2.ensures.2 ∙ ap (λ m. both m.0 c.split_seat-known.result.me.0) c.split_seat-copy.ensures.2) in
    omega (
      arith,
      t.2,
      ap length t.0,
      ap (λ k. k.number) c.reader.view_is,
      ap (λ m. m.0.first) c.join_seat-2.ensures.2 ∙ ap (λ m. m.0.first) c.split_seat-copy.ensures.2,
      ap (λ k. k.history.first) c.reader.view_is ∙ ap (λ h. h.first) c.requires.reader,
      ap (λ k. k.history.first) c.owner.view_is ∙ ap (λ h. h.first) c.requires.owner,
    )
