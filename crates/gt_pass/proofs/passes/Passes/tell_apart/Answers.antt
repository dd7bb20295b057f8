use Rattle.std.proofs.Common.{rules, refl, ap, sym, subst, ◌∙◌, ◌++◌, ◌∷◌, ◌≤◌, ℕ}
use Rattle.gt_pass.specs.Hands.{times}
use Rattle.gt_pass.proofs.Moves.{checks}
use Rattle.gt_pass.proofs.Totals.{not_twice}
use Rattle.gt_pass.proofs.passes.Passes.tell_apart.Goals as goal

pub load-requires : goal.load-requires
load-requires c =
    let keeps = ap (λ m. m.0.keeps) c.show-2.ensures.keeper.1 ∙ ap (λ m. m.0.keeps) c.show.ensures.keeper.1 ∙ ap (λ m. m.0.keeps) c.keeper.invariant in
    (search rules, search rules, checks _ _ _ keeps)

pub returns-clause-numbers : goal.returns-clause-numbers
returns-clause-numbers c = λ alike.
    let mine = c.keeper.inside.seat.me.0.hand in
    let before = c.show.new.keeper.me.0.hand in
    let one : ℕ × ℕ = (c.one.inside.number, c.one.inside.mark) in
    let other : ℕ × ℕ = (c.other.inside.number, c.other.inside.mark) in
    let first = ap (λ m. m.0.hand) c.show.ensures.keeper.1 ∙ ap (λ m. m.0.hand ++ mine) c.one.invariant in
    let hand = ap (λ m. m.0.hand) c.show-2.ensures.keeper.1 ∙ ap (λ m. m.0.hand ++ before) c.other.invariant ∙ ap (λ ps. other ∷ ps) first in
    let same = ap (λ s. s.number) c.other.view_is ∙ sym alike ∙ sym (ap (λ s. s.number) c.one.view_is) in
    not_twice one.0 other one mine same refl (subst (λ ps. times one.0 ps ≤ 1) hand (c.load.ensures.2.2 one.0))
