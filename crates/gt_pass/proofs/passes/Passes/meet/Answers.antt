use Rattle.std.proofs.Common.{rules, refl, inl, ap, sym, subst, ◌∙◌, ◌++◌, ℕ}
use Rattle.gt_pass.specs.Hands.{IsIn}
use Rattle.gt_pass.proofs.Moves.{checks}
use Rattle.gt_pass.proofs.passes.Passes.meet.Goals as goal

pub load-requires : goal.load-requires
load-requires c =
    let keeps = ap (λ m. m.0.keeps) c.show.ensures.keeper.1 ∙ ap (λ m. m.0.keeps) c.keeper.invariant in
    (search rules, search rules, checks _ _ _ keeps)

pub returns-clause-live : goal.returns-clause-live
returns-clause-live c =
    let mine = c.keeper.inside.seat.me.0.hand in
    let hand = ap (λ m. m.0.hand) c.show.ensures.keeper.1 ∙ ap (λ m. m.0.hand ++ mine) c.seat.invariant in
    let live = ap (λ m. m.0.live) c.show.ensures.keeper.1 ∙ ap (λ k. k.live) c.keeper.view_is in
    let pass : ℕ × ℕ = (c.seat.inside.number, c.seat.inside.mark) in
    let shown = c.load.ensures.2.1 pass (subst (λ l. IsIn pass l) (sym hand) (inl refl)) in
    subst (λ (p : ℕ × ℕ). IsIn p c.args.keeper.now.live) (ap (λ s. (s.number, s.mark)) c.seat.view_is) (subst (λ l. IsIn pass l) live shown)
