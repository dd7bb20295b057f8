use Rattle.std.proofs.Common.{rules, ap, sym, subst, ◌∙◌, ◌≡◌, ℕ}
use Rattle.gt_pass.specs.Hands.{times}
use Rattle.gt_pass.proofs.Moves.{opens, deals}
use Rattle.gt_pass.proofs.passes.Passes.open_as.Goals as goal

pub load-requires : goal.load-requires
load-requires g c =
    let live = ap (λ k. k.live) c.keeper.view_is in
    let free = subst (λ (n : ℕ). times n c.args.keeper.now.live ≡ 0) (sym (ap (λ p. p.0) c.requires.picked)) c.requires.free in
    (search rules, search rules, opens _ _ _ g.B.Named.pass (ap (λ m. m.0.keeps) c.keeper.invariant) (subst (λ l. times g.B.Named.pass.0 l ≡ 0) (sym live) free))

pub split_seat-seat-requires : goal.split_seat-seat-requires
split_seat-seat-requires g c = (search rules, search rules, deals _ _ (ap (λ m. m.0.keeps) c.load.ensures.2 ∙ ap (λ m. m.0.keeps) c.keeper.invariant))
