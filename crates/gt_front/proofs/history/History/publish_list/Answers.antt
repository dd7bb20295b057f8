use Rattle.std.proofs.Common.{rules, arith, ap, sym, subst, List, length}
use mathlib.Core.List.{IsPrefix}
use Rattle.gt_model.specs.declared.entry.Entry.{Entry}
use Rattle.gt_front.proofs.Moves.{publishes}
use Rattle.gt_front.proofs.history.History.publish_list.Goals as goal

pub swap-requires : goal.swap-requires
swap-requires g c =
    let list = g.B.Listing.list in (
      search rules,
      search rules,
      publishes _ _ _ _ list _ (ap (λ m. m.0.owns) c.owner.invariant) (ap (λ m. m.0.spent) c.owner.invariant)
          (subst (λ (l : List Entry). IsPrefix l list) (ap (λ k. k.list) (sym c.owner.view_is)) c.requires.extends)
          (omega (arith, c.last-last.ensures, ap length c.requires.picked, c.requires.first, ap (λ h. h.first) c.self.view_is)),
    )
