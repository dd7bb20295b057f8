use Rattle.std.proofs.Common.{◌≡◌, ℕ, subst}
use Rattle.gt_pool.specs.Counting.{times}
use Rattle.gt_pool.specs.Known.{Ticketing}
use Rattle.gt_pool.proofs.TicketMoves.{takes, learns, settled}
use Rattle.gt_pool.proofs.tickets.Tickets.first.Goals as goal

pub pop_as-requires-clause-rule : goal.pop_as-requires-clause-rule
pop_as-requires-clause-rule g c = (takes _ _ c.pass.invariant.2, learns _ _)

pub returns-clause-all : goal.returns-clause-all
returns-clause-all g c = λ none.
    let h = rw none at c.pop_as.ensures.rule in
    let P : Ticketing → Type 0 = λ t. t.parts ≡ 1024 → (p : ℕ) → times p t.put ≡ times p t.taken in
    subst P c.pass.view_is (settled _ h.1)
