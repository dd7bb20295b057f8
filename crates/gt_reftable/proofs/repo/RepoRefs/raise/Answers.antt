use Rattle.std.proofs.Common.{ℕ, sym, ◌∙◌, subst}
use Rattle.gt_slots.specs.Raised as slots
use Rattle.gt_reftable.specs.Tracks.{Track}
use Rattle.gt_reftable.proofs.RaisingLaws.{track_raised, repo_lean, nothing_left}
use Rattle.gt_reftable.proofs.repo.RepoRefs.raise.Goals as goal

pub returns-clause-raised : goal.returns-clause-raised
returns-clause-raised c =
    let old : Track = record { lives = c.self.inside.lives; refs = c.self.inside.refs; current = c.self.inside.current } in
    let new : Track = record { lives = c.drop_up_to.new.self; refs = c.raise.new.self; current = c.raise-2.new.self } in
    let From : ℕ → Type 0 = λ n. slots.Raises n c.args.to c.self.inside.refs c.raise.new.self in
    rw (← c.self.view_is) (track_raised c.args.to old new c.drop_up_to.ensures.items c.drop_up_to.ensures.ascending (subst From c.start-start.ensures c.raise.ensures) c.raise-2.ensures)

pub returns-clause-lean : goal.returns-clause-lean
returns-clause-lean c = λ t.
    let old : Track = record { lives = c.self.inside.lives; refs = c.self.inside.refs; current = c.self.inside.current } in
    let new : Track = record { lives = c.drop_up_to.new.self; refs = c.raise.new.self; current = c.raise-2.new.self } in
    repo_lean c.args.to old new c.start-start.result c.drop_up_to.ensures.items c.raise.ensures c.raise-2.ensures (sym c.is_needed.ensures ∙ t)

pub returns-clause-gone : goal.returns-clause-gone
returns-clause-gone c = λ t.
    let new : Track = record { lives = c.drop_up_to.new.self; refs = c.raise.new.self; current = c.raise-2.new.self } in
    nothing_left new (sym c.is_needed.ensures ∙ t)
