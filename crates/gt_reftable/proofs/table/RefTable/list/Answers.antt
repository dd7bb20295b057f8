use Rattle.std.proofs.Common.{ℕ, Option, None, Some, ap, sym, ◌∙◌, subst}
use Rattle.gt_model.specs.Machine.{references}
use Rattle.gt_reftable.specs.Tracks.{Track, IsTrackUpTo}
use Rattle.gt_reftable.specs.Table.{track_refs, IsSlotUpTo}
use Rattle.gt_reftable.proofs.TableLaws.{up_in_tree}
use Rattle.gt_reftable.proofs.RefsLaws.{found_refs}
use Rattle.gt_reftable.proofs.ReadLaws.{no_references, listed_found}
use Rattle.gt_reftable.proofs.table.RefTable.list.Goals as goal

pub returns-in-None : goal.returns-in-None
returns-in-None c = rw (← c.self.view_is) (c.new.ensures ∙ sym (no_references c.args.prefix.now) ∙ ap (λ m. references m c.args.prefix.now) (found_refs c.self.inside.floor c.self.inside.front c.self.inside.repos.entries c.args.at c.args.path.now None c.in-None.ensures.value))

pub list_newest-requires : goal.list_newest-requires
list_newest-requires c =
    let P : Option Track → Type 0 = λ s. IsSlotUpTo c.self.inside.front s in
    let Q : ℕ → Type 0 = λ n. IsTrackUpTo n c.in-Some.repo.now in
    subst Q (sym c.if-at-self.true) (subst P (sym c.in-Some.ensures.value) (up_in_tree c.self.inside.front c.self.inside.repos.entries c.self.invariant c.args.path.now))

pub returns-then-at-self : goal.returns-then-at-self
returns-then-at-self c = rw (← c.self.view_is) (listed_found c.list_newest.result (track_refs (Some c.in-Some.repo.now) c.args.at) _ c.args.prefix.now (found_refs c.self.inside.floor c.self.inside.front c.self.inside.repos.entries c.args.at c.args.path.now (Some c.in-Some.repo.now) c.in-Some.ensures.value) c.list_newest.ensures)

pub returns-else-at-self : goal.returns-else-at-self
returns-else-at-self c = rw (← c.self.view_is) (listed_found c.list.result (track_refs (Some c.in-Some.repo.now) c.args.at) _ c.args.prefix.now (found_refs c.self.inside.floor c.self.inside.front c.self.inside.repos.entries c.args.at c.args.path.now (Some c.in-Some.repo.now) c.in-Some.ensures.value) c.list.ensures)
