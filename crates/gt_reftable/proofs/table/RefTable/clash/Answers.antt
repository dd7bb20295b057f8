use Rattle.std.proofs.Common.{ℕ, Option, None, Some, subst, not, ◌&&◌, find, ap, sym, ◌∙◌}
use Rattle.std.specs.List.{list_any}
use Rattle.std.specs.FinMap as map
use Rattle.gt_model.specs.Verdicts.{clashes, same_name}
use Rattle.gt_reftable.specs.Tracks.{Track, IsTrackUpTo}
use Rattle.gt_reftable.specs.Table.{IsSlotUpTo}
use Rattle.gt_reftable.proofs.TableLaws.{up_in_tree}
use Rattle.gt_reftable.proofs.RefsLaws.{found_refs}
use Rattle.gt_reftable.proofs.ReadLaws.{no_keys}
use Rattle.gt_reftable.proofs.table.RefTable.clash.Goals as goal

pub returns-in-None : goal.returns-in-None
returns-in-None c = rw (← c.self.view_is) (sym (no_keys (λ other. clashes c.args.name.now other && not (list_any (same_name other) c.args.gone.now))) ∙ ap (λ m. find (λ other. clashes c.args.name.now other && not (list_any (same_name other) c.args.gone.now)) (map.keys m)) (found_refs c.self.inside.floor c.self.inside.front c.self.inside.repos.entries c.args.at c.args.path.now None c.in-None.ensures.value))

pub clash_newest-requires : goal.clash_newest-requires
clash_newest-requires c =
    let P : Option Track → Type 0 = λ s. IsSlotUpTo c.self.inside.front s in
    let Q : ℕ → Type 0 = λ n. IsTrackUpTo n c.in-Some.repo.now in
    subst Q (sym c.if-at-self.true) (subst P (sym c.in-Some.ensures.value) (up_in_tree c.self.inside.front c.self.inside.repos.entries c.self.invariant c.args.path.now))

pub returns-then-at-self : goal.returns-then-at-self
returns-then-at-self c = rw (← c.self.view_is) (c.clash_newest.ensures ∙ ap (λ m. find (λ other. clashes c.args.name.now other && not (list_any (same_name other) c.args.gone.now)) (map.keys m)) (found_refs c.self.inside.floor c.self.inside.front c.self.inside.repos.entries c.args.at c.args.path.now (Some c.in-Some.repo.now) c.in-Some.ensures.value))

pub returns-else-at-self : goal.returns-else-at-self
returns-else-at-self c = rw (← c.self.view_is) (c.clash.ensures ∙ ap (λ m. find (λ other. clashes c.args.name.now other && not (list_any (same_name other) c.args.gone.now)) (map.keys m)) (found_refs c.self.inside.floor c.self.inside.front c.self.inside.repos.entries c.args.at c.args.path.now (Some c.in-Some.repo.now) c.in-Some.ensures.value))
