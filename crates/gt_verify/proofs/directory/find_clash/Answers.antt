use Rattle.std.proofs.Common.{ℕ, is_some, not, List, Some, sym, ap, ◌∙◌}
use Rattle.std.proofs.Common.{inr}
use Rattle.gt_model.specs.declared.refusal.Refusal.TheVariants.{DirectoryConflict}
use Rattle.gt_verify.proofs.ClashLaws.{clash_is, no_conflict, conflict}
use Rattle.gt_verify.proofs.directory.find_clash.Goals as goal

pub returns-in-None : goal.returns-in-None
returns-in-None g c = λ laid lays.
    let is = clash_is (g.L.Look.content c.args.front.now) c.args.path.now c.args.update.now.name c.args.gone.now c.args.targets.now laid _ _ lays c.in_ok-staged.ensures c.clash-there.ensures in
    no_conflict laid c.args.update.now (is ∙ sym c.in-None.ensures)

pub returns-in_ok-clone-in-Some-2 : goal.returns-in_ok-clone-in-Some-2
returns-in_ok-clone-in-Some-2 g c = λ laid lays.
    let is = clash_is (g.L.Look.content c.args.front.now) c.args.path.now c.args.update.now.name c.args.gone.now c.args.targets.now laid _ _ lays c.in_ok-staged.ensures c.clash-there.ensures in
    inr (conflict laid c.args.update.now c.in-Some.existing.now (sym (ap is_some c.target_of.ensures) ∙ c.is_none.ensures ∙ ap not c.if-is_none.false) (is ∙ sym c.in-Some.ensures)
    ∙ ap (λ (n : List ℕ). Some (DirectoryConflict n c.in-Some.existing.now)) (sym c.in_ok-clone-in-Some.ensures.cases)
    ∙ ap (λ (n : List ℕ). Some (DirectoryConflict c.in_ok-clone-in-Some.field-0 n)) (sym c.in_ok-clone-in-Some-2.ensures.cases))
