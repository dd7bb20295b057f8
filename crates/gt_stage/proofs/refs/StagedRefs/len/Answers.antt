use Rattle.std.proofs.Common.{ℕ, List, map, sym, ap, ◌∙◌, subst}
use Rattle.gt_model.specs.declared.update.RefUpdate.{RefUpdate}
use Rattle.gt_stage.specs.Staging.{IsEachOnce}
use Rattle.gt_stage.proofs.Tables.{names-updates}
use Rattle.gt_stage.proofs.refs.StagedRefs.len.Goals as goal

pub returns-clause-distinct : goal.returns-clause-distinct
returns-clause-distinct c =
    let P : List (List ℕ) → Type 0 = λ names. IsEachOnce names in
    subst P (sym (names-updates c.self.inside.table.entries) ∙ ap (λ (us : List RefUpdate). map (λ u. u.name) us) c.self.view_is) c.len.ensures.unique
