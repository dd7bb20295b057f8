use Rattle.std.proofs.Common.{◌≡◌, ℕ, List, map, sym, ap, ◌∙◌, subst}
use Rattle.std.specs.List.{All}
use Rattle.gt_model.specs.declared.added.Added.{Added}
use Rattle.std.proofs.lemmas.List.Elements.{All-map}
use Rattle.sha1.specs.Sha1.{sha1}
use Rattle.gt_stage.specs.Staging.{IsEachOnce}
use Rattle.gt_stage.specs.Layout.{record_of}
use Rattle.gt_stage.proofs.Tables.{names-added}
use Rattle.gt_stage.proofs.records.StagedRecords.len.Goals as goal

pub returns-clause-distinct : goal.returns-clause-distinct
returns-clause-distinct c =
    let P : List (List ℕ) → Type 0 = λ names. IsEachOnce names in
    subst P (sym (names-added c.self.inside.table.entries) ∙ ap (λ (as' : List Added). map (λ a. a.name) as') c.self.view_is) c.len.ensures.unique

pub returns-clause-named : goal.returns-clause-named
returns-clause-named c =
    let P : List Added → Type 0 = λ as'. All (λ a. sha1 a.whole ≡ a.name) as' in
    subst P c.self.view_is (All-map (λ (a : Added). sha1 a.whole ≡ a.name) record_of c.self.inside.table.entries c.self.invariant.named)
