-- A set with the names of a list of updates.
use Rattle.std.proofs.Common.{◌≡◌, ℕ, Bool, true, false, cond, ◌||◌, List, [], ◌∷◌, ◌++◌, refl, sym, ap, ◌∙◌}
use Rattle.std.specs.List.{list_any}
use Rattle.std.specs.BTreeSet.{BTreeSet, contains}
use Rattle.std.specs.BTreeMap.{is_at}
use Rattle.std.proofs.lemmas.List.Folds.{list_any-append}
use Rattle.std.proofs.lemmas.Map.Text.{is_eq-slice_cmp}
use Rattle.gt_model.specs.declared.update.RefUpdate.{RefUpdate}
use Rattle.gt_model.specs.Contents.{key_cmp}
use Rattle.gt_model.specs.Verdicts.{same_name}
use Rattle.gt_entry.specs.Agrees.{Agrees}

or_cond : (a b : Bool) → (a || (b || false)) ≡ cond b true a
or_cond true true = refl
or_cond true false = refl
or_cond false true = refl
or_cond false false = refl

-- one update more in both
pub agrees_more : (s n : BTreeSet (List ℕ)) (us : List RefUpdate) (u : RefUpdate) (key : List ℕ) → key ≡ u.name → Agrees s us → ((q : List ℕ) → contains key_cmp n q ≡ cond (is_at (key_cmp key) q) true (contains key_cmp s q)) → Agrees n (us ++ u ∷ [])
agrees_more s n us u key same a up = λ q.
    let test : is_at (key_cmp key) q ≡ same_name u.name q = is_eq-slice_cmp key q ∙ ap (λ (k : List ℕ). same_name k q) same in
    up q ∙ ap (λ (b : Bool). cond b true (contains key_cmp s q)) test ∙ ap (cond (same_name u.name q) true) (a q) ∙ sym (or_cond (list_any (λ v. same_name v.name q) us) (same_name u.name q)) ∙ sym (list_any-append (λ v. same_name v.name q) us (u ∷ []))
