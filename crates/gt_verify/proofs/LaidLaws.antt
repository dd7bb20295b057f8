-- The references once all updates are laid over them.
use Rattle.std.proofs.Common.{◌≡◌, ℕ, Bool, true, false, cond, not, ◌&&◌, ◌||◌, is_some, List, [], ◌∷◌, map, filter, Option, Some, None, refl, sym, ap, ◌∙◌}
use Rattle.std.specs.Ordering.{eq_by_cmp}
use Rattle.std.specs.Cmp.Lexicographic.{nat_list_cmp_total, texts_ties, same_text}
use Rattle.std.specs.FinMap as map_of
use Rattle.std.specs.FinMap.{get-insert, get-remove}
use Rattle.std.proofs.lemmas.Map.Keys.{IsDistinct-head, IsDistinct-tail}
use Rattle.std.specs.List.{AllByRecursion}
use Rattle.gt_model.specs.declared.update.RefUpdate.{RefUpdate}
use Rattle.gt_model.specs.Contents.{Names, key_cmp, is_zero, and_then, with_value, with_refs}
use Rattle.gt_model.specs.Verdicts.{same_name, target}
use Rattle.gt_stage.specs.Staging.{IsEachOnce}
use Rattle.gt_verify.specs.Folders.{has_name, moved_names, target_names}

abbrev pub names : List RefUpdate → List (List ℕ)
names us = map (λ u. u.name) us

-- whether it is moved by one of these, and whether to a value
abbrev pub moved : List RefUpdate → List ℕ → Bool
moved us q = has_name (moved_names us) q

abbrev pub targeted : List RefUpdate → List ℕ → Bool
targeted us q = has_name (target_names us) q

-- a name that none of these has is moved by none
unmoved : (q : List ℕ) (us : List RefUpdate) → AllByRecursion (λ y. same_name q y ≡ false) (names us) → moved us q ≡ false
unmoved q [] h = refl
unmoved q (u ∷ us) h =
    elim (is_some u.new) as (λ b. has_name (map (λ x. x.name) (cond b (u ∷ filter (λ x. is_some x.new) us) (filter (λ x. is_some x.new) us))) q ≡ false) [
      | true ↦ ap (λ (b : Bool). b || moved us q) h.0 ∙ unmoved q us h.1
      | false ↦ unmoved q us h.1
    ]

some_if : (b : Bool) (v : List ℕ) (o : Option (List ℕ)) → is_some (cond b (Some v) o) ≡ (b || is_some o)
some_if true v o = refl
some_if false v o = refl

none_if : (b : Bool) (o : Option (List ℕ)) → is_some (cond b None o) ≡ (not b && is_some o)
none_if true o = refl
none_if false o = refl

-- a deletion
gone_one : (b t r m : Bool) → (t || ((not b && r) && not m)) ≡ (t || (r && not (b || m)))
gone_one true true r m = refl
gone_one true false true m = refl
gone_one true false false m = refl
gone_one false t r m = refl

-- an update to a value, of a name that no later one moves
laid_one : (b t r m : Bool) → (b ≡ true → m ≡ false) → (t || ((b || r) && not m)) ≡ ((b || t) || (r && not (b || m)))
laid_one true true r m h = refl
laid_one true false r m h = ap not (h refl)
laid_one false t r m h = refl

with_value-new : (refs : Names) (u : RefUpdate) (v q : List ℕ) (z : Bool) → u.new ≡ Some v → is_zero v ≡ z → is_some (map_of.get (with_value refs u.name u.new) q) ≡ cond z (not (same_name q u.name) && is_some (map_of.get refs q)) (same_name q u.name || is_some (map_of.get refs q))
with_value-new refs u v q z new zero =
    ap (λ (o : Option (List ℕ)). is_some (map_of.get (with_value refs u.name o) q)) new ∙ ap (λ (b : Bool). is_some (map_of.get (cond b (map_of.remove refs u.name) (map_of.insert refs u.name v)) q)) zero ∙ by z
  where
    by : (z : Bool) → is_some (map_of.get (cond z (map_of.remove refs u.name) (map_of.insert refs u.name v)) q) ≡ cond z (not (same_name q u.name) && is_some (map_of.get refs q)) (same_name q u.name || is_some (map_of.get refs q))
    by true = ap is_some (get-remove nat_list_cmp_total refs u.name q) ∙ none_if (eq_by_cmp key_cmp q u.name) (map_of.get refs q) ∙ ap (λ (b : Bool). not b && is_some (map_of.get refs q)) (sym (texts_ties q u.name))
    by false = ap is_some (get-insert nat_list_cmp_total refs u.name v q) ∙ some_if (eq_by_cmp key_cmp q u.name) v (map_of.get refs q) ∙ ap (λ (b : Bool). b || is_some (map_of.get refs q)) (sym (texts_ties q u.name))

abbrev moved_by : Bool → RefUpdate → List RefUpdate → List ℕ → Bool
moved_by b u us q = has_name (map (λ x. x.name) (cond b (u ∷ filter (λ x. is_some x.new) us) (filter (λ x. is_some x.new) us))) q

abbrev targeted_by : Bool → RefUpdate → List RefUpdate → List ℕ → Bool
targeted_by b u us q = has_name (map (λ x. x.name) (cond b (u ∷ filter (λ x. is_some (target x)) us) (filter (λ x. is_some (target x)) us))) q

pub laid : (us : List RefUpdate) (refs : Names) → IsEachOnce (names us) → (q : List ℕ) → is_some (map_of.get (with_refs refs us) q) ≡ (targeted us q || (is_some (map_of.get refs q) && not (moved us q)))
laid [] refs once q = end (is_some (map_of.get refs q))
  where
    end : (b : Bool) → b ≡ (b && true)
    end true = refl
    end false = refl
laid (u ∷ us) refs once q =
    laid us (with_value refs u.name u.new) (IsDistinct-tail same_name u.name (names us) once) q ∙ by u.new refl
  where
    apart : same_name q u.name ≡ true → moved us q ≡ false
    apart t = ap (moved us) (same_text q u.name (sym t)) ∙ unmoved u.name us (IsDistinct-head same_name u.name (names us) once)

    some : (v : List ℕ) (z : Bool) → u.new ≡ Some v → is_zero v ≡ z → (targeted us q || (is_some (map_of.get (with_value refs u.name u.new) q) && not (moved us q))) ≡ (targeted_by (not z) u us q || (is_some (map_of.get refs q) && not (same_name q u.name || moved us q)))
    some v true new zero =
        ap (λ (b : Bool). targeted us q || (b && not (moved us q))) (with_value-new refs u v q true new zero)
        ∙ gone_one (same_name q u.name) (targeted us q) (is_some (map_of.get refs q)) (moved us q)
    some v false new zero =
        ap (λ (b : Bool). targeted us q || (b && not (moved us q))) (with_value-new refs u v q false new zero)
        ∙ laid_one (same_name q u.name) (targeted us q) (is_some (map_of.get refs q)) (moved us q) apart

    target_is : (v : List ℕ) (z : Bool) → u.new ≡ Some v → is_zero v ≡ z → is_some (target u) ≡ not z
    target_is v z new zero = ap (λ (o : Option (List ℕ)). is_some (and_then o (λ new. cond (is_zero new) None (Some new)))) new ∙ ap (λ (b : Bool). is_some (cond b None (Some v))) zero ∙ flip z
      where
        flip : (z : Bool) → is_some (cond z None (Some v)) ≡ not z
        flip true = refl
        flip false = refl

    by : (o : Option (List ℕ)) → u.new ≡ o → (targeted us q || (is_some (map_of.get (with_value refs u.name u.new) q) && not (moved us q))) ≡ (targeted_by (is_some (target u)) u us q || (is_some (map_of.get refs q) && not (moved_by (is_some u.new) u us q)))
    by None e =
        ap (λ (o : Option (List ℕ)). targeted us q || (is_some (map_of.get (with_value refs u.name o) q) && not (moved us q))) e
        ∙ ap (λ (b : Bool). targeted_by b u us q || (is_some (map_of.get refs q) && not (moved us q))) (sym (ap (λ (o : Option (List ℕ)). is_some (and_then o (λ new. cond (is_zero new) None (Some new)))) e))
        ∙ ap (λ (b : Bool). targeted_by (is_some (target u)) u us q || (is_some (map_of.get refs q) && not (moved_by b u us q))) (sym (ap is_some e))
    by (Some v) e =
        some v (is_zero v) e refl
        ∙ ap (λ (b : Bool). targeted_by b u us q || (is_some (map_of.get refs q) && not (same_name q u.name || moved us q))) (sym (target_is v (is_zero v) e refl))
        ∙ ap (λ (b : Bool). targeted_by (is_some (target u)) u us q || (is_some (map_of.get refs q) && not (moved_by b u us q))) (sym (ap is_some e))
