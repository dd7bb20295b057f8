-- Names in each other's folders.
use Rattle.std.proofs.Common.{◌≡◌, ℕ, Bool, true, false, ◌&&◌, nat_eq, List, [], ◌∷◌, ◌++◌, length, take, drop, Option, Some, None, not, find, map as map_list, refl, sym, ◌∙◌, ap, codes}
use Rattle.std.specs.List.{starts_with, list_any}
use Rattle.std.specs.Cmp.Lexicographic.{pointwise, nat_list_eq_equiv}
use Rattle.std.specs.FinMap as map
use Rattle.gt_model.specs.Contents.{Content, Repo, Names}
use Rattle.gt_model.specs.Verdicts.{same_name, is_under, clashes, clash}
use Rattle.gt_model.proofs.Checks.{entries-empty}

and_assoc : (a b c : Bool) → (a && (b && c)) ≡ ((a && b) && c)
and_assoc true b c = refl
and_assoc false b c = refl

-- to begin with two lists is to begin with the first, and behind it with the second
starts_with-append : (l s t : List ℕ) → starts_with nat_eq l (s ++ t) ≡ (starts_with nat_eq l s && starts_with nat_eq (drop (length s) l) t)
starts_with-append l [] t = refl
starts_with-append [] (y ∷ ys) t = refl
starts_with-append (x ∷ xs) (y ∷ ys) t = ap (λ b. nat_eq y x && b) (starts_with-append xs ys t) ∙ and_assoc (nat_eq y x) _ _

begins : (l s : List ℕ) (b : Bool) → pointwise nat_eq (take (length s) l) s ≡ b → starts_with nat_eq l s ≡ b
begins l s b e = nat_list_eq_equiv.symm s (take (length s) l) ∙ e

pub under_some : (longer shorter : List ℕ) → pointwise nat_eq (take (length shorter) longer) shorter ≡ true → starts_with nat_eq (drop (length shorter) longer) (codes "/") ≡ is_under longer shorter
under_some l s e = sym (starts_with-append l s (codes "/") ∙ ap (λ b. b && starts_with nat_eq (drop (length s) l) (codes "/")) (begins l s true e))

pub under_none : (longer shorter : List ℕ) → pointwise nat_eq (take (length shorter) longer) shorter ≡ false → false ≡ is_under longer shorter
under_none l s e = sym (starts_with-append l s (codes "/") ∙ ap (λ b. b && starts_with nat_eq (drop (length s) l) (codes "/")) (begins l s false e))

-- where there is no repository there is no clash
pub clash_none : (c : Content) (path name : List ℕ) (gone : List (List ℕ)) → map.get c path ≡ None → None ≡ clash c path name gone
clash_none c path name gone e =
    let test : List ℕ → Bool = λ other. clashes name other && not (list_any (same_name other) gone) in
    let refs : Option Repo → Names = λ o. elim o as (λ o. Names) [ None ↦ map.empty | Some r ↦ r.refs ] in
    sym (ap (λ o. find test (map.keys (refs o))) e ∙ ap (λ es. find test (map_list (λ e. e.0) es)) (entries-empty (List ℕ)))
