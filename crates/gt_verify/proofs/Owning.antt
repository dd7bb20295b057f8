-- What is staged under a name, and what a loop over names notes.
use Rattle.std.proofs.Common.{◌≡◌, ℕ, ◌+◌, ◌<◌, Bool, true, false, cond, ◌||◌, is_some, List, [], ◌∷◌, ◌++◌, length, take, get_or, find, Option, Some, None, Bor, refl, sym, ap, ◌∙◌}
use Rattle.std.specs.Option.{option_map, option_copied}
use Rattle.std.specs.List.{list_any, slice_get}
use Rattle.std.specs.Cmp.Lexicographic.{nat_list_eq_equiv}
use Rattle.std.proofs.lemmas.List.{take_more, map-append, append_assoc}
use Rattle.std.proofs.lemmas.Option.{slice_get_within, get_or_from_slice_get}
use Rattle.gt_model.specs.declared.added.Added.{Added}
use Rattle.gt_model.specs.Verdicts.{same_name}
use Rattle.gt_stage.specs.Staging.{own_record}
use Rattle.gt_verify.specs.Checks.{record_name, names_of}

-- a record is staged under a name where the stage has one of that name
pub is_staged-own : (as' : List Added) (q : List ℕ) → is_some (own_record as' q) ≡ list_any (λ a. same_name a.name q) as'
is_staged-own [] q = refl
is_staged-own (a ∷ as') q = by (same_name q a.name) (is_staged-own as' q) ∙ ap (λ (b : Bool). b || list_any (λ x. same_name x.name q) as') (nat_list_eq_equiv.symm q a.name)
  where
    by : (b : Bool) → is_some (own_record as' q) ≡ list_any (λ x. same_name x.name q) as'
        → is_some (option_map (λ (x : Added). x.whole) (cond b (Some a) (find (λ x. same_name q x.name) as'))) ≡ (b || list_any (λ x. same_name x.name q) as')
    by true h = refl
    by false h = h

-- the front of a list with one element more
pub taken : {X : Type 0} (xs : List X) (i : ℕ) (x : X) → slice_get xs i ≡ Some x → take (i + 1) xs ≡ take i xs ++ x ∷ []
taken {X} xs i x at = take_more xs i x (slice_get_within xs i x at) ∙ ap (λ (y : X). take i xs ++ y ∷ []) (get_or_from_slice_get xs i x x at)

-- the names of one record more
pub names_of-taken : (as' : List Added) (i : ℕ) (name : List ℕ) → record_name as' i ≡ Some name → names_of (take (i + 1) as') ≡ names_of (take i as') ++ name ∷ []
names_of-taken as' i name at = by (slice_get as' i) refl at
  where
    same : (n : List ℕ) → Some n ≡ Some name → n ≡ name
    same n e = cc

    by : (o : Option Added) → slice_get as' i ≡ o → option_map (λ (a : Added). a.name) o ≡ Some name → names_of (take (i + 1) as') ≡ names_of (take i as') ++ name ∷ []
    by None e h = cc
    by (Some a) e h = ap names_of (taken as' i a e) ∙ map-append (λ (x : Added). x.name) (take i as') (a ∷ []) ∙ ap (λ (n : List ℕ). names_of (take i as') ++ n ∷ []) (same a.name h)

-- ---- what a loop notes

-- what F makes of one element more goes to the end
pub noted : {X A : Type 0} (F : List X → List A) → ((xs ys : List X) → F (xs ++ ys) ≡ F xs ++ F ys) → (init old new : List A) (done more : List X) (x : X) → more ≡ done ++ x ∷ [] → old ≡ init ++ F done → new ≡ old ++ F (x ∷ []) → new ≡ init ++ F more
noted {X} {A} F append init old new done more x is was made =
    made ∙ ap (λ (ys : List A). ys ++ F (x ∷ [])) was ∙ append_assoc init (F done) (F (x ∷ [])) ∙ ap (λ (ys : List A). init ++ ys) (sym (append done (x ∷ [])) ∙ ap F (sym is))

pub taken_item : {X : Type 0} (xs : List X) (i : ℕ) (x : X) → i < length xs → x ≡ get_or xs i x → take (i + 1) xs ≡ take i xs ++ x ∷ []
taken_item {X} xs i x within is = take_more xs i x within ∙ ap (λ (y : X). take i xs ++ y ∷ []) (sym is)

-- ---- look-ups

pub copied_some : {X : Type 0} (o : Option (Bor X)) → is_some o ≡ is_some (option_copied o)
copied_some None = refl
copied_some (Some x) = refl

pub found_staged : (o : Option (Bor (List ℕ))) (as' : List Added) (q : List ℕ) (b : Bool) → option_copied o ≡ own_record as' q → b ≡ is_some o → b ≡ list_any (λ a. same_name a.name q) as'
found_staged o as' q b is said = said ∙ copied_some o ∙ ap is_some is ∙ is_staged-own as' q
