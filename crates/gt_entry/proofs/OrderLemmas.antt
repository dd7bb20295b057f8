-- That each may stand after those before it says that they ascend, or that none stands twice.
use Rattle.std.proofs.Common.{◌≡◌, ℕ, ◌-◌, ◌<◌, Bool, true, false, not, ◌||◌, List, [], ◌∷◌, ◌++◌, length, map, Option, Some, refl, sym, ap, ◌∙◌, arith, length-append}
use Rattle.std.specs.Prelude.{slice_get}
use Rattle.std.specs.declared.cmp.Ordering.{Ordering}
use Rattle.std.specs.declared.cmp.Ordering.TheVariants.{Less, Equal, Greater}
use Rattle.std.specs.Ordering.{is_lt}
use Rattle.std.specs.Option.{option_map_or}
use Rattle.std.specs.Cmp.Lexicographic.{nat_list_cmp_total}
use Rattle.std.specs.List.{AllByRecursion, IsDistinct, list_any}
use Rattle.std.specs.List.Sorted.{IsStrictlySortedBy}
use Rattle.std.proofs.lemmas.Option.{slice_get-get_or}
use Rattle.std.proofs.lemmas.List.{get_or_at}
use Rattle.std.proofs.lemmas.List.Folds.{list_any-append}
use Rattle.gt_bytes.specs.Spelling.{Follows}
use Rattle.gt_model.specs.declared.update.RefUpdate.{RefUpdate}
use Rattle.gt_model.specs.Contents.{key_cmp}
use Rattle.gt_model.specs.Verdicts.{same_name}
use Rattle.gt_entry.specs.Reading.{above, is_new}

-- ---- two conditions at once

module _ {A : Type 0} (P : A → Type 0) (Q : List A → A → Type 0) (Both : List A → A → Type 0) where
  pub apart : ((front : List A) (x : A) → Both front x → P x × Q front x) → (front xs : List A) → Follows Both front xs → AllByRecursion P xs × Follows Q front xs
  apart h front [] f = (tt, tt)
  apart h front (x ∷ xs) f =
      let now = h front x f.0 in
      let rest = apart h (front ++ x ∷ []) xs f.1 in
      ((now.0, rest.0), (now.1, rest.1))

  pub joined : ((front : List A) (x : A) → P x → Q front x → Both front x) → (front xs : List A) → AllByRecursion P xs → Follows Q front xs → Follows Both front xs
  joined h front [] a f = tt
  joined h front (x ∷ xs) a f = (h front x a.0 f.0, joined h (front ++ x ∷ []) xs a.1 f.1)

-- ---- ascending

lt_less : (o : Ordering) → is_lt o ≡ true → o ≡ Less
lt_less Less e = refl
lt_less Equal e = absurd cc
lt_less Greater e = absurd cc

all_more : {A : Type 0} (P Q : A → Type 0) → ((x : A) → P x → Q x) → (xs : List A) → AllByRecursion P xs → AllByRecursion Q xs
all_more P Q h [] a = tt
all_more P Q h (x ∷ xs) a = (h x a.0, all_more P Q h xs a.1)

module _ {A : Type 0} (key : A → List ℕ) where
  abbrev pub Rises : List A → A → Type 0
  Rises before x = above key before (key x) ≡ true

  last_is : (front : List A) (y : A) → slice_get (front ++ y ∷ []) (length (front ++ y ∷ []) - 1) ≡ Some y
  last_is front y =
      let len : length (front ++ y ∷ []) - 1 ≡ length front = omega (arith, length-append front (y ∷ [])) in
      let inside : length front < length (front ++ y ∷ []) = omega (arith, length-append front (y ∷ [])) in
      ap (slice_get (front ++ y ∷ [])) len ∙ slice_get-get_or (front ++ y ∷ []) (length front) y inside ∙ ap (λ (z : A). Some z) (get_or_at front y [] y (length front) refl)

  above_last : (front : List A) (y : A) (x : List ℕ) → above key (front ++ y ∷ []) x ≡ is_lt (key_cmp (key y) x)
  above_last front y x = ap (λ (o : Option A). option_map_or (λ z. is_lt (key_cmp (key z) x)) o true) (last_is front y)

  sorted_on : (front : List A) (y : A) (xs : List A) → Follows Rises (front ++ y ∷ []) xs → IsStrictlySortedBy key_cmp (map key (y ∷ xs))
  unfolding IsStrictlySortedBy
  sorted_on front y [] f = (tt, tt)
  sorted_on front y (x ∷ xs) f =
      let less : key_cmp (key y) (key x) ≡ Less = lt_less _ (sym (above_last front y (key x)) ∙ f.0) in
      let rest = sorted_on (front ++ y ∷ []) x xs f.1 in
      ((less, all_more (λ z. key_cmp (key x) z ≡ Less) (λ z. key_cmp (key y) z ≡ Less) (λ z m. nat_list_cmp_total.trans (key y) (key x) z less m) (map key xs) rest.0), rest)

  follows_on : (front : List A) (y : A) (xs : List A) → IsStrictlySortedBy key_cmp (map key (y ∷ xs)) → Follows Rises (front ++ y ∷ []) xs
  unfolding IsStrictlySortedBy
  follows_on front y [] s = tt
  follows_on front y (x ∷ xs) s = (above_last front y (key x) ∙ ap is_lt s.0.0, follows_on (front ++ y ∷ []) x xs s.1)

  pub sorted : (xs : List A) → Follows Rises [] xs → IsStrictlySortedBy key_cmp (map key xs)
  unfolding IsStrictlySortedBy
  sorted [] f = tt
  sorted (x ∷ xs) f = sorted_on [] x xs f.1

  pub follows : (xs : List A) → IsStrictlySortedBy key_cmp (map key xs) → Follows Rises [] xs
  follows [] s = tt
  follows (x ∷ xs) s = (refl, follows_on [] x xs s)

-- ---- no reference twice

abbrev pub New : List RefUpdate → RefUpdate → Type 0
New before u = is_new before u.name ≡ true

abbrev name_of : RefUpdate → List ℕ
name_of u = u.name

both_new : (a b : Bool) → not (a || (b || false)) ≡ true → (not a ≡ true) × (b ≡ false)
both_new true true e = absurd cc
both_new true false e = absurd cc
both_new false true e = absurd cc
both_new false false e = (refl, refl)

new_both : (a b : Bool) → not a ≡ true → b ≡ false → not (a || (b || false)) ≡ true
new_both true b e f = absurd cc
new_both false true e f = absurd cc
new_both false false e f = refl

one_more : (front : List RefUpdate) (u : RefUpdate) (name : List ℕ) → is_new (front ++ u ∷ []) name ≡ not (list_any (λ w. same_name w.name name) front || (same_name u.name name || false))
one_more front u name = ap not (list_any-append (λ w. same_name w.name name) front (u ∷ []))

abbrev IsNew : List RefUpdate → List ℕ → Type 0
IsNew front name = is_new front name ≡ true

split_new : (front : List RefUpdate) (u : RefUpdate) (names : List (List ℕ)) → AllByRecursion (IsNew (front ++ u ∷ [])) names → AllByRecursion (IsNew front) names × AllByRecursion (λ name. same_name u.name name ≡ false) names
split_new front u [] a = (tt, tt)
split_new front u (n ∷ ns) a =
    let now = both_new _ _ (sym (one_more front u n) ∙ a.0) in
    let rest = split_new front u ns a.1 in
    ((now.0, rest.0), (now.1, rest.1))

join_new : (front : List RefUpdate) (u : RefUpdate) (names : List (List ℕ)) → AllByRecursion (IsNew front) names → AllByRecursion (λ name. same_name u.name name ≡ false) names → AllByRecursion (IsNew (front ++ u ∷ [])) names
join_new front u [] a b = tt
join_new front u (n ∷ ns) a b = (one_more front u n ∙ new_both _ _ a.0 b.0, join_new front u ns a.1 b.1)

distinct_on : (front us : List RefUpdate) → Follows New front us → AllByRecursion (IsNew front) (map name_of us) × IsDistinct same_name (map name_of us)
unfolding IsDistinct
distinct_on front [] f = (tt, tt)
distinct_on front (u ∷ us) f =
    let rest = distinct_on (front ++ u ∷ []) us f.1 in
    let parts = split_new front u (map name_of us) rest.0 in
    ((f.0, parts.0), (parts.1, rest.1))

new_on : (front us : List RefUpdate) → AllByRecursion (IsNew front) (map name_of us) → IsDistinct same_name (map name_of us) → Follows New front us
unfolding IsDistinct
new_on front [] a d = tt
new_on front (u ∷ us) a d = (a.0, new_on (front ++ u ∷ []) us (join_new front u (map name_of us) a.1 d.0) d.1)

all_new : (names : List (List ℕ)) → AllByRecursion (IsNew []) names
all_new [] = tt
all_new (n ∷ ns) = (refl, all_new ns)

pub distinct : (us : List RefUpdate) → Follows New [] us → IsDistinct same_name (map (λ u. u.name) us)
distinct us f = (distinct_on [] us f).1

pub fresh : (us : List RefUpdate) → IsDistinct same_name (map (λ u. u.name) us) → Follows New [] us
fresh us d = new_on [] us (all_new (map name_of us)) d
