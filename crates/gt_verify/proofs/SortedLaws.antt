-- Names in order: where a search ends, and the folders of a name.
use Rattle.std.proofs.Common.{◌≡◌, ℕ, suc, ◌<◌, ◌≤◌, Bool, true, false, not, ◌&&◌, ◌||◌, List, [], ◌∷◌, ◌++◌, length, take, drop, get_or, Option, Some, None, refl, sym, ap, ◌∙◌, subst, true≢false, arith, append_assoc, length-append, drop-cons, nat_eq, codes, IsTrue, inl, inr}
use Rattle.std.specs.Prelude.{IsSorted}
use Rattle.std.specs.declared.cmp.Ordering.{Ordering}
use Rattle.std.specs.declared.cmp.Ordering.TheVariants.{Less, Equal, Greater}
use Rattle.std.specs.List.{slice_get, starts_with}
use Rattle.std.specs.List.Sorted.{IsPartitionedBy, IsPartitionPoint}
use Rattle.std.specs.Ordering.{is_lt, is_gt, is_le}
use Rattle.std.specs.BTreeMap.Comparable.{le_lt_trans}
use Rattle.std.specs.Cmp.Lexicographic.{pointwise, same_text, nat_list_cmp_total, nat_list_eq_equiv}
use Rattle.std.proofs.lemmas.List.{take-append-drop, take-append-le}
use Rattle.std.proofs.lemmas.List.Sorted.{sorted_far, ranks_by}
use Rattle.std.proofs.lemmas.Map.Keys.{any_passes_from_place}
use Rattle.std.proofs.lemmas.Option.{slice_get_cases, get_or_from_slice_get}
use Rattle.std.proofs.Math.Seq.{take-append_seam}
use Rattle.gt_model.specs.Contents.{key_cmp}
use Rattle.gt_model.specs.Verdicts.{same_name, is_under, clashes}
use Rattle.gt_verify.specs.Folders.{has_name, is_from, IsPlace, IsLeast}
use Rattle.gt_verify.proofs.Prefixes.{up_to, not_below, up_to-same, up_to-both, front_up_to, rest_of, begins, begins_up_to, between}

-- ---- where a search ends

gt_le : (o : Ordering) → is_gt o ≡ false → IsTrue (is_le o)
gt_le Less e = refl
gt_le Equal e = refl
gt_le Greater e = cc

lt_less : (o : Ordering) → is_lt o ≡ true → o ≡ Less
lt_less Less e = refl
lt_less Equal e = cc
lt_less Greater e = cc

-- in a list in order, what is below a text comes first
pub parted : (ns : List (List ℕ)) (text : List ℕ) → IsSorted key_cmp ns → IsPartitionedBy (λ y. is_lt (key_cmp y text)) ns
parted ns text up i j d le lt h =
    let far : is_lt (key_cmp (get_or ns j d) (get_or ns i d)) ≡ false = sorted_far (λ x y. is_lt (key_cmp x y)) (ranks_by nat_list_cmp_total (λ (x : List ℕ). x)) ns up i j d le lt in
    ap is_lt (le_lt_trans nat_list_cmp_total (get_or ns i d) (get_or ns j d) text (gt_le (key_cmp (get_or ns i d) (get_or ns j d)) (up_to (get_or ns i d) (get_or ns j d) far)) (lt_less (key_cmp (get_or ns j d) text) h))

pub place_is : (xs ns : List (List ℕ)) (text : List ℕ) (i : ℕ) → xs ≡ ns → IsPartitionPoint (λ y. is_lt (key_cmp y text) ≡ true) (λ y. is_lt (key_cmp y text) ≡ false) xs i → IsPlace ns text i
place_is xs ns text i is point =
    subst (λ (l : List (List ℕ)). IsPlace l text i) is (record { before = λ k d h l. point.0 k d (omega arith) h; behind = λ k d h l. point.1 k d h l })

place_of : (ns : List (List ℕ)) (q : List ℕ) → has_name ns q ≡ true → (k : ℕ) × (k < length ns) × ((d : List ℕ) → get_or ns k d ≡ q)
place_of [] q h = absurd (true≢false (sym h))
place_of (n ∷ ns) q h =
    elim (same_name q n) as (λ b. same_name q n ≡ b → (b || has_name ns q) ≡ true → (k : ℕ) × (k < length (n ∷ ns)) × ((d : List ℕ) → get_or (n ∷ ns) k d ≡ q)) [
      | true ↦ λ t e. (0, (omega arith), λ d. sym (same_text q n (sym t)))
      | false ↦ λ t e. let p = place_of ns q e in (suc p.0, (let l : p.0 < length ns = p.1 in omega arith), p.2)
    ] refl h

both_true : (a b : Bool) → a ≡ true → b ≡ true → (a && b) ≡ true
both_true a b e f = ap (λ (x : Bool). x && b) e ∙ f

and_first : (a b : Bool) → (a && b) ≡ true → a ≡ true
and_first true b e = refl
and_first false b e = cc

and_second : (a b : Bool) → (a && b) ≡ true → b ≡ true
and_second true b e = e
and_second false b e = cc

-- what has no witness is false
never : (b : Bool) → (b ≡ true → ⊥) → b ≡ false
never true h = absurd (h refl)
never false h = refl

not_true : (b : Bool) → not b ≡ true → b ≡ false
not_true true e = cc
not_true false e = refl

from_has : (ns : List (List ℕ)) (text : List ℕ) (i : ℕ) (q : List ℕ) → IsPlace ns text i → has_name ns q ≡ true → is_from text q ≡ true → (k : ℕ) × (k < length ns) × (i ≤ k) × ((d : List ℕ) → get_or ns k d ≡ q)
from_has ns text i q place h f =
    let p = place_of ns q h in
    let below : p.0 < i → ⊥ = λ l. true≢false (sym (sym (ap (λ (x : List ℕ). is_lt (key_cmp x text)) (p.2 q)) ∙ place.before p.0 q l p.1) ∙ not_true (is_lt (key_cmp q text)) f) in
    (p.0, p.1, (omega arith), p.2)

pub from_least : (ns : List (List ℕ)) (text : List ℕ) (i : ℕ) → IsSorted key_cmp ns → IsPlace ns text i → IsLeast (λ q. has_name ns q && is_from text q) (slice_get ns i)
from_least ns text i up place =
    elim (slice_get_cases ns i).1 [
      | inl w ↦ subst (IsLeast (λ q. has_name ns q && is_from text q)) (sym w.2) (
        both_true (has_name ns w.0) (is_from text w.0) (any_passes_from_place (same_name w.0) ns i w.0 w.2 (nat_list_eq_equiv.refl w.0))
            (ap not (ap (λ (x : List ℕ). is_lt (key_cmp x text)) (sym w.3) ∙ place.behind i w.0 (omega arith) w.1)),
        λ q e. let k = from_has ns text i q place (and_first (has_name ns q) (is_from text q) e) (and_second (has_name ns q) (is_from text q) e) in
            let far : is_lt (key_cmp (get_or ns k.0 q) (get_or ns i q)) ≡ false = sorted_far (λ x y. is_lt (key_cmp x y)) (ranks_by nat_list_cmp_total (λ (x : List ℕ). x)) ns up i k.0 q k.2 k.1 in
            up_to w.0 q (ap (λ (x : List ℕ). is_lt (key_cmp q x)) (sym (get_or_from_slice_get ns i w.0 q w.2)) ∙ ap (λ (x : List ℕ). is_lt (key_cmp x (get_or ns i q))) (sym (k.3 q)) ∙ far),
      )
      | inr w ↦ subst (IsLeast (λ q. has_name ns q && is_from text q)) (sym w.1)
          (λ q. never (has_name ns q && is_from text q) (λ e.
          let k = from_has ns text i q place (and_first (has_name ns q) (is_from text q) e) (and_second (has_name ns q) (is_from text q) e) in
          let a : k.0 < length ns = k.1 in let b : i ≤ k.0 = k.2 in let c : length ns ≤ i = w.0 in absurd (omega arith)))
    ]

-- ---- one name

from_self : (text : List ℕ) → is_from text text ≡ true
from_self text = ap not (not_below text text (up_to-same text))

pub get_none : (ns : List (List ℕ)) (text : List ℕ) → IsLeast (λ q. has_name ns q && is_from text q) None → has_name ns text ≡ false
get_none ns text g = never (has_name ns text) (λ h. true≢false (sym (both_true (has_name ns text) (is_from text text) h (from_self text)) ∙ g text))

pub get_other : (ns : List (List ℕ)) (text x : List ℕ) → IsLeast (λ q. has_name ns q && is_from text q) (Some x) → false ≡ pointwise nat_eq x text → has_name ns text ≡ false
get_other ns text x g apart =
    never (has_name ns text) (λ h.
    let low = g.1 text (both_true (has_name ns text) (is_from text text) h (from_self text)) in
    let same : x ≡ text = up_to-both x text low (not_true (is_lt (key_cmp x text)) (and_second (has_name ns x) (is_from text x) g.0)) in
    true≢false (sym (ap (λ (y : List ℕ). pointwise nat_eq y text) same ∙ nat_list_eq_equiv.refl text) ∙ sym apart))

-- ---- names that begin with a text

begins_from : (q text : List ℕ) → starts_with nat_eq q text ≡ true → is_from text q ≡ true
begins_from q text t = ap not (not_below text q (begins_up_to q text t))

module _ (ns : List (List ℕ)) (text : List ℕ) where
  abbrev at_least : List ℕ → Bool
  at_least q = has_name ns q && is_from text q

  abbrev under_text : List ℕ → Bool
  under_text q = has_name ns q && starts_with nat_eq q text

  weaker : (q : List ℕ) → under_text q ≡ true → at_least q ≡ true
  weaker q e = both_true (has_name ns q) (is_from text q) (and_first (has_name ns q) (starts_with nat_eq q text) e) (begins_from q text (and_second (has_name ns q) (starts_with nat_eq q text) e))

  pub below_none : IsLeast at_least None → IsLeast under_text None
  below_none g = λ q. never (under_text q) (λ e. true≢false (sym (weaker q e) ∙ g q))

  pub below_here : (x : List ℕ) → IsLeast at_least (Some x) → starts_with nat_eq x text ≡ true → IsLeast under_text (Some x)
  below_here x g t = (both_true (has_name ns x) (starts_with nat_eq x text) (and_first (has_name ns x) (is_from text x) g.0) t, λ q e. g.1 q (weaker q e))

  pub below_past : (x : List ℕ) → IsLeast at_least (Some x) → starts_with nat_eq x text ≡ false → IsLeast under_text None
  below_past x g f =
      λ q. never (under_text q) (λ e.
      let r = rest_of q text (and_second (has_name ns q) (starts_with nat_eq q text) e) in
      true≢false (sym (between text x (drop (length text) q) (not_true (is_lt (key_cmp x text)) (and_second (has_name ns x) (is_from text x) g.0)) (ap (λ (y : List ℕ). is_gt (key_cmp x y)) (sym r) ∙ g.1 q (weaker q e))) ∙ f))

-- ---- the folders of a name

seam : (p r : List ℕ) (b : ℕ) → get_or (p ++ b ∷ r) (length p) 0 ≡ b
seam [] r b = refl
seam (a ∷ p) r b = seam p r b

-- a name in a folder is the folder, a slash and a rest
under_is : (name q : List ℕ) → is_under name q ≡ true → name ≡ q ++ 47 ∷ drop (length (q ++ codes "/")) name
under_is name q u = rest_of name (q ++ codes "/") u ∙ append_assoc q (codes "/") (drop (length (q ++ codes "/")) name)

slash_at : (name : List ℕ) (at : ℕ) → at < length name → get_or name at 0 ≡ 47 → is_under name (take at name) ≡ true
slash_at name at l s =
    let parts : name ≡ (take at name ++ codes "/") ++ drop (suc at) name =
    sym (take-append-drop at name) ∙ ap (λ (y : List ℕ). take at name ++ y) (drop-cons name at 0 l ∙ ap (λ (b : ℕ). b ∷ drop (suc at) name) s) ∙ sym (append_assoc (take at name) (codes "/") (drop (suc at) name)) in
    ap (λ (y : List ℕ). starts_with nat_eq y (take at name ++ codes "/")) parts ∙ begins (take at name ++ codes "/") (drop (suc at) name)

module _ (ns : List (List ℕ)) (name : List ℕ) where
  abbrev pub over_name : List ℕ → Bool
  over_name q = has_name ns q && is_under name q

  -- no folder before a place of the name is among the names
  abbrev NoneBefore : ℕ → Type 0
  NoneBefore at = (j : ℕ) → j < at → get_or name j 0 ≡ 47 → has_name ns (take j name) ≡ false

  folder_place : (q : List ℕ) → over_name q ≡ true → (get_or name (length q) 0 ≡ 47) × (length q < length name) × (take (length q) name ≡ q) × (has_name ns q ≡ true)
  folder_place q e =
      let r = drop (length (q ++ codes "/")) name in
      let is : name ≡ q ++ 47 ∷ r = under_is name q (and_second (has_name ns q) (is_under name q) e) in (
        ap (λ (n : List ℕ). get_or n (length q) 0) is ∙ seam q r 47,
        (let long : length name ≡ length (q ++ 47 ∷ r) = ap length is in omega (arith, length-append q (47 ∷ r))),
        ap (take (length q)) is ∙ take-append_seam q (47 ∷ r),
        and_first (has_name ns q) (is_under name q) e,
      )

  not_before : (at : ℕ) → NoneBefore at → (q : List ℕ) → over_name q ≡ true → length q < at → ⊥
  not_before at none q e l =
      let p = folder_place q e in
      true≢false (sym p.3 ∙ ap (has_name ns) (sym p.2) ∙ none (length q) l p.0)

  pub above_none : (at : ℕ) → length name ≤ at → NoneBefore at → IsLeast over_name None
  above_none at past none =
      λ q. never (over_name q) (λ e. let p = folder_place q e in let l : length q < length name = p.1 in not_before at none q e (omega arith))

  pub above_here : (at : ℕ) (found : List ℕ) → at < length name → NoneBefore at → (get_or name at 0 ≡ 47) × (found ≡ take at name) × (has_name ns (take at name) ≡ true) → IsLeast over_name (Some found)
  above_here at found l none w =
      let P : List ℕ → Type 0 = λ f. IsLeast over_name (Some f) in
      subst P (sym w.1) (
        both_true (has_name ns (take at name)) (is_under name (take at name)) w.2 (slash_at name at l w.0),
        λ q e.
            let p = folder_place q e in
            let later : at ≤ length q = (let n : length q < at → ⊥ = not_before at none q e in omega arith) in
            let r = drop (length (q ++ codes "/")) name in
            let front : take at name ≡ take at q = ap (take at) (under_is name q (and_second (has_name ns q) (is_under name q) e)) ∙ take-append-le at q (47 ∷ r) later in
            ap (λ (y : List ℕ). is_gt (key_cmp y q)) front ∙ ap (λ (y : List ℕ). is_gt (key_cmp (take at q) y)) (sym (take-append-drop at q)) ∙ front_up_to (take at q) (drop at q),
      )

  abbrev clashing : List ℕ → Bool
  clashing q = has_name ns q && clashes name q

  pub clash_above : (a : List ℕ) → IsLeast over_name (Some a) → IsLeast clashing (Some a)
  clash_above a g = (
    both_true (has_name ns a) (clashes name a) (and_first (has_name ns a) (is_under name a) g.0) (ap (λ (b : Bool). b || is_under a name) (and_second (has_name ns a) (is_under name a) g.0)),
    λ q e. which (is_under name q) (is_under q name) (and_second (has_name ns q) (clashes name q) e)
        (λ u. g.1 q (both_true (has_name ns q) (is_under name q) (and_first (has_name ns q) (clashes name q) e) u))
        (λ u.
        let one = under_is name a (and_second (has_name ns a) (is_under name a) g.0) in
        let two = under_is q name u in
        let r = drop (length (a ++ codes "/")) name in
        let s = drop (length (name ++ codes "/")) q in
        let all : q ≡ a ++ (47 ∷ r ++ 47 ∷ s) = two ∙ ap (λ (y : List ℕ). y ++ 47 ∷ s) one ∙ append_assoc a (47 ∷ r) (47 ∷ s) in
        ap (λ (y : List ℕ). is_gt (key_cmp a y)) all ∙ front_up_to a (47 ∷ r ++ 47 ∷ s)),
  )
    where
      which : {P : Type 0} (x y : Bool) → (x || y) ≡ true → (x ≡ true → P) → (y ≡ true → P) → P
      which true y e f g = f refl
      which false y e f g = g e

  pub clash_below : (text : List ℕ) (r : Option (List ℕ)) → text ≡ name ++ codes "/" → IsLeast over_name None → IsLeast (λ q. has_name ns q && starts_with nat_eq q text) r → IsLeast clashing r
  clash_below text r is none h =
      let P : List ℕ → Type 0 = λ t. IsLeast (λ q. has_name ns q && starts_with nat_eq q t) r in
      alike r (subst P is h)
    where
      same : (a b c : Bool) → (a && b) ≡ false → (a && c) ≡ (a && (b || c))
      same true true c e = cc
      same true false c e = refl
      same false b c e = refl

      alike : (o : Option (List ℕ)) → IsLeast (λ q. has_name ns q && is_under q name) o → IsLeast clashing o
      alike None g = λ q. sym (same (has_name ns q) (is_under name q) (is_under q name) (none q)) ∙ g q
      alike (Some k) g = (sym (same (has_name ns k) (is_under name k) (is_under k name) (none k)) ∙ g.0, λ q t. g.1 q (same (has_name ns q) (is_under name q) (is_under q name) (none q) ∙ t))
