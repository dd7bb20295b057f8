-- The least text that passes a test.
use Rattle.std.proofs.Common.{◌≡◌, ℕ, Bool, true, false, cond, ◌&&◌, ◌||◌, is_some, List, [], ◌∷◌, find, Option, Some, None, refl, sym, ap, ◌∙◌, true≢false}
use Rattle.std.specs.Prelude.{T}
use Rattle.std.specs.declared.cmp.Ordering.{Ordering}
use Rattle.std.specs.declared.cmp.Ordering.TheVariants.{Less, Equal, Greater}
use Rattle.std.specs.Ordering.{eq_by_cmp, is_lt, is_gt, is_le, is_eq}
use Rattle.std.specs.Cmp.{tied_itself}
use Rattle.std.specs.Cmp.Lexicographic.{nat_list_cmp_total}
use Rattle.std.specs.FinMap as map
use Rattle.std.specs.FinMap.{FinMap, entries, entries_sorted, contains_key-keys}
use Rattle.std.specs.FinMap.Entries.{below_all, is_sorted}
use Rattle.gt_model.specs.Contents.{key_cmp}
use Rattle.gt_verify.specs.Folders.{IsLeast, least_of}
use Rattle.gt_verify.proofs.InOrder.{has, keys_in, key_cmp-same}
use Rattle.gt_verify.proofs.Prefixes.{up_to, not_below, up_to-trans, up_to-both, up_to-same}

pub least_alike : (p s : List ℕ → Bool) (r : Option (List ℕ)) → ((q : List ℕ) → p q ≡ s q) → IsLeast p r → IsLeast s r
least_alike p s None is h = λ q. sym (is q) ∙ h q
least_alike p s (Some k) is h = (sym (is k) ∙ h.0, λ q t. h.1 q (is q ∙ t))

pub least_one : (p : List ℕ → Bool) (r s : Option (List ℕ)) → IsLeast p r → IsLeast p s → r ≡ s
least_one p None None g h = refl
least_one p None (Some k) g h = absurd (true≢false (sym h.0 ∙ g k))
least_one p (Some k) None g h = absurd (true≢false (sym g.0 ∙ h k))
least_one p (Some k) (Some l) g h = ap Some (up_to-both k l (g.1 l h.0) (not_below l k (h.1 k g.0)))

or_none : (a b : Bool) → a ≡ false → b ≡ false → (a || b) ≡ false
or_none true b e h = cc
or_none false b e h = h

or_right : (a : Bool) → (a || true) ≡ true
or_right true = refl
or_right false = refl

either : {P : Type 0} (a b : Bool) → (a || b) ≡ true → (a ≡ true → P) → (b ≡ true → P) → P
either true b e f g = f refl
either false b e f g = g e

le_not_gt : (o : Ordering) → is_le o ≡ true → is_gt o ≡ false
le_not_gt Less e = refl
le_not_gt Equal e = refl
le_not_gt Greater e = cc

gt_not_lt : (o : Ordering) → is_le o ≡ false → is_lt o ≡ false
gt_not_lt Less e = cc
gt_not_lt Equal e = cc
gt_not_lt Greater e = refl

-- the least that passes one of two tests
pub least_either : (p s : List ℕ → Bool) (r t : Option (List ℕ)) → IsLeast p r → IsLeast s t → IsLeast (λ q. p q || s q) (least_of r t)
least_either p s None None g h = λ q. or_none (p q) (s q) (g q) (h q)
least_either p s None (Some y) g h = (ap (λ (b : Bool). b || s y) (g y) ∙ h.0, λ q e. h.1 q (sym (ap (λ (b : Bool). b || s q) (g q)) ∙ e))
least_either p s (Some x) None g h =
    (ap (λ (b : Bool). b || s x) g.0, λ q e. either (p q) (s q) e (g.1 q) (λ k. absurd (true≢false (sym k ∙ h q))))
least_either p s (Some x) (Some y) g h =
    elim (is_le (key_cmp x y)) as (λ b. is_le (key_cmp x y) ≡ b → IsLeast (λ q. p q || s q) (cond b (Some x) (Some y))) [
      | true ↦ λ e. (ap (λ (b : Bool). b || s x) g.0, λ q k. either (p q) (s q) k (g.1 q) (λ l. up_to-trans x y q (le_not_gt (key_cmp x y) e) (h.1 q l)))
      | false ↦ λ e. (ap (λ (b : Bool). p y || b) h.0 ∙ or_right (p y), λ q k. either (p q) (s q) k (λ l. up_to-trans y x q (up_to y x (gt_not_lt (key_cmp x y) e)) (g.1 q l)) (h.1 q))
    ] refl

-- ---- the keys of a map

first : (a b : Bool) → T (a && b) → T a
first true b p = tt
first false b p = p

second : (a b : Bool) → T (a && b) → T b
second true b p = p
second false b p = absurd p

tied : (x y : List ℕ) → eq_by_cmp key_cmp x y ≡ true → x ≡ y
tied x y t = key_cmp-same x y (equal (key_cmp x y) t)
  where
    equal : (o : Ordering) → is_eq o ≡ true → o ≡ Equal
    equal Less e = cc
    equal Equal e = refl
    equal Greater e = cc

lt_not_gt : (o : Ordering) → T (is_lt o) → is_gt o ≡ false
lt_not_gt Less p = refl
lt_not_gt Equal p = absurd p
lt_not_gt Greater p = absurd p

below_has : {X : Type 0} (k q : List ℕ) (es : List (List ℕ × X)) → T (below_all key_cmp k es) → has q (keys_in es) ≡ true → is_gt (key_cmp k q) ≡ false
below_has k q [] b h = cc
below_has k q (e ∷ es) b h =
    either (eq_by_cmp key_cmp q e.0) (has q (keys_in es)) h
    (λ t. ap (λ (x : List ℕ). is_gt (key_cmp k x)) (tied q e.0 t) ∙ lt_not_gt (key_cmp k e.0) (first _ _ b))
    (λ t. below_has k q es (second _ _ b) t)

and_true : {P : Type 0} (a b : Bool) → (a && b) ≡ true → (a ≡ true → b ≡ true → P) → P
and_true true b e f = f refl e
and_true false b e f = cc

miss_head : (a b c : Bool) → (a ≡ true → c ≡ false) → (b && c) ≡ ((a || b) && c)
miss_head true true c h = refl
miss_head true false c h = sym (h refl)
miss_head false b c h = refl

find_sorted : {X : Type 0} (p : List ℕ → Bool) (es : List (List ℕ × X)) → T (is_sorted key_cmp es) → IsLeast (λ q. has q (keys_in es) && p q) (find p (keys_in es))
find_sorted p [] h = λ q. refl
find_sorted p (e ∷ es) h =
    elim (p e.0) as (λ b. p e.0 ≡ b → IsLeast (λ q. has q (keys_in (e ∷ es)) && p q) (cond b (Some e.0) (find p (keys_in es)))) [
      | true ↦ λ t. (
        ap (λ (o : Ordering). (is_eq o || has e.0 (keys_in es)) && p e.0) (tied_itself nat_list_cmp_total e.0) ∙ t,
        λ q k. and_true (has q (keys_in (e ∷ es))) (p q) k (λ i j. either (eq_by_cmp key_cmp q e.0) (has q (keys_in es)) i
            (λ l. ap (λ (x : List ℕ). is_gt (key_cmp e.0 x)) (tied q e.0 l) ∙ up_to-same e.0)
            (λ l. below_has e.0 q es (first _ _ h) l)),
      )
      | false ↦ λ t. least_alike (λ q. has q (keys_in es) && p q) (λ q. has q (keys_in (e ∷ es)) && p q) (find p (keys_in es))
          (λ q. miss_head (eq_by_cmp key_cmp q e.0) (has q (keys_in es)) (p q) (λ l. ap p (tied q e.0 l) ∙ t))
          (find_sorted p es (second _ _ h))
    ] refl

-- the first of a map's keys that passes a test is the least
pub find_least : {X : Type 0} (m : FinMap key_cmp X) (p : List ℕ → Bool) → IsLeast (λ q. is_some (map.get m q) && p q) (find p (map.keys m))
find_least m p =
    least_alike (λ q. has q (keys_in (entries m)) && p q) (λ q. is_some (map.get m q) && p q) (find p (map.keys m))
    (λ q. ap (λ (b : Bool). b && p q) (sym (contains_key-keys m q)))
    (find_sorted p (entries m) (entries_sorted m))
