-- Names in order, each once: the keys of a map. Two such lists with the same names are equal.
use Rattle.std.proofs.Common.{◌≡◌, ℕ, Bool, true, false, cond, ◌&&◌, ◌||◌, is_some, List, [], ◌∷◌, ◌++◌, map, Option, Some, None, refl, sym, ap, ◌∙◌, subst}
use Rattle.std.specs.Prelude.{T}
use Rattle.std.specs.declared.cmp.Ordering.{Ordering}
use Rattle.std.specs.declared.cmp.Ordering.TheVariants.{Less, Equal, Greater}
use Rattle.std.specs.List.{list_any}
use Rattle.std.specs.Ordering.{eq_by_cmp, is_lt, is_eq, match_ordering}
use Rattle.std.specs.Cmp.{tied_itself}
use Rattle.std.specs.Cmp.Lexicographic.{nat_list_cmp_total}
use Rattle.std.specs.FinMap as map
use Rattle.std.specs.FinMap.{FinMap, entries, entries_sorted, get-from_entries, contains_key-keys, slice_cmp-IsAntisymmetric, nat_cmp-IsAntisymmetric}
use Rattle.std.specs.FinMap.Entries.{by_order, find, put, below_all, is_sorted, is_some-find, is_sorted-put, find-put, same_entries}
use Rattle.std.specs.BTreeSet.{insert_key}
use Rattle.std.proofs.lemmas.List.Folds.{list_any-append}
use Rattle.gt_model.specs.Contents.{key_cmp}
use Rattle.gt_model.specs.Verdicts.{ascending}

abbrev pub has : List ℕ → List (List ℕ) → Bool
has q names = list_any (eq_by_cmp key_cmp q) names

pub key_cmp-same : (x y : List ℕ) → key_cmp x y ≡ Equal → x ≡ y
key_cmp-same = slice_cmp-IsAntisymmetric nat_cmp-IsAntisymmetric

abbrev pub keys_in : {X : Type 0} → List (List ℕ × X) → List (List ℕ)
keys_in es = map (λ e. e.0) es

-- ---- lists of keys alone

abbrev units : {X : Type 0} → List (List ℕ × X) → List (List ℕ × Unit {0})
units es = map (λ e. (e.0, tt)) es

below_units : {X : Type 0} (k : List ℕ) (es : List (List ℕ × X)) → below_all key_cmp k (units es) ≡ below_all key_cmp k es
below_units k [] = refl
below_units k (e ∷ es) = ap (λ (b : Bool). is_lt (key_cmp k e.0) && b) (below_units k es)

sorted_units : {X : Type 0} (es : List (List ℕ × X)) → is_sorted key_cmp (units es) ≡ is_sorted key_cmp es
sorted_units [] = refl
sorted_units (e ∷ es) = λ i. below_units e.0 es i && sorted_units es i

keys_units : {X : Type 0} (es : List (List ℕ × X)) → keys_in (units es) ≡ keys_in es
keys_units [] = refl
keys_units (e ∷ es) = ap (λ (ks : List (List ℕ)). e.0 ∷ ks) (keys_units es)

abbrev marked : Bool → Option (Unit {0})
marked b = cond b (Some tt) None

marks : (o : Option (Unit {0})) → o ≡ marked (is_some o)
marks None = refl
marks (Some u) = refl

found_units : {X : Type 0} (q : List ℕ) (es : List (List ℕ × X)) → find key_cmp q (units es) ≡ marked (has q (keys_in es))
found_units q es = marks (find key_cmp q (units es)) ∙ ap marked (is_some-find key_cmp q (units es) ∙ ap (has q) (keys_units es))

-- lists in order that have the same keys
pub same_sorted : {X Y : Type 0} (es : List (List ℕ × X)) (fs : List (List ℕ × Y)) → T (is_sorted key_cmp es) → T (is_sorted key_cmp fs) → ((q : List ℕ) → has q (keys_in es) ≡ has q (keys_in fs)) → keys_in es ≡ keys_in fs
same_sorted es fs g h is =
    sym (keys_units es)
    ∙ ap keys_in (same_entries key_cmp nat_list_cmp_total key_cmp-same (units es) (units fs) (subst T (sym (sorted_units es)) g) (subst T (sym (sorted_units fs)) h) (λ q. found_units q es ∙ ap marked (is q) ∙ sym (found_units q fs)))
    ∙ keys_units fs

-- ---- names in order

abbrev pairs : List (List ℕ) → List (List ℕ × List ℕ)
pairs names = map (λ name. (name, name)) names

keys_pairs : (names : List (List ℕ)) → keys_in (pairs names) ≡ names
keys_pairs [] = refl
keys_pairs (n ∷ names) = ap (λ (ks : List (List ℕ)). n ∷ ks) (keys_pairs names)

abbrev as_map : List (List ℕ) → FinMap key_cmp (List ℕ)
as_map names = map.from_entries (pairs names)

-- it has the names of the list
pub has-ascending : (names : List (List ℕ)) (q : List ℕ) → has q (ascending names) ≡ has q names
has-ascending names q =
    sym (contains_key-keys (as_map names) q) ∙ ap is_some (get-from_entries nat_list_cmp_total (pairs names) q) ∙ is_some-find key_cmp q (pairs names) ∙ ap (has q) (keys_pairs names)

keys_put : {X : Type 0} (k : List ℕ) (v : X) (es : List (List ℕ × X)) → keys_in (put key_cmp k v es) ≡ insert_key key_cmp (keys_in es) k
keys_put k v [] = refl
keys_put {X} k v (e ∷ es) =
    elim (key_cmp k e.0) as (λ (o : Ordering). keys_in (by_order o ((k, v) ∷ e ∷ es) ((e.0, v) ∷ es) (e ∷ put key_cmp k v es)) ≡ match_ordering o (k ∷ e.0 ∷ keys_in es) (e.0 ∷ keys_in es) (e.0 ∷ insert_key key_cmp (keys_in es) k)) [
      | Less ↦ refl
      | Equal ↦ refl
      | Greater ↦ ap (λ (ks : List (List ℕ)). e.0 ∷ ks) (keys_put k v es)
    ]

some_or : {X : Type 0} (b : Bool) (x : X) (o : Option X) → is_some (cond b (Some x) o) ≡ (b || is_some o)
some_or true x o = refl
some_or false x o = refl

or_last : (a b : Bool) → (b || a) ≡ (a || (b || false))
or_last true true = refl
or_last true false = refl
or_last false true = refl
or_last false false = refl

-- one name more
pub ascending-more : (names : List (List ℕ)) (x : List ℕ) → ascending (names ++ x ∷ []) ≡ insert_key key_cmp (ascending names) x
ascending-more names x =
    same_sorted (entries (as_map (names ++ x ∷ []))) (put key_cmp x x (entries (as_map names))) (entries_sorted (as_map (names ++ x ∷ []))) (is_sorted-put key_cmp nat_list_cmp_total x x (entries (as_map names)) (entries_sorted (as_map names)))
    (λ q. has-ascending (names ++ x ∷ []) q ∙ list_any-append (eq_by_cmp key_cmp q) names (x ∷ []) ∙ sym (or_last (has q names) (eq_by_cmp key_cmp q x)) ∙ sym (put_has q))
    ∙ keys_put x x (entries (as_map names))
  where
    put_has : (q : List ℕ) → has q (keys_in (put key_cmp x x (entries (as_map names)))) ≡ (eq_by_cmp key_cmp q x || has q names)
    put_has q =
        sym (is_some-find key_cmp q (put key_cmp x x (entries (as_map names)))) ∙ ap is_some (find-put key_cmp nat_list_cmp_total q x x (entries (as_map names)))
        ∙ some_or (eq_by_cmp key_cmp q x) x (find key_cmp q (entries (as_map names)))
        ∙ ap (λ (b : Bool). eq_by_cmp key_cmp q x || b) (is_some-find key_cmp q (entries (as_map names)) ∙ has-ascending names q)

pub ascending-none : ascending [] ≡ []
ascending-none = none (entries (as_map [])) (λ q. sym (is_some-find key_cmp q (entries (as_map []))) ∙ is_some-find key_cmp q (entries (as_map [])) ∙ has-ascending [] q)
  where
    none : (es : List (List ℕ × List ℕ)) → ((q : List ℕ) → has q (keys_in es) ≡ false) → keys_in es ≡ []
    none [] h = refl
    none (e ∷ es) h = cc (ap (λ (o : Ordering). is_eq o || has e.0 (keys_in es)) (tied_itself nat_list_cmp_total e.0), h e.0)
