-- Ascending lists of keys.
use Rattle.std.proofs.Common.{◌≡◌, ℕ, Bool, true, false, cond, ◌&&◌, T, is_some, List, [], ◌∷◌, Option, Some, None, refl, sym, ap, ◌∙◌, subst, filter, find as list_find, map as list_map}
use Rattle.std.specs.Option.{option_map}
use Rattle.std.specs.Ordering.{eq_by_cmp, is_eq, is_lt}
use Rattle.std.specs.declared.cmp.Ordering.{Ordering}
use Rattle.std.specs.declared.cmp.Ordering.TheVariants.{Less, Equal, Greater}
use Rattle.std.specs.Cmp.{eq_by_cmp_equiv}
use Rattle.std.specs.Cmp.Lexicographic.{nat_list_cmp_total}
use Rattle.std.specs.List.{list_any}
use Rattle.std.specs.List.Sorted.{IsStrictlySortedBy}
use Rattle.std.specs.FinMap as map
use Rattle.std.specs.FinMap.{FinMap, find, is_sorted, get-entries, entries_sorted, from_entries, contains_key-keys}
use Rattle.std.specs.FinMap.Entries.{below_all, same_entries, is_sorted-where_key, find-where_key}
use Rattle.gt_model.specs.Contents.{key_cmp}
use Rattle.gt_versions.proofs.Keys.{key_cmp-IsAntisymmetric, flip, entries_of, at_key, get_key}

-- the keys alone
abbrev bare : {X : Type 0} → List (List ℕ × X) → List (List ℕ × ℕ)
bare [] = []
bare (e ∷ es) = (e.0, 0) ∷ bare es

module _ {X : Type 0} where
  below-bare : (x : List ℕ) (es : List (List ℕ × X)) → below_all key_cmp x (bare es) ≡ below_all key_cmp x es
  below-bare x [] = refl
  below-bare x (e ∷ es) = ap (λ b. is_lt (key_cmp x e.0) && b) (below-bare x es)

  sorted-bare : (es : List (List ℕ × X)) → is_sorted key_cmp (bare es) ≡ is_sorted key_cmp es
  sorted-bare [] = refl
  sorted-bare (e ∷ es) = ap (λ b. b && is_sorted key_cmp (bare es)) (below-bare e.0 es) ∙ ap (λ b. below_all key_cmp e.0 es && b) (sorted-bare es)

  find-bare : (es : List (List ℕ × X)) (q : List ℕ) → find key_cmp q (bare es) ≡ cond (is_some (find key_cmp q es)) (Some 0) None
  find-bare [] q = refl
  find-bare (e ∷ es) q = by (eq_by_cmp key_cmp q e.0) (find-bare es q)
    where
      by : (b : Bool) → find key_cmp q (bare es) ≡ cond (is_some (find key_cmp q es)) (Some 0) None
          → cond b (Some 0) (find key_cmp q (bare es)) ≡ cond (is_some (cond b (Some e.1) (find key_cmp q es))) (Some 0) None
      by true h = refl
      by false h = h

  keys-bare : (es : List (List ℕ × X)) → list_map (λ (e : List ℕ × ℕ). e.0) (bare es) ≡ list_map (λ e. e.0) es
  keys-bare [] = refl
  keys-bare (e ∷ es) = ap (λ l. e.0 ∷ l) (keys-bare es)

-- ascending entries that have the same keys list them alike
same_lists : {X Y : Type 0} (es : List (List ℕ × X)) (fs : List (List ℕ × Y)) → T (is_sorted key_cmp es) → T (is_sorted key_cmp fs) → ((q : List ℕ) → is_some (find key_cmp q es) ≡ is_some (find key_cmp q fs)) → list_map (λ e. e.0) es ≡ list_map (λ e. e.0) fs
same_lists {X} {Y} es fs g h is =
    let P : Bool → Type 0 = λ b. T b in
    sym (keys-bare es)
    ∙ ap (list_map (λ (e : List ℕ × ℕ). e.0)) (same_entries key_cmp nat_list_cmp_total key_cmp-IsAntisymmetric (bare es) (bare fs)
    (subst P (sym (sorted-bare es)) g) (subst P (sym (sorted-bare fs)) h)
    (λ q. find-bare es q ∙ ap (λ b. cond b (Some 0) None) (is q) ∙ sym (find-bare fs q)))
    ∙ keys-bare fs

pub same_keys : {X Y : Type 0} (m : FinMap key_cmp X) (n : FinMap key_cmp Y) → ((q : List ℕ) → is_some (map.get m q) ≡ is_some (map.get n q)) → map.keys m ≡ map.keys n
same_keys m n h = same_lists (map.entries m) (map.entries n) (entries_sorted m) (entries_sorted n) (λ q. sym (ap is_some (get-entries m q)) ∙ h q ∙ ap is_some (get-entries n q))

abbrev plain : List (List ℕ) → List (List ℕ × ℕ)
plain [] = []
plain (k ∷ ks) = (k, 0) ∷ plain ks

plain_keys : (ks : List (List ℕ)) → list_map (λ (e : List ℕ × ℕ). e.0) (plain ks) ≡ ks
plain_keys [] = refl
plain_keys (k ∷ ks) = ap (λ l. k ∷ l) (plain_keys ks)

-- names that ascend are a map's keys, where they are those that it has
pub names_are_keys : {Y : Type 0} (ks : List (List ℕ)) (n : FinMap key_cmp Y) → IsStrictlySortedBy key_cmp ks → ((q : List ℕ) → list_any (λ k. eq_by_cmp key_cmp q k) ks ≡ is_some (map.get n q)) → ks ≡ map.keys n
names_are_keys ks n s h =
    let P : List (List ℕ) → Type 0 = λ l. IsStrictlySortedBy key_cmp l in
    let keys : map.keys (from_entries {R = key_cmp} (plain ks)) ≡ ks = ap (list_map (λ (e : List ℕ × ℕ). e.0)) (entries_of (plain ks) (subst P (sym (plain_keys ks)) s)) ∙ plain_keys ks in
    sym keys ∙ same_keys (from_entries {R = key_cmp} (plain ks)) n (λ q. contains_key-keys (from_entries {R = key_cmp} (plain ks)) q ∙ ap (list_any (λ k. eq_by_cmp key_cmp q k)) keys ∙ h q)

-- the keys that pass a test
keys_where : {X : Type 0} (p : List ℕ → Bool) (es : List (List ℕ × X)) → list_map (λ e. e.0) (filter (λ (e : List ℕ × X). p e.0) es) ≡ filter p (list_map (λ e. e.0) es)
keys_where p [] = refl
keys_where {X} p (e ∷ es) = by (p e.0) (keys_where p es)
  where
    by : (b : Bool) → list_map (λ e. e.0) (filter (λ (e : List ℕ × X). p e.0) es) ≡ filter p (list_map (λ e. e.0) es)
        → list_map (λ e. e.0) (cond b (e ∷ filter (λ (e : List ℕ × X). p e.0) es) (filter (λ (e : List ℕ × X). p e.0) es)) ≡ cond b (e.0 ∷ filter p (list_map (λ e. e.0) es)) (filter p (list_map (λ e. e.0) es))
    by true h = ap (λ l. e.0 ∷ l) h
    by false h = h

alike : (p : List ℕ → Bool) (q x : List ℕ) → key_cmp q x ≡ Equal → p x ≡ p q
alike p q x e = ap p (sym (key_cmp-IsAntisymmetric q x e))

found_where : {X : Type 0} (m : FinMap key_cmp X) (p : List ℕ → Bool) (q : List ℕ) → find key_cmp q (filter (λ (e : List ℕ × X). p e.0) (map.entries m)) ≡ cond (p q) (map.get m q) None
found_where m p q = find-where_key key_cmp p q (alike p q) (map.entries m) ∙ ap (λ o. cond (p q) o None) (sym (get-entries m q))

-- of a map with more keys those that pass a test are the keys of another
pub listed : {X Y : Type 0} (m : FinMap key_cmp X) (p : List ℕ → Bool) (n : FinMap key_cmp Y) → ((q : List ℕ) → is_some (cond (p q) (map.get m q) None) ≡ is_some (map.get n q)) → filter p (map.keys m) ≡ map.keys n
listed {X} m p n h =
    sym (keys_where p (map.entries m))
    ∙ same_lists (filter (λ (e : List ℕ × X). p e.0) (map.entries m)) (map.entries n) (is_sorted-where_key key_cmp p (map.entries m) (entries_sorted m)) (entries_sorted n)
    (λ q. ap is_some (found_where m p q) ∙ h q ∙ ap is_some (get-entries n q))

pub listed_both : {X Y : Type 0} (m : FinMap key_cmp X) (p : List ℕ → Bool) (n : FinMap key_cmp Y) (r : List ℕ → Bool) → ((q : List ℕ) → is_some (cond (p q) (map.get m q) None) ≡ is_some (cond (r q) (map.get n q) None)) → filter p (map.keys m) ≡ filter r (map.keys n)
listed_both {X} {Y} m p n r h =
    sym (keys_where p (map.entries m))
    ∙ same_lists (filter (λ (e : List ℕ × X). p e.0) (map.entries m)) (filter (λ (e : List ℕ × Y). r e.0) (map.entries n)) (is_sorted-where_key key_cmp p (map.entries m) (entries_sorted m)) (is_sorted-where_key key_cmp r (map.entries n) (entries_sorted n))
    (λ q. ap is_some (found_where m p q) ∙ h q ∙ sym (ap is_some (found_where n r q)))
    ∙ keys_where r (map.entries n)

-- names that ascend and a tree's keys: those that pass a test are the same, where those of them in one are in the other
pub same_where : {X : Type 0} (ks : List (List ℕ)) (es : List (List ℕ × X)) (p : List ℕ → Bool) → IsStrictlySortedBy key_cmp ks → IsStrictlySortedBy key_cmp (list_map (λ e. e.0) es)
    → ((q : List ℕ) → p q ≡ true → list_any (λ k. eq_by_cmp key_cmp q k) ks ≡ is_some (at_key es q)) → filter p ks ≡ filter p (list_map (λ e. e.0) es)
same_where {X} ks es p s t h =
    ap (filter p) (sym keys) ∙ listed_both (from_entries {R = key_cmp} (plain ks)) p (from_entries {R = key_cmp} es) p (λ q. by q (p q) refl)
    ∙ ap (λ (l : List (List ℕ × X)). filter p (list_map (λ e. e.0) l)) (entries_of es t)
  where
    keys : map.keys (from_entries {R = key_cmp} (plain ks)) ≡ ks
    keys =
        let P : List (List ℕ) → Type 0 = λ l. IsStrictlySortedBy key_cmp l in
        ap (list_map (λ (e : List ℕ × ℕ). e.0)) (entries_of (plain ks) (subst P (sym (plain_keys ks)) s)) ∙ plain_keys ks

    by : (q : List ℕ) (b : Bool) → p q ≡ b → is_some (cond b (map.get (from_entries {R = key_cmp} (plain ks)) q) None) ≡ is_some (cond b (map.get (from_entries {R = key_cmp} es) q) None)
    by q true e = contains_key-keys (from_entries {R = key_cmp} (plain ks)) q ∙ ap (list_any (λ k. eq_by_cmp key_cmp q k)) keys ∙ h q e ∙ ap is_some (sym (get_key es q))
    by q false e = refl

abbrev pub first : {A : Type 0} → List A → Option A
first [] = None
first (x ∷ xs) = Some x

pub find-first : {A : Type 0} (p : A → Bool) (xs : List A) → list_find p xs ≡ first (filter p xs)
find-first p [] = refl
find-first {A} p (x ∷ xs) = by (p x) (find-first p xs)
  where
    by : (b : Bool) → list_find p xs ≡ first (filter p xs) → cond b (Some x) (list_find p xs) ≡ first (cond b (x ∷ filter p xs) (filter p xs))
    by true h = refl
    by false h = h

-- ---- each entry is found by its key

left : (a b : Bool) → T (a && b) → T a
left true b h = tt
left false b h = absurd h

right : (a b : Bool) → T (a && b) → T b
right true b h = h
right false b h = absurd h

less_apart : (o : Ordering) → T (is_lt o) → is_eq o ≡ false
less_apart Less h = refl
less_apart Equal h = absurd h
less_apart Greater h = absurd h

module _ {X : Type 0} where
  abbrev Each : (List ℕ → Option X) → List (List ℕ × X) → Type 0
  Each g [] = Unit {0}
  Each g (e ∷ es) = (g e.0 ≡ Some e.1) × Each g es

  each_more : (k : List ℕ) (v : X) (es fs : List (List ℕ × X)) → T (below_all key_cmp k fs) → Each (λ q. find key_cmp q es) fs → Each (λ q. find key_cmp q ((k, v) ∷ es)) fs
  each_more k v es [] b h = tt
  each_more k v es (f ∷ fs) b h = (
    ap (λ t. cond t (Some v) (find key_cmp f.0 es)) (flip f.0 k ∙ less_apart (key_cmp k f.0) (left (is_lt (key_cmp k f.0)) (below_all key_cmp k fs) b)) ∙ h.0,
    each_more k v es fs (right (is_lt (key_cmp k f.0)) (below_all key_cmp k fs) b) h.1,
  )

  each_found : (es : List (List ℕ × X)) → T (is_sorted key_cmp es) → Each (λ q. find key_cmp q es) es
  each_found [] h = tt
  each_found (e ∷ es) h = (
    ap (λ t. cond t (Some e.1) (find key_cmp e.0 es)) ((eq_by_cmp_equiv nat_list_cmp_total).refl e.0),
    each_more e.0 e.1 es es (left (below_all key_cmp e.0 es) (is_sorted key_cmp es) h) (each_found es (right (below_all key_cmp e.0 es) (is_sorted key_cmp es) h)),
  )

  each_get : (m : FinMap key_cmp X) (es : List (List ℕ × X)) → Each (λ q. find key_cmp q (map.entries m)) es → Each (λ q. map.get m q) es
  each_get m [] h = tt
  each_get m (e ∷ es) h = (get-entries m e.0 ∙ h.0, each_get m es h.1)

  keys_by : (P : Option X → Bool) (g : List ℕ → Option X) (es : List (List ℕ × X)) → Each g es → list_map (λ e. e.0) (filter (λ (e : List ℕ × X). P (Some e.1)) es) ≡ filter (λ q. P (g q)) (list_map (λ e. e.0) es)
  keys_by P g [] h = refl
  keys_by P g (e ∷ es) h = by (P (Some e.1)) (P (g e.0)) (sym (ap P h.0)) (keys_by P g es h.1)
    where
      by : (b c : Bool) → b ≡ c → list_map (λ e. e.0) (filter (λ (e : List ℕ × X). P (Some e.1)) es) ≡ filter (λ q. P (g q)) (list_map (λ e. e.0) es)
          → list_map (λ e. e.0) (cond b (e ∷ filter (λ (e : List ℕ × X). P (Some e.1)) es) (filter (λ (e : List ℕ × X). P (Some e.1)) es)) ≡ cond c (e.0 ∷ filter (λ q. P (g q)) (list_map (λ e. e.0) es)) (filter (λ q. P (g q)) (list_map (λ e. e.0) es))
      by true true i h = ap (λ l. e.0 ∷ l) h
      by true false i h = let no : ⊥ = cc in absurd no
      by false true i h = let no : ⊥ = cc in absurd no
      by false false i h = h

  first_key : (xs : List (List ℕ × X)) → option_map (λ (e : List ℕ × X). e.0) (first xs) ≡ first (list_map (λ e. e.0) xs)
  first_key [] = refl
  first_key (x ∷ xs) = refl

  -- the keys whose values pass a test, and the first of them
  pub keys_of_values : (P : Option X → Bool) (m : FinMap key_cmp X) → list_map (λ e. e.0) (filter (λ (e : List ℕ × X). P (Some e.1)) (map.entries m)) ≡ filter (λ q. P (map.get m q)) (map.keys m)
  keys_of_values P m = keys_by P (λ q. map.get m q) (map.entries m) (each_get m (map.entries m) (each_found (map.entries m) (entries_sorted m)))

  pub first_of_values : (P : Option X → Bool) (m : FinMap key_cmp X) → option_map (λ (e : List ℕ × X). e.0) (list_find (λ (e : List ℕ × X). P (Some e.1)) (map.entries m)) ≡ list_find (λ q. P (map.get m q)) (map.keys m)
  first_of_values P m =
      ap (option_map (λ (e : List ℕ × X). e.0)) (find-first (λ (e : List ℕ × X). P (Some e.1)) (map.entries m))
      ∙ first_key (filter (λ (e : List ℕ × X). P (Some e.1)) (map.entries m))
      ∙ ap first (keys_of_values P m)
      ∙ sym (find-first (λ q. P (map.get m q)) (map.keys m))
