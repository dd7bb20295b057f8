-- A map by keys in byte order: what it has at a key, as a finite map and after a change at one key.
use Rattle.std.proofs.Common.{◌≡◌, ℕ, Bool, cond, List, [], ◌∷◌, Some, None, Option, refl, sym, ap, ◌∙◌, subst, true, false, ◌&&◌, T, map as list_map}
use Rattle.std.specs.Ordering.{is_lt, is_eq, eq_by_cmp}
use Rattle.std.specs.Cmp.{eq_by_cmp_equiv}
use Rattle.std.specs.Cmp.Lexicographic.{nat_list_cmp_total}
use Rattle.std.specs.declared.cmp.Ordering.{Ordering}
use Rattle.std.specs.declared.cmp.Ordering.TheVariants.{Less, Equal, Greater}
use Rattle.std.specs.List.{AllByRecursion}
use Rattle.std.specs.List.Sorted.{IsStrictlySortedBy}
use Rattle.std.specs.Map.{lookup}
use Rattle.std.specs.BTreeMap.{is_at}
use Rattle.std.specs.FinMap.{FinMap, entries, is_sorted, from_sorted, get-from_sorted, entries-from_sorted, get, insert, remove, from_entries, find, get-insert, get-remove, get-from_entries, same_map, get_tied, IsAntisymmetric, slice_cmp-IsAntisymmetric, nat_cmp-IsAntisymmetric}
use Rattle.std.specs.FinMap.Entries.{below_all}
use Rattle.gt_model.specs.Contents.{key_cmp}

pub key_cmp-IsAntisymmetric : IsAntisymmetric key_cmp
key_cmp-IsAntisymmetric = slice_cmp-IsAntisymmetric nat_cmp-IsAntisymmetric

is_eq-true : (o : Ordering) → is_eq o ≡ true → o ≡ Equal
is_eq-true Less e = cc
is_eq-true Equal e = refl
is_eq-true Greater e = cc

-- the test of keys goes both ways
pub flip : (a b : List ℕ) → eq_by_cmp key_cmp a b ≡ eq_by_cmp key_cmp b a
flip a b = (eq_by_cmp_equiv nat_list_cmp_total).symm a b

-- keys that the test calls equal have the same value
pub get-same : {X : Type 0} (m : FinMap key_cmp X) (a b : List ℕ) → eq_by_cmp key_cmp a b ≡ true → get m b ≡ get m a
get-same m a b t = get_tied nat_list_cmp_total m a b (is_eq-true (key_cmp a b) t)

both_hold : (a b : Bool) → T a → T b → T (a && b)
both_hold true b p q = q
both_hold false b p q = absurd p

module _ {X : Type 0} where
  -- what the entries have at a key
  abbrev pub at_key : List (List ℕ × X) → List ℕ → Option X
  at_key es q = lookup (is_at (key_cmp q)) es

  find_key : (es : List (List ℕ × X)) (q : List ℕ) → find key_cmp q es ≡ at_key es q
  find_key [] q = refl
  find_key (e ∷ es) q = ap (cond (is_at (key_cmp q) e.0) (Some e.1)) (find_key es q)

  pub get_key : (es : List (List ℕ × X)) (q : List ℕ) → get (from_entries {R = key_cmp} es) q ≡ at_key es q
  get_key es q = get-from_entries nat_list_cmp_total es q ∙ find_key es q

  pub at_key-same : (es : List (List ℕ × X)) (a b : List ℕ) → eq_by_cmp key_cmp a b ≡ true → at_key es b ≡ at_key es a
  at_key-same es a b t = sym (get_key es b) ∙ get-same (from_entries es) a b t ∙ get_key es a

  -- What relates the values at the key that was changed, and each value with itself, relates them at every key.
  pub spread : (es fs : List (List ℕ × X)) (k : List ℕ) (R : Option X → Option X → Type 0) → R (at_key es k) (at_key fs k) → ((s : Option X) → R s s)
      → ((x : List ℕ) → eq_by_cmp key_cmp k x ≡ false → at_key fs x ≡ at_key es x) → (x : List ℕ) → R (at_key es x) (at_key fs x)
  spread es fs k R here self others x = by_test (eq_by_cmp key_cmp k x) refl
    where
      by_test : (b : Bool) → eq_by_cmp key_cmp k x ≡ b → R (at_key es x) (at_key fs x)
      by_test true t =
          let P : Option X → Type 0 = λ s. R s (at_key fs x) in
          let Q : Option X → Type 0 = λ s. R (at_key es k) s in
          subst P (sym (at_key-same es k x t)) (subst Q (sym (at_key-same fs k x t)) here)
      by_test false t = let P : Option X → Type 0 = λ s. R (at_key es x) s in subst P (sym (others x t)) (self (at_key es x))

  pub inserted : (es fs : List (List ℕ × X)) (k : List ℕ) (v : X) → ((q : List ℕ) → at_key fs q ≡ cond (is_at (key_cmp k) q) (Some v) (at_key es q)) → from_entries {R = key_cmp} fs ≡ insert (from_entries es) k v
  inserted es fs k v h = same_map nat_list_cmp_total key_cmp-IsAntisymmetric _ _ (λ q.
      get_key fs q ∙ h q ∙ ap (λ b. cond b (Some v) (at_key es q)) ((eq_by_cmp_equiv nat_list_cmp_total).symm k q)
      ∙ sym (get-insert nat_list_cmp_total (from_entries es) k v q ∙ ap (cond (is_at (key_cmp q) k) (Some v)) (get_key es q)))

  pub removed : (es fs : List (List ℕ × X)) (k : List ℕ) → ((q : List ℕ) → at_key fs q ≡ cond (is_at (key_cmp k) q) None (at_key es q)) → from_entries {R = key_cmp} fs ≡ remove (from_entries es) k
  removed es fs k h = same_map nat_list_cmp_total key_cmp-IsAntisymmetric _ _ (λ q.
      get_key fs q ∙ h q ∙ ap (λ b. cond b None (at_key es q)) ((eq_by_cmp_equiv nat_list_cmp_total).symm k q)
      ∙ sym (get-remove nat_list_cmp_total (from_entries es) k q ∙ ap (cond (is_at (key_cmp q) k) None) (get_key es q)))

  below : (x : List ℕ) (es : List (List ℕ × X)) → AllByRecursion (λ y. key_cmp x y ≡ Less) (list_map (λ e. e.0) es) → T (below_all key_cmp x es)
  below x [] h = tt
  below x (e ∷ es) h = let P : Ordering → Type 0 = λ o. T (is_lt o && below_all key_cmp x es) in subst P (sym h.0) (below x es h.1)

  sorted : (es : List (List ℕ × X)) → IsStrictlySortedBy key_cmp (list_map (λ e. e.0) es) → T (is_sorted key_cmp es)
  unfolding IsStrictlySortedBy
  sorted [] h = tt
  sorted (e ∷ es) h = both_hold (below_all key_cmp e.0 es) (is_sorted key_cmp es) (below e.0 es h.0) (sorted es h.1)

  -- a tree's entries are its map's, in order
  pub entries_of : (es : List (List ℕ × X)) → IsStrictlySortedBy key_cmp (list_map (λ e. e.0) es) → entries (from_entries {R = key_cmp} es) ≡ es
  entries_of es h =
      ap (λ (m : FinMap key_cmp X). entries m) (same_map nat_list_cmp_total key_cmp-IsAntisymmetric (from_entries es) (from_sorted es) (λ q. get-from_entries nat_list_cmp_total es q ∙ sym (get-from_sorted key_cmp es q (sorted es h))))
      ∙ entries-from_sorted key_cmp es (sorted es h)
