-- The entries of a tree as a finite map, whose keys go by the order of their bytes.
use Rattle.std.proofs.Common.{◌≡◌, ℕ, Bool, cond, List, [], ◌∷◌, Some, None, Option, refl, sym, ap, ◌∙◌, subst, true, false, ◌&&◌, T, map as list_map}
use Rattle.std.specs.Ordering.{is_lt}
use Rattle.std.specs.Cmp.{eq_by_cmp_equiv}
use Rattle.std.specs.Cmp.Lexicographic.{nat_list_cmp_total}
use Rattle.std.specs.declared.cmp.Ordering.{Ordering}
use Rattle.std.specs.declared.cmp.Ordering.TheVariants.{Less}
use Rattle.std.specs.List.{AllByRecursion}
use Rattle.std.specs.List.Sorted.{IsStrictlySortedBy}
use Rattle.std.specs.Map.{lookup}
use Rattle.std.specs.BTreeMap.{is_at}
use Rattle.std.specs.FinMap.{FinMap, entries, keys, values, is_sorted, from_sorted, get-from_sorted, entries-from_sorted, get, insert, remove, from_entries, find, get-insert, get-remove, get-from_entries, same_map, IsAntisymmetric, slice_cmp-IsAntisymmetric, nat_cmp-IsAntisymmetric}
use Rattle.std.specs.FinMap.Entries.{below_all}
use Rattle.gt_model.specs.Contents.{key_cmp}

pub key_cmp-IsAntisymmetric : IsAntisymmetric key_cmp
key_cmp-IsAntisymmetric = slice_cmp-IsAntisymmetric nat_cmp-IsAntisymmetric

both_hold : (a b : Bool) → T a → T b → T (a && b)
both_hold true b p q = q
both_hold false b p q = absurd p

module _ {X : Type 0} where
  -- maps that have the same at each key are equal
  pub same_at_each : (m n : FinMap key_cmp X) → ((q : List ℕ) → get m q ≡ get n q) → m ≡ n
  same_at_each m n h = same_map nat_list_cmp_total key_cmp-IsAntisymmetric m n h

  -- what the entries have at a key
  abbrev pub at_key : List (List ℕ × X) → List ℕ → Option X
  at_key es q = lookup (is_at (key_cmp q)) es

  find_key : (es : List (List ℕ × X)) (q : List ℕ) → find key_cmp q es ≡ at_key es q
  find_key [] q = refl
  find_key (e ∷ es) q = ap (cond (is_at (key_cmp q) e.0) (Some e.1)) (find_key es q)

  pub get_key : (es : List (List ℕ × X)) (q : List ℕ) → get (from_entries {R = key_cmp} es) q ≡ at_key es q
  get_key es q = get-from_entries nat_list_cmp_total es q ∙ find_key es q

  pub inserted : (es fs : List (List ℕ × X)) (k : List ℕ) (v : X) → ((q : List ℕ) → at_key fs q ≡ cond (is_at (key_cmp k) q) (Some v) (at_key es q)) → from_entries {R = key_cmp} fs ≡ insert (from_entries es) k v
  inserted es fs k v h = same_at_each _ _ (λ q.
      get_key fs q ∙ h q ∙ ap (λ b. cond b (Some v) (at_key es q)) ((eq_by_cmp_equiv nat_list_cmp_total).symm k q)
      ∙ sym (get-insert nat_list_cmp_total (from_entries es) k v q ∙ ap (cond (is_at (key_cmp q) k) (Some v)) (get_key es q)))

  pub removed : (es fs : List (List ℕ × X)) (k : List ℕ) → ((q : List ℕ) → at_key fs q ≡ cond (is_at (key_cmp k) q) None (at_key es q)) → from_entries {R = key_cmp} fs ≡ remove (from_entries es) k
  removed es fs k h = same_at_each _ _ (λ q.
      get_key fs q ∙ h q ∙ ap (λ b. cond b None (at_key es q)) ((eq_by_cmp_equiv nat_list_cmp_total).symm k q)
      ∙ sym (get-remove nat_list_cmp_total (from_entries es) k q ∙ ap (cond (is_at (key_cmp q) k) None) (get_key es q)))

  below : (x : List ℕ) (es : List (List ℕ × X)) → AllByRecursion (λ y. key_cmp x y ≡ Less) (list_map (λ e. e.0) es) → T (below_all key_cmp x es)
  below x [] h = tt
  below x (e ∷ es) h = let P : Ordering → Type 0 = λ o. T (is_lt o && below_all key_cmp x es) in subst P (sym h.0) (below x es h.1)

  sorted : (es : List (List ℕ × X)) → IsStrictlySortedBy key_cmp (list_map (λ e. e.0) es) → T (is_sorted key_cmp es)
  unfolding IsStrictlySortedBy
  sorted [] h = tt
  sorted (e ∷ es) h = both_hold (below_all key_cmp e.0 es) (is_sorted key_cmp es) (below e.0 es h.0) (sorted es h.1)

  -- a tree's entries are its map's, in order
  pub entries_of : (es : List (List ℕ × X)) → IsStrictlySortedBy key_cmp (list_map (λ e. e.0) es) → entries (from_entries {R = key_cmp} es) ≡ es
  entries_of es h =
      ap (λ (m : FinMap key_cmp X). entries m) (same_at_each (from_entries es) (from_sorted es) (λ q. get-from_entries nat_list_cmp_total es q ∙ sym (get-from_sorted key_cmp es q (sorted es h))))
      ∙ entries-from_sorted key_cmp es (sorted es h)

-- keys and values in order
pub keys_of : {X : Type 0} (es : List (List ℕ × X)) → IsStrictlySortedBy key_cmp (list_map (λ e. e.0) es) → list_map (λ e. e.0) es ≡ keys (from_entries {R = key_cmp} es)
keys_of es h = ap (λ es. list_map (λ e. e.0) es) (sym (entries_of es h))

pub values_of : {X : Type 0} (es : List (List ℕ × X)) → IsStrictlySortedBy key_cmp (list_map (λ e. e.0) es) → list_map (λ e. e.1) es ≡ values (from_entries {R = key_cmp} es)
values_of es h = ap (λ es. list_map (λ e. e.1) es) (sym (entries_of es h))
