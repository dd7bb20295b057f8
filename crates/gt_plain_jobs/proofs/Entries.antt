-- The entries of a finite map whose keys are names: what a member of them says, and that their keys rise.
use Rattle.std.proofs.Common.{◌≡◌, ◌⊎◌, inl, inr, ℕ, Bool, true, false, cond, ◌&&◌, T, List, [], ◌∷◌, map as map_list, filter, Some, refl, sym, ap, subst, ◌∙◌, true≢false}
use Rattle.std.specs.declared.cmp.Ordering.{Ordering}
use Rattle.std.specs.declared.cmp.Ordering.TheVariants.{Less, Equal, Greater}
use Rattle.std.specs.List.{IsAmong, IsDistinct, AllByRecursion}
use Rattle.std.specs.List.Sorted.{IsStrictlySortedBy}
use Rattle.std.specs.Ordering.{eq_by_cmp, is_lt}
use Rattle.std.specs.Cmp.{eq_by_cmp_equiv}
use Rattle.std.specs.Cmp.Lexicographic.{nat_list_cmp_total}
use Rattle.std.specs.FinMap as map
use Rattle.std.specs.FinMap.{entries_sorted, get-entries}
use Rattle.std.specs.FinMap.Entries.{below_all, is_sorted}
use Rattle.std.proofs.lemmas.Map.Keys.{IsDistinct-from_sorted}
use Rattle.gt_model.specs.Contents.{key_cmp}
use Rattle.gt_model.proofs.Members.{first, there, cases, none, in_map}
use Rattle.gt_model.proofs.Values.{same_key}

-- ---- members of a map's list and of a filter

pub mapped : {X Y : Type 0} (f : X → Y) (xs : List X) (v : Y) → IsAmong (map_list f xs) v → (x : X) × IsAmong xs x × (v ≡ f x)
mapped f [] v h = absurd (none v h)
mapped {X} f (x ∷ xs) v h = by (λ h. mapped f xs v h) (cases (f x) (map_list f xs) v h)
  where
    later : (y : X) × IsAmong xs y × (v ≡ f y) → (y : X) × IsAmong (x ∷ xs) y × (v ≡ f y)
    later (y, h, is) = (y, there x xs y h, is)

    by : (IsAmong (map_list f xs) v → (y : X) × IsAmong xs y × (v ≡ f y)) → (v ≡ f x) ⊎ IsAmong (map_list f xs) v → (y : X) × IsAmong (x ∷ xs) y × (v ≡ f y)
    by rest (inl is) = (x, first x xs x refl, is)
    by rest (inr h) = later (rest h)

pub filtered : {X : Type 0} (p : X → Bool) (xs : List X) (v : X) → IsAmong (filter p xs) v → IsAmong xs v × (p v ≡ true)
filtered p [] v h = absurd (none v h)
filtered p (x ∷ xs) v h = by (λ h. filtered p xs v h) (p x) refl h
  where
    later : IsAmong xs v × (p v ≡ true) → IsAmong (x ∷ xs) v × (p v ≡ true)
    later (h, is) = (there x xs v h, is)

    kept : (IsAmong (filter p xs) v → IsAmong xs v × (p v ≡ true)) → p x ≡ true → (v ≡ x) ⊎ IsAmong (filter p xs) v → IsAmong (x ∷ xs) v × (p v ≡ true)
    kept rest t (inl is) = (first x xs v is, ap p is ∙ t)
    kept rest t (inr h) = later (rest h)

    by : (IsAmong (filter p xs) v → IsAmong xs v × (p v ≡ true)) → (b : Bool) → p x ≡ b → IsAmong (cond b (x ∷ filter p xs) (filter p xs)) v → IsAmong (x ∷ xs) v × (p v ≡ true)
    by rest true t h = kept rest t (cases x (filter p xs) v h)
    by rest false t h = later (rest h)

-- what holds of each member
pub each : {X : Type 0} (P : X → Type 0) (xs : List X) (v : X) → AllByRecursion P xs → IsAmong xs v → P v
each P [] v all h = absurd (none v h)
each {X} P (x ∷ xs) v all h = by (λ h. each P xs v all.1 h) (cases x xs v h)
  where
    by : (IsAmong xs v → P v) → (v ≡ x) ⊎ IsAmong xs v → P v
    by rest (inl is) = subst P (sym is) all.0
    by rest (inr h) = rest h

-- ---- keys that rise

less : (o : Ordering) → T (is_lt o) → o ≡ Less
less Less is = refl
less Equal is = absurd is
less Greater is = absurd is

both_of : (a b : Bool) → T (a && b) → T a × T b
both_of true b is = (tt, is)
both_of false b is = absurd is

rises : {X : Type 0} (k : List ℕ) (es : List (List ℕ × X)) → T (below_all key_cmp k es) → AllByRecursion (λ y. key_cmp k y ≡ Less) (map_list (λ e. e.0) es)
rises k [] below = tt
rises k (e ∷ es) below = let parts = both_of _ _ below in (less (key_cmp k e.0) parts.0, rises k es parts.1)

ascends : {X : Type 0} (es : List (List ℕ × X)) → T (is_sorted key_cmp es) → IsStrictlySortedBy key_cmp (map_list (λ e. e.0) es)
unfolding IsStrictlySortedBy
ascends [] is = tt
ascends (e ∷ es) is = let parts = both_of _ _ is in (rises e.0 es parts.0, ascends es parts.1)

pub keys_rise : {X : Type 0} (m : map.FinMap key_cmp X) → IsStrictlySortedBy key_cmp (map.keys m)
keys_rise m = ascends (map.entries m) (entries_sorted m)

-- ---- what is found under a key

-- an entry is found by its key
find_entry : {X : Type 0} (es : List (List ℕ × X)) (k : List ℕ) (v : X) → IsDistinct (eq_by_cmp key_cmp) (map_list (λ e. e.0) es) → IsAmong es (k, v) → map.find key_cmp k es ≡ Some v
unfolding IsDistinct
find_entry [] k v apart h = absurd (none (k, v) h)
find_entry {X} (e ∷ es) k v apart h = by (λ h. find_entry es k v apart.1 h) (cases e es (k, v) h)
  where
    itself : eq_by_cmp key_cmp k k ≡ true
    itself = (eq_by_cmp_equiv nat_list_cmp_total).refl k

    this : (b : Bool) → eq_by_cmp key_cmp k e.0 ≡ b → (k, v) ≡ e → cond b (Some e.1) (map.find key_cmp k es) ≡ Some v
    this true t is = ap (λ (p : List ℕ × X). Some p.1) (sym is)
    this false t is = absurd (true≢false (sym itself ∙ ap (λ (p : List ℕ × X). eq_by_cmp key_cmp k p.0) is ∙ t))

    other : IsAmong es (k, v) → eq_by_cmp key_cmp k e.0 ≡ false
    other h = (eq_by_cmp_equiv nat_list_cmp_total).symm k e.0 ∙ each (λ y. eq_by_cmp key_cmp e.0 y ≡ false) (map_list (λ e. e.0) es) k apart.0 (in_map (λ e. e.0) es (k, v) h)

    by : (IsAmong es (k, v) → map.find key_cmp k es ≡ Some v) → ((k, v) ≡ e) ⊎ IsAmong es (k, v) → cond (eq_by_cmp key_cmp k e.0) (Some e.1) (map.find key_cmp k es) ≡ Some v
    by rest (inl is) = this (eq_by_cmp key_cmp k e.0) refl is
    by rest (inr h) = ap (λ b. cond b (Some e.1) (map.find key_cmp k es)) (other h) ∙ rest h

-- what is found stands among the entries
entry_of : {X : Type 0} (es : List (List ℕ × X)) (k : List ℕ) (v : X) → map.find key_cmp k es ≡ Some v → IsAmong es (k, v)
entry_of [] k v e = cc
entry_of {X} (x ∷ es) k v e = by (λ e. entry_of es k v e) (eq_by_cmp key_cmp k x.0) refl e
  where
    same : Some x.1 ≡ Some v → v ≡ x.1
    same e = cc

    by : (map.find key_cmp k es ≡ Some v → IsAmong es (k, v)) → (b : Bool) → eq_by_cmp key_cmp k x.0 ≡ b → cond b (Some x.1) (map.find key_cmp k es) ≡ Some v → IsAmong (x ∷ es) (k, v)
    by rest true t e = first x es (k, v) (λ i. (same_key k x.0 t i, same e i))
    by rest false t e = there x es (k, v) (rest e)

pub got : {X : Type 0} (m : map.FinMap key_cmp X) (k : List ℕ) (v : X) → IsAmong (map.entries m) (k, v) → map.get m k ≡ Some v
got m k v h = get-entries m k ∙ find_entry (map.entries m) k v (IsDistinct-from_sorted key_cmp (map.keys m) (keys_rise m)) h

pub listed : {X : Type 0} (m : map.FinMap key_cmp X) (k : List ℕ) (v : X) → map.get m k ≡ Some v → IsAmong (map.entries m) (k, v)
listed m k v e = entry_of (map.entries m) k v (sym (get-entries m k) ∙ e)
