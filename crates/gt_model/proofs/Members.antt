-- Members of lists, and of what is made of lists.
use Rattle.std.proofs.Common.{◌≡◌, ◌⊎◌, inl, inr, ℕ, suc, zero, Bool, true, false, cond, is_some, IsTrue, List, [], ◌∷◌, ◌++◌, map as map_list, filter, Some, refl, sym, ◌∙◌, ap, arith, true≢false}
use Rattle.std.specs.List.{IsAmong}
use Rattle.std.specs.Ordering.{eq_by_cmp}
use Rattle.std.specs.Cmp.Lexicographic.{nat_list_cmp_total, nat_list_eq_equiv, texts_ties}
use Rattle.std.specs.FinMap as map
use Rattle.std.specs.FinMap.{get-from_entries, get-entries}
use Rattle.gt_model.specs.Contents.{key_cmp}
use Rattle.gt_model.specs.Verdicts.{ascending}
use Rattle.gt_model.proofs.Values.{same_key}

pub first : {X : Type 0} (x : X) (xs : List X) (v : X) → v ≡ x → IsAmong (x ∷ xs) v
first x xs v is = (0, (omega arith, is))

pub there : {X : Type 0} (x : X) (xs : List X) (v : X) → IsAmong xs v → IsAmong (x ∷ xs) v
there x xs v (i, (lt, is)) = (suc i, (omega (arith, lt), is))

pub cases : {X : Type 0} (x : X) (xs : List X) (v : X) → IsAmong (x ∷ xs) v → (v ≡ x) ⊎ IsAmong xs v
cases x xs v (zero, (lt, is)) = inl is
cases x xs v (suc i, (lt, is)) = inr (i, (omega (arith, lt), is))

pub none : {X : Type 0} (v : X) → IsAmong [] v → ⊥
none v (i, (lt, is)) = omega (arith, lt)

pub parts : {X : Type 0} (xs ys : List X) (v : X) → IsAmong (xs ++ ys) v → IsAmong xs v ⊎ IsAmong ys v
parts [] ys v h = inr h
parts (x ∷ xs) ys v h = by (λ h. parts xs ys v h) (cases x (xs ++ ys) v h)
  where
    more : IsAmong xs v ⊎ IsAmong ys v → IsAmong (x ∷ xs) v ⊎ IsAmong ys v
    more (inl h) = inl (there x xs v h)
    more (inr h) = inr h

    by : (IsAmong (xs ++ ys) v → IsAmong xs v ⊎ IsAmong ys v) → (v ≡ x) ⊎ IsAmong (xs ++ ys) v → IsAmong (x ∷ xs) v ⊎ IsAmong ys v
    by rest (inl is) = inl (first x xs v is)
    by rest (inr h) = more (rest h)

pub in_front : {X : Type 0} (xs ys : List X) (v : X) → IsAmong xs v → IsAmong (xs ++ ys) v
in_front [] ys v h = absurd (none v h)
in_front (x ∷ xs) ys v h = by (λ h. in_front xs ys v h) (cases x xs v h)
  where
    by : (IsAmong xs v → IsAmong (xs ++ ys) v) → (v ≡ x) ⊎ IsAmong xs v → IsAmong (x ∷ (xs ++ ys)) v
    by rest (inl is) = first x (xs ++ ys) v is
    by rest (inr h) = there x (xs ++ ys) v (rest h)

pub in_back : {X : Type 0} (xs ys : List X) (v : X) → IsAmong ys v → IsAmong (xs ++ ys) v
in_back [] ys v h = h
in_back (x ∷ xs) ys v h = there x (xs ++ ys) v (in_back xs ys v h)

pub in_filter : {X : Type 0} (p : X → Bool) (xs : List X) (v : X) → p v ≡ true → IsAmong xs v → IsAmong (filter p xs) v
in_filter p [] v passes h = absurd (none v h)
in_filter {X} p (x ∷ xs) v passes h = by (λ h. in_filter p xs v passes h) (cases x xs v h)
  where
    kept : (b : Bool) → IsAmong (filter p xs) v → IsAmong (cond b (x ∷ filter p xs) (filter p xs)) v
    kept true h = there x (filter p xs) v h
    kept false h = h

    this : (b : Bool) → p x ≡ b → v ≡ x → IsAmong (cond b (x ∷ filter p xs) (filter p xs)) v
    this true t is = first x (filter p xs) v is
    this false t is = absurd (true≢false (sym passes ∙ ap p is ∙ t))

    by : (IsAmong xs v → IsAmong (filter p xs) v) → (v ≡ x) ⊎ IsAmong xs v → IsAmong (cond (p x) (x ∷ filter p xs) (filter p xs)) v
    by rest (inl is) = this (p x) refl is
    by rest (inr h) = kept (p x) (rest h)

pub in_map : {X Y : Type 0} (f : X → Y) (xs : List X) (v : X) → IsAmong xs v → IsAmong (map_list f xs) (f v)
in_map f [] v h = absurd (none v h)
in_map f (x ∷ xs) v h = by (λ h. in_map f xs v h) (cases x xs v h)
  where
    by : (IsAmong xs v → IsAmong (map_list f xs) (f v)) → (v ≡ x) ⊎ IsAmong xs v → IsAmong (f x ∷ map_list f xs) (f v)
    by rest (inl is) = first (f x) (map_list f xs) (f v) (ap f is)
    by rest (inr h) = there (f x) (map_list f xs) (f v) (rest h)

-- a key that is found stands among the entries
pub found_key : {X : Type 0} (q : List ℕ) (es : List (List ℕ × X)) → IsTrue (is_some (map.find key_cmp q es)) → (v : X) × IsAmong es (q, v)
found_key q [] e = absurd (true≢false (sym e))
found_key {X} q (x ∷ es) e = by (λ e. found_key q es e) (eq_by_cmp key_cmp q x.0) refl e
  where
    later : (v : X) × IsAmong es (q, v) → (v : X) × IsAmong (x ∷ es) (q, v)
    later (v, h) = (v, there x es (q, v) h)

    by : (IsTrue (is_some (map.find key_cmp q es)) → (v : X) × IsAmong es (q, v)) → (b : Bool) → eq_by_cmp key_cmp q x.0 ≡ b → IsTrue (is_some (cond b (Some x.1) (map.find key_cmp q es))) → (v : X) × IsAmong (x ∷ es) (q, v)
    by rest true t e = (x.1, first x es (q, x.1) (ap (λ (k : List ℕ). (k, x.1)) (same_key q x.0 t)))
    by rest false t e = later (rest e)

-- a name among these has a pair
find_among : {X : Type 0} (f : List ℕ → X) (v : List ℕ) (xs : List (List ℕ)) → IsAmong xs v → IsTrue (is_some (map.find key_cmp v (map_list (λ name. (name, f name)) xs)))
find_among f v [] h = absurd (none v h)
find_among f v (x ∷ xs) h = by (λ h. find_among f v xs h) (eq_by_cmp key_cmp v x) refl (cases x xs v h)
  where
    by : (IsAmong xs v → IsTrue (is_some (map.find key_cmp v (map_list (λ name. (name, f name)) xs)))) → (b : Bool) → eq_by_cmp key_cmp v x ≡ b → (v ≡ x) ⊎ IsAmong xs v → IsTrue (is_some (cond b (Some (f x)) (map.find key_cmp v (map_list (λ name. (name, f name)) xs))))
    by rest true t h = refl
    by rest false t (inr h) = rest h
    by rest false t (inl is) = absurd (true≢false (sym (sym (texts_ties v v) ∙ nat_list_eq_equiv.refl v) ∙ ap (eq_by_cmp key_cmp v) is ∙ t))

pub in_ascending : (xs : List (List ℕ)) (v : List ℕ) → IsAmong xs v → IsAmong (ascending xs) v
in_ascending xs v h =
    let pairs = map_list (λ (name : List ℕ). (name, name)) xs in
    let got : IsTrue (is_some (map.find key_cmp v (map.entries (map.from_entries {R = key_cmp} pairs)))) = sym (ap is_some (sym (get-from_entries nat_list_cmp_total pairs v) ∙ get-entries (map.from_entries {R = key_cmp} pairs) v)) ∙ find_among (λ name. name) v xs h in
    let at = found_key v (map.entries (map.from_entries {R = key_cmp} pairs)) got in
    in_map (λ e. e.0) (map.entries (map.from_entries {R = key_cmp} pairs)) (v, at.0) at.1
