-- Members of lists, and lists in which no number stands twice.
use Rattle.std.proofs.Common.{◌≡◌, ◌⊎◌, inl, inr, ⊎_elim, ℕ, Bool, true, false, cond, List, [], ◌∷◌, ◌++◌, nat_eq, refl, sym, ap, subst, ◌∙◌, arith, filter, flat_map, map as map_list}
use Rattle.std.proofs.lemmas.Bool.Decides.{nat_tests}
use Rattle.std.specs.List.{AllByRecursion, IsDistinct}

abbrev pub In : {A : Type 0} → List A → A → Type 0
In [] v = ⊥
In (x ∷ xs) v = (v ≡ x) ⊎ In xs v

module _ {A : Type 0} where
  pub in-append : (xs ys : List A) (v : A) → In (xs ++ ys) v → In xs v ⊎ In ys v
  in-append [] ys v h = inr h
  in-append (x ∷ xs) ys v h = ⊎_elim (λ e. inl (inl e)) (λ i. ⊎_elim (λ a. inl (inr a)) inr (in-append xs ys v i)) h

  pub in-front : (xs ys : List A) (v : A) → In xs v → In (xs ++ ys) v
  in-front [] ys v h = absurd h
  in-front (x ∷ xs) ys v h = ⊎_elim inl (λ i. inr (in-front xs ys v i)) h

  pub in-back : (xs ys : List A) (v : A) → In ys v → In (xs ++ ys) v
  in-back [] ys v h = h
  in-back (x ∷ xs) ys v h = inr (in-back xs ys v h)

  pub in-last : (xs : List A) (n v : A) → In (xs ++ n ∷ []) v → In xs v ⊎ (v ≡ n)
  in-last xs n v h = ⊎_elim inl (λ i. ⊎_elim inr absurd i) (in-append xs (n ∷ []) v h)

  pub in-filter : (p : A → Bool) (xs : List A) (v : A) → In (filter p xs) v → In xs v
  in-filter p [] v h = absurd h
  in-filter p (x ∷ xs) v h = by (p x) (in-filter p xs v) h
    where
      by : (b : Bool) → (In (filter p xs) v → In xs v) → In (cond b (x ∷ filter p xs) (filter p xs)) v → In (x ∷ xs) v
      by true more h = ⊎_elim inl (λ i. inr (more i)) h
      by false more h = inr (more h)

  -- what holds of each, by recursion and of each member
  pub each : (P : A → Type 0) (xs : List A) (v : A) → AllByRecursion P xs → In xs v → P v
  each P [] v all h = absurd h
  each P (x ∷ xs) v all h = ⊎_elim (λ e. subst P (sym e) all.0) (λ i. each P xs v all.1 i) h

  pub all_of : (P : A → Type 0) (xs : List A) → ((v : A) → In xs v → P v) → AllByRecursion P xs
  all_of P [] h = tt
  all_of P (x ∷ xs) h = (h x (inl refl), all_of P xs (λ v i. h v (inr i)))

  pub all-append : (P : A → Type 0) (xs ys : List A) → AllByRecursion P xs → AllByRecursion P ys → AllByRecursion P (xs ++ ys)
  all-append P [] ys a b = b
  all-append P (x ∷ xs) ys a b = (a.0, all-append P xs ys a.1 b)

  pub all-filter : (P : A → Type 0) (p : A → Bool) (xs : List A) → AllByRecursion P xs → AllByRecursion P (filter p xs)
  all-filter P p xs a = all_of P (filter p xs) (λ v i. each P xs v a (in-filter p xs v i))

module _ {A B : Type 0} where
  pub in-map : (f : A → B) (xs : List A) (v : B) → In (map_list f xs) v → (x : A) × In xs x × (v ≡ f x)
  in-map f [] v h = absurd h
  in-map f (x ∷ xs) v h = ⊎_elim (λ e. (x, inl refl, e)) (λ i. let r = in-map f xs v i in (r.0, inr r.1, r.2)) h

  pub to-map : (f : A → B) (xs : List A) (x : A) → In xs x → In (map_list f xs) (f x)
  to-map f [] x h = absurd h
  to-map f (y ∷ ys) x h = ⊎_elim (λ e. inl (ap f e)) (λ i. inr (to-map f ys x i)) h

  pub in-flat : (f : A → List B) (xs : List A) (v : B) → In (flat_map f xs) v → (x : A) × In xs x × In (f x) v
  in-flat f [] v h = absurd h
  in-flat f (x ∷ xs) v h = ⊎_elim (λ i. (x, inl refl, i)) (λ i. let r = in-flat f xs v i in (r.0, inr r.1, r.2)) (in-append (f x) (flat_map f xs) v h)

  pub to-flat : (f : A → List B) (xs : List A) (x : A) (v : B) → In xs x → In (f x) v → In (flat_map f xs) v
  to-flat f [] x v h i = absurd h
  to-flat f (y ∷ ys) x v h i = ⊎_elim (λ e. in-front (f y) (flat_map f ys) v (subst (λ (z : A). In (f z) v) e i)) (λ j. in-back (f y) (flat_map f ys) v (to-flat f ys x v j i)) h

-- ---- no number twice

abbrev pub Apart : List ℕ → Type 0
Apart [] = Unit {0}
Apart (x ∷ xs) = (In xs x → ⊥) × Apart xs

pub apart-front : (xs ys : List ℕ) → Apart (xs ++ ys) → Apart xs
apart-front [] ys h = tt
apart-front (x ∷ xs) ys h = (λ i. h.0 (in-front xs ys x i), apart-front xs ys h.1)

pub apart-back : (xs ys : List ℕ) → Apart (xs ++ ys) → Apart ys
apart-back [] ys h = h
apart-back (x ∷ xs) ys h = apart-back xs ys h.1

pub apart-between : (xs ys : List ℕ) → Apart (xs ++ ys) → (v : ℕ) → In xs v → In ys v → ⊥
apart-between [] ys h v i j = i
apart-between (x ∷ xs) ys h v i j = ⊎_elim (λ e. h.0 (in-back xs ys x (subst (λ (z : ℕ). In ys z) e j))) (λ k. apart-between xs ys h.1 v k j) i

pub apart-both : (xs ys : List ℕ) → Apart xs → Apart ys → ((v : ℕ) → In xs v → In ys v → ⊥) → Apart (xs ++ ys)
apart-both [] ys a b h = b
apart-both (x ∷ xs) ys a b h = (λ i. ⊎_elim a.0 (h x (inl refl)) (in-append xs ys x i), apart-both xs ys a.1 b (λ v i j. h v (inr i) j))

pub apart-filter : (p : ℕ → Bool) (xs : List ℕ) → Apart xs → Apart (filter p xs)
apart-filter p [] h = tt
apart-filter p (x ∷ xs) h = by (p x) (apart-filter p xs h.1)
  where
    by : (b : Bool) → Apart (filter p xs) → Apart (cond b (x ∷ filter p xs) (filter p xs))
    by true more = (λ i. h.0 (in-filter p xs x i), more)
    by false more = more

pub apart-last : (xs : List ℕ) (n : ℕ) → Apart xs → (In xs n → ⊥) → Apart (xs ++ n ∷ [])
apart-last xs n h new = apart-both xs (n ∷ []) h (λ i. i, tt) (λ v i j. ⊎_elim (λ e. new (subst (λ (z : ℕ). In xs z) e i)) absurd j)

apart-all : (x : ℕ) (xs : List ℕ) → (In xs x → ⊥) → AllByRecursion (λ y. nat_eq x y ≡ false) xs
apart-all x [] h = tt
apart-all x (y ∷ ys) h = (by (nat_eq x y) refl, apart-all x ys (λ i. h (inr i)))
  where
    by : (b : Bool) → nat_eq x y ≡ b → b ≡ false
    by true e = let same : x ≡ y = grind (arith, nat_tests) in absurd (h (inl same))
    by false e = refl

pub distinct-apart : (xs : List ℕ) → IsDistinct nat_eq xs → Apart xs
unfolding IsDistinct
distinct-apart [] h = tt
distinct-apart (x ∷ xs) h = (λ i. itself (nat_eq x x) refl (each (λ y. nat_eq x y ≡ false) xs x h.0 i), distinct-apart xs h.1)
  where
    itself : (b : Bool) → nat_eq x x ≡ b → b ≡ false → ⊥
    itself true e f = cc
    itself false e f = grind (arith, nat_tests)

pub apart-distinct : (xs : List ℕ) → Apart xs → IsDistinct nat_eq xs
unfolding IsDistinct
apart-distinct [] h = tt
apart-distinct (x ∷ xs) h = (apart-all x xs h.0, apart-distinct xs h.1)

-- a number is in one list alone
pub flat-one : {A : Type 0} (f : A → List ℕ) (xs : List A) → Apart (flat_map f xs) → (x y : A) (v : ℕ) → In xs x → In xs y → In (f x) v → In (f y) v → x ≡ y
flat-one f [] h x y v i j k l = absurd i
flat-one {A} f (z ∷ zs) h x y v i j k l =
    ⊎_elim
    (λ e. ⊎_elim (λ g. e ∙ sym g) (λ m. absurd (clash x y e m k l)) j)
    (λ m. ⊎_elim (λ g. absurd (clash y x g m l k)) (λ n. flat-one f zs (apart-back (f z) (flat_map f zs) h) x y v m n k l) j) i
  where
    clash : (x y : A) → x ≡ z → In zs y → In (f x) v → In (f y) v → ⊥
    clash x y e m k l = apart-between (f z) (flat_map f zs) h v (subst (λ (w : A). In (f w) v) e k) (to-flat f zs y v m l)
