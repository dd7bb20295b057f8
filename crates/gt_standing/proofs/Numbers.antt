-- Items of lists by their numbers.
use Rattle.std.proofs.Common.{◌≡◌, ◌⊎◌, inl, inr, ℕ, zero, suc, ◌+◌, ◌<◌, ◌≤◌, Bool, true, false, nat_le, List, [], ◌∷◌, ◌++◌, length, take, drop, Option, Some, None, is_some, refl, sym, arith, slice_get}
use Rattle.std.proofs.lemmas.Bool.Decides.{nat_tests}
use Rattle.std.proofs.lemmas.Option.{slice_get_read}
use Rattle.std.specs.Prelude.{Any}
use Rattle.gt_apply.proofs.Lists.{In}

module _ {A : Type 0} where
  pub in-number : (xs : List A) (i : ℕ) (v : A) → slice_get xs i ≡ Some v → In xs v
  in-number [] i v is = absurd (cc is)
  in-number (x ∷ xs) zero v is = let same : x ≡ v = cc is in inl (sym same)
  in-number (x ∷ xs) (suc i) v is = inr (in-number xs i v is)

  pub in-any : (P : A → Type 0) (xs : List A) → Any P xs → (v : A) × In xs v × P v
  in-any P xs h = (h.1, in-number xs h.0 h.1 (slice_get_read xs (length xs) h.0 h.1 refl h.2 (sym h.3)), h.4)

  pub in-range : (xs : List A) (i : ℕ) (v : A) → slice_get xs i ≡ Some v → i < length xs
  in-range [] i v is = absurd (cc is)
  in-range (x ∷ xs) zero v is = omega arith
  in-range (x ∷ xs) (suc i) v is = let l = in-range xs i v is in omega arith

  pub some-number : (xs : List A) (i : ℕ) → i < length xs → (v : A) × (slice_get xs i ≡ Some v)
  some-number [] i l = absurd (omega arith)
  some-number (x ∷ xs) zero l = (x, refl)
  some-number (x ∷ xs) (suc i) l = some-number xs i (omega arith)

  pub number-front : (xs ys : List A) (i : ℕ) (v : A) → slice_get xs i ≡ Some v → slice_get (xs ++ ys) i ≡ Some v
  number-front [] ys i v is = absurd (cc is)
  number-front (x ∷ xs) ys zero v is = is
  number-front (x ∷ xs) ys (suc i) v is = number-front xs ys i v is

  pub number-last : (xs : List A) (v : A) → slice_get (xs ++ v ∷ []) (length xs) ≡ Some v
  number-last [] v = refl
  number-last (x ∷ xs) v = number-last xs v

  -- numbers in a part of the list
  pub number-take : (n : ℕ) (xs : List A) (i : ℕ) (v : A) → slice_get (take n xs) i ≡ Some v → slice_get xs i ≡ Some v
  number-take zero xs i v is = absurd (cc is)
  number-take (suc n) [] i v is = is
  number-take (suc n) (x ∷ xs) zero v is = is
  number-take (suc n) (x ∷ xs) (suc i) v is = number-take n xs i v is

  pub number-drop : (n : ℕ) (xs : List A) (i j : ℕ) (v : A) → j ≡ n + i → slice_get (drop n xs) i ≡ Some v → slice_get xs j ≡ Some v
  number-drop zero xs i j v at is = let same : j ≡ i = omega arith in rw same is
  number-drop (suc n) [] i j v at is = absurd (cc is)
  number-drop (suc n) (x ∷ xs) i zero v at is = absurd (omega arith)
  number-drop (suc n) (x ∷ xs) i (suc j) v at is = number-drop n xs i j v (omega arith) is

  pub take-number : (n : ℕ) (xs : List A) (i : ℕ) (v : A) → i < length (take n xs) → slice_get xs i ≡ Some v → slice_get (take n xs) i ≡ Some v
  take-number zero xs i v l is = absurd (omega arith)
  take-number (suc n) [] i v l is = is
  take-number (suc n) (x ∷ xs) zero v l is = is
  take-number (suc n) (x ∷ xs) (suc i) v l is = take-number n xs i v (omega arith) is

  pub drop-number : (n : ℕ) (xs : List A) (i j : ℕ) (v : A) → j ≡ n + i → slice_get xs j ≡ Some v → slice_get (drop n xs) i ≡ Some v
  drop-number zero xs i j v at is = let same : i ≡ j = omega arith in rw same is
  drop-number (suc n) [] i j v at is = absurd (cc is)
  drop-number (suc n) (x ∷ xs) i zero v at is = absurd (omega arith)
  drop-number (suc n) (x ∷ xs) i (suc j) v at is = drop-number n xs i j v (omega arith) is

-- ---- tests

pub none_of : {A : Type 0} (o : Option A) → is_some o ≡ false → o ≡ None
none_of None h = refl
none_of (Some x) h = absurd (cc h)

pub some_of : {A : Type 0} (o : Option A) → is_some o ≡ true → (x : A) × (o ≡ Some x)
some_of None h = absurd (cc h)
some_of (Some x) h = (x, refl)

pub at_most : (a b : ℕ) → (a ≤ b) ⊎ (b < a)
at_most a b = by (nat_le a b) refl
  where
    by : (t : Bool) → nat_le a b ≡ t → (a ≤ b) ⊎ (b < a)
    by true t = let l : a ≤ b = grind (arith, nat_tests) in inl l
    by false t = let l : b < a = grind (arith, nat_tests) in inr l
