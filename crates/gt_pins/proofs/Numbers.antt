-- The numbers of live transactions.
use Rattle.std.proofs.Common.{◌≡◌, ◌≢◌, ℕ, zero, suc, ◌+◌, ◌≤◌, Bool, true, false, cond, not, ◌||◌, nat_eq, nat_lt, List, [], ◌∷◌, length, refl, sym, ◌∙◌, ap, arith}
use Rattle.std.proofs.lemmas.Bool.Decides.{nat_tests}
use Rattle.gt_model.specs.Machine.{Pin, is_live, free_from, free_number, released}

-- ---- ended transactions

pub released_gone : (pins : List Pin) (n : ℕ) → is_live (released pins n) n ≡ false
released_gone [] n = refl
released_gone (p ∷ ps) n = by (nat_eq p.number n) refl (released_gone ps n)
  where
    by : (b : Bool) → nat_eq p.number n ≡ b → is_live (released ps n) n ≡ false → is_live (cond (not b) (p ∷ released ps n) (released ps n)) n ≡ false
    by true is rest = rest
    by false is rest = ap (λ (b : Bool). b || is_live (released ps n) n) is ∙ rest

not_both : (k n m : ℕ) → nat_eq k n ≡ true → n ≢ m → nat_eq k m ≡ false
not_both k n m is differ = by (nat_eq k m) refl
  where
    by : (b : Bool) → nat_eq k m ≡ b → b ≡ false
    by false other = refl
    by true other =
        let one : k ≡ n = grind (arith, nat_tests) in
        let two : k ≡ m = grind (arith, nat_tests) in
        absurd (differ (sym one ∙ two))

pub others_stay : (pins : List Pin) (n m : ℕ) → n ≢ m → is_live (released pins n) m ≡ is_live pins m
others_stay [] n m differ = refl
others_stay (p ∷ ps) n m differ = by (nat_eq p.number n) refl (others_stay ps n m differ)
  where
    by : (b : Bool) → nat_eq p.number n ≡ b → is_live (released ps n) m ≡ is_live ps m → is_live (cond (not b) (p ∷ released ps n) (released ps n)) m ≡ is_live (p ∷ ps) m
    by true is rest =
        let other : nat_eq p.number m ≡ false = not_both p.number n m is differ in
        rest ∙ sym (ap (λ (b : Bool). b || is_live ps m) other)
    by false is rest = ap (λ (b : Bool). nat_eq p.number m || b) rest

pub released_most : (pins : List Pin) (n : ℕ) → length (released pins n) ≤ length pins
released_most [] n = omega arith
released_most (p ∷ ps) n = by (nat_eq p.number n) (released_most ps n)
  where
    by : (b : Bool) → length (released ps n) ≤ length ps → length (cond (not b) (p ∷ released ps n) (released ps n)) ≤ suc (length ps)
    by true rest = omega arith
    by false rest = omega arith

-- one that is live goes
pub released_fewer : (pins : List Pin) (n : ℕ) → is_live pins n ≡ true → length (released pins n) + 1 ≤ length pins
released_fewer [] n live = absurd (cc (live))
released_fewer (p ∷ ps) n live = by (nat_eq p.number n) live (released_fewer ps n)
  where
    by : (b : Bool) → (b || is_live ps n) ≡ true → (is_live ps n ≡ true → length (released ps n) + 1 ≤ length ps) → length (cond (not b) (p ∷ released ps n) (released ps n)) + 1 ≤ suc (length ps)
    by true is rest = omega (arith, released_most ps n)
    by false is rest = omega (arith, rest is)

-- ---- free numbers

-- how many have a lesser number, and how many this one
below : List Pin → ℕ → ℕ
below [] n = 0
below (p ∷ ps) n = cond (nat_lt p.number n) 1 0 + below ps n

same : List Pin → ℕ → ℕ
same [] n = 0
same (p ∷ ps) n = cond (nat_eq p.number n) 1 0 + same ps n

below_next : (pins : List Pin) (n : ℕ) → below pins (n + 1) ≡ below pins n + same pins n
unfolding below same
below_next [] n = refl
below_next (p ∷ ps) n =
    let here : cond (nat_lt p.number (n + 1)) 1 0 ≡ cond (nat_lt p.number n) 1 0 + cond (nat_eq p.number n) 1 0 = grind (arith, nat_tests) in
    omega (arith, here, below_next ps n)

all_counted : (pins : List Pin) (n : ℕ) → below pins n + same pins n ≤ length pins
unfolding below same
all_counted [] n = omega arith
all_counted (p ∷ ps) n =
    let here : cond (nat_lt p.number n) 1 0 + cond (nat_eq p.number n) 1 0 ≤ 1 = grind (arith, nat_tests) in
    omega (arith, here, all_counted ps n)

live_counts : (pins : List Pin) (n : ℕ) → is_live pins n ≡ true → 1 ≤ same pins n
unfolding same
live_counts [] n live = absurd (cc (live))
live_counts (p ∷ ps) n live = by (nat_eq p.number n) live (live_counts ps n)
  where
    by : (b : Bool) → (b || is_live ps n) ≡ true → (is_live ps n ≡ true → 1 ≤ same ps n) → 1 ≤ cond b 1 0 + same ps n
    by true is rest = omega arith
    by false is rest = omega (arith, rest is)

none_lives : (pins : List Pin) (n : ℕ) → same pins n ≡ 0 → is_live pins n ≡ false
unfolding same
none_lives [] n none = refl
none_lives (p ∷ ps) n none = by (nat_eq p.number n) none (none_lives ps n)
  where
    by : (b : Bool) → cond b 1 0 + same ps n ≡ 0 → (same ps n ≡ 0 → is_live ps n ≡ false) → (b || is_live ps n) ≡ false
    by true is rest = absurd (omega (arith, is))
    by false is rest = rest (omega (arith, is))

free_is : (pins : List Pin) (n more : ℕ) → n + more ≡ length pins → n ≤ below pins n → is_live pins (free_from pins n more) ≡ false
free_is pins n zero all low = none_lives pins n (omega (arith, all, low, all_counted pins n))
free_is pins n (suc more) all low = by (is_live pins n) refl (free_is pins (n + 1) more (omega (arith, all)))
  where
    by : (b : Bool) → is_live pins n ≡ b → (n + 1 ≤ below pins (n + 1) → is_live pins (free_from pins (n + 1) more) ≡ false) → is_live pins (cond b (free_from pins (n + 1) more) n) ≡ false
    by true is next = next (omega (arith, low, below_next pins n, live_counts pins n is))
    by false is next = is

pub free_number_free : (pins : List Pin) → is_live pins (free_number pins) ≡ false
free_number_free pins = free_is pins 0 (length pins) (omega arith) (omega arith)
