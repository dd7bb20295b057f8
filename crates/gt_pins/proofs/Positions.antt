-- What live transactions read.
use Rattle.std.proofs.Common.{◌≡◌, ℕ, ◌≤◌, Bool, true, false, not, cond, nat_eq, find, List, [], ◌∷◌, ◌++◌, Some, Result, Ok, Err, IfOk, OnErr, sym, subst, arith}
use Rattle.gt_pins.specs.Live.{ReadIn}
use Rattle.gt_model.specs.Machine.{Pin, released}

module _ (floor : ℕ) where
  -- what is left of the live transactions reads what they read
  pub reads_released : (n : ℕ) (pins : List Pin) (number : ℕ) → ReadIn floor n pins → ReadIn floor n (released pins number)
  reads_released n [] number read = tt
  reads_released n (p ∷ ps) number read = by (not (nat_eq p.number number)) (reads_released n ps number read.1)
    where
      by : (b : Bool) → ReadIn floor n (released ps number) → ReadIn floor n (cond b (p ∷ released ps number) (released ps number))
      by true rest = (read.0, rest)
      by false rest = rest

  pub reads_begun : (n : ℕ) (pins : List Pin) (p : Pin) → ReadIn floor n pins → floor ≤ p.position → p.position ≤ n → ReadIn floor n (pins ++ p ∷ [])
  reads_begun n [] p read ge le = ((ge, le), tt)
  reads_begun n (x ∷ xs) p read ge le = (read.0, reads_begun n xs p read.1 ge le)

  -- a transaction that is looked up reads between all
  pub reads_found : (n : ℕ) (f : Pin → Bool) (pins : List Pin) (p : Pin) → ReadIn floor n pins → find f pins ≡ Some p → (floor ≤ p.position) × (p.position ≤ n)
  reads_found n f [] p read is = absurd (cc (is))
  reads_found n f (x ∷ xs) p read is = by (f x) is (reads_found n f xs p read.1)
    where
      by : (b : Bool) → cond b (Some x) (find f xs) ≡ Some p → (find f xs ≡ Some p → (floor ≤ p.position) × (p.position ≤ n)) → (floor ≤ p.position) × (p.position ≤ n)
      by true is more = let same : x ≡ p = cc in subst (λ (q : Pin). (floor ≤ q.position) × (q.position ≤ n)) same read.0
      by false is more = more is

  -- one that reads between all may begin, or it doesn't
  pub reads_begun_or_not : {T E : Type 0} (n : ℕ) (r : Result T E) (old new : List Pin) (p : Pin) → IfOk r (λ x. new ≡ old ++ p ∷ []) → OnErr r (new ≡ old) → floor ≤ p.position → p.position ≤ n → ReadIn floor n old → ReadIn floor n new
  reads_begun_or_not n (Ok done) old new p ok err ge le read = subst (λ (pins : List Pin). ReadIn floor n pins) (sym ok) (reads_begun n old p read ge le)
  reads_begun_or_not n (Err e) old new p ok err ge le read = subst (λ (pins : List Pin). ReadIn floor n pins) (sym err) read

-- between wider positions too
pub reads_later : (floor other m n : ℕ) (pins : List Pin) → other ≤ floor → m ≤ n → ReadIn floor m pins → ReadIn other n pins
reads_later floor other m n [] low le read = tt
reads_later floor other m n (p ∷ ps) low le read = ((omega (arith, low, read.0.0), omega (arith, le, read.0.1)), reads_later floor other m n ps low le read.1)
