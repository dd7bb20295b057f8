-- Digits behind others make no smaller number.
use Rattle.std.proofs.Common.{◌≡◌, ℕ, suc, length, get_or, drop, drop-cons, ◌+◌, ◌*◌, ◌-◌, ◌≤◌, ◌<◌, List, [], ◌∷◌, Some, None, arith, refl, Bool, true, false, cond}
use Rattle.std.proofs.lemmas.Bool.Decides.{nat_tests}
use Rattle.std.specs.Prelude.{nat_le}
use Rattle.gt_script.specs.Values.{digits_value}

pub digits_value-least : (sofar : ℕ) (ds : List ℕ) → sofar ≤ digits_value sofar ds
digits_value-least sofar [] = omega arith
digits_value-least sofar (d ∷ ds) =
    let ih = digits_value-least (sofar * 10 + (d - 48)) ds in
    omega (arith, ih)

-- Where the digits so far are over a bound, so is the whole.
pub over : (v high : ℕ) → high < v → None ≡ cond (nat_le v high) (Some v) None
over v high h = by (nat_le v high) refl
  where
    by : (b : Bool) → nat_le v high ≡ b → None ≡ cond b (Some v) None
    by true e = absurd (grind (arith, nat_tests))
    by false e = refl

-- The digits so far, with the next one.
pub step-least : (v i : ℕ) (w : List ℕ) → i < length w → v * 10 + (get_or w i 0 - 48) ≤ digits_value v (drop i w)
step-least v i w lt = rw (drop-cons w i 0) (digits_value-least (v * 10 + (get_or w i 0 - 48)) (drop (suc i) w))
