-- Items as long as there are more, as a loop reads them.
use Rattle.std.proofs.Common.{◌≡◌, ℕ, zero, suc, ◌+◌, ◌<◌, ◌≤◌, Bool, true, false, List, ◌∷◌, Option, Some, None, Result, Ok, Err, refl, sym, ◌∙◌, arith}
use Rattle.gt_bytes.specs.Reading.{◌>>=◌, while_at}
use Rattle.gt_object.specs.Grammar.{fault}

fault_more : {A : Type 0} (x : A) (r : Result (List A) ℕ) → fault (r >>= λ xs. Ok (x ∷ xs)) ≡ fault r
fault_more x (Ok xs) = refl
fault_more x (Err e) = refl

-- The rest of the run has the fault of the whole.
abbrev pub Going : {A : Type 0} → (ℕ → Bool) → (ℕ → Result (A × ℕ) ℕ) → ℕ → ℕ → Option ℕ → Type 0
Going more item len at total = (f : ℕ) × (len ≤ at + f) × (fault (while_at more item f at) ≡ total)

module _ {A : Type 0} (more : ℕ → Bool) (item : ℕ → Result (A × ℕ) ℕ) (len : ℕ) where
  pub going_on : (at next : ℕ) (x : A) (total : Option ℕ) → more at ≡ true → item at ≡ Ok (x, next) → at < next → next ≤ len → Going more item len at total → Going more item len next total
  going_on at next x total m i lt within (zero, enough, e) = absurd (omega arith)
  going_on at next x total m i lt within (suc f, enough, e) =
      let one : fault (while_at more item (suc f) at) ≡ fault (while_at more item f next) = rw (m, i) (fault_more x (while_at more item f next)) in
      (f, omega arith, sym one ∙ e)

  pub going_bad : (at : ℕ) (total : Option ℕ) → more at ≡ true → item at ≡ Err at → Going more item len at total → total ≡ Some at
  going_bad at total m i (zero, enough, e) = let one : fault (while_at more item zero at) ≡ Some at = rw m refl in sym e ∙ one
  going_bad at total m i (suc f, enough, e) = let one : fault (while_at more item (suc f) at) ≡ Some at = rw (m, i) refl in sym e ∙ one

  pub going_end : (at : ℕ) (total : Option ℕ) → more at ≡ false → Going more item len at total → total ≡ None
  going_end at total m (zero, enough, e) = let one : fault (while_at more item zero at) ≡ None = rw m refl in sym e ∙ one
  going_end at total m (suc f, enough, e) = let one : fault (while_at more item (suc f) at) ≡ None = rw m refl in sym e ∙ one
