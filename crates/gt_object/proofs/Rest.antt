-- The items that are still to come, as a loop reads them.
use Rattle.std.proofs.Common.{◌≡◌, ℕ, zero, suc, ◌+◌, ◌<◌, ◌≤◌, Bool, true, false, List, [], ◌∷◌, Result, Ok, Err, refl, sym, ◌∙◌, arith}
use Rattle.gt_bytes.specs.Reading.{◌>>=◌, while_at}
use Rattle.gt_bytes.proofs.Steps.{bind_ok, ok_is}

abbrev pub RestIs : {A : Type 0} → (ℕ → Bool) → (ℕ → Result (A × ℕ) ℕ) → ℕ → ℕ → List A → Type 0
RestIs more item len at rest = (f : ℕ) × (len ≤ at + f) × (while_at more item f at ≡ Ok rest)

module _ {A : Type 0} (more : ℕ → Bool) (item : ℕ → Result (A × ℕ) ℕ) (len : ℕ) where
  pub rest_on : (at next : ℕ) (x : A) (rest : List A) → more at ≡ true → item at ≡ Ok (x, next) → at < next → next ≤ len → RestIs more item len at rest → (others : List A) × (rest ≡ x ∷ others) × RestIs more item len next others
  rest_on at next x rest m i lt within (zero, enough, e) = absurd (omega arith)
  rest_on at next x rest m i lt within (suc f, enough, e) =
      let one : (while_at more item f next >>= λ xs. Ok (x ∷ xs)) ≡ Ok rest = sym (rw (m, i) refl) ∙ e in
      let b = bind_ok (while_at more item f next) (λ xs. Ok (x ∷ xs)) rest one in
      (b.0, sym (ok_is (x ∷ b.0) rest b.2), (f, omega arith, b.1))

  pub rest_end : (at : ℕ) (rest : List A) → more at ≡ false → RestIs more item len at rest → rest ≡ []
  rest_end at rest m (zero, enough, e) = let one : while_at more item zero at ≡ Ok [] = rw m refl in sym (ok_is [] rest (sym one ∙ e))
  rest_end at rest m (suc f, enough, e) = let one : while_at more item (suc f) at ≡ Ok [] = rw m refl in sym (ok_is [] rest (sym one ∙ e))

  pub rest_bad : (at : ℕ) (rest : List A) → more at ≡ true → item at ≡ Err at → RestIs more item len at rest → ⊥
  rest_bad at rest m i (zero, enough, e) = let one : while_at more item zero at ≡ Err at = rw m refl in cc
  rest_bad at rest m i (suc f, enough, e) = let one : while_at more item (suc f) at ≡ Err at = rw (m, i) refl in cc
