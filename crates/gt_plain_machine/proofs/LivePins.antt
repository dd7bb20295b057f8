-- What is live under a number, and the least number that isn't live.
use Rattle.std.proofs.Common.{◌≡◌, ℕ, ◌+◌, ◌-◌, ◌<◌, ◌≤◌, nat_eq, suc, Bool, true, false, cond, ◌||◌, List, [], ◌∷◌, length, find, Some, None, sym, ap, ◌∙◌, arith}
use Rattle.gt_model.specs.Machine.{Pin, is_live, free_from, free_number}

-- a number that is live is found
pub live_found : (pins : List Pin) (number : ℕ) → is_live pins number ≡ true → find (λ (p : Pin). nat_eq p.number number) pins ≡ None → ⊥
live_found [] number live none = absurd (cc (live))
live_found (p ∷ ps) number live none = by (nat_eq p.number number) live none (live_found ps number)
  where
    by : (b : Bool) → (b || is_live ps number) ≡ true → cond b (Some p) (find (λ (q : Pin). nat_eq q.number number) ps) ≡ None → (is_live ps number ≡ true → find (λ (q : Pin). nat_eq q.number number) ps ≡ None → ⊥) → ⊥
    by true live none more = absurd (cc (none))
    by false live none more = more live none

module _ (pins : List Pin) (number at : ℕ) (left : free_from pins number (length pins - at) ≡ free_number pins) where
  ahead : at < length pins → free_from pins number (length pins - at) ≡ cond (is_live pins number) (free_from pins (number + 1) (length pins - (at + 1))) number
  ahead more = ap (free_from pins number) (let e : length pins - at ≡ suc (length pins - (at + 1)) = omega arith in e)

  -- it isn't live, and so the least
  pub free_here : at < length pins → is_live pins number ≡ false → number ≡ free_number pins
  free_here more free = sym (ahead more ∙ ap (λ (b : Bool). cond b (free_from pins (number + 1) (length pins - (at + 1))) number) free) ∙ left

  -- it is live, and so passed
  pub free_later : (next : ℕ) → next ≡ number + 1 → at < length pins → is_live pins number ≡ true → free_from pins next (length pins - (at + 1)) ≡ free_number pins
  free_later next is more taken = ap (λ (n : ℕ). free_from pins n (length pins - (at + 1))) is ∙ sym (ahead more ∙ ap (λ (b : Bool). cond b (free_from pins (number + 1) (length pins - (at + 1))) number) taken) ∙ left

  -- all below it are live
  pub free_last : length pins ≤ at → number ≡ free_number pins
  free_last none = sym (ap (free_from pins number) (let e : length pins - at ≡ 0 = omega arith in e)) ∙ left
