-- The live transactions behind a map, and the least number that isn't live.
use Rattle.std.proofs.Common.{◌≡◌, ℕ, ◌+◌, nat_eq, zero, suc, Bool, true, false, cond, ◌||◌, ◌&&◌, List, [], ◌∷◌, map, filter, find, Some, None, refl, ap, ◌∙◌, arith}
use Rattle.std.specs.List.{list_any}
use Rattle.std.specs.Option.{option_map}
use Rattle.gt_model.specs.Machine.{Pin, is_live, is_live_as, is_transaction, free_from}
use Rattle.gt_pins.specs.declared.live.LivePin.{LivePin}
use Rattle.gt_pins.specs.Live.{pin_of}

module _ {A B : Type 0} (f : A → B) (p : B → Bool) where
  pub list_any-map : (xs : List A) → list_any p (map f xs) ≡ list_any (λ x. p (f x)) xs
  list_any-map [] = refl
  list_any-map (x ∷ xs) = ap (λ (b : Bool). p (f x) || b) (list_any-map xs)

  pub find-map : (xs : List A) → find p (map f xs) ≡ option_map f (find (λ x. p (f x)) xs)
  find-map [] = refl
  find-map (x ∷ xs) = by (p (f x)) (find-map xs)
    where
      by : (b : Bool) → find p (map f xs) ≡ option_map f (find (λ y. p (f y)) xs) → cond b (Some (f x)) (find p (map f xs)) ≡ option_map f (cond b (Some x) (find (λ y. p (f y)) xs))
      by true more = refl
      by false more = more

  pub filter-map : (xs : List A) → filter p (map f xs) ≡ map f (filter (λ x. p (f x)) xs)
  filter-map [] = refl
  filter-map (x ∷ xs) = by (p (f x)) (filter-map xs)
    where
      by : (b : Bool) → filter p (map f xs) ≡ map f (filter (λ y. p (f y)) xs) → cond b (f x ∷ filter p (map f xs)) (filter p (map f xs)) ≡ map f (cond b (x ∷ filter (λ y. p (f y)) xs) (filter (λ y. p (f y)) xs))
      by true more = ap (λ (ys : List B). f x ∷ ys) more
      by false more = more

module _ (pins : List Pin) where
  -- a number that isn't live is the least from itself on
  pub free_here : (number more : ℕ) → is_live pins number ≡ false → free_from pins number more ≡ number
  free_here number zero free = refl
  free_here number (suc more) free = ap (λ (b : Bool). cond b (free_from pins (number + 1) more) number) free

  -- one that is live is passed
  pub free_later : (number more fewer : ℕ) → more ≡ fewer + 1 → is_live pins number ≡ true → free_from pins number more ≡ free_from pins (number + 1) fewer
  free_later number zero fewer is taken = absurd (omega (arith, is))
  free_later number (suc more) fewer is taken =
      let same : more ≡ fewer = omega (arith, is) in
      ap (λ (b : Bool). cond b (free_from pins (number + 1) more) number) taken ∙ ap (free_from pins (number + 1)) same

-- a number that is live is found
pub live_found : (pins : List Pin) (number : ℕ) → is_live pins number ≡ true → find (λ (p : Pin). nat_eq p.number number) pins ≡ None → ⊥
live_found [] number live none = absurd (cc (live))
live_found (p ∷ ps) number live none = by (nat_eq p.number number) live none (live_found ps number)
  where
    by : (b : Bool) → (b || is_live ps number) ≡ true → cond b (Some p) (find (λ (q : Pin). nat_eq q.number number) ps) ≡ None → (is_live ps number ≡ true → find (λ (q : Pin). nat_eq q.number number) ps ≡ None → ⊥) → ⊥
    by true live none more = absurd (cc (none))
    by false live none more = more live none

-- each live pin is a transaction's
pub all_transactions : (pins : List LivePin) (number : ℕ) → is_live_as is_transaction (map pin_of pins) number ≡ is_live (map pin_of pins) number
all_transactions [] number = refl
all_transactions (p ∷ ps) number = by (nat_eq p.number number) (all_transactions ps number)
  where
    by : (b : Bool) → is_live_as is_transaction (map pin_of ps) number ≡ is_live (map pin_of ps) number → ((b && true) || is_live_as is_transaction (map pin_of ps) number) ≡ (b || is_live (map pin_of ps) number)
    by true rest = refl
    by false rest = rest
