-- Items one after the other as long as there are more: what is read stands there, and what stands there is read.
use Rattle.std.proofs.Common.{◌≡◌, ℕ, zero, suc, ◌+◌, ◌<◌, ◌≤◌, Bool, true, false, ◌⊎◌, inl, inr, List, [], ◌∷◌, ◌++◌, length, Result, Ok, Err, refl, sym, ap, subst, ◌∙◌, arith}
use Rattle.std.specs.List.{flat_map, AllByRecursion}
use Rattle.std.proofs.lemmas.List.Concat.{flat_map-cons}
use Rattle.gt_bytes.specs.Reading.{◌>>=◌, while_at}
use Rattle.gt_bytes.specs.Standing.{IsBytes, Stands, IsField}
use Rattle.gt_bytes.proofs.Steps.{bind_ok, ok_is}
use Rattle.gt_bytes.proofs.StandingLaws.{Stands-then, Stands-first, Stands-same}

either : (b : Bool) → (b ≡ true) ⊎ (b ≡ false)
either true = inl refl
either false = inr refl

abbrev fails : (A : Type 0) → ℕ → Result A ℕ
fails A d = Err d

err_is : {A : Type 0} (a b : ℕ) → fails A a ≡ fails A b → a ≡ b
err_is a b e = cc

-- a step failed, or one after it
pub step_err : {A B : Type 0} (r : Result A ℕ) (f : A → Result B ℕ) (d : ℕ) → (r >>= f) ≡ Err d → (r ≡ Err d) ⊎ ((x : A) × (r ≡ Ok x) × (f x ≡ Err d))
step_err (Ok x) f d e = inr (x, refl, e)
step_err (Err b) f d e = inl (let is : b ≡ d = cc in ap (λ (z : ℕ). Err z) is)

-- the items after one failed
step_ok_err : {A : Type 0} (r : Result (List A) ℕ) (x : A) (d : ℕ) → (r >>= λ xs. Ok (x ∷ xs)) ≡ Err d → r ≡ Err d
step_ok_err (Ok xs) x d e = absurd cc
step_ok_err (Err b) x d e = let is : b ≡ d = cc in ap (λ (z : ℕ). Err z) is

module _ {A : Type 0} (bytes : List ℕ) (more : ℕ → Bool) (item : ℕ → Result (A × ℕ) ℕ) (s : A → List ℕ) (F : A → Type 0) (one : IsField bytes item s F) where
  -- from a place up to the next these items stand, and there are no more
  pub record Run (at : ℕ) (xs : List A) (next : ℕ) : Type 0 where
    pub stands : Stands bytes at (flat_map s xs) next
    pub fit : AllByRecursion F xs
    pub ends : more next ≡ false

  nothing : (at : ℕ) (xs : List A) → at ≤ length bytes → more at ≡ false → [] ≡ xs → (next : ℕ) × Run at xs next
  nothing at xs le m e =
      let P : List A → Type 0 = λ ys. Run at ys at in
      (at, subst P e (record { stands = record { parts = refl; after = omega arith; within = le }; fit = tt; ends = m }))

  pub while_takes : IsBytes bytes → (f at : ℕ) (xs : List A) → at ≤ length bytes → while_at more item f at ≡ Ok xs → (next : ℕ) × Run at xs next
  while_takes good zero at xs le e =
      elim (either (more at)) [
        | inl m ↦ (let g : while_at more item zero at ≡ Err at = rw m refl in absurd cc)
        | inr m ↦ (let g : while_at more item zero at ≡ Ok [] = rw m refl in nothing at xs le m (ok_is [] xs (sym g ∙ e)))
      ]
  while_takes good (suc f) at xs le e =
      elim (either (more at)) [
        | inl m ↦ (
            let g : (item at >>= λ x. while_at more item f x.1 >>= λ ys. Ok (x.0 ∷ ys)) ≡ Ok xs = sym (rw m refl) ∙ e in
            let a = bind_ok (item at) (λ x. while_at more item f x.1 >>= λ ys. Ok (x.0 ∷ ys)) xs g in
            let b = bind_ok (while_at more item f a.0.1) (λ ys. Ok (a.0.0 ∷ ys)) xs a.2 in
            let h = one.takes good at a.0 le a.1 in
            let r = while_takes good f a.0.1 b.0 h.0.within b.1 in
            let both = Stands-then bytes at (s a.0.0) a.0.1 (flat_map s b.0) r.0 h.0 r.1.stands in
            let P : List A → Type 0 = λ ys. Run at ys r.0 in
            (r.0, subst P (ok_is (a.0.0 ∷ b.0) xs b.2) (record { stands = rw flat_map-cons both; fit = (h.1, r.1.fit); ends = r.1.ends })))
        | inr m ↦ (let g : while_at more item (suc f) at ≡ Ok [] = rw m refl in nothing at xs le m (ok_is [] xs (sym g ∙ e)))
      ]

  module _ (some : (x : A) → F x → 0 < length (s x)) (is_more : (at : ℕ) (x : A) (next : ℕ) → at ≤ length bytes → Stands bytes at (s x) next → F x → more at ≡ true) where
    pub while_again : (xs : List A) (f at next : ℕ) → at ≤ length bytes → length bytes ≤ at + f → Run at xs next → while_at more item f at ≡ Ok xs
    while_again [] f at next le enough run =
        let is : next ≡ at = omega (arith, run.stands.after) in
        let m : more at ≡ false = rw (← is) run.ends in
        empty f m
      where
        empty : (g : ℕ) → more at ≡ false → while_at more item g at ≡ Ok []
        empty zero m = rw m refl
        empty (suc g) m = rw m refl
    while_again (x ∷ xs) zero at next le enough run =
        let whole : Stands bytes at (s x ++ flat_map s xs) next = Stands-same bytes at (flat_map s (x ∷ xs)) (s x ++ flat_map s xs) next (flat_map-cons s x xs) run.stands in
        let p = Stands-first bytes at (s x) (flat_map s xs) next le whole in
        let here = some x run.fit.0 in
        let inside = p.0.within in
        absurd (omega arith)
    while_again (x ∷ xs) (suc f) at next le enough run =
        let whole : Stands bytes at (s x ++ flat_map s xs) next = Stands-same bytes at (flat_map s (x ∷ xs)) (s x ++ flat_map s xs) next (flat_map-cons s x xs) run.stands in
        let p = Stands-first bytes at (s x) (flat_map s xs) next le whole in
        let here = some x run.fit.0 in
        let first = one.again at x (at + length (s x)) le p.0 run.fit.0 in
        let inside = p.0.within in
        let m : more at ≡ true = is_more at x (at + length (s x)) le p.0 run.fit.0 in
        let r = while_again xs f (at + length (s x)) next inside (omega arith) (record { stands = p.1; fit = run.fit.1; ends = run.ends }) in
        rw (m, first, r) refl

    -- from a place up to the next these items stand, and there are more, but no item stands next
    pub record Stop (at : ℕ) (xs : List A) (place : ℕ) : Type 0 where
      pub stands : Stands bytes at (flat_map s xs) place
      pub fit : AllByRecursion F xs
      pub more_here : more place ≡ true
      pub none : (x : A) (next : ℕ) → Stands bytes place (s x) next → F x → ⊥

    stop_here : (at : ℕ) → at ≤ length bytes → more at ≡ true → ((x : A) (next : ℕ) → Stands bytes at (s x) next → F x → ⊥) → Stop at [] at
    stop_here at le m none = record { stands = record { parts = refl; after = omega arith; within = le }; fit = tt; more_here = m; none = none }

    module _ (own : (at e : ℕ) → item at ≡ Err e → e ≡ at) (good : IsBytes bytes) where
      -- the fault is where the first item that can't be read begins
      pub while_fails : (f at place : ℕ) → at ≤ length bytes → length bytes ≤ at + f → while_at more item f at ≡ Err place → (xs : List A) × Stop at xs place
      while_fails zero at place le enough e =
          elim (either (more at)) [
            | inl m ↦ (
                let g : while_at more item zero at ≡ Err at = rw m refl in
                let is : at ≡ place = err_is at place (sym g ∙ e) in
                let here = stop_here at le m (λ x next st fits. (let long = some x fits in let after = st.after in let within = st.within in omega arith)) in
                let P : ℕ → Type 0 = λ n. Stop at [] n in
                ([], subst P is here))
            | inr m ↦ (let g : while_at more item zero at ≡ Ok [] = rw m refl in absurd cc)
          ]
      while_fails (suc f) at place le enough e =
          elim (either (more at)) [
            | inl m ↦ (
                let g : (item at >>= λ x. while_at more item f x.1 >>= λ ys. Ok (x.0 ∷ ys)) ≡ Err place = sym (rw m refl) ∙ e in
                elim (step_err (item at) (λ x. while_at more item f x.1 >>= λ ys. Ok (x.0 ∷ ys)) place g) [
                  | inl bad ↦ (
                      let is : place ≡ at = own at place bad in
                      let here = stop_here at le m (λ x next st fits. (let read = one.again at x next le st fits in cc)) in
                      let P : ℕ → Type 0 = λ n. Stop at [] n in
                      ([], subst P (sym is) here))
                  | inr found ↦ (
                      let h = one.takes good at found.0 le found.1 in
                      let long = some found.0.0 h.1 in
                      let rest = step_ok_err (while_at more item f found.0.1) found.0.0 place found.2 in
                      let after = h.0.after in
                      let r = while_fails f found.0.1 place h.0.within (omega arith) rest in
                      let both = Stands-then bytes at (s found.0.0) found.0.1 (flat_map s r.0) place h.0 r.1.stands in
                      (found.0.0 ∷ r.0, record { stands = rw flat_map-cons both; fit = (h.1, r.1.fit); more_here = r.1.more_here; none = r.1.none }))
                ])
            | inr m ↦ (let g : while_at more item (suc f) at ≡ Ok [] = rw m refl in absurd cc)
          ]
