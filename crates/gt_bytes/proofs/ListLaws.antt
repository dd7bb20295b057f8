-- Lists with a count are fields.
use Rattle.std.proofs.Common.{◌≡◌, ℕ, zero, suc, ◌+◌, ◌^◌, ◌<◌, ◌≤◌, List, [], ◌∷◌, ◌++◌, length, Result, Ok, refl, sym, ap, subst, ◌∙◌, append_assoc, arith}
use Rattle.std.specs.List.{flat_map}
use Rattle.std.specs.Int.{w32, to_be_bytes}
use Rattle.std.proofs.lemmas.List.{append-nil}
use Rattle.std.proofs.lemmas.List.Concat.{flat_map-cons}
use Rattle.gt_bytes.specs.Spelling.{Follows, counted}
use Rattle.gt_bytes.specs.Reading.{many_at, counted_at, number_at}
use Rattle.gt_bytes.specs.Standing.{IsBytes, Stands, IsField}
use Rattle.gt_bytes.proofs.Steps.{bind_ok, ok_is}
use Rattle.gt_bytes.proofs.StandingLaws.{Stands-then, Stands-first, Stands-same}
use Rattle.gt_bytes.proofs.FieldLaws.{number_field, wide32}

abbrev done : {A : Type 0} → A → Result A ℕ
done x = Ok x

-- as many items as a count says, each allowed after those before it
module _ {A : Type 0} (bytes : List ℕ) (item : List A → ℕ → Result (A × ℕ) ℕ) (s : A → List ℕ) (Allowed : List A → A → Type 0) (each : (front : List A) → IsField bytes (item front) s (Allowed front)) where
  pub many_takes : IsBytes bytes → (n : ℕ) (front : List A) (at : ℕ) (x : List A × ℕ) → at ≤ length bytes → many_at item n front at ≡ Ok x
      → (xs : List A) × (x.0 ≡ front ++ xs) × (length xs ≡ n) × Stands bytes at (flat_map s xs) x.1 × Follows Allowed front xs
  many_takes good zero front at x le e =
      let is = ok_is (front, at) x e in
      let P : List A × ℕ → Type 0 = λ y. (xs : List A) × (y.0 ≡ front ++ xs) × (length xs ≡ zero) × Stands bytes at (flat_map s xs) y.1 × Follows Allowed front xs in
      subst P is ([], sym (append-nil front), refl, record { parts = refl; after = omega arith; within = le }, tt)
  many_takes good (suc n) front at x le e =
      let a = bind_ok (item front at) (λ y. many_at item n (front ++ y.0 ∷ []) y.1) x e in
      let f = (each front).takes good at a.0 le a.1 in
      let m = many_takes good n (front ++ a.0.0 ∷ []) a.0.1 x f.0.within a.2 in
      let both = Stands-then bytes at (s a.0.0) a.0.1 (flat_map s m.0) x.1 f.0 m.3 in
      (a.0.0 ∷ m.0, m.1 ∙ append_assoc front (a.0.0 ∷ []) m.0, ap suc m.2, rw flat_map-cons both, (f.1, m.4))

  pub many_again : (xs front : List A) (at next : ℕ) → at ≤ length bytes → Stands bytes at (flat_map s xs) next → Follows Allowed front xs → many_at item (length xs) front at ≡ Ok (front ++ xs, next)
  many_again [] front at next le st fits =
      let e : at ≡ next = omega (arith, st.after) in
      rw (append-nil front, e) refl
  many_again (x ∷ xs) front at next le st fits =
      let whole : Stands bytes at (s x ++ flat_map s xs) next = Stands-same bytes at (flat_map s (x ∷ xs)) (s x ++ flat_map s xs) next (flat_map-cons s x xs) st in
      let p = Stands-first bytes at (s x) (flat_map s xs) next le whole in
      let h = (each front).again at x (at + length (s x)) le p.0 fits.0 in
      let m = many_again xs (front ++ x ∷ []) (at + length (s x)) next p.0.within p.1 fits.1 in
      rw h (m ∙ ap (λ (ys : List A). done (ys, next)) (append_assoc front (x ∷ []) xs))

  pub counted_field : IsField bytes (counted_at item bytes) (counted s) (λ xs. (length xs < 2 ^ 32) × Follows Allowed [] xs)
  counted_field = record { takes = takes; again = again }
    where
      takes : IsBytes bytes → (at : ℕ) (x : List A × ℕ) → at ≤ length bytes → counted_at item bytes at ≡ Ok x → Stands bytes at (counted s x.0) x.1 × ((length x.0 < 2 ^ 32) × Follows Allowed [] x.0)
      takes good at x le e =
          let a = bind_ok (number_at w32 bytes at) (λ n. many_at item n.0 [] n.1) x e in
          let f = (number_field bytes w32 (2 ^ 32) wide32).takes good at a.0 le a.1 in
          let m = many_takes good a.0.0 [] a.0.1 x f.0.within a.2 in
          let both = Stands-then bytes at (to_be_bytes w32 a.0.0) a.0.1 (flat_map s m.0) x.1 f.0 m.3 in
          let whole = Stands-same bytes at (to_be_bytes w32 a.0.0 ++ flat_map s m.0) (counted s m.0) x.1 (ap (λ (k : ℕ). to_be_bytes w32 k ++ flat_map s m.0) (sym m.2)) both in
          let P : List A → Type 0 = λ ys. Stands bytes at (counted s ys) x.1 × ((length ys < 2 ^ 32) × Follows Allowed [] ys) in
          subst P (sym m.1) (whole, (omega (arith, m.2, f.1), m.4))

      again : (at : ℕ) (xs : List A) (next : ℕ) → at ≤ length bytes → Stands bytes at (counted s xs) next → (length xs < 2 ^ 32) × Follows Allowed [] xs → counted_at item bytes at ≡ Ok (xs, next)
      again at xs next le st fits =
          let p = Stands-first bytes at (to_be_bytes w32 (length xs)) (flat_map s xs) next le st in
          let n = (number_field bytes w32 (2 ^ 32) wide32).again at (length xs) (at + 4) le p.0 fits.0 in
          rw n (many_again xs [] (at + 4) next p.0.within p.1 fits.1)
