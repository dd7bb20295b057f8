-- Readers that are put together from readers of fields are readers of fields.
use Rattle.std.proofs.Common.{◌≡◌, ℕ, ◌+◌, ◌≤◌, Bool, true, cond, List, ◌++◌, length, Result, Ok, Err, refl, sym, ap, subst}
use Rattle.gt_bytes.specs.Reading.{◌>>=◌, kept, pair_at, seen_at}
use Rattle.gt_bytes.specs.Standing.{IsBytes, Stands, IsField}
use Rattle.gt_bytes.proofs.Steps.{bind_ok, kept_ok, ok_is}
use Rattle.gt_bytes.proofs.StandingLaws.{Stands-then, Stands-first}

-- a field and then another
pub pair_field : {A B : Type 0} (bytes : List ℕ) (r : ℕ → Result (A × ℕ) ℕ) (s : A → List ℕ) (F : A → Type 0) (q : ℕ → Result (B × ℕ) ℕ) (t : B → List ℕ) (G : B → Type 0)
    → IsField bytes r s F → IsField bytes q t G → IsField {A = A × B} bytes (pair_at r q) (λ p. s p.0 ++ t p.1) (λ p. F p.0 × G p.1)
pair_field {A} {B} bytes r s F q t G one two = record { takes = takes; again = again }
  where
    takes : IsBytes bytes → (at : ℕ) (x : (A × B) × ℕ) → at ≤ length bytes → pair_at r q at ≡ Ok x → Stands bytes at (s x.0.0 ++ t x.0.1) x.1 × (F x.0.0 × G x.0.1)
    takes good at x le e =
        let f : A × ℕ → Result ((A × B) × ℕ) ℕ = λ x. (let g : B × ℕ → Result ((A × B) × ℕ) ℕ = λ y. Ok ((x.0, y.0), y.1) in q x.1 >>= g) in
        let a = bind_ok (r at) f x e in
        let g : B × ℕ → Result ((A × B) × ℕ) ℕ = λ y. Ok ((a.0.0, y.0), y.1) in
        let b = bind_ok (q a.0.1) g x a.2 in
        let h = one.takes good at a.0 le a.1 in
        let k = two.takes good a.0.1 b.0 h.0.within b.1 in
        let made : (A × B) × ℕ = ((a.0.0, b.0.0), b.0.1) in
        let P : (A × B) × ℕ → Type 0 = λ y. Stands bytes at (s y.0.0 ++ t y.0.1) y.1 × (F y.0.0 × G y.0.1) in
        subst P (ok_is made x b.2) (Stands-then bytes at (s a.0.0) a.0.1 (t b.0.0) b.0.1 h.0 k.0, (h.1, k.1))

    again : (at : ℕ) (x : A × B) (next : ℕ) → at ≤ length bytes → Stands bytes at (s x.0 ++ t x.1) next → F x.0 × G x.1 → pair_at r q at ≡ Ok (x, next)
    again at x next le st fits =
        let p = Stands-first bytes at (s x.0) (t x.1) next le st in
        rw (one.again at x.0 (at + length (s x.0)) le p.0 fits.0, two.again (at + length (s x.0)) x.1 next p.0.within p.1 fits.1) refl

-- the same field, seen as another type
pub seen_field : {A B : Type 0} (bytes : List ℕ) (r : ℕ → Result (A × ℕ) ℕ) (s : A → List ℕ) (F : A → Type 0) (to : A → B) (from : B → A)
    → ((b : B) → to (from b) ≡ b) → ((a : A) → from (to a) ≡ a) → IsField bytes r s F → IsField bytes (seen_at to r) (λ b. s (from b)) (λ b. F (from b))
seen_field {A} {B} bytes r s F to from tofrom fromto one = record { takes = takes; again = again }
  where
    takes : IsBytes bytes → (at : ℕ) (x : B × ℕ) → at ≤ length bytes → seen_at to r at ≡ Ok x → Stands bytes at (s (from x.0)) x.1 × F (from x.0)
    takes good at x le e =
        let f : A × ℕ → Result (B × ℕ) ℕ = λ x. Ok (to x.0, x.1) in
        let a = bind_ok (r at) f x e in
        let h = one.takes good at a.0 le a.1 in
        let made : B × ℕ = (to a.0.0, a.0.1) in
        let Q : A → Type 0 = λ y. Stands bytes at (s y) a.0.1 × F y in
        let P : B × ℕ → Type 0 = λ y. Stands bytes at (s (from y.0)) y.1 × F (from y.0) in
        subst P (ok_is made x a.2) (subst Q (sym (fromto a.0.0)) h)

    again : (at : ℕ) (x : B) (next : ℕ) → at ≤ length bytes → Stands bytes at (s (from x)) next → F (from x) → seen_at to r at ≡ Ok (x, next)
    again at x next le st fits = rw (one.again at (from x) next le st fits) (let f : B → Result (B × ℕ) ℕ = λ b. Ok (b, next) in ap f (tofrom x))

-- a field that has to pass a test
pub kept_field : {A : Type 0} (bytes : List ℕ) (r : ℕ → Result (A × ℕ) ℕ) (s : A → List ℕ) (F : A → Type 0) (test : A → Bool)
    → IsField bytes r s F → IsField bytes (λ at. kept test at (r at)) s (λ x. F x × (test x ≡ true))
kept_field {A} bytes r s F test one = record { takes = takes; again = again }
  where
    takes : IsBytes bytes → (at : ℕ) (x : A × ℕ) → at ≤ length bytes → kept test at (r at) ≡ Ok x → Stands bytes at (s x.0) x.1 × (F x.0 × (test x.0 ≡ true))
    takes good at x le e =
        let a = bind_ok (r at) (λ x. cond (test x.0) (Ok x) (Err at)) x e in
        let k = kept_ok (test a.0.0) at a.0 x a.2 in
        let f = one.takes good at a.0 le a.1 in
        let P : A × ℕ → Type 0 = λ y. Stands bytes at (s y.0) y.1 × (F y.0 × (test y.0 ≡ true)) in
        subst P k.1 (f.0, (f.1, k.0))

    again : (at : ℕ) (x : A) (next : ℕ) → at ≤ length bytes → Stands bytes at (s x) next → F x × (test x ≡ true) → kept test at (r at) ≡ Ok (x, next)
    again at x next le st fits = rw (one.again at x next le st fits.0, fits.1) refl
