-- All of the bytes as one value, and words that stand in them.
use Rattle.std.proofs.Common.{◌≡◌, ℕ, ◌+◌, ◌≤◌, true, cond, eqb, List, [], ◌++◌, length, drop, Result, Ok, Err, refl, sym, ap, subst, ◌∙◌, arith, length-append}
use Rattle.std.specs.Prelude.{nat_eq}
use Rattle.std.specs.List.{starts_with}
use Rattle.std.proofs.lemmas.Bool.{eqb-true, eq-eqb}
use Rattle.std.proofs.lemmas.Bool.Decides.{Decides-eqb}
use Rattle.std.proofs.lemmas.List.{append-nil, drop_all, nil_from_length}
use Rattle.std.proofs.lemmas.Slice.Eq.{starts_is}
use Rattle.gt_bytes.specs.Reading.{word_at, all_of}
use Rattle.gt_bytes.specs.Standing.{IsBytes, Stands, IsField}
use Rattle.gt_bytes.proofs.Steps.{bind_ok, kept_ok, ok_is}
use Rattle.gt_bytes.proofs.StandingLaws.{Stands-from}

-- ---- a word

word_takes : (word bytes : List ℕ) (at : ℕ) (x : Unit {0} × ℕ) → at ≤ length bytes → word_at word bytes at ≡ Ok x → Stands bytes at word x.1 × Unit {0}
word_takes word bytes at x le e =
    let made : Unit {0} × ℕ = (tt, at + length word) in
    let k = kept_ok (starts_with nat_eq (drop at bytes) word) at made x e in
    let is = (starts_is Decides-eqb (drop at bytes) word (starts_with nat_eq (drop at bytes) word) refl).0 k.0 in
    let P : Unit {0} × ℕ → Type 0 = λ y. Stands bytes at word y.1 × Unit {0} in
    subst P k.1 (Stands-from bytes at word (drop (length word) (drop at bytes)) le is, tt)

word_again : (word bytes : List ℕ) (at : ℕ) (x : Unit {0}) (next : ℕ) → at ≤ length bytes → Stands bytes at word next → Unit {0} → word_at word bytes at ≡ Ok (x, next)
word_again word bytes at x next le s u =
    let h : starts_with nat_eq (drop at bytes) word ≡ true = (starts_is Decides-eqb (drop at bytes) word (starts_with nat_eq (drop at bytes) word) refl).1 (drop next bytes) s.parts in
    let after : at + length word ≡ next = sym s.after in
    rw (h, after) refl

-- a word that stands there
pub word_field : (word bytes : List ℕ) → IsField bytes (word_at word bytes) (λ _. word) (λ _. Unit {0})
word_field word bytes = record { takes = λ _. word_takes word bytes; again = word_again word bytes }

-- ---- all of the bytes

module _ {A : Type 0} (read : List ℕ → ℕ → Result (A × ℕ) ℕ) (s : A → List ℕ) (F : A → Type 0) (each : (bytes : List ℕ) → IsField bytes (read bytes) s F) where
  -- what is read is spelled so, and fits
  pub all_takes : (bytes : List ℕ) → IsBytes bytes → (x : A) → all_of (read bytes) bytes ≡ Ok x → F x × (bytes ≡ s x)
  all_takes bytes good x e =
      let f : A × ℕ → Result A ℕ = λ y. cond (eqb y.1 (length bytes)) (Ok y.0) (Err y.1) in
      let a = bind_ok (read bytes 0) f x e in
      let k = kept_ok (eqb a.0.1 (length bytes)) a.0.1 a.0.0 x a.2 in
      let t = (each bytes).takes good 0 a.0 (omega arith) a.1 in
      let end : a.0.1 ≡ length bytes = eqb-true _ _ k.0 in
      let none : drop a.0.1 bytes ≡ [] = drop_all a.0.1 bytes (omega (arith, end)) in
      let whole : bytes ≡ s a.0.0 = t.0.parts ∙ ap (λ (r : List ℕ). s a.0.0 ++ r) none ∙ append-nil (s a.0.0) in
      let P : A → Type 0 = λ y. F y × (bytes ≡ s y) in
      subst P k.1 (t.1, whole)

  -- what fits and is spelled so is read
  pub all_again : (bytes : List ℕ) (x : A) → F x → bytes ≡ s x → all_of (read bytes) bytes ≡ Ok x
  all_again bytes x fits e =
      let parts : drop 0 bytes ≡ s x ++ [] = e ∙ sym (append-nil (s x)) in
      let st = Stands-from bytes 0 (s x) [] (omega arith) parts in
      let r = (each bytes).again 0 x (0 + length (s x)) (omega arith) st fits in
      let end : eqb (0 + length (s x)) (length bytes) ≡ true = eq-eqb _ _ (omega (arith, ap length e)) in
      rw (r, end) refl

  -- no spelling begins another
  pub none_begins : (a b : A) (rest : List ℕ) → F a → F b → s b ≡ s a ++ rest → (a ≡ b) × (rest ≡ [])
  none_begins a b rest fa fb e =
      let whole : drop 0 (s b) ≡ s a ++ rest = e in
      let st = Stands-from (s b) 0 (s a) rest (omega arith) whole in
      let first = (each (s b)).again 0 a (0 + length (s a)) (omega arith) st fa in
      let parts : drop 0 (s b) ≡ s b ++ [] = sym (append-nil (s b)) in
      let sb = Stands-from (s b) 0 (s b) [] (omega arith) parts in
      let second = (each (s b)).again 0 b (0 + length (s b)) (omega arith) sb fb in
      let pa : A × ℕ = (a, 0 + length (s a)) in
      let pb : A × ℕ = (b, 0 + length (s b)) in
      let same : (a, 0 + length (s a)) ≡ (b, 0 + length (s b)) = ok_is pa pb (sym first ∙ second) in
      let lens : 0 + length (s a) ≡ 0 + length (s b) = ap (λ (z : A × ℕ). z.1) same in
      (ap (λ (z : A × ℕ). z.0) same, nil_from_length rest (omega (arith, ap length e, length-append (s a) rest, lens)))
