-- The words of a line, found again.
use Rattle.std.proofs.Common.{◌≡◌, ℕ, zero, suc, ◌+◌, ◌-◌, ◌^◌, ◌<◌, ◌≤◌, inl, inr, Bool, true, false, not, eqb, ◌&&◌, ◌||◌, List, [], ◌∷◌, ◌++◌, refl, ap, ◌∙◌, arith, subst}
use Rattle.std.proofs.lemmas.Bool.{and_parts, cases_lt}
use Rattle.std.proofs.lemmas.Str.Parse.{IsNumeralModel, digit_from_value}
use Rattle.std.proofs.lemmas.Fmt.{digits_decimal, digits_value-decimal}
use Rattle.std.specs.Prelude.{decimal}
use Rattle.std.specs.Str.Parse.{AllDigits, digits_value}
use Rattle.std.specs.List.{slice_split, list_all}
use Rattle.gt_script.specs.Printed.{line}

-- what a word of a line never has
abbrev pub is_end : ℕ → Bool
is_end b = eqb b 32 || eqb b 10

abbrev pub is_plain : List ℕ → Bool
is_plain w = list_all (λ b. not (is_end b)) w

abbrev pub are_plain : List (List ℕ) → Bool
are_plain ws = list_all is_plain ws

pub not_true : (v : Bool) → not v ≡ true → v ≡ false
not_true true h = cc
not_true false h = refl

split-plain : (end : ℕ) (w rest : List ℕ) → is_end end ≡ true → is_plain w ≡ true → slice_split is_end (w ++ end ∷ rest) ≡ w ∷ slice_split is_end rest
split-plain end [] rest e h = rw e refl
split-plain end (b ∷ w) rest e h =
    let parts = and_parts (not (is_end b)) (is_plain w) h in
    rw (not_true (is_end b) parts.0, split-plain end w rest e parts.1) refl

-- a line's words, and the empty one behind its line feed
pub words-back : (w : List ℕ) (ws : List (List ℕ)) → is_plain w ≡ true → are_plain ws ≡ true → slice_split is_end (line w ws) ≡ w ∷ (ws ++ [] ∷ [])
words-back w [] h k = split-plain 10 w [] refl h
words-back w (v ∷ vs) h k =
    let parts = and_parts (is_plain v) (are_plain vs) k in
    split-plain 32 w (line v vs) refl h ∙ ap (λ (l : List (List ℕ)). w ∷ l) (words-back v vs parts.0 parts.1)

-- ---- numbers

own : IsNumeralModel (AllDigits 10) (digits_value 10)
own = record { to = λ ds p. p; from = λ ds p. p; same = λ ds p. refl }

pub number-back : (n : ℕ) → n < 2 ^ 64 → digits_value 10 (decimal n) ≡ n
number-back n h = digits_value-decimal own n h

abbrev fails_below : (ℕ → Bool) → ℕ → Bool
fails_below p zero = true
fails_below p (suc n) = not (p (48 + n)) && fails_below p n

abbrev pub fails_on_digits : (ℕ → Bool) → Bool
fails_on_digits p = fails_below p 10

fails_below-at : (p : ℕ → Bool) (n k : ℕ) → fails_below p n ≡ true → k < n → not (p (48 + k)) ≡ true
fails_below-at p zero k h lt = absurd (omega arith)
fails_below-at p (suc n) k h lt =
    let parts = and_parts (not (p (48 + n))) (fails_below p n) h in
    elim (cases_lt k n) [
      | inl below ↦ fails_below-at p n k parts.1 below
      | inr top ↦ (let e : k ≡ n = omega arith in rw e parts.0)
    ]

digit_fails : (p : ℕ → Bool) → fails_on_digits p ≡ true → (d : ℕ) → 48 ≤ d → d ≤ 57 → not (p d) ≡ true
digit_fails p fails d low high =
    let same : 48 + (d - 48) ≡ d = omega arith in
    subst (λ (x : ℕ). not (p x) ≡ true) same (fails_below-at p 10 (d - 48) fails (omega arith))

-- each digit fails a test that the ten digits fail
digits-pass : (p : ℕ → Bool) → fails_on_digits p ≡ true → (ds : List ℕ) → AllDigits 10 ds → list_all (λ b. not (p b)) ds ≡ true
digits-pass p fails [] h = refl
digits-pass p fails (d ∷ ds) h =
    let k = digit_from_value d h.0 in
    rw (digit_fails p fails d k.0 k.1) (digits-pass p fails ds h.1)

pub number-pass : (p : ℕ → Bool) → fails_on_digits p ≡ true → (n : ℕ) → n < 2 ^ 64 → list_all (λ b. not (p b)) (decimal n) ≡ true
number-pass p fails n h = digits-pass p fails (decimal n) (digits_decimal own n h)

pub number-plain : (n : ℕ) → n < 2 ^ 64 → is_plain (decimal n) ≡ true
number-plain n h = number-pass is_end refl n h

pub plain-append : (v w : List ℕ) → is_plain v ≡ true → is_plain w ≡ true → is_plain (v ++ w) ≡ true
plain-append [] w h k = k
plain-append (b ∷ v) w h k =
    let parts = and_parts (not (is_end b)) (is_plain v) h in
    rw parts.0 (plain-append v w parts.1 k)
