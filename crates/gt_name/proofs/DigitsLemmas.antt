-- Forty digits in lower case decode to twenty bytes, whose digits they are; and the digits of twenty bytes are such a text.
use Rattle.std.proofs.Common.{◌≡◌, ℕ, zero, suc, ◌+◌, ◌*◌, ◌/◌, ◌%◌, ◌<◌, ◌≤◌, Bool, true, false, not, cond, eqb, ltb, ◌&&◌, ◌||◌, ◌==◌, List, [], ◌∷◌, length, min, take, slice_index, Option, Some, None, Ok, is_some, unwrap_or, refl, ap, ◌∙◌, subst, arith, take_all, position, inl, inr}
use Rattle.std.proofs.lemmas.Bool.{and_parts, cases_lt, eqb-true}
use Rattle.std.proofs.lemmas.Bool.Decides.{nat_tests}
use Rattle.std.specs.List.{AllByRecursion, prefix_len}
use Rattle.hex.specs.Hex.{is_hex_digit, hex_digit_value, decode_of, decode_sized, decode_pairs, pair_value, encode_lower, encode_with, lower_digits, IsBytes}
use Rattle.hex.proofs.HexLemmas.{decode_of-even, decode_sized-twice, length-encode_with}
use Rattle.hex.proofs.Pairs.{cons_byte, decode_pairs-ok_pair}
use Rattle.gt_name.specs.Broken.{or_else}
use Rattle.gt_name.specs.Digits.{is_other, bad_name}

-- each element is a digit in lower case
abbrev IsLower : List ℕ → Type 0
IsLower t = AllByRecursion (λ x. is_other x ≡ false) t

-- ---- tests that compute

-- the test of the first n numbers
abbrev all_below : (ℕ → Bool) → ℕ → Bool
all_below p zero = true
all_below p (suc n) = p n && all_below p n

-- a number below n passed the test
all_below-at : (p : ℕ → Bool) (n k : ℕ) → all_below p n ≡ true → k < n → p k ≡ true
all_below-at p zero k h lt = absurd (omega arith)
all_below-at p (suc n) k h lt =
    let parts = and_parts (p n) (all_below p n) h in
    elim (cases_lt k n) [
      | inl below ↦ all_below-at p n k parts.1 below
      | inr top ↦
          let e : k ≡ n = omega arith in
          rw e parts.0
    ]

-- a digit in lower case is the digit of its value
abbrev is_own_digit : ℕ → Bool
is_own_digit b = is_other b || (slice_index lower_digits (unwrap_or (hex_digit_value b) 99) == b && ltb (unwrap_or (hex_digit_value b) 99) 16)

-- the digit of a value is in lower case
abbrev is_lower_digit : ℕ → Bool
is_lower_digit d = not (is_other (slice_index lower_digits d))

own_digit : (b : ℕ) → is_other b ≡ false → is_own_digit b ≡ true
own_digit b e =
    let least : b < 103 = grind (arith, nat_tests) in
    all_below-at is_own_digit 103 b refl least

lower_digit : (d : ℕ) → d < 16 → is_other (slice_index lower_digits d) ≡ false
lower_digit d lt = by (is_other (slice_index lower_digits d)) (all_below-at is_lower_digit 16 d refl lt)
  where
    by : (b : Bool) → not b ≡ true → b ≡ false
    by true e = cc
    by false e = refl

-- ---- a text in lower case

hex_of : (b : ℕ) → is_other b ≡ false → is_hex_digit b ≡ true
hex_of b e = grind (arith, nat_tests)

-- the value of a digit in lower case, whose digit it is
value_of_digit : (b : ℕ) → is_other b ≡ false → (v : ℕ) × (hex_digit_value b ≡ Some v) × (v < 16) × (slice_index lower_digits v ≡ b)
value_of_digit b e = by (hex_digit_value b) refl (hex_of b e) (rw e at (own_digit b e))
  where
    by : (o : Option ℕ) → hex_digit_value b ≡ o → is_some o ≡ true → (slice_index lower_digits (unwrap_or o 99) == b && ltb (unwrap_or o 99) 16) ≡ true
        → (v : ℕ) × (hex_digit_value b ≡ Some v) × (v < 16) × (slice_index lower_digits v ≡ b)
    by (Some v) was some own =
        let parts = and_parts _ _ own in
        (v, was, grind (arith, nat_tests), eqb-true _ _ parts.0)
    by None was some own = cc

-- what a text in lower case decodes to has this text
read_back : (i : ℕ) (s : List ℕ) → length s % 2 ≡ 0 → IsLower s → (bytes : List ℕ) × (decode_pairs i s ≡ Ok bytes) × (encode_lower bytes ≡ s)
unfolding decode_pairs encode_with
read_back i [] even h = ([], refl, refl)
read_back i (a ∷ []) even h = absurd (omega arith)
read_back i (a ∷ b ∷ rest) even h =
    let high = value_of_digit a h.0 in
    let low = value_of_digit b h.1.0 in
    let ih = read_back (i + 2) rest (omega arith) h.1.1 in
    let pair : pair_value a b i ≡ Ok (high.0 * 16 + low.0) = rw (high.1, low.1) refl in
    let above : (high.0 * 16 + low.0) / 16 ≡ high.0 = omega (arith, low.2) in
    let below : (high.0 * 16 + low.0) % 16 ≡ low.0 = omega (arith, low.2) in (
      (high.0 * 16 + low.0) ∷ ih.0,
      decode_pairs-ok_pair i a b _ rest pair ∙ ap (cons_byte (high.0 * 16 + low.0)) ih.1,
      rw (above, below, high.3, low.3, ih.2) refl,
    )

-- ---- the first other byte

-- a text without a first other byte is in lower case
whole : (xs : List ℕ) → length xs ≤ prefix_len (λ x. not (is_other x)) xs → IsLower xs
whole [] h = tt
whole (x ∷ xs) h =
    elim (is_other x) as (λ b. is_other x ≡ b → length xs + 1 ≤ cond (not b) (1 + prefix_len (λ y. not (is_other y)) xs) 0 → IsLower (x ∷ xs)) [
      | true ↦ λ e g. absurd (omega arith)
      | false ↦ λ e g. (e, whole xs (omega arith))
    ] refl (omega arith)

none_other : (xs : List ℕ) → position is_other xs ≡ None → IsLower xs
none_other xs e = whole xs (by (ltb (prefix_len (λ x. not (is_other x)) xs) (length xs)) refl e)
  where
    by : (b : Bool) → ltb (prefix_len (λ x. not (is_other x)) xs) (length xs) ≡ b → cond b (Some (prefix_len (λ x. not (is_other x)) xs)) None ≡ None → length xs ≤ prefix_len (λ x. not (is_other x)) xs
    by true t g = cc
    by false t g = grind (arith, nat_tests)

-- a text in lower case has no other byte
long : (xs : List ℕ) → IsLower xs → prefix_len (λ x. not (is_other x)) xs ≡ length xs
long [] h = refl
long (x ∷ xs) h = let rest = long xs h.1 in rw h.0 (omega arith)

position-lower : (xs : List ℕ) → IsLower xs → position is_other xs ≡ None
position-lower xs h = by (ltb (prefix_len (λ x. not (is_other x)) xs) (length xs)) refl
  where
    by : (b : Bool) → ltb (prefix_len (λ x. not (is_other x)) xs) (length xs) ≡ b → cond b (Some (prefix_len (λ x. not (is_other x)) xs)) None ≡ None
    by true t = let same = long xs h in absurd (grind (arith, nat_tests))
    by false t = refl

-- the digits of bytes are in lower case
lower_text : (bytes : List ℕ) → IsBytes bytes → IsLower (encode_lower bytes)
unfolding encode_with
lower_text [] h = tt
lower_text (b ∷ rest) h =
    let fits : b < 256 = h 0 in
    (lower_digit (b / 16) (omega arith), (lower_digit (b % 16) (omega arith), lower_text rest (λ k. h (suc k))))

-- ---- a name's text

-- a text without a bad place has no other byte among its first 40, and 40 bytes
parts : (o : Option ℕ) (b : Bool) (k : ℕ) → or_else o (cond b None (Some k)) ≡ None → (o ≡ None) × (b ≡ true)
parts (Some at) b k e = cc
parts None true k e = (refl, refl)
parts None false k e = cc

-- a text without a bad place decodes to bytes whose text it is
pub decode_of-good : (t : List ℕ) → bad_name t ≡ None → (bytes : List ℕ) × (decode_of t ≡ Ok bytes) × (decode_sized t 20 ≡ Ok bytes) × (encode_lower bytes ≡ t)
decode_of-good t e =
    let p = parts (position is_other (take (min (length t) 40) t)) (eqb (length t) 40) _ e in
    let same : length t ≡ 40 = eqb-true _ _ p.1 in
    let P : List ℕ → Type 0 = λ x. position is_other x ≡ None in
    let lower : IsLower t = none_other t (subst P (take_all (min (length t) 40) t (omega arith)) p.0) in
    let r = read_back 0 t (omega arith) lower in
    let whole : decode_of t ≡ Ok r.0 = decode_of-even t (omega arith) ∙ r.1 in
    (r.0, whole, decode_sized-twice t 20 (omega arith) ∙ whole, r.2)

-- the text of twenty bytes has no bad place
pub bad_name-encode_lower : (bytes : List ℕ) → length bytes ≡ 20 → IsBytes bytes → bad_name (encode_lower bytes) ≡ None
bad_name-encode_lower bytes twenty h =
    let len : length (encode_lower bytes) ≡ 40 = omega (arith, length-encode_with lower_digits bytes) in
    let none = position-lower (encode_lower bytes) (lower_text bytes h) in
    rw (len, take_all 40 (encode_lower bytes) (omega arith), none) refl
