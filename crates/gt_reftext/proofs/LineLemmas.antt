-- A line that was written says what was meant.
use Rattle.std.proofs.Common.{◌≡◌, ℕ, zero, suc, ◌/◌, ◌%◌, ◌<◌, Bool, true, false, not, eqb, ltb, ◌&&◌, List, [], ◌∷◌, ◌++◌, length, take, drop, get_or, slice_index, Some, None, refl, sym, ap, subst, ◌∙◌, arith, inl, inr, length-append}
use Rattle.std.specs.Prelude.{codes, nat_eq}
use Rattle.std.specs.List.{AllByRecursion, starts_with}
use Rattle.std.proofs.lemmas.Bool.{and_parts, cases_lt, eqb-true, le-ltb}
use Rattle.std.proofs.lemmas.List.{take_at, drop_at, get_or_at, drop-drop}
use Rattle.hex.specs.Hex.{encode_lower, encode_with, lower_digits, IsBytes}
use Rattle.hex.proofs.HexLemmas.{length-encode_with, decode_of-encode_lower}
use Rattle.gt_name.specs.References.{bad_ref, is_forbidden}
use Rattle.gt_name.proofs.DigitsLemmas.{bad_name-encode_lower}
use Rattle.gt_name.proofs.LawsLemmas.{all_fail, kept_by_reference}
use Rattle.gt_reftext.specs.declared.packed_ref.PackedRef.{PackedRef}
use Rattle.gt_reftext.specs.Lines.{parts_of, name_of, is_zero, good_reference, ref_line}
use Rattle.gt_reftext.specs.Spelling.{IsName}

-- ---- line feeds

abbrev pub NoFeed : List ℕ → Type 0
NoFeed t = AllByRecursion (λ b. eqb b 10 ≡ false) t

pub parts_line : (t rest : List ℕ) → NoFeed t → parts_of (t ++ 10 ∷ rest) ≡ (t, (parts_of rest).0 ∷ (parts_of rest).1)
parts_line [] rest h = refl
parts_line (b ∷ t) rest h = rw (h.0, parts_line t rest h.1) refl

pub no_feed-append : (s t : List ℕ) → NoFeed s → NoFeed t → NoFeed (s ++ t)
no_feed-append [] t h k = k
no_feed-append (b ∷ s) t h k = (h.0, no_feed-append s t h.1 k)

abbrev all_below : (ℕ → Bool) → ℕ → Bool
all_below p zero = true
all_below p (suc n) = p n && all_below p n

all_below-at : (p : ℕ → Bool) (n k : ℕ) → all_below p n ≡ true → k < n → p k ≡ true
all_below-at p zero k h lt = absurd (omega arith)
all_below-at p (suc n) k h lt =
    let parts = and_parts (p n) (all_below p n) h in
    elim (cases_lt k n) [
      | inl below ↦ all_below-at p n k parts.1 below
      | inr top ↦ (let e : k ≡ n = omega arith in rw e parts.0)
    ]

abbrev is_other_than : ℕ → ℕ → Bool
is_other_than c d = not (eqb (slice_index lower_digits d) c)

by : (b : Bool) → not b ≡ true → b ≡ false
by true e = cc
by false e = refl

no_feed : (d : ℕ) → d < 16 → eqb (slice_index lower_digits d) 10 ≡ false
no_feed d lt = by (eqb (slice_index lower_digits d) 10) (all_below-at (is_other_than 10) 16 d refl lt)

no_caret : (d : ℕ) → d < 16 → eqb 94 (slice_index lower_digits d) ≡ false
no_caret d lt = by (eqb 94 (slice_index lower_digits d)) (all_below-at (λ e. not (eqb 94 (slice_index lower_digits e))) 16 d refl lt)

pub digits_feed : (x : List ℕ) → IsBytes x → NoFeed (encode_lower x)
unfolding encode_with
digits_feed [] h = tt
digits_feed (b ∷ rest) h =
    let fits : b < 256 = h 0 in
    (no_feed (b / 16) (omega arith), (no_feed (b % 16) (omega arith), digits_feed rest (λ k. h (suc k))))

pub digits_caret : (x rest : List ℕ) → IsName x → starts_with nat_eq (encode_lower x ++ rest) (codes "^") ≡ false
unfolding encode_with
digits_caret [] rest h = absurd (let long : 0 ≡ 20 = h.0 in omega (arith, long))
digits_caret (b ∷ x) rest h =
    let fits : b < 256 = h.1 0 in
    rw (no_caret (b / 16) (omega arith)) refl

forbidden_feed : (b : ℕ) → is_forbidden b ≡ false → eqb b 10 ≡ false
forbidden_feed b e = by (eqb b 10) refl
  where
    by : (c : Bool) → eqb b 10 ≡ c → c ≡ false
    by true t = (let is : b ≡ 10 = eqb-true _ _ t in absurd (let bad : is_forbidden 10 ≡ false = subst (λ (k : ℕ). is_forbidden k ≡ false) is e in cc))
    by false t = refl

feed_from : (t : List ℕ) → ((k d : ℕ) → k < length t → is_forbidden (get_or t k d) ≡ false) → NoFeed t
feed_from [] h = tt
feed_from (b ∷ t) h = (forbidden_feed b (h 0 0 (omega arith)), feed_from t (λ k d lt. h (suc k) d (omega arith)))

pub name_feed : (t : List ℕ) → bad_ref t ≡ None → NoFeed t
name_feed t e = feed_from t (all_fail is_forbidden t (kept_by_reference t e).2)

-- ---- names and lines

pub name_back : (x : List ℕ) → IsName x → name_of (encode_lower x) ≡ Some x
name_back x h = rw (bad_name-encode_lower x h.0 h.1, decode_of-encode_lower x h.1) refl

pub long_digits : (x : List ℕ) → IsName x → length (encode_lower x) ≡ 40
long_digits x h = omega (arith, length-encode_with lower_digits x, h.0)

line_by : (line value name : List ℕ) (r : PackedRef) → ltb (length line) 41 ≡ false → get_or line 40 0 ≡ 32 → name_of (take 40 line) ≡ Some value → drop 41 line ≡ name → good_reference value name ≡ Some r → ref_line line ≡ Some r
unfolding ref_line
line_by line value name r long sep front back good = rw (long, sep, front) (ap (good_reference value) back ∙ good)

good_by : (value name : List ℕ) → is_zero value ≡ false → bad_ref name ≡ None → good_reference value name ≡ Some (record { name = name; value = value; peeled = None })
good_by value name not_zero good = rw (not_zero, good) refl

pub ref_line_back : (value name : List ℕ) → IsName value → is_zero value ≡ false → bad_ref name ≡ None → ref_line (encode_lower value ++ 32 ∷ name) ≡ Some (record { name = name; value = value; peeled = None })
ref_line_back value name is some good =
    let e : List ℕ = encode_lower value in
    let forty : length (encode_lower value) ≡ 40 = long_digits value is in
    let line : List ℕ = encode_lower value ++ 32 ∷ name in
    let long : ltb (length (encode_lower value ++ 32 ∷ name)) 41 ≡ false = le-ltb _ _ (omega (arith, forty, length-append (encode_lower value) (32 ∷ name))) in
    let sep : get_or (encode_lower value ++ 32 ∷ name) 40 0 ≡ 32 = get_or_at (encode_lower value) 32 name 0 40 forty in
    let front : take 40 (encode_lower value ++ 32 ∷ name) ≡ encode_lower value = take_at (encode_lower value) (32 ∷ name) 40 forty in
    let back : drop 41 (encode_lower value ++ 32 ∷ name) ≡ name = sym (drop-drop 1 40 (encode_lower value ++ 32 ∷ name)) ∙ ap (drop 1) (drop_at (encode_lower value) (32 ∷ name) 40 forty) in
    line_by (encode_lower value ++ 32 ∷ name) value name (record { name = name; value = value; peeled = None }) long sep (ap name_of front ∙ name_back value is) back (good_by value name some good)
