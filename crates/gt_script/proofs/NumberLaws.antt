-- A word is read as a number of a range exactly where it is its decimal digits.
use Rattle.std.proofs.Common.{◌≡◌, ℕ, ◌^◌, ◌<◌, ◌≤◌, Bool, true, false, cond, leb, ◌&&◌, List, Some, None, refl, ap, sym, ◌∙◌, subst}
use Rattle.std.specs.Prelude.{decimal, bytes_eq}
use Rattle.std.specs.Str.{all_ascii_digits}
use Rattle.std.proofs.lemmas.Bool.{and_parts, le-leb, leb-true}
use Rattle.std.proofs.lemmas.Slice.Eq.{bytes_eq-Decides}
use Rattle.std.proofs.lemmas.Str.Parse.{IsNumeralModel, numerals_by_fold, tells_all_ascii_digits}
use Rattle.std.proofs.lemmas.Fmt.{digits_value-decimal}
use Rattle.gt_script.specs.Values.{digits_value, number}

own : IsNumeralModel (λ ds. all_ascii_digits ds ≡ true) (digits_value 0)
own = numerals_by_fold (λ ds. all_ascii_digits ds ≡ true) tells_all_ascii_digits digits_value (record { empty = λ n. refl; more = λ n c cs k. refl })

pub number-read : (low high n : ℕ) → n < 2 ^ 64 → low ≤ n → n ≤ high → number low high (decimal n) ≡ Some n
unfolding number
number-read low high n h l k =
    let same : bytes_eq (decimal n) (decimal n) ≡ true = (bytes_eq-Decides (decimal n) (decimal n)).1 refl in
    rw (digits_value-decimal own n h, le-leb low n l, le-leb n high k, same) refl

cond-some : (b : Bool) (v n : ℕ) → cond b (Some v) None ≡ Some n → (b ≡ true) × (v ≡ n)
cond-some true v n e = (refl, cc)
cond-some false v n e = absurd cc

pub number-only : (low high n : ℕ) (w : List ℕ) → number low high w ≡ Some n → (w ≡ decimal n) × (low ≤ n) × (n ≤ high)
unfolding number
number-only low high n w e =
    let v : ℕ = digits_value 0 w in
    let found = cond-some ((leb low v && leb v high) && bytes_eq (decimal v) w) v n e in
    let parts = and_parts (leb low v && leb v high) (bytes_eq (decimal v) w) found.0 in
    let within = and_parts (leb low v) (leb v high) parts.0 in
    let same : decimal v ≡ w = (bytes_eq-Decides (decimal v) w).0 parts.1 in (
      sym same ∙ ap decimal found.1,
      subst (λ (x : ℕ). low ≤ x) found.1 (leb-true low v within.0),
      subst (λ (x : ℕ). x ≤ high) found.1 (leb-true v high within.1),
    )
