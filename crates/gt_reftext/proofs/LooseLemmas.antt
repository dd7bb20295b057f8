-- A loose file is its 40 digits and a line feed.
use Rattle.std.proofs.Common.{◌≡◌, ℕ, ◌<◌, List, [], ◌∷◌, ◌++◌, length, take, drop, get_or, None, refl, sym, ◌∙◌, arith, length-append, drop-cons}
use Rattle.std.proofs.lemmas.List.{take-append-drop, take_at, drop_all, get_or_at}
use Rattle.hex.specs.Hex.{encode_lower}
use Rattle.gt_name.specs.Digits.{bad_name}
use Rattle.gt_reftext.specs.Loose.{loose, IsLoose}

-- what was read is spelled so
pub loose_is : (bytes name : List ℕ) → length bytes ≡ 41 → get_or bytes 40 0 ≡ 10 → encode_lower name ≡ take 40 bytes → bytes ≡ loose name
loose_is bytes name long ended digits =
    let inside : 40 < length bytes = omega arith in
    let last : drop 40 bytes ≡ 10 ∷ [] = drop-cons bytes 40 0 inside ∙ rw (ended, drop_all 41 bytes (omega arith)) refl in
    sym (take-append-drop 40 bytes) ∙ rw (last, digits) refl

-- what was written is a loose file
pub loose_back : (digits : List ℕ) → length digits ≡ 40 → bad_name digits ≡ None → IsLoose (digits ++ 10 ∷ [])
loose_back digits long good = record {
  long = omega (arith, length-append digits (10 ∷ []));
  digits = rw (take_at digits (10 ∷ []) 40 long) good;
  ended = get_or_at digits 10 [] 0 40 long;
}
