-- The lines of a packed file, and what each line says.
use Rattle.std.specs.Prelude.{◌≡◌, ℕ, ◌+◌, ◌<◌, Bool, false, IsSome, option_and_then, List, [], ◌∷◌, length, take, drop, nat_lt, ◌&&◌, ◌==◌, if◌then◌else◌, Option, Some, None, is_none, slice_index, codes, nat_eq, Result, Ok, Err}
use Rattle.std.specs.Borrow.{Bor}
use Rattle.std.specs.List.{list_all, starts_with}
use Rattle.hex.specs.Hex.{decode_of}
use Rattle.hex.specs.declared.error.FromHexError.{FromHexError}
use Rattle.gt_name.specs.Digits.{bad_name}
use Rattle.gt_name.specs.References.{bad_ref}
use Rattle.gt_reftext.specs.declared.packed_ref.PackedRef.{PackedRef}

-- what stands before the first line feed, and then between each two and after the last
abbrev pub parts_of : List ℕ → List ℕ × List (List ℕ)
parts_of [] = ([], [])
parts_of (b ∷ rest) = if b == 10 then ([], (parts_of rest).0 ∷ (parts_of rest).1) else (b ∷ (parts_of rest).0, (parts_of rest).1)

abbrev pub if_decoded : Result (List ℕ) FromHexError → Option (List ℕ)
if_decoded (Ok name) = Some name
if_decoded (Err e) = None

-- the name that 40 hex digits in lower case spell
abbrev pub name_of : List ℕ → Option (List ℕ)
name_of text = if is_none (bad_name text) then if_decoded (decode_of text) else None

-- forty zeros stand for no object
abbrev pub is_zero : List ℕ → Bool
is_zero value = list_all (λ b. b == 0) value

-- a reference without a peeled name; none where the name is bad or the value is zero
abbrev pub good_reference : List ℕ → List ℕ → Option PackedRef
good_reference value name = if is_zero value then None else if is_none (bad_ref name) then Some (record { name = name; value = value; peeled = None }) else None

-- the reference of a line: 40 digits, a space, and a name
unfoldable pub ref_line : List ℕ → Option PackedRef
ref_line line =
    if nat_lt (length line) 41 then None
    else if slice_index line 40 == 32 then option_and_then (λ value. good_reference value (drop 41 line)) (name_of (take 40 line))
    else None

-- The text is this line, a line feed and this rest; or it has no line feed.
abbrev pub Cuts : List ℕ → Option (Bor (List ℕ) × Bor (List ℕ)) → Type 0
Cuts text None = parts_of text ≡ (text, [])
Cuts text (Some x) = (parts_of text ≡ (x.0.now, (parts_of x.1.now).0 ∷ (parts_of x.1.now).1)) × (length x.1.now < length text)

-- a first line that begins with `#`
abbrev pub is_header : ℕ → List ℕ → Bool
is_header number line = number == 1 && starts_with nat_eq line (codes "#")

-- A line with a reference, which takes memory.
pub record IsReference (number : ℕ) (line : List ℕ) : Type 0 where
  pub below : is_header number line ≡ false
  pub found : IsSome (ref_line line)

-- the reference of the first of these lines that is no header, if it is one's; the last part is no line
abbrev pub first_of : ℕ → List ℕ → List (List ℕ) → Option PackedRef
first_of number part [] = None
first_of number part (next ∷ more) = if is_header number part then first_of (number + 1) next more else ref_line part

-- from a line of this number on
unfoldable pub first_from : ℕ → List ℕ → Option PackedRef
first_from number text = first_of number (parts_of text).0 (parts_of text).1

-- The first line that is no header has a reference.
abbrev pub BeginsWell : List ℕ → Type 0
BeginsWell text = IsSome (first_from 1 text)
