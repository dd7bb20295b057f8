-- What a word may be, and its value.
use Rattle.std.specs.Prelude.{ℕ, ◌+◌, ◌-◌, ◌*◌, ◌%◌, Bool, List, [], ◌∷◌, length, Option, Some, None, Result, Ok, Err, ◌==◌, ◌&&◌, ◌||◌, not, nat_le, if◌then◌else◌, is_none, codes, decimal, bytes_eq}
use Rattle.std.specs.List.{list_all}
use Rattle.std.specs.Option.{option_map}
use Rattle.hex.specs.Hex.{decode_of}
use Rattle.hex.specs.declared.error.FromHexError.{FromHexError}
use Rattle.gt_name.specs.Digits.{bad_name, is_other}

-- any word
abbrev pub any : List ℕ → Option (List ℕ)
any w = Some w

-- this word
abbrev pub only : List ℕ → List ℕ → Option (List ℕ)
only text w = if bytes_eq w text then Some w else None

-- what the bytes are if they are decimal digits, behind those that are this
abbrev pub digits_value : ℕ → List ℕ → ℕ
digits_value sofar [] = sofar
digits_value sofar (d ∷ ds) = digits_value (sofar * 10 + (d - 48)) ds

-- this number, where it is of the range and the word is just its decimal digits
abbrev pub number_if : ℕ → ℕ → List ℕ → ℕ → Option ℕ
number_if low high w n = if nat_le low n && nat_le n high && bytes_eq (decimal n) w then Some n else None

-- a number of a range, in decimal without leading zeros
unfoldable pub number : ℕ → ℕ → List ℕ → Option ℕ
number low high w = number_if low high w (digits_value 0 w)

abbrev pub if_decoded : Result (List ℕ) FromHexError → Option (List ℕ)
if_decoded (Ok name) = Some name
if_decoded (Err e) = None

-- the name of an object, in 40 hex digits in lower case
abbrev pub name : List ℕ → Option (List ℕ)
name w = if is_none (bad_name w) then if_decoded (decode_of w) else None

-- such a name, or `*` for none
abbrev pub old : List ℕ → Option (Option (List ℕ))
old w = if bytes_eq w (codes "*") then Some None else option_map (λ n. Some n) (name w)

-- an even number of hex digits in lower case, or `-` for no content
abbrev pub is_content : List ℕ → Bool
is_content w = bytes_eq w (codes "-") || (length w % 2 == 0 && list_all (λ b. not (is_other b)) w)

-- such a word, as it stands
abbrev pub content : List ℕ → Option (List ℕ)
content w = if is_content w then Some w else None
