-- A loose file: the value of one reference.
use Rattle.std.specs.Prelude.{◌≡◌, ℕ, List, [], ◌∷◌, ◌++◌, length, take, slice_index, ◌==◌, ◌&&◌, if◌then◌else◌, Option, Some, None, Result, Ok, Err}
use Rattle.hex.specs.Hex.{encode_lower}
use Rattle.gt_name.specs.Digits.{bad_name}
use Rattle.gt_reftext.specs.Lines.{name_of}

-- its 40 hex digits in lower case and a line feed
abbrev pub loose : List ℕ → List ℕ
loose name = encode_lower name ++ 10 ∷ []

-- 41 bytes: 40 hex digits in lower case and a line feed
pub record IsLoose (bytes : List ℕ) : Type 0 where
  pub long : length bytes ≡ 41
  pub digits : bad_name (take 40 bytes) ≡ None
  pub ended : slice_index bytes 40 ≡ 10

abbrev pub or_bad : Option (List ℕ) → Result (List ℕ) ℕ
or_bad None = Err 0
or_bad (Some x) = Ok x

-- the value that a loose file has; any fault of it is told at its begin
unfoldable pub value_of : List ℕ → Result (List ℕ) ℕ
value_of text = if length text == 41 && slice_index text 40 == 10 then or_bad (name_of (take 40 text)) else Err 0
