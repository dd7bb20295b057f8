-- Commits and tags: lines of a word and the name of an object, and then anything.
use Rattle.std.specs.Prelude.{◌≡◌, ℕ, ◌+◌, Bool, List, [], ◌∷◌, ◌++◌, length, take, drop, slice_index, Option, Some, None, Result, Ok, Err, codes, nat_eq, nat_le, ◌==◌, ◌&&◌, ◌||◌, if◌then◌else◌}
use Rattle.std.specs.List.{starts_with}
use Rattle.gt_bytes.specs.Reading.{◌>>=◌, while_at}
use Rattle.gt_bytes.specs.Standing.{IsBytes}
use Rattle.gt_name.specs.Digits.{bad_name}
use Rattle.hex.specs.Hex.{decode_of, encode_lower}

-- ---- one line

-- how a line is spelled: the word, 40 hex digits in lower case and a line feed
abbrev pub line : List ℕ → List ℕ → List ℕ
line word id = word ++ (encode_lower id ++ 10 ∷ [])

-- a name is 20 bytes
pub record IsId (id : List ℕ) : Type 0 where
  pub twenty : length id ≡ 20
  pub bytes : IsBytes id

abbrev pub id_by : {E : Type 0} → ℕ → ℕ → Result (List ℕ) E → Result (List ℕ × ℕ) ℕ
id_by at next (Ok id) = Ok (id, next)
id_by at next (Err e) = Err at

-- the name of these digits, if none is bad
abbrev pub id_of : List ℕ → ℕ → ℕ → Option ℕ → Result (List ℕ × ℕ) ℕ
id_of digits at next (Some bad) = Err at
id_of digits at next None = id_by at next (decode_of digits)

-- the name on the line of this word at a place and the place after it, else the place
unfoldable pub line_at : List ℕ → List ℕ → ℕ → Result (List ℕ × ℕ) ℕ
line_at word c at = if (starts_with nat_eq (drop at c) word && nat_le (length word + 41) (length (drop at c))) && (slice_index (drop at c) (length word + 40) == 10) then id_of (take 40 (drop (length word) (drop at c))) at (at + (length word + 41)) (bad_name (take 40 (drop (length word) (drop at c)))) else Err at

-- ---- commits

-- the next bytes are `parent `
abbrev pub more_parents : List ℕ → ℕ → Bool
more_parents c at = starts_with nat_eq (drop at c) (codes "parent ")

-- the names on the parent lines from a place on, else the begin of the first bad one
unfoldable pub parent_ids : List ℕ → ℕ → Result (List (List ℕ)) ℕ
parent_ids c at = while_at (more_parents c) (line_at (codes "parent ") c) (length c) at

-- the tree and the parents of a commit, else the begin of the first bad line
unfoldable pub commit_ids : List ℕ → Result (List (List ℕ)) ℕ
commit_ids c = line_at (codes "tree ") c 0 >>= λ t. parent_ids c t.1 >>= λ ps. Ok (t.0 ∷ ps)

-- ---- tags

-- a line `type` with one of the four words begins the bytes
abbrev pub has_type : List ℕ → Bool
has_type rest = (starts_with nat_eq rest (codes "type commit\n") || starts_with nat_eq rest (codes "type tree\n")) || (starts_with nat_eq rest (codes "type blob\n") || starts_with nat_eq rest (codes "type tag\n"))

-- the object of a tag, else the begin of the first bad line
unfoldable pub tag_ids : List ℕ → Result (List (List ℕ)) ℕ
tag_ids c = line_at (codes "object ") c 0 >>= λ o. if has_type (drop o.1 c) then Ok (o.0 ∷ []) else Err o.1
