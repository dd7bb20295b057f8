-- Trees: entries one after the other, each a mode of 1 to 7 octal digits, a space, a name without NUL, a NUL, and the name of an object.
use Rattle.std.specs.Prelude.{◌≡◌, ℕ, ◌+◌, ◌-◌, ◌*◌, ◌≤◌, ◌<◌, Bool, not, List, ◌∷◌, ◌++◌, length, take, drop, slice_index, Option, Some, None, Result, Ok, Err, position, nat_lt, nat_le, ◌==◌, ◌&&◌, if◌then◌else◌, map, filter, fold}
use Rattle.std.specs.List.{AllPass}
use Rattle.gt_bytes.specs.Reading.{◌>>=◌, while_at}

-- one entry of a tree; `id` is the name of the object
pub record TreeEntry : Type 0 where
  pub mode : List ℕ
  pub name : List ℕ
  pub id : List ℕ

-- a digit from 0 to 7
abbrev pub is_octal : ℕ → Bool
is_octal b = nat_le 48 b && nat_le b 55

-- how an entry is spelled
abbrev pub tree_entry : TreeEntry → List ℕ
tree_entry e = e.mode ++ 32 ∷ (e.name ++ 0 ∷ e.id)

-- what an entry may be
pub record IsTreeEntry (e : TreeEntry) : Type 0 where
  pub some_digit : 0 < length e.mode
  pub few_digits : length e.mode ≤ 7
  pub octal : AllPass is_octal e.mode
  pub some_name : 0 < length e.name
  pub no_zero : AllPass (λ b. not (b == 0)) e.name
  pub id : length e.id ≡ 20

-- ---- reading an entry

-- this many digits, if they are 1 to 7 and a space follows
abbrev pub mode_if : List ℕ → Option ℕ → Option ℕ
mode_if rest None = None
mode_if rest (Some k) = if (nat_lt 0 k && nat_le k 7) && (slice_index rest k == 32) then Some k else None

-- how many octal digits stand before the space
unfoldable pub mode_len : List ℕ → Option ℕ
mode_len rest = mode_if rest (position (λ b. not (is_octal b)) rest)

-- this many bytes, if they are some and 20 follow after the NUL
abbrev pub name_if : List ℕ → Option ℕ → Option ℕ
name_if tail None = None
name_if tail (Some m) = if nat_lt 0 m && nat_le (m + 21) (length tail) then Some m else None

-- how many bytes stand before the NUL
unfoldable pub name_len : List ℕ → Option ℕ
name_len tail = name_if tail (position (λ b. b == 0) tail)

-- the entry of a mode of k digits and a name of m bytes
abbrev pub entry_made : List ℕ → ℕ → ℕ → TreeEntry
entry_made rest k m = record { mode = take k rest; name = take m (drop (k + 1) rest); id = take 20 (drop (m + 1) (drop (k + 1) rest)) }

abbrev pub entry_by : List ℕ → ℕ → ℕ → Option ℕ → Result (TreeEntry × ℕ) ℕ
entry_by rest at k None = Err at
entry_by rest at k (Some m) = Ok (entry_made rest k m, at + (k + m + 22))

abbrev pub entry_with : List ℕ → ℕ → Option ℕ → Result (TreeEntry × ℕ) ℕ
entry_with rest at None = Err at
entry_with rest at (Some k) = entry_by rest at k (name_len (drop (k + 1) rest))

-- the entry at a place and the place after it, else the place
unfoldable pub entry_at : List ℕ → ℕ → Result (TreeEntry × ℕ) ℕ
entry_at c at = entry_with (drop at c) at (mode_len (drop at c))

-- ---- a whole tree

-- more bytes are left
abbrev pub more_entries : List ℕ → ℕ → Bool
more_entries c at = nat_lt at (length c)

-- the entries of a tree, else the place where the first one that breaks begins
unfoldable pub tree_entries : List ℕ → Result (List TreeEntry) ℕ
tree_entries c = while_at (more_entries c) (entry_at c) (length c) 0

-- ---- what a tree needs

-- the number that octal digits stand for
abbrev pub octal_value : List ℕ → ℕ
octal_value digits = fold (λ value b. 8 * value + (b - 48)) 0 digits

-- the mode of a submodule is octal 160000, with or without leading zeros: its object is in another repository
abbrev pub is_submodule : List ℕ → Bool
is_submodule mode = octal_value mode == 57344

-- the names that entries mention, in their order, but those of submodules
abbrev pub mentioned : List TreeEntry → List (List ℕ)
mentioned es = map (λ e. e.id) (filter (λ e. not (is_submodule e.mode)) es)

-- the names that a tree mentions, else the place where it breaks
abbrev pub tree_ids : List ℕ → Result (List (List ℕ)) ℕ
tree_ids c = tree_entries c >>= λ es. Ok (mentioned es)
