-- Reading a pack from left to right: the places of its records, or where the first field begins that can't be read.
use Rattle.std.specs.Prelude.{ℕ, ◌+◌, ◌-◌, Bool, List, [], ◌∷◌, length, drop, Option, Result, Ok, Err, codes, nat_eq, nat_lt, ◌==◌, if◌then◌else◌, slice_get, slice_range, bytes_eq}
use Rattle.std.specs.Option.{option_map, is_none}
use Rattle.std.specs.List.{starts_with}
use Rattle.std.specs.Int.{w32, w64}
use Rattle.gt_bytes.specs.Reading.{◌>>=◌, number_at, name_at, counted_at, first_at, kept, pair_at, seen_at}
use Rattle.gt_object.specs.Whole.{why_not}
use Rattle.gt_pack.specs.declared.placed.Placed.{Placed}
use Rattle.gt_pack.specs.Spelling.{above}

-- `GTP1`
abbrev pub magic_at : List ℕ → ℕ → Result (Unit {0} × ℕ) ℕ
magic_at bytes at = if starts_with nat_eq (drop at bytes) (codes "GTP1") then Ok (tt, at + 4) else Err at

abbrev pub is_record : List ℕ → Bool
is_record w = is_none (why_not w)

-- the name of the last of these
abbrev pub last_name : List Placed → Option (List ℕ)
last_name es = option_map (λ e. e.name) (slice_get es (length es - 1))

-- a name that is greater than this one
unfoldable pub name_above : List ℕ → Option (List ℕ) → ℕ → Result (List ℕ × ℕ) ℕ
name_above bytes before at = kept (above before) at (name_at bytes at)

-- the place and the length of a record; a fault of the record itself is where it begins
unfoldable pub record_at : List ℕ → ℕ → Result ((ℕ × ℕ) × ℕ) ℕ
record_at bytes at = number_at w32 bytes at >>= λ n. if nat_lt (length (drop n.1 bytes)) n.0 then Err n.1 else if is_record (slice_range bytes n.1 (n.1 + n.0)) then Ok ((n.1, n.0), n.1 + n.0) else Err n.1

abbrev pub to_placed : List ℕ × (ℕ × ℕ) → Placed
to_placed x = record { name = x.0; place = x.1.0; len = x.1.1 }

-- an item, after these
unfoldable pub placed_at : List ℕ → List Placed → ℕ → Result (Placed × ℕ) ℕ
placed_at bytes before at = seen_at to_placed (pair_at (name_above bytes (last_name before)) (record_at bytes)) at

-- a number that has to be this one
unfoldable pub exactly_at : List ℕ → ℕ → ℕ → Result (ℕ × ℕ) ℕ
exactly_at bytes n at = kept (λ m. m == n) at (number_at w64 bytes at)

-- a name that has to be this one
unfoldable pub same_at : List ℕ → List ℕ → ℕ → Result (List ℕ × ℕ) ℕ
same_at bytes name at = kept (λ x. bytes_eq x name) at (name_at bytes at)

-- the entry of this record in the index
unfoldable pub indexed_at : List ℕ → Placed → ℕ → Result ((List ℕ × ℕ) × ℕ) ℕ
indexed_at bytes e at = pair_at (same_at bytes e.name) (exactly_at bytes (e.place - 24)) at

-- the entries of these records, one after the other
abbrev pub index_at : List ℕ → List Placed → ℕ → Result (Unit {0} × ℕ) ℕ
index_at bytes [] at = Ok (tt, at)
index_at bytes (e ∷ es) at = indexed_at bytes e at >>= λ x. index_at bytes es x.1

-- the first item of a pack, which takes memory
abbrev pub first_item : List ℕ → ℕ → Result (Placed × ℕ) ℕ
first_item bytes at = magic_at bytes at >>= λ m. first_at (placed_at bytes) bytes m.1

-- the items
unfoldable pub items_at : List ℕ → ℕ → Result (List Placed × ℕ) ℕ
items_at bytes at = magic_at bytes at >>= λ m. counted_at (placed_at bytes) bytes m.1

-- the index of these records, and the place where it begins
unfoldable pub tail_at : List ℕ → List Placed → ℕ → Result (ℕ × ℕ) ℕ
tail_at bytes es at = index_at bytes es at >>= λ x. exactly_at bytes at x.1

-- all of the bytes
unfoldable pub pack_of : List ℕ → Result (List Placed) ℕ
pack_of bytes = items_at bytes 0 >>= λ x. tail_at bytes x.0 x.1 >>= λ y. if y.1 == length bytes then Ok x.0 else Err y.1
