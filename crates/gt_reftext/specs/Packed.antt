-- A packed file: from its lines to the ascending list of its references.
use Rattle.std.specs.Prelude.{ℕ, ◌+◌, Bool, false, List, [], ◌∷◌, length, take, drop, map, ◌-◌, ◌||◌, ◌==◌, if◌then◌else◌, Option, Some, None, is_none, is_some, codes, nat_eq, Result, Ok, Err, bytes_eq}
use Rattle.std.specs.List.{starts_with, sum}
use Rattle.std.specs.List.Sorted.{IsStrictlySortedBy}
use Rattle.std.specs.Ordering.{nat_cmp}
use Rattle.std.specs.Cmp.Lexicographic.{slice_cmp}
use Rattle.std.specs.Map.{lookup}
use Rattle.std.specs.BTreeMap.{insert_entry, is_at}
use Rattle.gt_reftext.specs.declared.packed_ref.PackedRef.{PackedRef}
use Rattle.gt_reftext.specs.Lines.{parts_of, name_of, ref_line, is_header}

-- a name, with its value and its peeled name
abbrev pub Entry : Type 0
Entry = List ℕ × (List ℕ × Option (List ℕ))

-- the references of the lines so far: those before the last one, ascending by name, and the last one
abbrev pub PackedSoFar : Type 0
PackedSoFar = List Entry × Option PackedRef

-- put at its place by name
abbrev pub put : List Entry → Option PackedRef → List Entry
put done None = done
put done (Some r) = insert_entry (slice_cmp nat_cmp) done r.name (r.value, r.peeled)

abbrev pub is_named : Option PackedRef → List ℕ → Bool
is_named None name = false
is_named (Some r) name = bytes_eq r.name name

-- the name stands among those so far
abbrev pub has_name : PackedSoFar → List ℕ → Bool
has_name progress name = is_named progress.1 name || is_some (lookup (is_at (slice_cmp nat_cmp name)) progress.0)

-- one reference more; none where its name stands there already
abbrev pub with_ref : PackedSoFar → Option PackedRef → Option PackedSoFar
with_ref progress None = None
with_ref progress (Some r) = if has_name progress r.name then None else Some (put progress.0 progress.1, Some r)

-- a peeled name for the last reference, which must have none yet
abbrev pub with_peeled : List Entry → Option PackedRef → Option (List ℕ) → Option PackedSoFar
with_peeled done None name = None
with_peeled done (Some r) None = None
with_peeled done (Some r) (Some name) = if is_none r.peeled then Some (done, Some (record { name = r.name; value = r.value; peeled = Some name })) else None

-- what the line of this number makes of those so far; none where it may not stand there
unfoldable pub after_line : ℕ → PackedSoFar → List ℕ → Option PackedSoFar
after_line number progress line =
    if is_header number line then Some progress
    else if starts_with nat_eq line (codes "^") then with_peeled progress.0 progress.1 (name_of (drop 1 line))
    else with_ref progress (ref_line line)

abbrev pub or_bad : {A B : Type 0} → ℕ → Option A → (A → Result B ℕ) → Result B ℕ
or_bad number None go_on = Err number
or_bad number (Some x) go_on = go_on x

-- each part but the last is a line, and the last one has to be empty; else the number of the first bad line
abbrev pub read_parts : PackedSoFar → ℕ → List ℕ → List (List ℕ) → Result PackedSoFar ℕ
read_parts progress number part [] = if length part == 0 then Ok progress else Err number
read_parts progress number part (next ∷ more) = or_bad number (after_line number progress part) (λ s. read_parts s (number + 1) next more)

-- from a line of this number on
unfoldable pub read_from : PackedSoFar → ℕ → List ℕ → Result PackedSoFar ℕ
read_from progress number text = read_parts progress number (parts_of text).0 (parts_of text).1

abbrev pub to_ref : Entry → PackedRef
to_ref e = record { name = e.0; value = e.1.0; peeled = e.1.1 }

abbrev pub list_of : Result PackedSoFar ℕ → Result (List PackedRef) ℕ
list_of (Ok progress) = Ok (map to_ref (put progress.0 progress.1))
list_of (Err number) = Err number

-- the references of a packed file, ascending by name, or the number of its first bad line
abbrev pub packed_of : List ℕ → Result (List PackedRef) ℕ
packed_of text = list_of (read_from ([], None) 1 text)

-- The names ascend, so none stands twice.
abbrev pub Ascends : List PackedRef → Type 0
Ascends list = IsStrictlySortedBy (slice_cmp nat_cmp) (map (λ r. r.name) list)

-- the place where the line of this number begins, in bytes
unfoldable pub line_begin : List ℕ → ℕ → ℕ
line_begin text number = sum (map (λ line. length line + 1) (take (number - 1) ((parts_of text).0 ∷ (parts_of text).1)))
