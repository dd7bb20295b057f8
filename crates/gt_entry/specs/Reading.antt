-- Reading an entry from left to right.
use Rattle.std.specs.Prelude.{ℕ, ◌+◌, ◌-◌, Bool, true, false, not, List, length, drop, Option, Some, None, is_none, Result, Ok, Err, codes, nat_eq, nat_lt, ◌==◌, if◌then◌else◌, slice_get, slice_range}
use Rattle.std.specs.List.{starts_with, list_any}
use Rattle.std.specs.Option.{option_map_or}
use Rattle.std.specs.Ordering.{is_lt}
use Rattle.std.specs.Int.{w32, w64}
use Rattle.gt_bytes.specs.Reading.{◌>>=◌, byte_at, number_at, name_at, text_at, counted_at, kept, pair_at, seen_at, all_of}
use Rattle.gt_name.specs.Paths.{bad_path}
use Rattle.gt_name.specs.References.{bad_ref}
use Rattle.gt_object.specs.Whole.{why_not}
use Rattle.gt_model.specs.declared.added.Added.{Added}
use Rattle.gt_model.specs.declared.change.Change.{Change}
use Rattle.gt_model.specs.declared.change.Change.TheVariants.{Create, Delete, Link, Write, Repack, Prune, PackRefs, Unlink}
use Rattle.gt_model.specs.declared.entry.Entry.{Entry}
use Rattle.gt_model.specs.declared.update.RefUpdate.{RefUpdate}
use Rattle.gt_model.specs.Contents.{key_cmp}
use Rattle.gt_model.specs.Verdicts.{same_name}
use Rattle.gt_entry.specs.declared.version.Version.{Version}
use Rattle.gt_entry.specs.declared.version.Version.TheVariants.{First, Second}
use Rattle.gt_entry.specs.Spelling.{same, has_check}

-- ---- single fields

abbrev pub good_path : List ℕ → Bool
good_path t = is_none (bad_path t)

unfoldable pub path_at : List ℕ → ℕ → Result (List ℕ × ℕ) ℕ
path_at bytes at = kept good_path at (text_at bytes at)

abbrev pub good_ref : List ℕ → Bool
good_ref t = is_none (bad_ref t)

unfoldable pub ref_at : List ℕ → ℕ → Result (List ℕ × ℕ) ℕ
ref_at bytes at = kept good_ref at (text_at bytes at)

abbrev pub flag_of : ℕ → ℕ → ℕ → Result (Bool × ℕ) ℕ
flag_of at b next = if b == 0 then Ok (false, next) else if b == 1 then Ok (true, next) else Err at

unfoldable pub flag_at : List ℕ → ℕ → Result (Bool × ℕ) ℕ
flag_at bytes at = byte_at bytes at >>= λ b. flag_of at b.0 b.1

-- ---- references

-- None of those before it has the name.
abbrev pub is_new : List RefUpdate → List ℕ → Bool
is_new before name = not (list_any (λ u. same_name u.name name) before)

abbrev pub some_at : List ℕ → ℕ → Result (Option (List ℕ) × ℕ) ℕ
some_at bytes at = seen_at (λ new. Some new) (name_at bytes) at

abbrev pub target_by : List ℕ → Bool → ℕ → Result (Option (List ℕ) × ℕ) ℕ
target_by bytes moves next = if moves then some_at bytes next else Ok (None, next)

unfoldable pub target_at : Version → List ℕ → ℕ → Result (Option (List ℕ) × ℕ) ℕ
target_at First bytes at = some_at bytes at
target_at Second bytes at = flag_at bytes at >>= λ moves. target_by bytes moves.0 moves.1

abbrev pub to_update : List ℕ × (List ℕ × Option (List ℕ)) → RefUpdate
to_update x = record { name = x.0; old = x.1.0; new = x.1.1 }

unfoldable pub update_at : Version → List ℕ → List RefUpdate → ℕ → Result (RefUpdate × ℕ) ℕ
update_at v bytes before at = seen_at to_update (pair_at (λ at. kept (is_new before) at (ref_at bytes at)) (pair_at (name_at bytes) (target_at v bytes))) at

-- ---- names and records, ascending

-- greater than the key of the last of those before it
abbrev pub above : {A : Type 0} → (A → List ℕ) → List A → List ℕ → Bool
above key before x = option_map_or (λ last. is_lt (key_cmp (key last) x)) (slice_get before (length before - 1)) true

unfoldable pub ascending_at : List ℕ → List (List ℕ) → ℕ → Result (List ℕ × ℕ) ℕ
ascending_at bytes before at = kept (above same before) at (name_at bytes at)

abbrev pub is_record : List ℕ → Bool
is_record whole = is_none (why_not whole)

-- what is wrong with the record itself is wrong where it begins, behind its length
unfoldable pub record_at : List ℕ → ℕ → Result (List ℕ × ℕ) ℕ
record_at bytes at = number_at w32 bytes at >>= λ n. if nat_lt (length (drop n.1 bytes)) n.0 then Err n.1 else kept is_record n.1 (Ok (slice_range bytes n.1 (n.1 + n.0), n.1 + n.0))

abbrev pub added_name : Added → List ℕ
added_name a = a.name

abbrev pub to_added : List ℕ × List ℕ → Added
to_added x = record { name = x.0; whole = x.1 }

unfoldable pub added_at : List ℕ → List Added → ℕ → Result (Added × ℕ) ℕ
added_at bytes before at = seen_at to_added (pair_at (λ at. kept (above added_name before) at (name_at bytes at)) (record_at bytes)) at

-- ---- changes

abbrev pub to_write : List RefUpdate × (List (List ℕ) × List Added) → Change
to_write x = Write x.0 x.1.0 x.1.1

unfoldable pub write_at : Version → List ℕ → ℕ → Result (Change × ℕ) ℕ
write_at v bytes at = seen_at to_write (pair_at (counted_at (update_at v bytes) bytes) (pair_at (counted_at (ascending_at bytes) bytes) (counted_at (added_at bytes) bytes))) at

-- a file number, and the names that are dropped
unfoldable pub packing_at : List ℕ → ℕ → Result ((ℕ × List (List ℕ)) × ℕ) ℕ
packing_at bytes at = pair_at (number_at w64 bytes) (counted_at (ascending_at bytes) bytes) at

-- by its kind, which stands at this place; the second spelling is for writes alone
abbrev pub change_by : Version → List ℕ → ℕ → ℕ → ℕ → Result (Change × ℕ) ℕ
change_by First bytes at kind next =
    if kind == 1 then seen_at (λ pool. Create pool) (flag_at bytes) next
    else if kind == 2 then Ok (Delete, next)
    else if kind == 3 then seen_at (λ pool. Link pool) (path_at bytes) next
    else if kind == 4 then write_at First bytes next
    else if kind == 5 then seen_at (λ x. Repack x.0 x.1) (packing_at bytes) next
    else if kind == 6 then seen_at (λ x. Prune x.0 x.1) (packing_at bytes) next
    else if kind == 7 then seen_at (λ file. PackRefs file) (number_at w64 bytes) next
    else if kind == 8 then seen_at (λ file. Unlink file) (number_at w64 bytes) next
    else Err at
change_by Second bytes at kind next = if kind == 4 then write_at Second bytes next else Err at

unfoldable pub change_at : Version → List ℕ → ℕ → Result (Change × ℕ) ℕ
change_at v bytes at = byte_at bytes at >>= λ kind. change_by v bytes at kind.0 kind.1

-- ---- the whole

unfoldable pub version_at : List ℕ → ℕ → Result (Version × ℕ) ℕ
version_at bytes at =
    if nat_lt (length (drop at bytes)) 4 then Err at
    else if starts_with nat_eq (drop at bytes) (codes "GTE1") then Ok (First, at + 4)
    else if starts_with nat_eq (drop at bytes) (codes "GTE2") then Ok (Second, at + 4)
    else Err at

-- the fields before the change, of which the path is the first that takes memory
abbrev pub front_at : List ℕ → ℕ → Result ((ℕ × List ℕ) × ℕ) ℕ
front_at bytes at = version_at bytes at >>= λ v. pair_at (number_at w64 bytes) (path_at bytes) v.1

abbrev pub to_entry : ℕ × (List ℕ × Change) → Entry
to_entry x = record { position = x.0; path = x.1.0; change = x.1.1 }

unfoldable pub body_at : Version → List ℕ → ℕ → Result (Entry × ℕ) ℕ
body_at v bytes at = seen_at to_entry (pair_at (number_at w64 bytes) (pair_at (path_at bytes) (change_at v bytes))) at

-- all fields
unfoldable pub top_at : List ℕ → ℕ → Result ((Version × Entry) × ℕ) ℕ
top_at bytes at = version_at bytes at >>= λ v. seen_at (λ e. (v.0, e)) (body_at v.0 bytes) v.1

-- The second spelling is of a write with at least one check.
abbrev pub checked : Version × Entry → Result Entry ℕ
checked (First, e) = Ok e
checked (Second, e) = if has_check e.change then Ok e else Err 0

-- the entry of some bytes, or the place of the first field that may not stand there: first of all fields and the end, then of the magic
unfoldable pub entry_of : List ℕ → Result Entry ℕ
entry_of bytes = all_of (top_at bytes) bytes >>= λ x. checked x
