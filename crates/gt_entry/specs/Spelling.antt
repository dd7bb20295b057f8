-- The one spelling of each entry.
use Rattle.std.specs.Prelude.{ℕ, Bool, false, List, [], ◌∷◌, ◌++◌, length, Option, Some, None, is_none, codes, if◌then◌else◌}
use Rattle.std.specs.List.{list_any}
use Rattle.std.specs.Int.{w32, w64, to_be_bytes}
use Rattle.gt_bytes.specs.Spelling.{text, counted}
use Rattle.gt_model.specs.declared.added.Added.{Added}
use Rattle.gt_model.specs.declared.change.Change.{Change}
use Rattle.gt_model.specs.declared.change.Change.TheVariants.{Create, Delete, Link, Write, Repack, Prune, PackRefs, Unlink}
use Rattle.gt_model.specs.declared.entry.Entry.{Entry}
use Rattle.gt_model.specs.declared.update.RefUpdate.{RefUpdate}
use Rattle.gt_entry.specs.declared.version.Version.{Version}
use Rattle.gt_entry.specs.declared.version.Version.TheVariants.{First, Second}

-- ---- which of the two spellings

abbrev pub is_check : RefUpdate → Bool
is_check u = is_none u.new

abbrev pub has_check : Change → Bool
has_check (Create pool) = false
has_check Delete = false
has_check (Link pool) = false
has_check (Write refs needed added) = list_any is_check refs
has_check (Repack file dropped) = false
has_check (Prune file dropped) = false
has_check (PackRefs file) = false
has_check (Unlink file) = false

-- the second one exactly where it is a write with at least one check
abbrev pub version : Change → Version
version c = if has_check c then Second else First

-- ---- fields

abbrev pub number : ℕ → List ℕ
number n = to_be_bytes w64 n

abbrev pub flag : Bool → List ℕ
flag b = (if b then 1 else 0) ∷ []

-- the name of an object is its 20 bytes
abbrev pub same : List ℕ → List ℕ
same name = name

-- what a reference moves to; the first spelling, which has no checks, has the name alone
abbrev pub target : Version → Option (List ℕ) → List ℕ
target First None = []
target First (Some new) = new
target Second None = 0 ∷ []
target Second (Some new) = 1 ∷ new

abbrev pub update : Version → RefUpdate → List ℕ
update v u = text u.name ++ (u.old ++ target v u.new)

-- a record behind its length
abbrev pub sized : List ℕ → List ℕ
sized whole = to_be_bytes w32 (length whole) ++ whole

-- a record under its name
abbrev pub item : Added → List ℕ
item a = a.name ++ sized a.whole

-- ---- the whole

-- the kind, and its fields
unfoldable pub change : Version → Change → List ℕ
change v (Create pool) = 1 ∷ flag pool
change v Delete = 2 ∷ []
change v (Link pool) = 3 ∷ text pool
change v (Write refs needed added) = 4 ∷ (counted (update v) refs ++ (counted same needed ++ counted item added))
change v (Repack file dropped) = 5 ∷ (number file ++ counted same dropped)
change v (Prune file dropped) = 6 ∷ (number file ++ counted same dropped)
change v (PackRefs file) = 7 ∷ number file
change v (Unlink file) = 8 ∷ number file

abbrev pub magic : Version → List ℕ
magic First = codes "GTE1"
magic Second = codes "GTE2"

abbrev pub body : Version → Entry → List ℕ
body v e = number e.position ++ (text e.path ++ change v e.change)

unfoldable pub spelling : Entry → List ℕ
spelling e = magic (version e.change) ++ body (version e.change) e
