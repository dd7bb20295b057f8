-- The one spelling of a pack (docs/FORMATS.md, "Pack").
use Rattle.std.specs.Prelude.{◌≡◌, ℕ, ◌+◌, ◌-◌, ◌<◌, ◌^◌, Bool, true, List, [], ◌∷◌, ◌++◌, length, Option, Some, None, codes}
use Rattle.std.specs.List.{flat_map}
use Rattle.std.specs.Ordering.{nat_cmp, is_lt}
use Rattle.std.specs.Cmp.Lexicographic.{slice_cmp}
use Rattle.std.specs.Int.{w32, w64, to_be_bytes}
use Rattle.gt_bytes.specs.Spelling.{counted}
use Rattle.gt_object.specs.Whole.{why_not}
use Rattle.gt_pack.specs.declared.placed.Placed.{Placed}

-- a record under its name
pub record Packed : Type 0 where
  pub name : List ℕ
  pub whole : List ℕ

-- ---- the bytes

-- an item: the name, the record's length, the record
abbrev pub item : Packed → List ℕ
item p = p.name ++ (to_be_bytes w32 (length p.whole) ++ p.whole)

-- the place of an item's record, where the item begins here
abbrev pub place : ℕ → Packed → Placed
place at p = record { name = p.name; place = at + 24; len = length p.whole }

-- the places of the records of items one after the other, where the first begins here
abbrev pub places : ℕ → List Packed → List Placed
places at [] = []
places at (p ∷ ps) = place at p ∷ places (at + 24 + length p.whole) ps

-- an entry of the index: the name, and the place where its item begins
abbrev pub indexed : Placed → List ℕ
indexed e = e.name ++ to_be_bytes w64 (e.place - 24)

-- what stands before the items of a pack of so many records
abbrev pub head : ℕ → List ℕ
head count = codes "GTP1" ++ to_be_bytes w32 count

-- the index of these records, and the place where it begins
abbrev pub tail : List Placed → ℕ → List ℕ
tail es begin = flat_map indexed es ++ to_be_bytes w64 begin

-- a pack of these records
unfoldable pub pack : List Packed → List ℕ
pack ps = codes "GTP1" ++ (counted item ps ++ tail (places 8 ps) (8 + length (flat_map item ps)))

-- ---- what has a spelling

-- greater than the name before it, if there is one
abbrev pub above : Option (List ℕ) → List ℕ → Bool
above None x = true
above (Some y) x = is_lt (slice_cmp nat_cmp y x)

-- a record under a name of 20 bytes that is greater than the one before it
pub record IsPacked (before : Option (List ℕ)) (p : Packed) : Type 0 where
  pub name : length p.name ≡ 20
  pub rises : above before p.name ≡ true
  pub good : why_not p.whole ≡ None

-- Each is a record, and the names rise, the first above `before`.
abbrev pub ArePacked : Option (List ℕ) → List Packed → Type 0
ArePacked before [] = Unit {0}
ArePacked before (p ∷ ps) = IsPacked before p × ArePacked (Some p.name) ps

-- what a pack may hold: fewer than 2^32 records, in order of their names
abbrev pub IsPack : List Packed → Type 0
IsPack ps = (length ps < 2 ^ 32) × ArePacked None ps
