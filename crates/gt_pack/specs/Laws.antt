-- The laws of the format.
use Rattle.std.specs.Prelude.{◌≡◌, ◌≢◌, ℕ, ◌+◌, List, [], ◌++◌, Some, None, slice_get, slice_range}
use Rattle.gt_pack.specs.Spelling.{Packed, IsPack, pack, places}
use Rattle.gt_pack.specs.declared.placed.Placed.{Placed}
use Rattle.gt_pack.specs.Index.{find_in}

-- No spelling of a pack begins another's.
abbrev pub NonePrefix : Type 0
NonePrefix = (a b : List Packed) (rest : List ℕ) → IsPack a → IsPack b → pack b ≡ pack a ++ rest → (a ≡ b) × (rest ≡ [])

-- The record is the bytes at its place, and goes by its name.
pub record StandsAt (bytes : List ℕ) (p : Packed) (e : Placed) : Type 0 where
  pub name : e.name ≡ p.name
  pub whole : slice_range bytes e.place (e.place + e.len) ≡ p.whole

-- Each record of a pack stands at its place.
abbrev pub RecordsStand : Type 0
RecordsStand = (ps : List Packed) (i : ℕ) (p : Packed) → IsPack ps → slice_get ps i ≡ Some p → (e : Placed) × (slice_get (places 8 ps) i ≡ Some e) × StandsAt (pack ps) p e

-- Each record of a pack is found by its name, and stands where it is found.
abbrev pub RecordsFound : Type 0
RecordsFound = (ps : List Packed) (i : ℕ) (p : Packed) → IsPack ps → slice_get ps i ≡ Some p → (e : Placed) × (find_in (places 8 ps) p.name ≡ Some (e.place, e.len)) × StandsAt (pack ps) p e

-- By a name that no record has nothing is found.
abbrev pub OthersAbsent : Type 0
OthersAbsent = (ps : List Packed) (name : List ℕ) → ((i : ℕ) (p : Packed) → slice_get ps i ≡ Some p → p.name ≢ name) → find_in (places 8 ps) name ≡ None
