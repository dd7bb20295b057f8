-- What the files of a base have, and the content that it is.
use Rattle.std.specs.Prelude.{◌≡◌, ℕ, ◌+◌, List, [], ◌∷◌, fold, map as map_list, slice_range, Option, Some, None, Result, Ok, Err, if◌then◌else◌}
use Rattle.std.specs.Option.{option_map, option_or}
use Rattle.std.specs.Ordering.{eq_by_cmp}
use Rattle.std.specs.FinMap as map
use Rattle.std.specs.List.{AllByRecursion}
use Rattle.gt_disk.specs.Files.{States, still}
use Rattle.gt_disk.specs.Kinds.{pack_file}
use Rattle.gt_model.specs.Contents.{key_cmp, Repo, Content, Names, nothing, and_then, union, with_value}
use Rattle.gt_object.specs.Whole.{why_not}
use Rattle.gt_model.specs.declared.reference.RefValue.{RefValue}
use Rattle.gt_objset.specs.declared.place.Place.{Place}
use Rattle.gt_pack.specs.declared.placed.Placed.{Placed}
use Rattle.gt_pack.specs.Index.{find_in}
use Rattle.gt_pack.specs.Reading.{pack_of}
use Rattle.gt_reftext.specs.declared.packed_ref.PackedRef.{PackedRef}
use Rattle.gt_base.specs.Packs.{PackFile}
use Rattle.gt_base.specs.declared.held.BaseRepo.{BaseRepo}

-- ---- objects

-- where the records of a pack stand, by the order of their names
abbrev pub places_or_none : Result (List Placed) ℕ → List Placed
places_or_none (Ok places) = places
places_or_none (Err at) = []

abbrev pub items_of : PackFile → List Placed
items_of p = places_or_none (pack_of p.bytes)

-- a name, and the record that stands under it
abbrev pub named_record : List ℕ → Placed → List ℕ × List ℕ
named_record bytes e = (e.name, slice_range bytes e.place (e.place + e.len))

-- the records of a pack by their names
abbrev pub records_of : PackFile → Names
records_of p = map.from_entries (map_list (named_record p.bytes) (items_of p))

-- The record of a name is that of the first pack that has it.
abbrev pub own_of : List PackFile → Names
own_of packs = fold (λ own p. union own (records_of p)) map.empty packs

-- the place of a record in a pack
abbrev pub to_place : ℕ → ℕ × ℕ → Place
to_place number found = record { file = pack_file number; at = found.0; len = found.1 }

abbrev pub place_in : PackFile → List ℕ → Option Place
place_in p name = option_map (to_place p.number) (find_in (items_of p) name)

-- the place in the first pack that has the name
abbrev pub place_of : List PackFile → List ℕ → Option Place
place_of [] name = None
place_of (p ∷ packs) name = option_or (place_in p name) (place_of packs name)

-- ---- references

abbrev pub packed_values : List PackedRef → Names
packed_values list = map.from_entries (map_list (λ r. (r.name, r.value)) list)

-- A loose file's value hides that of the packed file, and 40 zeros are none.
abbrev pub with_loose : Names → RefValue → Names
with_loose refs l = with_value refs l.name (Some l.value)

abbrev pub refs_of : List PackedRef → List RefValue → Names
refs_of packed loose = fold with_loose (packed_values packed) loose

-- ---- the whole

abbrev pub repo_of : BaseRepo → Repo
repo_of r = record { refs = refs_of r.packed r.loose; own = own_of r.packs; pool = r.pool; is_pool = r.is_pool }

-- the first of them at this path
abbrev pub repo_at : List BaseRepo → List ℕ → Option BaseRepo
repo_at [] path = None
repo_at (r ∷ repos) path = if eq_by_cmp key_cmp path r.path then Some r else repo_at repos path

-- the content that these files hold
abbrev pub content_of : List BaseRepo → Content
content_of [] = nothing
content_of (r ∷ repos) = map.insert (content_of repos) r.path (repo_of r)

-- where its records stand
abbrev pub places_of : List BaseRepo → List ℕ → List ℕ → Option Place
places_of repos path name = and_then (repo_at repos path) (λ r. place_of r.packs name)

-- ---- in files

-- Each pack that was read is still as it was.
abbrev pub HoldsPack : States → PackFile → Type 0
HoldsPack states p = states (pack_file p.number) ≡ still (Some p.bytes)

abbrev pub HoldsPacks : List BaseRepo → States → Type 0
HoldsPacks repos states = AllByRecursion (λ r. AllByRecursion (HoldsPack states) r.packs) repos

-- A good record is what a file that is still has at this place.
pub record StandsStill (states : States) (place : Place) (whole : List ℕ) : Type 0 where
  pub bytes : List ℕ
  pub file : states place.file ≡ still (Some bytes)
  pub is : slice_range bytes place.at (place.at + place.len) ≡ whole
  pub good : why_not whole ≡ None
