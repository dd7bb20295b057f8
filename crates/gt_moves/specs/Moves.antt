-- Where the records that entries added stand in the files of an application.
use Rattle.std.specs.Prelude.{ℕ, ◌+◌, List, [], ◌∷◌, ◌++◌, length, map as map_list}
use Rattle.std.specs.List.{flat_map}
use Rattle.std.specs.Option.{unwrap_or}
use Rattle.std.specs.FinMap as map
use Rattle.gt_applied.specs.Applied.{to_packed}
use Rattle.gt_apply.specs.Plan.{added_by, records_of, to_added}
use Rattle.gt_disk.specs.Kinds.{pack_file}
use Rattle.gt_model.specs.Batches.{files_of, repos_at, files_at, paths_of}
use Rattle.gt_model.specs.declared.added.Added.{Added}
use Rattle.gt_model.specs.declared.entry.Entry.{Entry}
use Rattle.gt_moves.specs.declared.moved.Move.{Move}
use Rattle.gt_objset.specs.declared.place.Place.{Place}
use Rattle.gt_pack.specs.Index.{find_in}
use Rattle.gt_pack.specs.Spelling.{Packed, places}
use Rattle.gt_pack.specs.declared.placed.Placed.{Placed}

-- ---- one pack

-- the records of the pack that these entries of one repository make
abbrev pub packed_of : List Entry → List Packed
packed_of own = map_list to_packed (map_list to_added (map.entries (records_of own)))

-- where they stand in it: behind the pack's first 8 bytes, one after the other, each behind its name (20) and its length (4)
abbrev pub laid_out : List Entry → List Placed
laid_out own = places 8 (packed_of own)

-- place and length of the record of this name; each that was added is there
abbrev pub found_in : List Placed → List ℕ → ℕ × ℕ
found_in at name = unwrap_or (find_in at name) (0, 0)

-- the record of this name in the pack of this number, whose records stand at these places
abbrev pub place_of : ℕ → List Placed → List ℕ → Place
place_of n at name = record { file = pack_file n; at = (found_in at name).0; len = (found_in at name).1 }

-- ---- the moves

-- a record that an entry added
abbrev pub moved : ℕ → List Placed → Entry → Added → Move
moved n at e a = record { position = e.position; path = e.path; name = a.name; place = place_of n at a.name; whole = record { marker = record {}; value = a.whole } }

abbrev pub moves_by : ℕ → List Placed → Entry → List Move
moves_by n at e = map_list (moved n at e) (added_by e.change)

-- the entries of one repository, whose new files are numbered from here on; a pack is the first of them
abbrev pub moves_of : ℕ → List Entry → List Move
moves_of n own = flat_map (moves_by n (laid_out own)) own

-- one repository after the other
abbrev pub moves_in : ℕ → List (List Entry) → List Move
moves_in n [] = []
moves_in n (own ∷ later) = moves_of n own ++ moves_in (n + length (files_of own)) later

-- the repositories of a path, in order of time
abbrev pub moves_at : List Entry → ℕ → List ℕ → List Move
moves_at entries n path = moves_in n (repos_at path entries)

abbrev pub moves_all : List Entry → ℕ → List (List ℕ) → List Move
moves_all entries n [] = []
moves_all entries n (path ∷ paths) = moves_at entries n path ++ moves_all entries (n + length (files_at path entries)) paths

-- what an application of these entries moves, with its files numbered from the next free number on: paths ascending
abbrev pub planned_moves : ℕ → List Entry → List Move
planned_moves next entries = moves_all entries next (paths_of entries)
