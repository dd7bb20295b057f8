-- A pack that is being written.
use Rattle.std.specs.Prelude.{◌≡◌, ℕ, ◌+◌, ◌*◌, ◌≤◌, List, [], ◌∷◌, ◌++◌, length, Some, None}
use Rattle.std.specs.List.{flat_map}
use Rattle.gt_disk.specs.declared.file_id.FileId.{FileId}
use Rattle.gt_disk.specs.Files.{View, now, still}
use Rattle.gt_pack.specs.declared.placed.Placed.{Placed}
use Rattle.gt_pack.specs.Spelling.{Packed, item, place, places, head, pack, ArePacked}
use Rattle.gt_pack.specs.Index.{Rises}

-- the file of this number among the packs
abbrev pub pack_file : ℕ → FileId
pack_file number = record { kind = 5; number = number }

-- what a builder is: its file, how many records there will be, where the next item begins, and the places so far
pub record Built : Type 0 where
  pub file : ℕ
  pub count : ℕ
  pub next : ℕ
  pub items : List Placed

-- at the begin
abbrev pub begun : ℕ → ℕ → Built
begun file count = record { file = file; count = count; next = 8; items = [] }

-- after one record more
abbrev pub added : Built → Packed → Built
added b p = record { file = b.file; count = b.count; next = b.next + 24 + length p.whole; items = b.items ++ place b.next p ∷ [] }

-- What holds of the fields of each builder.
pub record IsBuilder (count next : ℕ) (items : List Placed) : Type 0 where
  pub few : length items ≤ count
  pub small : next ≤ 8 + 16777240 * length items
  pub rises : Rises None items

-- These records were added, and the file reads as the begin of their pack.
pub record IsWritten (b : Built) (ps : List Packed) (view : View) : Type 0 where
  pub items : b.items ≡ places 8 ps
  pub next : b.next ≡ 8 + length (flat_map item ps)
  pub fits : ArePacked None ps
  pub reads : view.reads (pack_file b.file) ≡ Some (head b.count ++ flat_map item ps)

-- The file is the pack of these records, and it lasts.
pub record Lasts (file : ℕ) (ps : List Packed) (view : View) : Type 0 where
  pub reads : view.reads (pack_file file) ≡ Some (pack ps)
  pub still : now view (pack_file file) ≡ still (Some (pack ps))
