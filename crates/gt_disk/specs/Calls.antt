-- A disk in memory, by the files that it began with and the calls that changed it since.
pub use Rattle.gt_disk.specs.Files.{content}
use Rattle.std.specs.Prelude.{ℕ, Bool, true, false, ◌&&◌, nat_eq, if◌then◌else◌, List, [], ◌∷◌, length, take, Some, None, Vec}
use Rattle.std.specs.declared.alloc.Global.{Global}
use Rattle.std.specs.BTreeMap as tree
use Rattle.std.specs.BTreeMap.{BTreeMap}
use Rattle.gt_disk.specs.declared.file_id.FileId.{FileId}
use Rattle.gt_disk.specs.declared.call.Call.{Call}
use Rattle.gt_disk.specs.declared.call.Call.TheVariants.{Write, Append, Remove, Sync}
use Rattle.gt_disk.specs.Files.{Content, FileState, still, grown, loose, grow, appended, View, file_cmp}

abbrev pub same_file : FileId → FileId → Bool
same_file f g = nat_eq f.kind g.kind && nat_eq f.number g.number

-- bytes of files as a program keeps them
abbrev pub Contents : Type 0
Contents = BTreeMap FileId (Vec ℕ Global)

abbrev pub content_of : Contents → FileId → Content
content_of files f = content (tree.get file_cmp files f)

-- what a read of a file shows, and what a stop may leave of it
pub record Cell : Type 0 where
  pub shown : Content
  pub state : FileState

-- the file that a call is on
abbrev pub file_of : Call → FileId
file_of (Write f bytes) = f
file_of (Append f bytes kept) = f
file_of (Remove f gone) = f
file_of (Sync f) = f

-- a file after a call on it
abbrev pub changed : Cell → Call → Cell
changed cell (Write f bytes) = record { shown = Some bytes.items; state = loose }
changed cell (Append f bytes kept) = record { shown = appended cell.shown (take kept bytes.items); state = grow (length bytes.items) cell.state }
changed cell (Remove f gone) = record { shown = if gone then None else cell.shown; state = loose }
changed cell (Sync f) = record { shown = cell.shown; state = still cell.shown }

-- a file after a call on it or on another
abbrev pub stepped : FileId → Cell → Call → Cell
stepped f cell c = if same_file (file_of c) f then changed cell c else cell

abbrev pub cell_from : FileId → Cell → List Call → Cell
cell_from f cell [] = cell
cell_from f cell (c ∷ cs) = cell_from f (stepped f cell c) cs

-- a file that the disk began with, or none: it lasts
abbrev pub first_cell : Contents → FileId → Cell
first_cell start f = record { shown = content_of start f; state = still (content_of start f) }

-- a file after these calls
abbrev pub cell_at : Contents → FileId → List Call → Cell
cell_at start f calls = cell_from f (first_cell start f) calls

-- the clock counts the calls
abbrev pub view_of : Contents → List Call → View
view_of start calls = record { reads = λ f. (cell_at start f calls).shown; clock = length calls; at = λ m f. (cell_at start f (take m calls)).state }

abbrev pub is_still : FileState → Bool
is_still (still x) = true
is_still (grown x k) = false
is_still loose = false
