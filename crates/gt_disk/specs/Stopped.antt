-- What a stop leaves of a file, by choice.
use Rattle.std.specs.Prelude.{◌+◌, ◌/◌, [], ◌++◌, replicate, Option, Some, None}
use Rattle.std.specs.Option.{unwrap_or}
use Rattle.std.specs.BTreeMap as tree
use Rattle.std.specs.BTreeMap.{BTreeMap}
use Rattle.gt_disk.specs.declared.file_id.FileId.{FileId}
use Rattle.gt_disk.specs.declared.replayed.Replayed.{Replayed}
use Rattle.gt_disk.specs.declared.replayed.Replayed.TheVariants.{Still, Grown, Loose}
use Rattle.gt_disk.specs.declared.stop.Stop.{Stop}
use Rattle.gt_disk.specs.declared.stop.Stop.TheVariants.{Least, Most, Junk}
use Rattle.gt_disk.specs.Files.{Content, FileState, still, grown, loose, appended, file_cmp}
use Rattle.gt_disk.specs.Calls.{Cell, Contents, content, first_cell}

-- files written or removed and not synced are absent, and appended bytes are lost
abbrev pub least : FileState → Content
least (still x) = x
least (grown x k) = x
least loose = None

-- a file written or removed and not synced holds the byte 0xFF, and half of the appended bytes are 0xAA
abbrev pub junk : FileState → Content
junk (still x) = x
junk (grown x k) = Some (unwrap_or x [] ++ replicate ((k + 1) / 2) 0xAA)
junk loose = Some (replicate 1 0xFF)

-- what is left by this choice
abbrev pub chosen : Stop → Cell → Content
chosen Least cell = least cell.state
chosen Most cell = cell.shown
chosen Junk cell = junk cell.state

-- a file that was replayed
abbrev pub cell_of : Replayed → Cell
cell_of (Still x) = record { shown = content x; state = still (content x) }
cell_of (Grown x more k) = record { shown = appended (content x) more.items; state = grown (content x) k }
cell_of (Loose x) = record { shown = content x; state = loose }

abbrev pub cell_or : Cell → Option Replayed → Cell
cell_or cell None = cell
cell_or cell (Some r) = cell_of r

-- a file among those that were replayed, or else among those of the start
abbrev pub cell_in : Contents → BTreeMap FileId Replayed → FileId → Cell
cell_in start cells f = cell_or (first_cell start f) (tree.get file_cmp cells f)
