-- What the removal of files leaves, moment by moment.
use Rattle.std.specs.Prelude.{◌≡◌, ◌⊎◌, true, false, List, None}
use Rattle.std.specs.List.{AllByRecursion}
use Rattle.gt_disk.specs.declared.file_id.FileId.{FileId}
use Rattle.gt_disk.specs.Files.{Files, FileState, States, still, loose}
use Rattle.gt_trim.specs.Unnamed.{is_among}

-- as before, or removed and not synced yet, or absent for good
abbrev pub Going : FileState → FileState → Type 0
Going before s = (s ≡ before) ⊎ (s ≡ loose) ⊎ (s ≡ still None)

-- A stop leaves each of them absent.
abbrev pub AreGone : List FileId → States → Type 0
AreGone files states = AllByRecursion (λ f. states f ≡ still None) files

-- No other file than these has changed.
abbrev pub LeavesOthers : List FileId → States → States → Type 0
LeavesOthers files before states = (g : FileId) → is_among files g ≡ false → states g ≡ before g

-- A read shows of each other file what it showed.
abbrev pub ReadsOthers : List FileId → Files → Files → Type 0
ReadsOthers files before after = (g : FileId) → is_among files g ≡ false → after g ≡ before g

-- Each of these is as it was, or on its way to be absent for good.
abbrev pub OnlyRemoves : List FileId → States → States → Type 0
OnlyRemoves files before states = (g : FileId) → is_among files g ≡ true → Going (before g) (states g)
