-- How new files are written, one after the other.
use Rattle.std.specs.Prelude.{◌≡◌, ◌≢◌, ℕ, ◌+◌, ◌<◌, ◌^◌, List, [], ◌∷◌, length, map as map_list}
use Rattle.std.specs.List.{AllByRecursion}
use Rattle.gt_applied.specs.Applied.{to_packed}
use Rattle.gt_apply.specs.Plan.{file_for}
use Rattle.gt_apply.specs.declared.new_file.NewContent.{NewContent}
use Rattle.gt_apply.specs.declared.new_file.NewContent.TheVariants.{Pack, Loose}
use Rattle.gt_apply.specs.declared.new_file.NewFile.{NewFile}
use Rattle.gt_disk.specs.declared.file_id.FileId.{FileId}
use Rattle.gt_disk.specs.Files.{States}
use Rattle.gt_pack.specs.Spelling.{IsPack}

-- Where their count fits its 4 bytes, the records are a pack's: each is good, and their names rise. Of a value nothing is asked.
abbrev pub IsPackable : NewContent → Type 0
IsPackable (Pack records) = length records < 2 ^ 32 → IsPack (map_list to_packed records)
IsPackable (Loose value) = Unit {0}

abbrev pub ArePackable : List NewFile → Type 0
ArePackable news = AllByRecursion (λ n. IsPackable n.content) news

-- They are numbered in a row from here on, each a file of its kind.
abbrev pub StandInRow : ℕ → List NewFile → Type 0
StandInRow n [] = Unit {0}
StandInRow n (f ∷ fs) = (f.file ≡ file_for n f.content) × StandInRow (n + 1) fs

-- No other file than these has changed.
abbrev pub OnlyThese : List NewFile → States → States → Type 0
OnlyThese news before states = (g : FileId) → AllByRecursion (λ n. g ≢ n.file) news → states g ≡ before g
