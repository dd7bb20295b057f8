-- Files that count by their lengths.
use Rattle.std.specs.Prelude.{◌≡◌, ◌⊎◌, ℕ, ◌+◌}
use Rattle.gt_disk.specs.declared.file_id.FileId.{FileId}
use Rattle.gt_disk.specs.Files.{Content as FileContent, FileState, still, grown, Leaves}
use Rattle.gt_log.specs.Log.{content_length}
use Rattle.gt_reading.specs.Reading.{Reading, ask}

-- still, or grown by at most one byte
abbrev pub IsCounting : FileState → Type 0
IsCounting s = (x : FileContent) × ((s ≡ still x) ⊎ (s ≡ grown x 1))

-- Whatever a stop leaves of it, its length is this or one more.
pub record IsTurning (count : ℕ) (s : FileState) : Type 0 where
  pub counting : IsCounting s
  pub lengths : (y : FileContent) → Leaves s y → (content_length y ≡ count) ⊎ (content_length y ≡ count + 1)

-- a program that hangs on the length of this file
abbrev pub by_count : {A : Type 0} → FileId → (ℕ → Reading A) → Reading A
by_count counter rest = ask counter (λ x. rest (content_length x))
