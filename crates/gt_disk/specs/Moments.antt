-- Runs of device calls, moment by moment.
use Rattle.std.specs.Prelude.{◌≡◌, ◌≢◌, ◌⊎◌, ℕ, ◌<◌, ◌≤◌, List, length}
use Rattle.gt_disk.specs.declared.file_id.FileId.{FileId}
use Rattle.gt_disk.specs.Files.{FileState, Content, still, grown, appended, States, View, now, Files, IsImage}

-- The past stands, and at each moment since then the states have P.
pub record Since (P : States → Type 0) (old new : View) : Type 0 where
  pub later : old.clock ≤ new.clock
  pub past : (m : ℕ) → m ≤ old.clock → new.at m ≡ old.at m
  pub each : (m : ℕ) → old.clock < m → m ≤ new.clock → P (new.at m)

-- One file alone changes, and at each moment since then its state has P.
pub record Runs (file : FileId) (P : FileState → Type 0) (old new : View) : Type 0 where
  pub later : old.clock ≤ new.clock
  pub past : (m : ℕ) → m ≤ old.clock → new.at m ≡ old.at m
  pub this : (m : ℕ) → old.clock < m → m ≤ new.clock → P (new.at m file)
  pub others : (m : ℕ) → old.clock < m → m ≤ new.clock → (g : FileId) → g ≢ file → new.at m g ≡ old.at old.clock g
  pub reads_others : (g : FileId) → g ≢ file → new.reads g ≡ old.reads g

abbrev pub AnyState : FileState → Type 0
AnyState s = Unit {0}

-- the state before a sync, or what a read showed, which lasts
abbrev pub Lasting : FileState → Content → FileState → Type 0
Lasting before shown s = (s ≡ before) ⊎ (s ≡ still shown)

-- what stood there, that with a part of the piece behind it, or with the whole
abbrev pub Growing : Content → List ℕ → FileState → Type 0
Growing x piece s = (s ≡ still x) ⊎ (s ≡ grown x (length piece)) ⊎ (s ≡ still (appended x piece))

-- what a stop leaves at each moment since then could be left before it
abbrev pub Narrows : View → View → Type 0
Narrows old new = Since (λ states. (image : Files) → IsImage states image → IsImage (now old) image) old new
