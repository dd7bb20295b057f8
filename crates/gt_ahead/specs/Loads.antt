-- What whatever a stop leaves loads.
use Rattle.std.specs.Prelude.{◌≡◌, ◌≢◌, ◌⊎◌, ℕ, ◌+◌, List, [], ◌∷◌, length}
use Rattle.std.specs.List.{AllByRecursion}
use Rattle.gt_disk.specs.declared.file_id.FileId.{FileId}
use Rattle.gt_disk.specs.Files.{Content as FileContent, Files, FileState, still, Leaves, States, IsImage, View, Quiet}
use Rattle.gt_disk.specs.Kinds.{gate_file, turn_file}
use Rattle.gt_disk.specs.Moments.{Runs, AnyState}
use Rattle.gt_log.specs.Log.{content_length}
use Rattle.gt_model.specs.declared.limits.Limits.{Limits}
use Rattle.gt_reading.specs.Frames.{Well}
use Rattle.gt_base.specs.Recovery.{Loaded, counted}
use Rattle.gt_ahead.specs.Files.{HoldsNothingOf}

-- It is one of these.
abbrev pub IsOneOf : List Loaded → Loaded → Type 0
IsOneOf [] x = ⊥
IsOneOf (y ∷ ys) x = (x ≡ y) ⊎ IsOneOf ys x

-- Under this epoch, with so many entries, the image loads one of these, from files that are still.
abbrev pub LoadsAt : Limits → ℕ → ℕ → List Loaded → States → Files → Type 0
LoadsAt limits epoch gate xs states image = Well (counted limits epoch gate) (IsOneOf xs) states image

-- Whatever a stop leaves loads one of these, from files that are still: turn and gate count the epoch and the entries by their lengths.
abbrev pub Loads : Limits → List Loaded → States → Type 0
Loads limits xs states = (image : Files) → IsImage states image → LoadsAt limits (content_length (image turn_file)) (content_length (image gate_file)) xs states image

-- the same if turn counted this epoch
abbrev pub LoadsUnder : Limits → ℕ → List Loaded → States → Type 0
LoadsUnder limits epoch xs states = (image : Files) → IsImage states image → LoadsAt limits epoch (content_length (image gate_file)) xs states image

-- and if the gate counted so many entries
abbrev pub LoadsOver : Limits → ℕ → List Loaded → States → Type 0
LoadsOver limits gate xs states = (image : Files) → IsImage states image → LoadsAt limits (content_length (image turn_file)) gate xs states image

-- Turn apart, whatever a stop leaves has one of these under this epoch, and one of those under the next.
pub record HasBothEpochs (limits : Limits) (epoch : ℕ) (olds news : List Loaded) (states : States) : Type 0 where
  pub old : LoadsUnder limits epoch olds states
  pub new : LoadsUnder limits (epoch + 1) news states

-- The gate apart, whatever a stop leaves has one of these with so many entries, and one of those with one more.
pub record HasBothLogs (limits : Limits) (gate : ℕ) (olds news : List Loaded) (states : States) : Type 0 where
  pub old : LoadsOver limits gate olds states
  pub new : LoadsOver limits (gate + 1) news states

-- ---- the two files whose lengths count

abbrev pub IsCounter : FileId → Type 0
IsCounter f = (f ≡ gate_file) ⊎ (f ≡ turn_file)

-- The gate counts so many entries, and nothing of it is in doubt.
pub record GateCounts (gate : ℕ) (states : States) : Type 0 where
  pub bytes : FileContent
  pub gate_still : states gate_file ≡ still bytes
  pub length : content_length bytes ≡ gate

-- Whatever a stop leaves of it, its length is this or one more.
abbrev pub IsBetween : ℕ → FileState → Type 0
IsBetween n s = (y : FileContent) → Leaves s y → (content_length y ≡ n) ⊎ (content_length y ≡ n + 1)

-- how many entries it has, applied or in the log
abbrev pub front : Loaded → ℕ
front x = x.base.manifest.applied + length x.log

-- It is one of these, or is of another epoch.
abbrev pub IsOrOtherEpoch : ℕ → List Loaded → Loaded → Type 0
IsOrOtherEpoch epoch kept x = IsOneOf kept x ⊎ (x.base.manifest.epoch ≢ epoch)

-- It is one of these, or has more or fewer entries.
abbrev pub IsOrOtherFront : ℕ → List Loaded → Loaded → Type 0
IsOrOtherFront gate kept x = IsOneOf kept x ⊎ (front x ≢ gate)

-- ---- files apart

-- This file holds nothing of any of these.
abbrev pub IsElsewhere : List Loaded → FileId → Type 0
IsElsewhere xs f = AllByRecursion (λ x. HoldsNothingOf x f) xs

-- But for these files each is as it was.
abbrev pub AllElseStands : List FileId → States → States → Type 0
AllElseStands files before states = (g : FileId) → AllByRecursion (λ f. g ≢ f) files → states g ≡ before g

-- calls one after the other, each on one of these files, in their order
abbrev pub RunsOn : List FileId → View → View → Type 0
RunsOn [] v w = Quiet v w
RunsOn (f ∷ fs) v w = (u : View) × Runs f AnyState v u × RunsOn fs u w
