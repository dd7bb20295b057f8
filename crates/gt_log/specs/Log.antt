-- What the files of a log stand for, and what a stop leaves of it. The entries are those from a first position on: below it
-- their files may be gone.
pub use Rattle.gt_disk.specs.Kinds.{gate_file, entry_file}
use Rattle.std.specs.Prelude.{◌≡◌, ◌≢◌, ◌⊎◌, ℕ, ◌+◌, ◌<◌, ◌≤◌, Bool, true, false, List, [], ◌∷◌, ◌++◌, length, get_or, Some, Result, Ok, Err, OnOk, IsErrOf}
use Rattle.std.specs.Option.{unwrap_or}
use Rattle.gt_disk.specs.declared.FileId.{FileId}
use Rattle.gt_disk.specs.declared.Failed.{Failed as DeviceFailed}
use Rattle.gt_disk.specs.Files.{Content, Files, States, still, Leaves, IsImage, Rose}
use Rattle.gt_log.specs.declared.log_error.LogError.{LogError}
use Rattle.gt_log.specs.declared.log_error.LogError.TheVariants.{Untouched, Unsure, Memory}

abbrev pub content_length : Content → ℕ
content_length x = length (unwrap_or x [])

-- the files give these entries: the gate has a byte for each and for each below the first, and each is in its file
pub record Recovers (first : ℕ) (files : Files) (entries : List (List ℕ)) : Type 0 where
  pub count : content_length (files gate_file) + 1 ≡ length entries + first
  pub each : (k : ℕ) → k < length entries → files (entry_file (k + first)) ≡ Some (get_or entries k [])

-- the entry files of these are still
abbrev pub KeepsEntries : ℕ → List (List ℕ) → States → Type 0
KeepsEntries first entries states = (k : ℕ) → k < length entries → states (entry_file (k + first)) ≡ still (Some (get_or entries k []))

-- these entries are in, and nothing of them is in doubt
pub record Stands (first : ℕ) (entries : List (List ℕ)) (states : States) : Type 0 where
  pub gate : Content
  pub gate_still : states gate_file ≡ still gate
  pub gate_length : content_length gate + 1 ≡ length entries + first
  pub each : KeepsEntries first entries states

-- the last of these entries may be in or out: whatever a stop leaves of the gate counts it or doesn't
pub record Doubts (first : ℕ) (entries : List (List ℕ)) (last : List ℕ) (states : States) : Type 0 where
  pub gate : (y : Content) → Leaves (states gate_file) y → (content_length y + 1 ≡ length entries + first) ⊎ (content_length y ≡ length entries + first)
  pub each : KeepsEntries first (entries ++ last ∷ []) states

-- what a moment of an `add` or a `settle` is like: the entry is out or in doubt, and no other file differs from those at the start
pub record Adding (first : ℕ) (entries : List (List ℕ)) (last : List ℕ) (before states : States) : Type 0 where
  pub log : Stands first entries states ⊎ Doubts first entries last states
  pub others : (g : FileId) → g ≢ gate_file → g ≢ entry_file (length entries + first) → states g ≡ before g

-- the same where the entry is out all the time
pub record Staying (first : ℕ) (entries : List (List ℕ)) (before states : States) : Type 0 where
  pub log : Stands first entries states
  pub others : (g : FileId) → g ≢ gate_file → g ≢ entry_file (length entries + first) → states g ≡ before g

-- what each moment of an `add` is like, by its answer
abbrev pub AddMoment : Result ℕ LogError → ℕ → List (List ℕ) → List ℕ → States → States → Type 0
AddMoment (Ok n) first entries last before states = Adding first entries last before states
AddMoment (Err Untouched) first entries last before states = Staying first entries before states
AddMoment (Err Unsure) first entries last before states = Adding first entries last before states
AddMoment (Err Memory) first entries last before states = Staying first entries before states

abbrev pub AfterAdd : Result ℕ LogError → ℕ → List (List ℕ) → List ℕ → States → Type 0
AfterAdd (Ok n) first entries last states = Stands first (entries ++ last ∷ []) states
AfterAdd (Err Untouched) first entries last states = Stands first entries states
AfterAdd (Err Unsure) first entries last states = Doubts first entries last states
AfterAdd (Err Memory) first entries last states = Stands first entries states

abbrev pub leaves_doubt : Result ℕ LogError → Bool
leaves_doubt (Ok n) = false
leaves_doubt (Err Untouched) = false
leaves_doubt (Err Unsure) = true
leaves_doubt (Err Memory) = false

abbrev pub AfterSettle : Result Bool DeviceFailed → ℕ → List (List ℕ) → List ℕ → ℕ → States → Type 0
AfterSettle (Ok true) first entries last len states = (len ≡ length entries + first) × Stands first (entries ++ last ∷ []) states
AfterSettle (Ok false) first entries last len states = (len + 1 ≡ length entries + first) × Stands first entries states
AfterSettle (Err e) first entries last len states = Doubts first entries last states

-- each image gives these entries, with one more or without it
abbrev pub RecoversOldOrNew : ℕ → List (List ℕ) → List ℕ → States → Type 0
RecoversOldOrNew first entries last states = (image : Files) → IsImage states image → Recovers first image entries ⊎ Recovers first image (entries ++ last ∷ [])

abbrev pub RecoversOnly : ℕ → List (List ℕ) → States → Type 0
RecoversOnly first entries states = (image : Files) → IsImage states image → Recovers first image entries

-- A device's fault is counted, and an answer that names none leaves the count: no fault hides as want of memory.
pub record HasLogCause (before after : ℕ) (result : Result ℕ LogError) : Type 0 where
  pub later : before ≤ after
  pub ok : OnOk result (after ≡ before)
  pub untouched : IsErrOf result Untouched → Rose before after
  pub unsure : IsErrOf result Unsure → Rose before after
  pub memory : IsErrOf result Memory → after ≡ before

-- what the images of a moment of an `add` give, by its answer
abbrev pub AddImages : Result ℕ LogError → ℕ → List (List ℕ) → List ℕ → States → Type 0
AddImages (Ok n) first entries last states = RecoversOldOrNew first entries last states
AddImages (Err Untouched) first entries last states = RecoversOnly first entries states
AddImages (Err Unsure) first entries last states = RecoversOldOrNew first entries last states
AddImages (Err Memory) first entries last states = RecoversOnly first entries states

-- what the images after an `add` give, by its answer
abbrev pub ImagesAfterAdd : Result ℕ LogError → ℕ → List (List ℕ) → List ℕ → States → Type 0
ImagesAfterAdd (Ok n) first entries last states = RecoversOnly first (entries ++ last ∷ []) states
ImagesAfterAdd (Err Untouched) first entries last states = RecoversOnly first entries states
ImagesAfterAdd (Err Unsure) first entries last states = RecoversOldOrNew first entries last states
ImagesAfterAdd (Err Memory) first entries last states = RecoversOnly first entries states
