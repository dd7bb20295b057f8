-- A switch to the next epoch, of a base and the log past it.
use Rattle.std.specs.Prelude.{◌≡◌, ℕ, ◌+◌, ◌≤◌, [], ◌∷◌, Result, Ok, Err}
use Rattle.std.specs.List.{flat_map}
use Rattle.gt_disk.specs.Files.{Files, States}
use Rattle.gt_manifest.specs.declared.version.Version.TheVariants.{Second}
use Rattle.gt_manifest.specs.Whole.{Fits}
use Rattle.gt_model.specs.declared.limits.Limits.{Limits}
use Rattle.gt_reading.specs.Reading.{run}
use Rattle.gt_reading.specs.Frames.{AreStill}
use Rattle.gt_base.specs.Recovery.{Based, Loaded, based_on}
use Rattle.gt_base.specs.Switching.{Counts}
use Rattle.gt_base.specs.declared.switch_error.SwitchError.{SwitchError}
use Rattle.gt_base.specs.declared.switch_error.SwitchError.TheVariants.{Untouched, Unsure, Memory}
use Rattle.gt_ahead.specs.Files.{repo_files}
use Rattle.gt_ahead.specs.Later.{IsLater}
use Rattle.gt_ahead.specs.Loads.{GateCounts, Loads, HasBothEpochs}

-- Nothing is in doubt, and whatever a stop leaves loads the old. The files that the new manifest names are still and have a later base, and the manifest has a spelling.
pub record MaySwitchOn (limits : Limits) (gate : ℕ) (old : Loaded) (new : Based) (count : ℕ) (states : States) (files : Files) : Type 0 where
  pub gate_counts : GateCounts gate states
  pub turn_counts : Counts old.base.manifest.epoch states
  pub old_is : Loads limits (old ∷ []) states
  pub next : new.manifest.epoch ≡ old.base.manifest.epoch + 1
  pub few : new.manifest.epoch ≤ limits.epochs
  pub fits : Fits Second new.manifest
  pub later : IsLater old new count
  pub new_is : run files (based_on new.manifest) ≡ Ok new
  pub new_still : AreStill states (flat_map repo_files new.manifest.repos)

-- what a stop leaves at each moment of a switch, by its answer
abbrev pub SwitchLoads : Result Unit SwitchError → Limits → Loaded → Loaded → States → Type 0
SwitchLoads (Ok x) limits old new states = Loads limits (old ∷ new ∷ []) states
SwitchLoads (Err Untouched) limits old new states = Loads limits (old ∷ []) states
SwitchLoads (Err Unsure) limits old new states = Loads limits (old ∷ new ∷ []) states
SwitchLoads (Err Memory) limits old new states = Loads limits (old ∷ []) states

-- and after it; where the device failed both epochs are there, and turn decides
abbrev pub LoadsAfterSwitch : Result Unit SwitchError → Limits → Loaded → Loaded → States → Type 0
LoadsAfterSwitch (Ok x) limits old new states = Loads limits (new ∷ []) states
LoadsAfterSwitch (Err Untouched) limits old new states = Loads limits (old ∷ []) states
LoadsAfterSwitch (Err Unsure) limits old new states = HasBothEpochs limits old.base.manifest.epoch (old ∷ []) (new ∷ []) states × Loads limits (old ∷ new ∷ []) states
LoadsAfterSwitch (Err Memory) limits old new states = Loads limits (old ∷ []) states
