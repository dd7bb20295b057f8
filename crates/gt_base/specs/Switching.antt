-- A switch to the next epoch: what each moment of it leaves, and what a stop then leaves.
use Rattle.std.specs.Prelude.{◌≡◌, ◌≢◌, ◌⊎◌, ℕ, ◌+◌, ◌≤◌, Bool, true, false, Some, None, Result, Ok, Err, OnOk, IsErrOf}
use Rattle.gt_disk.specs.declared.file_id.FileId.{FileId}
use Rattle.gt_disk.specs.declared.Failed.{Failed as DeviceFailed}
use Rattle.gt_disk.specs.Files.{Content as FileContent, Files, States, still, IsImage, Rose}
use Rattle.gt_disk.specs.Kinds.{turn_file, manifest_file}
use Rattle.gt_log.specs.Log.{content_length}
use Rattle.gt_manifest.specs.declared.manifest.Manifest.{Manifest}
use Rattle.gt_manifest.specs.declared.version.Version.TheVariants.{Second}
use Rattle.gt_manifest.specs.Spelling.{manifest}
use Rattle.gt_model.specs.declared.limits.Limits.{Limits}
use Rattle.gt_reading.specs.Reading.{run, asked}
use Rattle.gt_reading.specs.Frames.{AreStill, Well}
use Rattle.gt_reading.specs.Counting.{IsTurning}
use Rattle.gt_base.specs.Loading.{BaseState, limited}
use Rattle.gt_base.specs.Recovery.{Based, based_on}
use Rattle.gt_base.specs.declared.switch_error.SwitchError.{SwitchError}
use Rattle.gt_base.specs.declared.switch_error.SwitchError.TheVariants.{Untouched, Unsure, Memory}

-- ---- the files

-- Turn counts this epoch, and nothing of it is in doubt.
pub record Counts (epoch : ℕ) (states : States) : Type 0 where
  pub turn : FileContent
  pub turn_still : states turn_file ≡ still turn
  pub length : content_length turn ≡ epoch

-- Turn counts this epoch or the next, whose manifest lasts.
pub record Turns (epoch : ℕ) (to : Manifest) (states : States) : Type 0 where
  pub turn : IsTurning epoch (states turn_file)
  pub next : states (manifest_file (epoch + 1)) ≡ still (Some (manifest Second to))

-- Turn counts the next epoch, whose manifest lasts.
abbrev pub IsSwitched : ℕ → Manifest → States → Type 0
IsSwitched epoch to states = Counts (epoch + 1) states × (states (manifest_file (epoch + 1)) ≡ still (Some (manifest Second to)))

-- But for turn and the next manifest each file is as it was.
abbrev pub OthersStand : ℕ → States → States → Type 0
OthersStand epoch before states = (g : FileId) → g ≢ turn_file → g ≢ manifest_file (epoch + 1) → states g ≡ before g

-- what a moment of a switch is like while the append to turn may have begun, and while it can't have
abbrev pub Switching : ℕ → Manifest → States → States → Type 0
Switching epoch to before states = (Counts epoch states ⊎ Turns epoch to states) × OthersStand epoch before states

abbrev pub Staying : ℕ → States → States → Type 0
Staying epoch before states = Counts epoch states × OthersStand epoch before states

-- what each moment of a switch is like, by its answer
abbrev pub SwitchMoment : Result Unit SwitchError → ℕ → Manifest → States → States → Type 0
SwitchMoment (Ok x) epoch to before states = Switching epoch to before states
SwitchMoment (Err Untouched) epoch to before states = Staying epoch before states
SwitchMoment (Err Unsure) epoch to before states = Switching epoch to before states
SwitchMoment (Err Memory) epoch to before states = Staying epoch before states

-- what stands after it
abbrev pub AfterSwitch : Result Unit SwitchError → ℕ → Manifest → States → States → Type 0
AfterSwitch (Ok x) epoch to before states = IsSwitched epoch to states × OthersStand epoch before states
AfterSwitch (Err Untouched) epoch to before states = Staying epoch before states
AfterSwitch (Err Unsure) epoch to before states = Turns epoch to states × OthersStand epoch before states
AfterSwitch (Err Memory) epoch to before states = Staying epoch before states

abbrev pub AfterSettle : Result Bool DeviceFailed → ℕ → Manifest → States → Type 0
AfterSettle (Ok true) epoch to states = IsSwitched epoch to states
AfterSettle (Ok false) epoch to states = Counts epoch states
AfterSettle (Err e) epoch to states = Turns epoch to states

-- ---- what a stop leaves

-- Whatever a stop leaves, the base that it counts has P, and is read from files that are still.
abbrev pub IsBased : Limits → ℕ → (Based → Type 0) → States → Type 0
IsBased limits gate P states = (image : Files) → IsImage states image → Well (limited limits gate (content_length (image turn_file))) P states image

abbrev pub IsThis : Based → Based → Type 0
IsThis this b = b ≡ this

abbrev pub IsEither : Based → Based → Based → Type 0
IsEither old new b = (b ≡ old) ⊎ (b ≡ new)

-- Whatever a stop leaves has the old base, and the files that the new manifest names are still and in their grammar, with the new content.
pub record MaySwitch (limits : Limits) (gate : ℕ) (old new : Based) (states : States) (files : Files) : Type 0 where
  pub counts : Counts old.manifest.epoch states
  pub old_is : IsBased limits gate (IsThis old) states
  pub few : new.manifest.epoch ≤ limits.epochs
  pub applied : new.manifest.applied ≤ gate
  pub new_is : run files (based_on new.manifest) ≡ Ok new
  pub new_still : AreStill states (asked files (based_on new.manifest))

-- what a stop leaves at each moment of a switch, by its answer
abbrev pub SwitchImages : Result Unit SwitchError → Limits → ℕ → Based → Based → States → Type 0
SwitchImages (Ok x) limits gate old new states = IsBased limits gate (IsEither old new) states
SwitchImages (Err Untouched) limits gate old new states = IsBased limits gate (IsThis old) states
SwitchImages (Err Unsure) limits gate old new states = IsBased limits gate (IsEither old new) states
SwitchImages (Err Memory) limits gate old new states = IsBased limits gate (IsThis old) states

-- and after it
abbrev pub ImagesAfterSwitch : Result Unit SwitchError → Limits → ℕ → Based → Based → States → Type 0
ImagesAfterSwitch (Ok x) limits gate old new states = IsBased limits gate (IsThis new) states
ImagesAfterSwitch (Err Untouched) limits gate old new states = IsBased limits gate (IsThis old) states
ImagesAfterSwitch (Err Unsure) limits gate old new states = IsBased limits gate (IsEither old new) states
ImagesAfterSwitch (Err Memory) limits gate old new states = IsBased limits gate (IsThis old) states

-- ---- the program's memory

-- the base after a switch by its answer
abbrev pub switched : Result Unit SwitchError → Manifest → BaseState → BaseState
switched (Ok x) to b = record { manifest = to; doubt = None }
switched (Err Untouched) to b = b
switched (Err Unsure) to b = record { manifest = b.manifest; doubt = Some to }
switched (Err Memory) to b = b

-- the base after a doubt is settled
abbrev pub settled : Result Bool DeviceFailed → Manifest → BaseState → BaseState
settled (Ok true) to b = record { manifest = to; doubt = None }
settled (Ok false) to b = record { manifest = b.manifest; doubt = None }
settled (Err e) to b = b

-- A device's fault is counted, and an answer that names none leaves the count: no fault hides as want of memory.
pub record HasSwitchCause (before after : ℕ) (result : Result Unit SwitchError) : Type 0 where
  pub later : before ≤ after
  pub ok : OnOk result (after ≡ before)
  pub untouched : IsErrOf result Untouched → Rose before after
  pub unsure : IsErrOf result Unsure → Rose before after
  pub memory : IsErrOf result Memory → after ≡ before
