-- How the reading of files ends.
use Rattle.std.specs.Prelude.{◌≡◌, ◌≢◌, ℕ, ◌≤◌, List, Some, None, Result, Ok, Err}
use Rattle.gt_disk.specs.declared.file_id.FileId.{FileId}
use Rattle.gt_disk.specs.Files.{Content as FileContent, Rose}
use Rattle.gt_log.specs.declared.mount_cause.MountCause.{MountCause}
use Rattle.gt_log.specs.declared.mount_cause.MountCause.TheVariants.{DeviceFault, Damaged, Memory}
use Rattle.gt_reading.specs.Reading.{Damage}

-- Damage is named exactly; a failing disk and want of memory have their own causes.
abbrev pub Blames : {A : Type 0} → Result A Damage → MountCause → Type 0
Blames recovered (Damaged file at) = recovered ≡ Err (file, at)
Blames recovered DeviceFault = Unit {0}
Blames recovered Memory = Unit {0}

-- What the files have is read, or the first damage is named.
abbrev pub Reads : {A : Type 0} → Result A Damage → Result A MountCause → Type 0
Reads read (Ok x) = read ≡ Ok x
Reads read (Err cause) = Blames read cause

-- A failing disk is blamed where its count of faults rose, and only there: no fault hides behind another answer.
pub record HasCause {A : Type 0} (before after : ℕ) (result : Result A MountCause) : Type 0 where
  pub later : before ≤ after
  pub failed : result ≡ Err DeviceFault → Rose before after
  pub others : result ≢ Err DeviceFault → after ≡ before

-- The bytes of a file that is there; an absent one is damaged at its begin.
abbrev pub Finds : FileId → FileContent → Result (List ℕ) MountCause → Type 0
Finds file content (Ok bytes) = content ≡ Some bytes
Finds file content (Err (Damaged g at)) = (content ≡ None) × (Damaged g at ≡ Damaged file 0)
Finds file content (Err DeviceFault) = Unit {0}
Finds file content (Err Memory) = Unit {0}
