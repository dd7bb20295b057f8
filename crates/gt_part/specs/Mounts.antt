-- How an opening ends.
use Rattle.std.specs.Prelude.{◌≡◌, ◌≢◌, ℕ, ◌≤◌, Result, Ok, Err}
use Rattle.gt_disk.specs.Files.{Rose}
use Rattle.gt_log.specs.declared.mount_cause.MountCause.TheVariants.{DeviceFault}
use Rattle.gt_log.specs.declared.mount_error.MountError.{MountError}
use Rattle.gt_model.specs.Machine.{Recovered, opening}
use Rattle.gt_base.specs.Answers.{Blames}
use Rattle.gt_reading.specs.Reading.{Damage}
use Rattle.gt_part.specs.Shown.{Shown, Stands}

-- What the files recover to is opened, or the first damage is named.
abbrev pub Mounts : {D : Type 0} → Result Recovered Damage → Result (Shown D) (MountError D) → Type 0
Mounts recovered (Ok p) = (r : Recovered) × (recovered ≡ Ok r) × Stands p (opening r)
Mounts recovered (Err e) = Blames recovered e.cause

-- A failing disk is blamed where its count of faults rose, and only there.
pub record HasMountCause {D : Type 0} (fault_count : D → ℕ) (disk : D) (e : MountError D) : Type 0 where
  pub later : fault_count disk ≤ fault_count e.disk
  pub failed : e.cause ≡ DeviceFault → Rose (fault_count disk) (fault_count e.disk)
  pub others : e.cause ≢ DeviceFault → fault_count e.disk ≡ fault_count disk
