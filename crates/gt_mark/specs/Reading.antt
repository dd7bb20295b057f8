-- Where a failing device is blamed.
use Rattle.std.specs.Prelude.{◌≡◌, ◌≢◌, ℕ, ◌≤◌, Result, Err}
use Rattle.gt_disk.specs.Files.{Rose}
use Rattle.gt_mark.specs.declared.error.ReadError.{ReadError}
use Rattle.gt_mark.specs.declared.error.ReadError.TheVariants.{DeviceFault}

-- Where its count of faults rose, and only there: no fault hides behind another answer.
pub record HasReadCause {A : Type 0} (before after : ℕ) (result : Result A ReadError) : Type 0 where
  pub later : before ≤ after
  pub failed : result ≡ Err DeviceFault → Rose before after
  pub others : result ≢ Err DeviceFault → after ≡ before
