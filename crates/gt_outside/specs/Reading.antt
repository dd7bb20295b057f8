-- Why an input wasn't read whole.
use Rattle.std.specs.Prelude.{◌≡◌, ◌≤◌, ℕ, Result, OnOk, IsErrOf}
use Rattle.gt_disk.specs.Files.{Rose}
use Rattle.gt_outside.specs.declared.reading.ReadError.{ReadError}
use Rattle.gt_outside.specs.declared.reading.ReadError.TheVariants.{Failed, TooLong, Memory}

-- A fault of the source is counted, and any other answer leaves the count: no fault hides as want of memory.
pub record HasReadCause {T : Type 0} (before after : ℕ) (result : Result T ReadError) : Type 0 where
  pub later : before ≤ after
  pub ok : OnOk result (after ≡ before)
  pub failed : IsErrOf result Failed → Rose before after
  pub long : IsErrOf result TooLong → after ≡ before
  pub memory : IsErrOf result Memory → after ≡ before
