-- How an application of entries ends, where nothing is in doubt, and the state after it.
use Rattle.std.specs.Prelude.{◌≡◌, ℕ, ◌-◌, ◌≤◌, List, take, drop, Result, Ok, Err, OnOk, IsErrOf}
use Rattle.gt_disk.specs.Files.{Rose}
use Rattle.gt_model.specs.declared.done.Done.TheVariants.{Applied}
use Rattle.gt_model.specs.declared.event.Event.TheVariants.{Apply}
use Rattle.gt_model.specs.declared.entry.Entry.{Entry}
use Rattle.gt_model.specs.declared.limits.Limits.{Limits}
use Rattle.gt_model.specs.declared.refusal.Refusal.TheVariants as refusal
use Rattle.gt_model.specs.Machine.{State, Ends, Fails, effect}
use Rattle.gt_journal.specs.Ledger.{Ledger}
use Rattle.gt_journal.specs.declared.apply_error.ApplyError.{ApplyError}
use Rattle.gt_journal.specs.declared.apply_error.ApplyError.TheVariants.{EpochFull, Failed, Memory}

-- the next entries to apply, at most as many as this
abbrev pub next_entries : Ledger → ℕ → List Entry
next_entries l n = take n (drop (l.base.manifest.applied - l.past.begin) l.past.log)

-- The machine's effect of an application ends so, or the disk failed, or memory ran out and nothing has changed.
abbrev pub AppliesTo : Limits → State → ℕ → Result ℕ ApplyError → State → Type 0
AppliesTo limits s n (Ok position) new = Ends (effect limits s (Apply n)) s (Ok (Applied position)) new
AppliesTo limits s n (Err EpochFull) new = Ends (effect limits s (Apply n)) s (Err refusal.EpochFull) new
AppliesTo limits s n (Err Failed) new = Fails (Apply n) (effect limits s (Apply n)) s new
AppliesTo limits s n (Err Memory) new = new ≡ s

-- A failing disk is blamed where its count of faults rose, and only there.
pub record HasApplyCause (before after : ℕ) (result : Result ℕ ApplyError) : Type 0 where
  pub later : before ≤ after
  pub failed : IsErrOf result Failed → Rose before after
  pub ok : OnOk result (after ≡ before)
  pub full : IsErrOf result EpochFull → after ≡ before
  pub memory : IsErrOf result Memory → after ≡ before
