-- How the addition of an entry behind the front ends, where nothing is in doubt, and the state after it.
use Rattle.std.specs.Prelude.{◌≡◌, ℕ, true, false, List, Some, Result, Ok, Err}
use Rattle.gt_model.specs.declared.change.Change.{Change}
use Rattle.gt_model.specs.declared.entry.Entry.{Entry}
use Rattle.gt_model.specs.declared.limits.Limits.{Limits}
use Rattle.gt_model.specs.Machine.{State, is_full, next_entry, with_entry}
use Rattle.gt_act.specs.declared.ended.Ended.{Ended}
use Rattle.gt_act.specs.declared.ended.Ended.TheVariants.{LogFull, DeviceFault, Unsure, Memory}

-- The entry is in the log, or in doubt. A fault before that, and want of memory, change nothing.
abbrev pub AddsEntry : State → Entry → Result ℕ Ended → State → Type 0
AddsEntry s e (Ok position) new = (position ≡ e.position) × (new ≡ with_entry s e)
AddsEntry s e (Err (Unsure position)) new = (position ≡ e.position) × (new ≡ record s { doubt = Some e })
AddsEntry s e (Err DeviceFault) new = new ≡ s
AddsEntry s e (Err Memory) new = new ≡ s
AddsEntry s e (Err other) new = ⊥

-- A log at its limit is refused as full, whatever else may be wanting; else the entry of the change is added.
abbrev pub AddsChange : Limits → State → List ℕ → Change → Result ℕ Ended → State → Type 0
AddsChange limits s path change (Err LogFull) new = (is_full limits s ≡ true) × (new ≡ s)
AddsChange limits s path change added new = (is_full limits s ≡ false) × AddsEntry s (next_entry s path change) added new
