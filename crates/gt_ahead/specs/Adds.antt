-- An entry that is added to the log, over a base that may be in doubt.
use Rattle.std.specs.Prelude.{◌≡◌, ℕ, ◌+◌, ◌≤◌, List, ◌++◌, map, Some, Result, Ok, Err}
use Rattle.std.specs.List.{AllByRecursion}
use Rattle.gt_disk.specs.Files.{States}
use Rattle.gt_log.specs.declared.log_error.LogError.{LogError}
use Rattle.gt_log.specs.declared.log_error.LogError.TheVariants.{Untouched, Unsure, Memory}
use Rattle.gt_model.specs.declared.entry.Entry.{Entry}
use Rattle.gt_model.specs.declared.limits.Limits.{Limits}
use Rattle.gt_base.specs.Entries.{entry_of}
use Rattle.gt_base.specs.Recovery.{Loaded}
use Rattle.gt_ahead.specs.Later.{last_content, with_entry}
use Rattle.gt_ahead.specs.Loads.{Loads, HasBothLogs}

-- the same, each with this entry more
abbrev pub with_entries : List Loaded → Entry → List Loaded
with_entries xs e = map (λ x. with_entry x e) xs

-- Whatever a stop leaves loads one of these. The bytes spell an entry that fits behind each of them, and a log of so many entries may have one more.
pub record MayAdd (limits : Limits) (gate : ℕ) (olds : List Loaded) (e : Entry) (bytes : List ℕ) (states : States) : Type 0 where
  pub loads : Loads limits olds states
  pub within : gate + 1 ≤ limits.positions
  pub fits : AllByRecursion (λ x. entry_of (Some bytes) (last_content x) (gate + 1) ≡ Ok e) olds

-- what a stop leaves at each moment of the addition, by its answer
abbrev pub AddLoads : Result ℕ LogError → Limits → List Loaded → List Loaded → States → Type 0
AddLoads (Ok n) limits olds news states = Loads limits (olds ++ news) states
AddLoads (Err Untouched) limits olds news states = Loads limits olds states
AddLoads (Err Unsure) limits olds news states = Loads limits (olds ++ news) states
AddLoads (Err Memory) limits olds news states = Loads limits olds states

-- and after it; where the device failed at the gate both logs are there, and the gate decides
abbrev pub LoadsAfterAdd : Result ℕ LogError → Limits → ℕ → List Loaded → List Loaded → States → Type 0
LoadsAfterAdd (Ok n) limits gate olds news states = Loads limits news states
LoadsAfterAdd (Err Untouched) limits gate olds news states = Loads limits olds states
LoadsAfterAdd (Err Unsure) limits gate olds news states = HasBothLogs limits gate olds news states × Loads limits (olds ++ news) states
LoadsAfterAdd (Err Memory) limits gate olds news states = Loads limits olds states
