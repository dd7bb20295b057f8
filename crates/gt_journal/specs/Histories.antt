-- Histories over what the files of a partition recover to.
use Rattle.std.specs.Prelude.{ℕ, List}
use Rattle.gt_disk.specs.Files.{Files, States, View, now}
use Rattle.gt_model.specs.declared.limits.Limits.{Limits}
use Rattle.gt_model.specs.declared.turn.Turn.{Turn}
use Rattle.gt_model.specs.Histories.{Happening}
use Rattle.gt_model.specs.Machine.{State}
use Rattle.gt_history.specs.Crash as crash
use Rattle.gt_history.specs.Runs as runs
use Rattle.gt_base.specs.Recovery.{recover, Keeps, counters}
use Rattle.gt_journal.specs.Ledger.{Stored, KeepsBase}

-- A disk that may be handed in: whatever a stop leaves recovers to sound contents, of whose entries each says what it needs, by files that are still; gate and turn are still or grown by one byte at most.
abbrev pub IsGood : Limits → States → Type 0
IsGood limits = crash.IsGood (recover limits) (Keeps limits) counters

-- An image of these states gives this state.
abbrev pub Gives : Limits → State → States → Files → Type 0
Gives limits = crash.Gives (recover limits) (Keeps limits) counters

abbrev pub GivesThis : Limits → State → States → Type 0
GivesThis limits = crash.GivesThis (recover limits) (Keeps limits) counters

abbrev pub GivesEither : Limits → State → State → States → Type 0
GivesEither limits = crash.GivesEither (recover limits) (Keeps limits) counters

-- Whatever a stop at this moment of a history leaves recovers safely.
abbrev pub CrashAt : Limits → State → ℕ → (ℕ → States) → List Happening → ℕ → Type 0
CrashAt limits = crash.CrashAt (recover limits) (Keeps limits) counters

-- A history holds on a disk.
abbrev pub Holds : Limits → State → ℕ → List Happening → View → Type 0
Holds limits = crash.Holds (recover limits) (Keeps limits) counters limits

-- An event leaves the new state in the files, and at each of its moments each image gives the old state or the new one.
abbrev pub Goes : Limits → State → State → View → View → Type 0
Goes limits = runs.Moves (recover limits) (Keeps limits) counters (Stored limits)

-- The same, and no file but the log's changes.
abbrev pub Moves : Limits → State → State → View → View → Type 0
Moves limits old new v w = Goes limits old new v w × (Stored limits old (now v) → KeepsBase v w)

-- What is in doubt is settled: each image gives the old state still.
abbrev pub GoesSettling : Limits → State → State → View → View → Type 0
GoesSettling limits = runs.Settling (recover limits) (Keeps limits) counters (Stored limits)

-- The same, and no file but the log's changes.
abbrev pub Settling : Limits → State → State → View → View → Type 0
Settling limits old new v w = GoesSettling limits old new v w × (Stored limits old (now v) → KeepsBase v w)

-- The history leads from the start to a state that the files have now, and the trail is its events since the last opening.
abbrev pub IsHistory : Limits → State → ℕ → List Happening → View → List Turn → Type 0
IsHistory limits = runs.IsHistory (recover limits) (Keeps limits) counters (Stored limits) limits
