-- A history that goes on.
use Rattle.std.specs.Prelude.{◌≡◌, ℕ, ◌<◌, ◌≤◌, List, [], ◌∷◌, reverse, Result}
use Rattle.gt_disk.specs.declared.file_id.FileId.{FileId}
use Rattle.gt_disk.specs.Files.{Files, States, View, now}
use Rattle.gt_disk.specs.Moments.{Since}
use Rattle.gt_model.specs.declared.limits.Limits.{Limits}
use Rattle.gt_model.specs.declared.turn.Turn.{Turn}
use Rattle.gt_model.specs.Machine.{State, Recovered, IsInOrder}
use Rattle.gt_model.specs.Histories.{Happening, Happens, tick, state, turns, last_state, last_tick}
use Rattle.gt_sound.specs.Sound.{IsSoundState}
use Rattle.gt_history.specs.Crash.{GivesThis, GivesEither}

-- What was told of the past stands.
pub record KeepsPast (old new : View) : Type 0 where
  pub clock : old.clock ≤ new.clock
  pub at : (m : ℕ) → m ≤ old.clock → new.at m ≡ old.at m

module _ {B : Type 0} (recover : Files → Result Recovered B) (Keeps : Files → States → Type 0) (counters : List FileId) where
  -- what a stop leaves at the moments of a happening, after which all contents are sound
  pub record Leaves (at : ℕ → States) (u t : ℕ) (old new : State) : Type 0 where
    pub later : u ≤ t
    pub during : (m : ℕ) → u < m → m ≤ t → GivesEither recover Keeps counters old new (at m)
    pub end : GivesThis recover Keeps counters new (at t)
    pub sound : IsSoundState new

  -- these happenings follow each other from a start that is in order and sound
  abbrev pub Run : Limits → State → ℕ → (ℕ → States) → List Happening → Type 0
  Run limits start begin at [] = GivesThis recover Keeps counters start (at begin) × IsInOrder start × IsSoundState start
  Run limits start begin at (h ∷ older) =
      Run limits start begin at older × Happens limits (last_state start older) h × Leaves at (last_tick begin older) (tick h) (last_state start older) (state h)

module _ {B : Type 0} (recover : Files → Result Recovered B) (Keeps : Files → States → Type 0) (counters : List FileId) (Stored : State → States → Type 0) where
  -- An event leaves the new state in the files, and at each of its moments each image gives the old state or the new one.
  abbrev pub Moves : State → State → View → View → Type 0
  Moves old new v w = Stored old (now v) → Stored new (now w) × Since (GivesEither recover Keeps counters old new) v w

  -- What is in doubt is settled: each image gives the old state still.
  abbrev pub Settling : State → State → View → View → Type 0
  Settling old new v w = Stored old (now v) → Stored new (now w) × Since (GivesThis recover Keeps counters old) v w

  -- The history leads from the start to a state that the files have now. The trail is its events since the last opening.
  pub record IsHistory (limits : Limits) (start : State) (begin : ℕ) (history : List Happening) (view : View) (trail : List Turn) : Type 0 where
    pub stored : Stored (last_state start history) (now view)
    pub run : Run recover Keeps counters limits start begin view.at history
    pub events : turns history ≡ reverse trail
    pub clock : last_tick begin history ≡ view.clock
