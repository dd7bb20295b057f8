-- What a call of a partition was.
use Rattle.std.specs.Prelude.{◌≡◌, ℕ, ◌≤◌, ◌+◌, Bool, true, false, IsTrue, List, None, Result}
use Rattle.gt_disk.specs.Files.{View}
use Rattle.gt_model.specs.declared.done.Done.{Done}
use Rattle.gt_model.specs.declared.event.Event.{Event}
use Rattle.gt_model.specs.declared.event.Event.TheVariants.{Create, Delete, Cat, Commit, Apply}
use Rattle.gt_model.specs.declared.limits.Limits.{Limits}
use Rattle.gt_model.specs.declared.refusal.Refusal.{Refusal}
use Rattle.gt_model.specs.declared.who.Who.{Who}
use Rattle.gt_model.specs.Histories.{Happening, kept, last_state}
use Rattle.gt_model.specs.Machine.{State, Step, StepOnAny}
use Rattle.gt_act.specs.Causes.{CallCause, IsLike, settling_calls, application_calls}
use Rattle.gt_part.specs.Shown.{Shown, Stands, HasRun, Continues, OneEvent, Records, Counts}

-- the events that read an object
abbrev pub reads_object : Event → Bool
reads_object (Cat pin name) = true
reads_object event = false

-- From a state the machine makes a step, over any disk, of whose answer the same record is kept; what is answered is the machine's answer, but for an object that a disk gave which doesn't tell.
pub record Acted (limits : Limits) (s : State) (e : Event) (answer : Result Done Refusal) (NowStands : State → Type 0) : Type 0 where
  pub after : State
  pub told : Result Done Refusal
  pub step : StepOnAny limits s e told after
  pub same : kept s e answer ≡ kept s e told
  pub like : IsLike answer told
  pub stands : NowStands after

-- Where an event reads no object, the machine's step is with what is answered.
pub record Stepped (limits : Limits) (s : State) (e : Event) (answer : Result Done Refusal) (NowStands : State → Type 0) : Type 0 where
  pub after : State
  pub step : Step limits s e answer after
  pub stands : NowStands after

-- how many calls of the disk an event makes at most beside settling an entry: four for an entry, one for an object, those of an application
abbrev pub own_calls : State → Event → ℕ
own_calls s (Create path pool) = 4
own_calls s (Delete path) = 4
own_calls s (Commit pin refs records) = 4
own_calls s (Cat pin name) = 1
own_calls s (Apply n) = application_calls s n
own_calls s event = 0

-- Its calls are counted: those of an application where nothing is in doubt.
abbrev pub IsCounted : State → Event → Type 0
IsCounted s (Apply n) = (s.doubt ≡ None) × (s.turning ≡ None)
IsCounted s event = Unit {0}

-- An event was asked and answered.
pub record Called {D : Type 0} (tells : Bool) (view : D → View) (fault_count call_count : D → ℕ) (who : Who) (e : Event) (answer : Result Done Refusal) (old new : Shown D) : Type 0 where
  pub number : new.number ≡ old.number
  pub limits : new.limits ≡ old.limits
  pub opening : new.opening ≡ old.opening
  pub acts : (s : State) → Stands old s → Acted old.limits s e answer (Stands new)
  pub exact : reads_object e ≡ false → (s : State) → Stands old s → Stepped old.limits s e answer (Stands new)
  pub trail : (s : State) → Stands old s → Records who e (kept s e answer) (view new.disk).clock old new
  pub cause : CallCause (fault_count old.disk) (fault_count new.disk) answer
  pub counted : (s : State) → Stands old s → IsCounted s e → call_count new.disk ≤ call_count old.disk + settling_calls s.doubt + own_calls s e
  pub faults : (first : ℕ) → Counts fault_count first old → Counts fault_count first new
  pub run : IsTrue tells → (start : State) (begin : ℕ) (history : List Happening) → HasRun view start begin history old
      → Continues view start begin history (OneEvent old.limits who e answer (view new.disk).clock (last_state start history)) old new
