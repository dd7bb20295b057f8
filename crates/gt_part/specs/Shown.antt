-- What clauses see of a partition.
use Rattle.std.specs.Prelude.{◌≡◌, ◌⊎◌, ℕ, ◌≤◌, ◌+◌, ◌-◌, ◌^◌, if◌then◌else◌, List, [], ◌∷◌, ◌++◌, Result, Err}
use Rattle.gt_disk.specs.Files.{View, now}
use Rattle.gt_model.specs.declared.done.Done.{Done}
use Rattle.gt_model.specs.declared.refusal.Refusal.{Refusal}
use Rattle.gt_model.specs.declared.refusal.Refusal.TheVariants.{Memory}
use Rattle.gt_model.specs.declared.event.Event.{Event}
use Rattle.gt_model.specs.declared.limits.Limits.{Limits}
use Rattle.gt_model.specs.declared.reference.RefAt.{RefAt}
use Rattle.gt_model.specs.declared.turn.Turn.{Turn}
use Rattle.gt_model.specs.declared.who.Who.{Who}
use Rattle.gt_model.specs.Machine.{State, Pin, Step, front, is_faulty}
use Rattle.gt_model.specs.Histories.{Happening, event, opened, kept, last_state}
use Rattle.gt_history.specs.Runs.{KeepsPast}
use Rattle.gt_journal.specs.Ledger.{Ledger, Remembers, state_of}
use Rattle.gt_journal.specs.Histories.{IsGood, Holds, IsHistory}

-- its number, its disk, its limits, its log in memory, what is live, and the trail: the references at this opening, and the records of the events since
pub record Shown (D : Type 0) : Type 0 where
  pub number : ℕ
  pub disk : D
  pub limits : Limits
  pub ledger : Ledger
  pub live : List Pin
  pub opening : List RefAt
  pub trail : List Turn

-- the machine's state that the memory of a partition stands for
abbrev pub memory : {D : Type 0} → Shown D → State
memory p = state_of p.ledger p.live

-- The partition's memory stands for this state of the machine.
abbrev pub Stands : {D : Type 0} → Shown D → State → Type 0
Stands p s = memory p ≡ s

-- what is live
abbrev pub pins_of : {D : Type 0} → Shown D → List Pin
pins_of p = p.live

-- the position of its last entry
abbrev pub front_of : {D : Type 0} → Shown D → ℕ
front_of p = front (memory p)

-- The partition has this history, whose last state its memory stands for; the files have that state now, and what memory knows of them beside it.
abbrev pub HasRun : {D : Type 0} → (D → View) → State → ℕ → List Happening → Shown D → Type 0
HasRun view start begin history p = Stands p (last_state start history) × IsHistory p.limits start begin history (view p.disk) p.trail × Remembers p.ledger (now (view p.disk))

-- The history goes on by this, and holds on the disk, which may be handed in again.
pub record Continues {D : Type 0} (view : D → View) (start : State) (begin : ℕ) (history : List Happening) (IsThis : List Happening → Type 0) (old new : Shown D) : Type 0 where
  pub later : List Happening
  pub past : KeepsPast (view old.disk) (view new.disk)
  pub limits : new.limits ≡ old.limits
  pub this : IsThis later
  pub run : HasRun view start begin (later ++ history) new
  pub holds : Holds old.limits start begin (later ++ history) (view new.disk)
  pub good : IsGood old.limits (now (view new.disk))

abbrev pub turn_of : Who → Event → Result Done Refusal → ℕ → Turn
turn_of who e answer tick = record { who = who; event = e; answer = answer; tick = tick }

-- The machine makes a step with this answer, and the event has happened; of a want of memory there may be no record, and then nothing has changed.
pub record OneEvent (limits : Limits) (who : Who) (e : Event) (answer : Result Done Refusal) (tick : ℕ) (s : State) (later : List Happening) : Type 0 where
  pub after : State
  pub step : Step limits s e answer after
  pub happened : (later ≡ event (turn_of who e (kept s e answer) tick) after ∷ []) ⊎ ((answer ≡ Err Memory) × (later ≡ []) × (after ≡ s))

abbrev pub OneOpening : ℕ → State → List Happening → Type 0
OneOpening tick s later = later ≡ opened tick s ∷ []

-- The trail has a record of this event more, or memory was wanted and nothing has changed.
abbrev pub Records : {D : Type 0} → Who → Event → Result Done Refusal → ℕ → Shown D → Shown D → Type 0
Records who e answer tick old new = (new.trail ≡ old.trail ++ turn_of who e answer tick ∷ []) ⊎ ((answer ≡ Err Memory) × (new ≡ old))

abbrev pub faults_in : List Turn → ℕ
faults_in [] = 0
faults_in (turn ∷ older) = (if is_faulty turn.answer then 1 else 0) + faults_in older

-- The answers that come of a failing disk are at most as many as the disk's count rose since it was this, or the count stands at its end.
abbrev pub Counts : {D : Type 0} → (D → ℕ) → ℕ → Shown D → Type 0
Counts fault_count first p = (first + faults_in p.trail ≤ fault_count p.disk) ⊎ (2 ^ 64 - 1 ≤ fault_count p.disk)
