-- How a session does a line over the partitions.
use Rattle.std.specs.Prelude.{◌≡◌, ◌⊎◌, ℕ, List, [], ◌∷◌, ◌++◌, filter, false, not, nat_eq, is_some, if◌then◌else◌, Option, Some, None, Result, Ok, Err}
use Rattle.std.specs.List.{IsAmong}
use Rattle.gt_model.specs.declared.done.Done.{Done}
use Rattle.gt_model.specs.declared.done.Done.TheVariants.{Aborted}
use Rattle.gt_model.specs.declared.event.Event.{Event}
use Rattle.gt_model.specs.declared.event.Event.TheVariants.{Abort}
use Rattle.gt_model.specs.declared.refusal.Refusal.{Refusal}
use Rattle.gt_model.specs.declared.refusal.Refusal.TheVariants.{Memory, NoRepository}
use Rattle.gt_model.specs.declared.who.Who.{Who}
use Rattle.gt_model.specs.Machine.{is_certain}
use Rattle.gt_session.specs.Sessions.{IsPartition, Open, Session}
use Rattle.gt_session.specs.Courses.{MapEvent, Course, refuses, alone, finds, asks, reads, Turned, begins, after_event}

-- ---- the numbers of live passes, by partition

abbrev pub without : List ℕ → ℕ → List ℕ
without numbers number = filter (λ n. not (nat_eq n number)) numbers

-- This partition has these, and the others have what they had.
abbrev pub with_live : (ℕ → List ℕ) → ℕ → List ℕ → ℕ → List ℕ
with_live live partition numbers = λ n. if nat_eq n partition then numbers else live n

-- A pass of a partition is no longer live.
abbrev pub ended : (ℕ → List ℕ) → ℕ → ℕ → ℕ → List ℕ
ended live partition number = with_live live partition (without (live partition) number)

-- A pass is given with the answer that says so, under a number that wasn't live in its partition.
pub record Gives (pass : Option ℕ) (partition : ℕ) (old new : ℕ → List ℕ) : Type 0 where
  pub number : ℕ
  pub given : pass ≡ Some number
  pub free : IsAmong (old partition) number → ⊥
  pub live : new ≡ with_live old partition (old partition ++ number ∷ [])

pub record GivesNone (pass : Option ℕ) (old new : ℕ → List ℕ) : Type 0 where
  pub none : pass ≡ None
  pub live : new ≡ old

abbrev pub GivesPass : Result Done Refusal → Option ℕ → ℕ → (ℕ → List ℕ) → (ℕ → List ℕ) → Type 0
GivesPass (Ok done) pass partition old new = Gives pass partition old new
GivesPass (Err refusal) pass partition old new = GivesNone pass old new

-- What a session holds is live.
abbrev pub IsHeld : Option (ℕ × ℕ) → (ℕ → List ℕ) → Type 0
IsHeld None live = Unit {0}
IsHeld (Some pass) live = IsAmong (live pass.0) pass.1

-- The passes of other sessions stay live, what the session holds now is live, and it was its own or wasn't live.
pub record LeavesOthers (held holds : Option (ℕ × ℕ)) (old new : ℕ → List ℕ) : Type 0 where
  pub others : (p n : ℕ) → IsAmong (old p) n → (held ≡ Some (p, n) → ⊥) → IsAmong (new p) n
  pub own : IsHeld holds new
  pub fresh : (p n : ℕ) → holds ≡ Some (p, n) → (held ≡ Some (p, n)) ⊎ (IsAmong (old p) n → ⊥)

-- ---- what the map answers

-- the partition that a path was assigned to, as an answer of the map
abbrev pub as_found : Result ℕ Refusal → Result (Option ℕ) Refusal
as_found (Ok partition) = Ok (Some partition)
as_found (Err refusal) = Err refusal

-- ---- a line, where `Did` says what may follow a call of a partition with this event, this answer and this pass that is given, and `Mapped` what may follow a call of the map

module _ {P : Type 0} (Did : ℕ → Who → Event → Result Done Refusal → Option ℕ → P → P → Type 0) (Mapped : Who → List ℕ → MapEvent → Result (Option ℕ) Refusal → P → P → Type 0) (who : Who) where
  -- the session wants memory, and nothing is done; an event that always ends as it says never waits for any
  abbrev pub Stops : Session → Turned → P → P → Type 0
  Stops s turned old new = (turned ≡ (Err Memory, s)) × (new ≡ old)

  -- the answer that is made of what was read; or memory is wanted for it
  abbrev pub Makes : Session → (Done → Turned) → Result Done Refusal → Turned → Type 0
  Makes s make (Ok done) turned = (turned ≡ make done) ⊎ (turned ≡ (Err Memory, s))
  Makes s make (Err refusal) turned = turned ≡ (Err refusal, s)

  -- The answer of this partition stands. A pass is given exactly where a transaction begins.
  abbrev pub Answers : Session → ℕ → Event → Turned → P → P → Type 0
  Answers s partition e turned old new = (given : Option ℕ) × (is_some given ≡ begins e turned.0) × Did partition who e turned.0 given old new × (turned.1 ≡ after_event s partition given e turned.0)

  -- the map's refusal stands; what it found is a partition, whose answer stands
  abbrev pub Follows : Session → (ℕ → Event) → Result (Option ℕ) Refusal → Turned → P → P → Type 0
  Follows s event (Err refusal) turned old new = (turned ≡ (Err refusal, s)) × (new ≡ old)
  Follows s event (Ok None) turned old new = (turned ≡ (Err NoRepository, s)) × (new ≡ old)
  Follows s event (Ok (Some partition)) turned old new = IsPartition partition × Answers s partition (event partition) turned old new

  -- The line takes its course: its answer, the session and the partitions after it.
  abbrev pub Takes : Session → Course → Turned → P → P → Type 0
  Takes s (refuses refusal) turned old new = (turned ≡ (Err refusal, s)) × (new ≡ old)
  Takes s (alone answered) turned old new = ((turned ≡ answered) × (new ≡ old)) ⊎ Stops s turned old new
  Takes s (finds path e event) turned old new = ((mid : P) × (found : Result (Option ℕ) Refusal) × Mapped who path e found old mid × Follows s event found turned mid new) ⊎ Stops s turned old new
  Takes s (asks partition e) turned old new = Answers s partition e turned old new ⊎ ((is_certain e ≡ false) × Stops s turned old new)
  Takes s (reads partition e make) turned old new = ((answer : Result Done Refusal) × Did partition who e answer None old new × Makes s make answer turned) ⊎ Stops s turned old new

  -- a line of a form that is done
  abbrev pub Does : Session → Option Course → Turned → P → P → Type 0
  Does s None turned old new = ⊥
  Does s (Some course) turned old new = Takes s course turned old new

-- What is open is given up.
abbrev pub GivesUp : {P : Type 0} → (ℕ → Who → Event → Result Done Refusal → Option ℕ → P → P → Type 0) → Who → Option Open → P → P → Type 0
GivesUp Did who None old new = new ≡ old
GivesUp Did who (Some o) old new = Did o.partition who (Abort o.pin) (Ok Aborted) None old new
