-- What has happened to a partition since it was first opened: events, and openings anew.
use Rattle.std.specs.Prelude.{◌≡◌, ℕ, ◌+◌, ◌≤◌, max, nat_lt, if◌then◌else◌, List, [], ◌∷◌, ◌++◌, length, map as map_list, Result, Ok, Err}
use Rattle.std.specs.List.{flat_map}
use Rattle.std.specs.FinMap as map
use Rattle.gt_model.specs.declared.done.Done.{Done}
use Rattle.gt_model.specs.declared.done.Done.TheVariants.{Created, Deleted, Linked, Begun, Committed, Finished, HouseOpen, HouseDone, Applied, Trimmed, Value, Refs, Object, Named, Staged, Checked, Aborted, Step as StepDone, Swept, Restarted}
use Rattle.gt_model.specs.declared.entry.Entry.{Entry}
use Rattle.gt_model.specs.declared.event.Event.{Event}
use Rattle.gt_model.specs.declared.event.Event.TheVariants.{ListRefs, Cat}
use Rattle.gt_model.specs.declared.reference.RefAt.{RefAt}
use Rattle.gt_model.specs.declared.refusal.Refusal.{Refusal}
use Rattle.gt_model.specs.declared.limits.Limits.{Limits}
use Rattle.gt_model.specs.declared.turn.Turn.{Turn}
use Rattle.gt_model.specs.Contents.{Content, after_all}
use Rattle.gt_model.specs.Machine.{State, IsInOrder, Step, Settles, pin_of, line, front}

-- an event or an opening, with the state after it
pub data Happening : Type 0 where
  event : Turn → State → Happening
  opened : ℕ → State → Happening

-- the disk's clock at its end
abbrev pub tick : Happening → ℕ
tick (event turn s) = turn.tick
tick (opened t s) = t

abbrev pub state : Happening → State
state (event turn s) = s
state (opened t s) = s

-- what a record keeps of an answer
abbrev pub kept : State → Event → Result Done Refusal → Result Done Refusal
kept s (ListRefs pin prefix) (Ok done) = Ok (Finished (pin_of s pin).position)
kept s (Cat pin name) (Ok done) = Ok (Finished (pin_of s pin).position)
kept s e answer = answer

-- the position that is named by what was done, 0 where none is
abbrev pub done_position : Done → ℕ
done_position (Created position pool) = position
done_position (Deleted position) = position
done_position (Linked position) = position
done_position (Begun position) = position
done_position (Committed position) = position
done_position (Finished position) = position
done_position (HouseOpen position) = position
done_position (HouseDone position) = position
done_position (Applied position) = position
done_position (Trimmed low) = 0
done_position (Value value) = 0
done_position (Refs list) = 0
done_position (Object whole) = 0
done_position (Named name) = 0
done_position Staged = 0
done_position Checked = 0
done_position Aborted = 0
done_position (StepDone ready) = 0
done_position Swept = 0
done_position Restarted = 0

-- the position that an answer acknowledges
abbrev pub position : Result Done Refusal → ℕ
position (Ok done) = done_position done
position (Err refusal) = 0

-- the position that a happening acknowledges: an event that of its answer, an opening its front
abbrev pub acks : Happening → ℕ
acks (event turn s) = position turn.answer
acks (opened t s) = front s

-- the last tick and the last state of a history; the newest happening first, the first opening aside
abbrev pub last_tick : ℕ → List Happening → ℕ
last_tick begin [] = begin
last_tick begin (h ∷ older) = tick h

abbrev pub last_state : State → List Happening → State
last_state start [] = start
last_state start (h ∷ older) = state h

-- the greatest position that was acknowledged until this moment
abbrev pub acked : State → List Happening → ℕ → ℕ
acked start [] m = front start
acked start (h ∷ older) m = max (if nat_lt m (tick h) then 0 else acks h) (acked start older m)

-- the states before and after what happens at this moment, whose lines are the two lists of the moment; after the last happening, the last one twice
abbrev pub around : State → ℕ → List Happening → ℕ → State × State
around start begin [] m = (start, start)
around start begin (h ∷ older) m =
    if nat_lt (tick h) m then (state h, state h) else (if nat_lt (last_tick begin older) m then (last_state start older, state h) else around start begin older m)

-- An event is a step of the machine, of whose answer the record is kept. An opening settles what is in doubt.
abbrev pub Happens : Limits → State → Happening → Type 0
Happens limits old (event turn new) = (answer : Result Done Refusal) × Step limits old turn.event answer new × (turn.answer ≡ kept old turn.event answer)
Happens limits old (opened t new) = Settles old new

-- These happenings follow each other from a start that is in order; the newest first.
abbrev pub IsRun : Limits → State → List Happening → Type 0
IsRun limits start [] = IsInOrder start
IsRun limits start (h ∷ older) = IsRun limits start older × Happens limits (last_state start older) h

-- the events since the last opening, the newest first
abbrev pub turns : List Happening → List Turn
turns [] = []
turns (event turn s ∷ older) = turn ∷ turns older
turns (opened t s ∷ older) = []

-- ---- what a later state has of an earlier one

-- Where entries were applied since, the base has them; the log goes on from the same entries.
pub record IsPart (old new : State) : Type 0 where
  pub passed : List Entry
  pub rest : List Entry
  pub whole : line old ≡ passed ++ (new.log ++ rest)
  pub begin : new.begin ≡ old.begin + length passed
  pub base : new.base ≡ after_all old.base passed
  pub longer : front old ≤ front new

-- ---- the references at an opening

-- every reference of a content, ascending by repository, then by name
abbrev pub all_refs : Content → List RefAt
all_refs c = flat_map (λ e. map_list (λ r. record { path = e.0; name = r.0; value = r.1 }) (map.entries e.1.refs)) (map.entries c)
