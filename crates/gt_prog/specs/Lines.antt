-- The lines of a script with their answers, and what they make of the sessions and of the partition.
use Rattle.std.specs.Prelude.{◌≡◌, ◌⊎◌, ℕ, ◌+◌, ◌-◌, ◌^◌, ◌≤◌, if◌then◌else◌, Bool, true, false, List, [], ◌∷◌, map, Option, Result, Ok, Err}
use Rattle.gt_disk.specs.Files.{Rose}
use Rattle.gt_model.specs.declared.done.Done.{Done}
use Rattle.gt_model.specs.declared.done.Done.TheVariants.{Restarted}
use Rattle.gt_model.specs.declared.event.Event.{Event}
use Rattle.gt_model.specs.declared.limits.Limits.{Limits}
use Rattle.gt_model.specs.declared.refusal.Refusal.{Refusal}
use Rattle.gt_model.specs.declared.refusal.Refusal.TheVariants.{Memory, Damaged}
use Rattle.gt_model.specs.declared.who.Who.{Who}
use Rattle.gt_model.specs.Histories.{Happening, event, opened, kept}
use Rattle.gt_model.specs.Machine.{State, Step, Settles, is_faulty}
use Rattle.gt_part.specs.Shown.{turn_of}
use Rattle.gt_script.specs.Printed.{printed as printed_answer}
use Rattle.gt_script.specs.declared.form.Form.{Form}
use Rattle.gt_script.specs.declared.form.Form.TheVariants.{Restart}
use Rattle.gt_script.specs.declared.request.Request.{Request}
use Rattle.gt_session.specs.Sessions.{Session, forgotten}
use Rattle.gt_session.specs.Together.{sessions_from, Requests, GiveUp}
use Rattle.gt_prog.specs.One.{given_by, Mapped}

-- ---- where a run stands

-- the machine's state, and what has happened to the partition, the newest first
pub record Past : Type 0 where
  pub state : State
  pub happened : List Happening

-- the sessions 1 to 128, and the partition's past
pub record Stand : Type 0 where
  pub sessions : List Session
  pub past : Past

-- sessions that have nothing open and have seen nothing
abbrev pub new_sessions : List Session
new_sessions = sessions_from 1 128

abbrev pub past_of : State → List Happening → Past
past_of s happened = record { state = s; happened = happened }

abbrev pub standing : List Session → Past → Stand
standing sessions p = record { sessions = sessions; past = p }

-- where lines begin over a partition
abbrev pub from_here : List Session → State → Stand
from_here sessions s = standing sessions (past_of s [])

-- ---- one line

-- a line that was done: its number, what it asked for, and what it was answered
pub record Line : Type 0 where
  pub number : ℕ
  pub request : Request
  pub answer : Result Done Refusal

-- the requests with the numbers of their lines, which are counted from this one
abbrev pub numbered : ℕ → List Request → List (ℕ × Request)
numbered number [] = []
numbered number (r ∷ rs) = (number, r) ∷ numbered (number + 1) rs

-- the number of a line, and what it asks for
abbrev pub asked_by : Line → ℕ × Request
asked_by line = (line.number, line.request)

-- what is written for a line
abbrev pub printed : Line → List ℕ
printed line = printed_answer line.answer

-- whether an answer names damage
abbrev pub names_damage : Result Done Refusal → Bool
names_damage (Err (Damaged file at)) = true
names_damage answer = false

-- how many of these lines a failing disk answered
abbrev pub faulty : List Line → ℕ
faulty [] = 0
faulty (line ∷ lines) = (if is_faulty line.answer then 1 else 0) + faulty lines

-- The lines that a failing disk answered, and so many faults besides, are at most as many as its count of faults rose; or the count stands at its end.
abbrev pub Counted : ℕ → ℕ → ℕ → List Line → Type 0
Counted besides before now lines = (before + faulty lines + besides ≤ now) ⊎ (2 ^ 64 - 1 ≤ now)

-- A count of faults didn't rise, and doesn't stand at its end.
abbrev pub Stays : ℕ → ℕ → Type 0
Stays before after = Rose before after → ⊥

-- The machine of the one partition makes a step with this answer, which gives the pass that is due, and the event has happened. Of a want of memory there may be no record, and then nothing has changed.
abbrev pub Happened : Limits → ℕ → Who → Event → Result Done Refusal → Option ℕ → Past → Past → Type 0
Happened limits partition who e answer given old new =
    (partition ≡ 1)
    × (given ≡ given_by old.state.pins e answer)
    × Step limits old.state e answer new.state
    × (((tick : ℕ) × (new.happened ≡ event (turn_of who e (kept old.state e answer) tick) new.state ∷ old.happened)) ⊎ ((answer ≡ Err Memory) × (new ≡ old)))

-- Everything was mounted again: what was in doubt is settled, nothing is open any more, and sessions keep what they have seen.
pub record Restarts (line : Line) (old new : Stand) : Type 0 where
  pub answer : line.answer ≡ Ok Restarted
  pub sessions : new.sessions ≡ map forgotten old.sessions
  pub settles : Settles old.past.state new.past.state
  pub tick : ℕ
  pub happened : new.past.happened ≡ opened tick new.past.state ∷ old.past.happened

-- The session of the line took the course of what was asked, and no other session changed.
abbrev pub Asked : Limits → Line → Stand → Stand → Type 0
Asked limits line old new = Requests (Happened limits) Mapped line.number line.request.session line.request.form line.answer old.sessions new.sessions old.past new.past

abbrev pub LineBy : Limits → Form → Line → Stand → Stand → Type 0
LineBy limits Restart line old new = Restarts line old new
LineBy limits form line old new = Asked limits line old new

abbrev pub IsLine : Limits → Line → Stand → Stand → Type 0
IsLine limits line old new = LineBy limits line.request.form line old new

-- ---- all lines

-- These lines were done, one after the other.
abbrev pub AreLines : Limits → List Line → Stand → Stand → Type 0
AreLines limits [] old new = new ≡ old
AreLines limits (line ∷ lines) old new = (mid : Stand) × IsLine limits line old mid × AreLines limits lines mid new

-- At the end of the input each session gives up what it has open, in order of their numbers.
abbrev pub IsEnd : Limits → Stand → Past → Type 0
IsEnd limits stand new = GiveUp (Happened limits) stand.sessions stand.past new
