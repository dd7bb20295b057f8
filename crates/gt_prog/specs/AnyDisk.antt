-- Lines over any disk, one that tells nothing too: each answer is the machine's, but for an object that a disk gave.
use Rattle.std.specs.Prelude.{◌≡◌, ℕ, List, [], ◌∷◌, map, Option, Result, Ok}
use Rattle.gt_model.specs.declared.done.Done.{Done}
use Rattle.gt_model.specs.declared.done.Done.TheVariants.{Restarted}
use Rattle.gt_model.specs.declared.event.Event.{Event}
use Rattle.gt_model.specs.declared.limits.Limits.{Limits}
use Rattle.gt_model.specs.declared.refusal.Refusal.{Refusal}
use Rattle.gt_model.specs.declared.who.Who.{Who}
use Rattle.gt_model.specs.Machine.{State, Recovered, opening}
use Rattle.gt_part.specs.Called.{Acted}
use Rattle.gt_part.specs.Shown.{Shown, memory}
use Rattle.gt_script.specs.declared.form.Form.{Form}
use Rattle.gt_script.specs.declared.form.Form.TheVariants.{Restart}
use Rattle.gt_script.specs.declared.request.Request.{Request}
use Rattle.gt_session.specs.Sessions.{Session, forgotten}
use Rattle.gt_session.specs.Together.{Requests, GiveUp}
use Rattle.gt_prog.specs.Lines.{Line, new_sessions}
use Rattle.gt_prog.specs.One.{given_by, Mapped}

-- the limits, and the machine's state that the memory of the partition stands for
pub record Running : Type 0 where
  pub limits : Limits
  pub state : State

-- the sessions, and the partition as it runs
pub record Footing : Type 0 where
  pub sessions : List Session
  pub running : Running

abbrev pub running_in : Limits → State → Running
running_in limits s = record { limits = limits; state = s }

abbrev pub footing : List Session → Running → Footing
footing sessions running = record { sessions = sessions; running = running }

abbrev pub running_of : {D : Type 0} → Shown D → Running
running_of p = running_in p.limits (memory p)

-- where lines begin over what some files recover to
abbrev pub opened_over : Limits → Recovered → Footing
opened_over limits r = footing new_sessions (running_in limits (opening r))

-- The machine of the one partition makes a step, of whose answer the same is kept; what is answered is the machine's answer, but for an object.
abbrev pub LocalActed : ℕ → Who → Event → Result Done Refusal → Option ℕ → Running → Running → Type 0
LocalActed partition who e answer given old new = (partition ≡ 1) × (given ≡ given_by old.state.pins e answer) × (new.limits ≡ old.limits) × Acted old.limits old.state e answer (λ s. new.state ≡ s)

-- Everything was mounted again: the memory is that of what some files recover to.
pub record Reopens (line : Line) (old new : Footing) : Type 0 where
  pub answer : line.answer ≡ Ok Restarted
  pub sessions : new.sessions ≡ map forgotten old.sessions
  pub limits : new.running.limits ≡ old.running.limits
  pub recovered : Recovered
  pub opens : new.running.state ≡ opening recovered

abbrev pub ActsBy : Form → Line → Footing → Footing → Type 0
ActsBy Restart line old new = Reopens line old new
ActsBy form line old new = Requests LocalActed Mapped line.number line.request.session line.request.form line.answer old.sessions new.sessions old.running new.running

-- This request of the line of this number was done, and this is its answer.
abbrev pub ActedOne : {D : Type 0} → ℕ → Request → Result Done Refusal → List Session → List Session → Shown D → Shown D → Type 0
ActedOne number request answer first last old new = ActsBy request.form (record { number = number; request = request; answer = answer }) (footing first (running_of old)) (footing last (running_of new))

-- These lines were done, one after the other.
abbrev pub AreActed : List Line → Footing → Footing → Type 0
AreActed [] old new = new ≡ old
AreActed (line ∷ lines) old new = (mid : Footing) × ActsBy line.request.form line old mid × AreActed lines mid new

-- These lines were done over what some files recover to.
pub record ActedLines (limits : Limits) (lines : List Line) : Type 0 where
  pub recovered : Recovered
  pub end : Footing
  pub did : AreActed lines (opened_over limits recovered) end

-- The same, and then each session gave up what it had open.
pub record ActedWhole (limits : Limits) (lines : List Line) : Type 0 where
  pub recovered : Recovered
  pub stand : Footing
  pub did : AreActed lines (opened_over limits recovered) stand
  pub end : Running
  pub ends : GiveUp LocalActed stand.sessions stand.running end
