-- The sessions of a script.
use Rattle.std.specs.Prelude.{◌≡◌, ◌≢◌, ℕ, zero, suc, ◌+◌, ◌-◌, List, [], ◌∷◌, length, slice_get, slice_set, Option, Some, Result}
use Rattle.gt_model.specs.declared.done.Done.{Done}
use Rattle.gt_model.specs.declared.event.Event.{Event}
use Rattle.gt_model.specs.declared.refusal.Refusal.{Refusal}
use Rattle.gt_model.specs.declared.who.Who.{Who}
use Rattle.gt_script.specs.declared.form.Form.{Form}
use Rattle.gt_session.specs.Sessions.{Session, new_session, pass_in}
use Rattle.gt_session.specs.Courses.{MapEvent, course}
use Rattle.gt_session.specs.Calls.{Does, GivesUp, IsHeld}

-- the sessions from this number on
unfoldable pub sessions_from : ℕ → ℕ → List Session
sessions_from number zero = []
sessions_from number (suc more) = new_session number ∷ sessions_from (number + 1) more

-- There are 128 of them, and the one of each index has the next number.
pub record AreNumbered (sessions : List Session) : Type 0 where
  pub count : length sessions ≡ 128
  pub numbers : (i : ℕ) (s : Session) → slice_get sessions i ≡ Some s → s.number ≡ i + 1

-- The session of this number takes the course of what is asked, and no other changes.
pub record Requests {P : Type 0} (Did : ℕ → Who → Event → Result Done Refusal → Option ℕ → P → P → Type 0) (Mapped : Who → List ℕ → MapEvent → Result (Option ℕ) Refusal → P → P → Type 0) (line session : ℕ) (form : Form) (answer : Result Done Refusal) (olds news : List Session) (old new : P) : Type 0 where
  pub before : Session
  pub here : slice_get olds (session - 1) ≡ Some before
  pub after : Session
  pub there : news ≡ slice_set olds (session - 1) after
  pub does : Does Did Mapped (record { session = session; line = line }) before (course before form) (answer, after) old new

-- In order of their numbers each session gives up what it has open.
abbrev pub GiveUp : {P : Type 0} → (ℕ → Who → Event → Result Done Refusal → Option ℕ → P → P → Type 0) → List Session → P → P → Type 0
GiveUp Did [] old new = new ≡ old
GiveUp {P = P} Did (s ∷ ss) old new = (mid : P) × GivesUp Did (record { session = s.number; line = 0 }) s.open old mid × GiveUp Did ss mid new

-- What each session has open is live, and no two have the same.
pub record AreHeld (sessions : List Session) (live : ℕ → List ℕ) : Type 0 where
  pub held : (i : ℕ) (s : Session) → slice_get sessions i ≡ Some s → IsHeld (pass_in s) live
  pub apart : (i j : ℕ) (s t : Session) (pass : ℕ × ℕ) → i ≢ j → slice_get sessions i ≡ Some s → slice_get sessions j ≡ Some t → pass_in s ≡ Some pass → pass_in t ≡ Some pass → ⊥
