-- What holds of calls by one relation holds by another that follows from it, where each state of the partitions stands for something.
use Rattle.std.proofs.Common.{ℕ, List, [], ◌∷◌, Option, Some, None, Result, Ok, Err, ap, inl, inr}
use Rattle.gt_model.specs.declared.done.Done.{Done}
use Rattle.gt_model.specs.declared.done.Done.TheVariants.{Aborted}
use Rattle.gt_model.specs.declared.event.Event.{Event}
use Rattle.gt_model.specs.declared.event.Event.TheVariants.{Abort}
use Rattle.gt_model.specs.declared.refusal.Refusal.{Refusal}
use Rattle.gt_model.specs.declared.who.Who.{Who}
use Rattle.gt_script.specs.declared.form.Form.{Form}
use Rattle.gt_session.specs.Sessions.{Open, Session}
use Rattle.gt_session.specs.Courses.{MapEvent, Turned, Course, refuses, alone, finds, asks, reads, course}
use Rattle.gt_session.specs.Calls.{Takes, Makes, Answers, Follows, Does, GivesUp}
use Rattle.gt_session.specs.Together.{Requests, GiveUp}

module _ {P Q : Type 0} (Did : ℕ → Who → Event → Result Done Refusal → Option ℕ → P → P → Type 0) (Was : ℕ → Who → Event → Result Done Refusal → Option ℕ → Q → Q → Type 0) (stands : P → Q)
    (calls : (partition : ℕ) (who : Who) (e : Event) (a : Result Done Refusal) (given : Option ℕ) (p p' : P) → Did partition who e a given p p' → Was partition who e a given (stands p) (stands p')) where
  pub gives_up_map : (who : Who) (o : Option Open) (p p' : P) → GivesUp Did who o p p' → GivesUp Was who o (stands p) (stands p')
  gives_up_map who None p p' h = ap stands h
  gives_up_map who (Some o) p p' h = calls o.partition who (Abort o.pin) (Ok Aborted) None p p' h

  pub give_up_map : (ss : List Session) (p p' : P) → GiveUp Did ss p p' → GiveUp Was ss (stands p) (stands p')
  give_up_map [] p p' h = ap stands h
  give_up_map (s ∷ ss) p p' h = (stands h.0, gives_up_map (record { session = s.number; line = 0 }) s.open p h.0 h.1, give_up_map ss h.0 p' h.2)

  module _ (Mapped : Who → List ℕ → MapEvent → Result (Option ℕ) Refusal → P → P → Type 0) (WasMapped : Who → List ℕ → MapEvent → Result (Option ℕ) Refusal → Q → Q → Type 0)
      (maps : (who : Who) (path : List ℕ) (e : MapEvent) (found : Result (Option ℕ) Refusal) (p p' : P) → Mapped who path e found p p' → WasMapped who path e found (stands p) (stands p')) where
    makes_map : (who : Who) (s : Session) (make : Done → Turned) (answer : Result Done Refusal) (turned : Turned) → Makes Did Mapped who s make answer turned → Makes Was WasMapped who s make answer turned
    makes_map who s make (Ok done) turned h = h
    makes_map who s make (Err refusal) turned h = h

    answers_map : (who : Who) (s : Session) (partition : ℕ) (e : Event) (turned : Turned) (p p' : P) → Answers Did Mapped who s partition e turned p p' → Answers Was WasMapped who s partition e turned (stands p) (stands p')
    answers_map who s partition e turned p p' h = (h.0, h.1, calls partition who e turned.0 h.0 p p' h.2, h.3)

    follows_map : (who : Who) (s : Session) (event : ℕ → Event) (found : Result (Option ℕ) Refusal) (turned : Turned) (p p' : P) → Follows Did Mapped who s event found turned p p' → Follows Was WasMapped who s event found turned (stands p) (stands p')
    follows_map who s event (Err refusal) turned p p' h = (h.0, ap stands h.1)
    follows_map who s event (Ok None) turned p p' h = (h.0, ap stands h.1)
    follows_map who s event (Ok (Some partition)) turned p p' h = (h.0, answers_map who s partition (event partition) turned p p' h.1)

    pub takes_map : (who : Who) (s : Session) (c : Course) (turned : Turned) (p p' : P) → Takes Did Mapped who s c turned p p' → Takes Was WasMapped who s c turned (stands p) (stands p')
    takes_map who s (refuses refusal) turned p p' h = (h.0, ap stands h.1)
    takes_map who s (alone answered) turned p p' (inl h) = inl (h.0, ap stands h.1)
    takes_map who s (alone answered) turned p p' (inr h) = inr (h.0, ap stands h.1)
    takes_map who s (finds path e event) turned p p' (inl h) = inl (stands h.0, h.1, maps who path e h.1 p h.0 h.2, follows_map who s event h.1 turned h.0 p' h.3)
    takes_map who s (finds path e event) turned p p' (inr h) = inr (h.0, ap stands h.1)
    takes_map who s (asks partition e) turned p p' (inl h) = inl (answers_map who s partition e turned p p' h)
    takes_map who s (asks partition e) turned p p' (inr h) = inr (h.0, (h.1.0, ap stands h.1.1))
    takes_map who s (reads partition e make) turned p p' (inl h) = inl (h.0, calls partition who e h.0 None p p' h.1, makes_map who s make h.0 turned h.2)
    takes_map who s (reads partition e make) turned p p' (inr h) = inr (h.0, ap stands h.1)

    pub does_map : (who : Who) (s : Session) (c : Option Course) (turned : Turned) (p p' : P) → Does Did Mapped who s c turned p p' → Does Was WasMapped who s c turned (stands p) (stands p')
    does_map who s None turned p p' h = h
    does_map who s (Some c) turned p p' h = takes_map who s c turned p p' h

    pub requests_map : (line session : ℕ) (form : Form) (answer : Result Done Refusal) (olds news : List Session) (p p' : P) → Requests Did Mapped line session form answer olds news p p' → Requests Was WasMapped line session form answer olds news (stands p) (stands p')
    requests_map line session form answer olds news p p' h = record {
      before = h.before;
      here = h.here;
      after = h.after;
      there = h.there;
      does = does_map (record { session = session; line = line }) h.before (course h.before form) (answer, h.after) p p' h.does;
    }
