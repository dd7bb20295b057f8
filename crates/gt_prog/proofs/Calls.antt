-- From calls of the partition to what happens.
use Rattle.std.proofs.Common.{◌≡◌, ◌⊎◌, inl, inr, ℕ, Bool, IsTrue, List, [], ◌∷◌, ◌++◌, Option, Some, None, Result, Ok, Err, refl, sym, ap, ◌∙◌, subst, arith}
use Rattle.gt_disk.specs.Files.{View}
use Rattle.gt_model.specs.declared.done.Done.{Done}
use Rattle.gt_model.specs.declared.done.Done.TheVariants.{Aborted}
use Rattle.gt_model.specs.declared.event.Event.{Event}
use Rattle.gt_model.specs.declared.event.Event.TheVariants.{Abort}
use Rattle.gt_model.specs.declared.limits.Limits.{Limits}
use Rattle.gt_model.specs.declared.refusal.Refusal.{Refusal}
use Rattle.gt_model.specs.declared.refusal.Refusal.TheVariants.{Memory}
use Rattle.gt_model.specs.declared.who.Who.{Who}
use Rattle.gt_model.specs.Histories.{Happening, event, kept, last_state}
use Rattle.gt_model.specs.Machine.{State, Step}
use Rattle.gt_part.specs.Shown.{memory, Shown, HasRun, Continues, OneEvent, turn_of}
use Rattle.gt_history.proofs.Runs.{past_same}
use Rattle.gt_part.proofs.Histories.{continues, continues_on}
use Rattle.gt_script.specs.declared.form.Form.{Form}
use Rattle.gt_session.specs.Sessions.{Open, Session}
use Rattle.gt_session.specs.Courses.{Turned, Course, refuses, alone, finds, asks, reads, course}
use Rattle.gt_session.specs.Calls.{Takes, Makes, Answers, Does, GivesUp}
use Rattle.gt_session.specs.Together.{Requests, GiveUp}
use Rattle.gt_prog.specs.One.{given_by, LocalDid, Mapped}
use Rattle.gt_prog.specs.Lines.{past_of, Happened}
use Rattle.gt_prog.proofs.One.{found_one}
use Rattle.gt_prog.proofs.Framing.{over, happened_over}
use Rattle.gt_session.proofs.Mapping.{give_up_map}

module _ {D : Type 0} (tells : Bool) (view : D → View) (fault_count call_count : D → ℕ) (limits : Limits) (told : IsTrue tells) (start : State) (begin : ℕ) where
  abbrev Did : ℕ → Who → Event → Result Done Refusal → Option ℕ → Shown D → Shown D → Type 0
  Did partition who e a given old new = LocalDid tells view fault_count call_count partition who e a given old new

  -- the same history, told otherwise
  pub told_as : (history : List Happening) (P Q : List Happening → Type 0) (old new : Shown D) → Continues view start begin history P old new → ((later : List Happening) → P later → Q later) → Continues view start begin history Q old new
  told_as history P Q old new c f = record { later = c.later; past = c.past; limits = c.limits; this = f c.later c.this; run = c.run; holds = c.holds; good = c.good }

  -- nothing happens
  pub nothing_went : (history : List Happening) (P : List Happening → Type 0) (old new : Shown D) → new ≡ old → HasRun view start begin history old → P [] → Continues view start begin history P old new
  nothing_went history P old new same run none = subst (λ (p : Shown D). Continues view start begin history P old p) (sym same) (continues view start begin history P [] old old refl none (past_same (view old.disk)) run)

  past_unchanged : (old new : Shown D) → new ≡ old → past_of (memory new) [] ≡ past_of (memory old) []
  past_unchanged old new same = ap (λ (p : Shown D). past_of (memory p) []) same

  -- ---- one call

  module _ (history : List Happening) (old new : Shown D) (kept_limits : old.limits ≡ limits) (run : HasRun view start begin history old) where
    happened_by : (partition : ℕ) (who : Who) (e : Event) (a : Result Done Refusal) (given : Option ℕ) (tick : ℕ) (later : List Happening) → partition ≡ 1 → given ≡ given_by old.live e a → HasRun view start begin (later ++ history) new → OneEvent limits who e a tick (last_state start history) later
        → Happened limits partition who e a given (past_of (memory old) []) (past_of (memory new) later)
    happened_by partition who e a given tick later first gives runs one = by one.happened
      where
        here : memory old ≡ last_state start history
        here = run.0

        -- the state after the event
        leads : (later : List Happening) → HasRun view start begin (later ++ history) new → (later ≡ event (turn_of who e (kept (last_state start history) e a) tick) one.after ∷ []) ⊎ ((a ≡ Err Memory) × (later ≡ []) × (one.after ≡ last_state start history)) → memory new ≡ one.after
        leads later runs (inl is) = runs.0 ∙ ap (λ (l : List Happening). last_state start (l ++ history)) is
        leads later runs (inr none) = runs.0 ∙ ap (λ (l : List Happening). last_state start (l ++ history)) none.1 ∙ sym none.2

        stepped : Step limits (memory old) e a (memory new)
        stepped =
            subst (λ (s : State). Step limits s e a (memory new)) (sym here) (subst (λ (s : State). Step limits (last_state start history) e a s) (sym (leads later runs one.happened)) one.step)

        by : (later ≡ event (turn_of who e (kept (last_state start history) e a) tick) one.after ∷ []) ⊎ ((a ≡ Err Memory) × (later ≡ []) × (one.after ≡ last_state start history)) → Happened limits partition who e a given (past_of (memory old) []) (past_of (memory new) later)
        by (inl is) = (first, gives, stepped, inl (tick, is ∙ (λ i. event (turn_of who e (kept (sym here i) e a) tick) (sym (leads later runs (inl is)) i) ∷ [])))
        by (inr none) = (first, gives, stepped, inr (none.0, λ i. past_of ((leads later runs (inr none) ∙ none.2 ∙ sym here) i) (none.1 i)))

    call_went : (partition : ℕ) (who : Who) (e : Event) (a : Result Done Refusal) (given : Option ℕ) → Did partition who e a given old new → Continues view start begin history (λ later. Happened limits partition who e a given (past_of (memory old) []) (past_of (memory new) later)) old new
    call_went partition who e a given (first, gives, call) =
        let c = call.run told start begin history run in
        let one : OneEvent limits who e a (view new.disk).clock (last_state start history) c.later = subst (λ (l : Limits). OneEvent l who e a (view new.disk).clock (last_state start history) c.later) kept_limits c.this in
        record { later = c.later; past = c.past; limits = c.limits; this = happened_by partition who e a given (view new.disk).clock c.later first gives c.run one; run = c.run; holds = c.holds; good = c.good }

    -- ---- one line

    module _ (who : Who) (s : Session) where
      abbrev GoesBy : (List Happening → Type 0) → Type 0
      GoesBy P = Continues view start begin history P old new

      makes_same : (make : Done → Turned) (a : Result Done Refusal) (turned : Turned) → Makes Did Mapped who s make a turned → Makes (Happened limits) Mapped who s make a turned
      makes_same make (Ok done) turned h = h
      makes_same make (Err refusal) turned h = h

      answers_went : (partition : ℕ) (e : Event) (turned : Turned) → Answers Did Mapped who s partition e turned old new → GoesBy (λ later. Answers (Happened limits) Mapped who s partition e turned (past_of (memory old) []) (past_of (memory new) later))
      answers_went partition e turned (given, begins, did, after) = told_as history _ _ old new (call_went partition who e turned.0 given did) (λ later is. (given, begins, is, after))

      take_went : (c : Course) (turned : Turned) → Takes Did Mapped who s c turned old new → GoesBy (λ later. Takes (Happened limits) Mapped who s c turned (past_of (memory old) []) (past_of (memory new) later))
      take_went (refuses refusal) turned h = nothing_went history (λ later. Takes (Happened limits) Mapped who s (refuses refusal) turned (past_of (memory old) []) (past_of (memory new) later)) old new h.1 run (h.0, past_unchanged old new h.1)
      take_went (alone answered) turned (inl h) = nothing_went history (λ later. Takes (Happened limits) Mapped who s (alone answered) turned (past_of (memory old) []) (past_of (memory new) later)) old new h.1 run (inl (h.0, past_unchanged old new h.1))
      take_went (alone answered) turned (inr h) = nothing_went history (λ later. Takes (Happened limits) Mapped who s (alone answered) turned (past_of (memory old) []) (past_of (memory new) later)) old new h.1 run (inr (h.0, past_unchanged old new h.1))
      take_went (finds path e asked) turned (inl h) =
          told_as history _ _ old new (answers_went 1 (asked 1) turned (found_one Did who s path e asked h.1 turned old h.0 new h.2 h.3)) (λ later is. inl (past_of (memory old) [], Ok (Some 1), (refl, refl), ((omega arith, omega arith), is)))
      take_went (finds path e asked) turned (inr h) = nothing_went history (λ later. Takes (Happened limits) Mapped who s (finds path e asked) turned (past_of (memory old) []) (past_of (memory new) later)) old new h.1 run (inr (h.0, past_unchanged old new h.1))
      take_went (asks partition e) turned (inl h) = told_as history _ _ old new (answers_went partition e turned h) (λ later is. inl is)
      take_went (asks partition e) turned (inr h) = nothing_went history (λ later. Takes (Happened limits) Mapped who s (asks partition e) turned (past_of (memory old) []) (past_of (memory new) later)) old new h.1.1 run (inr (h.0, (h.1.0, past_unchanged old new h.1.1)))
      take_went (reads partition e make) turned (inl h) = told_as history _ _ old new (call_went partition who e h.0 None h.1) (λ later is. inl (h.0, is, makes_same make h.0 turned h.2))
      take_went (reads partition e make) turned (inr h) = nothing_went history (λ later. Takes (Happened limits) Mapped who s (reads partition e make) turned (past_of (memory old) []) (past_of (memory new) later)) old new h.1 run (inr (h.0, past_unchanged old new h.1))

      does_went : (c : Option Course) (turned : Turned) → Does Did Mapped who s c turned old new → GoesBy (λ later. Does (Happened limits) Mapped who s c turned (past_of (memory old) []) (past_of (memory new) later))
      does_went None turned h = absurd h
      does_went (Some c) turned h = take_went c turned h

    pub requests_went : (line session : ℕ) (form : Form) (answer : Result Done Refusal) (olds news : List Session) → Requests Did Mapped line session form answer olds news old new
        → Continues view start begin history (λ later. Requests (Happened limits) Mapped line session form answer olds news (past_of (memory old) []) (past_of (memory new) later)) old new
    requests_went line session form answer olds news h =
        let who : Who = record { session = session; line = line } in
        told_as history _ _ old new (does_went who h.before (course h.before form) (answer, h.after) h.does) (λ later is. record { before = h.before; here = h.here; after = h.after; there = h.there; does = is })

    -- ---- one session at the end

    gives_up_went : (who : Who) (o : Option Open) → GivesUp Did who o old new → Continues view start begin history (λ later. GivesUp (Happened limits) who o (past_of (memory old) []) (past_of (memory new) later)) old new
    gives_up_went who None h = nothing_went history (λ later. past_of (memory new) later ≡ past_of (memory old) []) old new h run (past_unchanged old new h)
    gives_up_went who (Some o) h = call_went o.partition who (Abort o.pin) (Ok Aborted) None h

  -- ---- all sessions at the end

  pub give_up_went : (ss : List Session) (history : List Happening) (old new : Shown D) → old.limits ≡ limits → HasRun view start begin history old → GiveUp Did ss old new
      → Continues view start begin history (λ later. GiveUp (Happened limits) ss (past_of (memory old) []) (past_of (memory new) later)) old new
  give_up_went [] history old new kept_limits run h = nothing_went history (λ later. past_of (memory new) later ≡ past_of (memory old) []) old new h run (past_unchanged old new h)
  give_up_went (s ∷ ss) history old new kept_limits run h =
      let mid : Shown D = h.0 in
      let who : Who = record { session = s.number; line = 0 } in
      let one = gives_up_went history old mid kept_limits run who s.open h.1 in
      continues_on view start begin history (λ later. GivesUp (Happened limits) who s.open (past_of (memory old) []) (past_of (memory mid) later)) (λ later. GiveUp (Happened limits) ss (past_of (memory mid) []) (past_of (memory new) later))
      (λ later. GiveUp (Happened limits) (s ∷ ss) (past_of (memory old) []) (past_of (memory new) later)) old mid new one (λ older run'. give_up_went ss older mid new (one.limits ∙ kept_limits) run' h.2)
      (λ a b p q. (past_of (memory mid) a, p, give_up_map (Happened limits) (Happened limits) (over a) (happened_over limits a) ss (past_of (memory mid) []) (past_of (memory new) b) q))
