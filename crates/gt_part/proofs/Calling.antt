-- What is promised of a call, from what its parts say.
use Rattle.std.proofs.Common.{◌≡◌, inl, inr, ℕ, ◌+◌, ◌≤◌, Bool, false, List, [], ◌∷◌, ◌++◌, Result, Ok, Err, refl, sym, ◌∙◌, ap, subst, arith, IsTrue}
use Rattle.gt_disk.specs.Files.{View, now}
use Rattle.gt_model.specs.declared.done.Done.{Done}
use Rattle.gt_model.specs.declared.event.Event.{Event}
use Rattle.gt_model.specs.declared.event.Event.TheVariants.{Create, Delete, Link, Begin, GetRef, ListRefs, Cat, Commit, Abort, HouseOpen, HouseStep, HouseCommit, Apply, Trim, Sweep}
use Rattle.gt_model.specs.declared.limits.Limits.{Limits}
use Rattle.gt_model.specs.declared.reference.RefAt.{RefAt}
use Rattle.gt_model.specs.declared.refusal.Refusal.{Refusal}
use Rattle.gt_model.specs.declared.refusal.Refusal.TheVariants.{Memory}
use Rattle.gt_model.specs.declared.turn.Turn.{Turn}
use Rattle.gt_model.specs.declared.who.Who.{Who}
use Rattle.gt_model.specs.Histories.{Happening, event, kept, last_state}
use Rattle.gt_model.specs.Machine.{State, Step, StepOnAny, RunsOut, is_asked, is_faulty}
use Rattle.gt_sound.specs.Sound.{IsKnown}
use Rattle.gt_history.specs.Runs.{KeepsPast}
use Rattle.gt_history.proofs.Runs as runs
use Rattle.gt_base.specs.Recovery.{recover, Keeps, counters}
use Rattle.gt_journal.specs.Ledger.{Stored, Remembers, known as ledger_known}
use Rattle.gt_journal.specs.Histories.{Goes, Moves, IsHistory}
use Rattle.gt_journal.proofs.Images.{recovered_legal, stored_gives}
use Rattle.gt_part.specs.Called.{Called, Acted, Stepped, IsCounted, reads_object, own_calls}
use Rattle.gt_act.specs.Causes.{CallCause, IsLike, settling_calls}
use Rattle.gt_part.specs.Shown.{Shown, memory, Stands, HasRun, Continues, OneEvent, turn_of}
use Rattle.gt_act.proofs.Causes.{sure_cause}
use Rattle.gt_act.proofs.Stepping.{stops}
use Rattle.gt_journal.proofs.Turns.{remembers_kept}
use Rattle.gt_part.proofs.Histories.{counts_more, continues}

-- a refusal is kept as it is
pub kept_refusal : (s : State) (e : Event) (refusal : Refusal) → kept s e (Err refusal) ≡ Err refusal
kept_refusal s (Create path pool) refusal = refl
kept_refusal s (Delete path) refusal = refl
kept_refusal s (Link path pool) refusal = refl
kept_refusal s (Begin path seen) refusal = refl
kept_refusal s (GetRef pin name) refusal = refl
kept_refusal s (ListRefs pin prefix) refusal = refl
kept_refusal s (Cat pin name) refusal = refl
kept_refusal s (Commit pin refs records) refusal = refl
kept_refusal s (Abort pin) refusal = refl
kept_refusal s (HouseOpen path job) refusal = refl
kept_refusal s (HouseStep pin n) refusal = refl
kept_refusal s (HouseCommit pin) refusal = refl
kept_refusal s (Apply n) refusal = refl
kept_refusal s Trim refusal = refl
kept_refusal s Sweep refusal = refl

-- what was done is no fault, however it is kept
kept_done : (s : State) (e : Event) (done : Done) → is_faulty (kept s e (Ok done)) ≡ false
kept_done s (Create path pool) done = refl
kept_done s (Delete path) done = refl
kept_done s (Link path pool) done = refl
kept_done s (Begin path seen) done = refl
kept_done s (GetRef pin name) done = refl
kept_done s (ListRefs pin prefix) done = refl
kept_done s (Cat pin name) done = refl
kept_done s (Commit pin refs records) done = refl
kept_done s (Abort pin) done = refl
kept_done s (HouseOpen path job) done = refl
kept_done s (HouseStep pin n) done = refl
kept_done s (HouseCommit pin) done = refl
kept_done s (Apply n) done = refl
kept_done s Trim done = refl
kept_done s Sweep done = refl

kept_faulty : (s : State) (e : Event) (answer : Result Done Refusal) → is_faulty (kept s e answer) ≡ is_faulty answer
kept_faulty s e (Ok done) = kept_done s e done
kept_faulty s e (Err refusal) = ap is_faulty (kept_refusal s e refusal)

module _ {D : Type 0} (tells : Bool) (view : D → View) (fault_count call_count : D → ℕ) (who : Who) (e : Event) where
  abbrev CalledSo : Result Done Refusal → Shown D → Shown D → Type 0
  CalledSo answer old new = Called tells view fault_count call_count who e answer old new

  -- the calls of the disk are counted, the files go on, and so does what memory has of them
  abbrev CountsBy : Shown D → Shown D → Type 0
  CountsBy old new = IsCounted (memory old) e → call_count new.disk ≤ call_count old.disk + settling_calls old.ledger.doubt + own_calls (memory old) e

  abbrev GoesBy : Shown D → Shown D → Type 0
  GoesBy old new = IsTrue tells → Stored old.limits (memory old) (now (view old.disk)) → Remembers old.ledger (now (view old.disk)) → Goes old.limits (memory old) (memory new) (view old.disk) (view new.disk)

  abbrev RemembersBy : Shown D → Shown D → Type 0
  RemembersBy old new = IsTrue tells → Stored old.limits (memory old) (now (view old.disk)) → Remembers old.ledger (now (view old.disk)) → Remembers new.ledger (now (view new.disk))

  -- memory was wanted, and nothing has changed
  pub same_called : (p : Shown D) → IsTrue (is_asked (memory p) e) → RunsOut e (memory p) (memory p) → CalledSo (Err Memory) p p
  same_called p asked out = record {
    number = refl;
    limits = refl;
    opening = refl;
    acts = λ s stands. subst (λ (s : State). Acted p.limits s e (Err Memory) (Stands p)) stands (record { after = (memory p); told = Err Memory; step = inl step; same = refl; like = inl refl; stands = refl });
    exact = λ reads s stands. subst (λ (s : State). Stepped p.limits s e (Err Memory) (Stands p)) stands (record { after = (memory p); step = step; stands = refl });
    trail = λ s stands. inr (kept_refusal s e Memory, refl);
    cause = sure_cause (fault_count p.disk) (Err Memory) refl;
    counted = λ s stands few. omega arith;
    faults = λ first counts. counts;
    run = λ t start begin history run.
        let here : (memory p) ≡ last_state start history = run.0 in
        continues view start begin history (OneEvent p.limits who e (Err Memory) (view p.disk).clock (last_state start history)) [] p p refl
        (record { after = last_state start history; step = subst (λ (s : State). Step p.limits s e (Err Memory) s) here step; happened = inr (refl, refl, refl) }) (runs.past_same (view p.disk)) run;
  }
    where
      step : Step p.limits (memory p) e (Err Memory) (memory p)
      step = stops p.limits e (memory p) asked out

  -- no record was added, and nothing else has changed
  pub not_called : (old : Shown D) (opening : List RefAt) (trail : List Turn) → opening ≡ old.opening → trail ≡ old.trail → IsTrue (is_asked (memory old) e) → RunsOut e (memory old) (memory old) → CalledSo (Err Memory) old (record old { opening = opening; trail = trail })
  not_called old opening trail kept same asked out = subst (λ (t : List RefAt × List Turn). CalledSo (Err Memory) old (record old { opening = t.0; trail = t.1 })) (λ i. (sym kept i, sym same i)) (same_called old asked out)

  -- The record of the event was added. The machine takes a step with what is told, of which the same is kept; over a disk that tells, that is what is answered.
  told_called : (old new : Shown D) (answer told held : Result Done Refusal) (tick : ℕ) → tick ≡ (view new.disk).clock → held ≡ kept (memory old) e answer → new.number ≡ old.number → new.limits ≡ old.limits → new.opening ≡ old.opening
      → new.trail ≡ old.trail ++ turn_of who e held tick ∷ [] → IsKnown e
      → StepOnAny old.limits (memory old) e told (memory new) → kept (memory old) e answer ≡ kept (memory old) e told → IsLike answer told
      → (reads_object e ≡ false → Step old.limits (memory old) e answer (memory new))
      → CallCause (fault_count old.disk) (fault_count new.disk) answer
      → CountsBy old new
      → GoesBy old new
      → RemembersBy old new
      → (IsTrue tells → (start : State) (begin : ℕ) (history : List Happening) → HasRun view start begin history old → Step old.limits (memory old) e answer (memory new))
      → CalledSo answer old new
  told_called old new answer told held tick tick_is held_is number limits opening trail known step alike like exact cause counted goes remembers tells_step =
      record {
        number = number;
        limits = limits;
        opening = opening;
        acts = λ s stands. subst (λ (s : State). Acted old.limits s e answer (Stands new)) stands (record { after = (memory new); told = told; step = step; same = alike; like = like; stands = refl });
        exact = λ reads s stands. subst (λ (s : State). Stepped old.limits s e answer (Stands new)) stands (record { after = (memory new); step = exact reads; stands = refl });
        trail = λ s stands. inl (trail_at s stands);
        cause = cause;
        counted = λ s stands. subst (λ (s : State). IsCounted s e → call_count new.disk ≤ call_count old.disk + settling_calls s.doubt + own_calls s e) stands counted;
        faults = λ first counts. counts_more first (fault_count old.disk) (fault_count new.disk) old.trail new.trail (turn_at (memory old)) (trail_at (memory old) refl) cause.later (λ is. cause.fault (sym (kept_faulty (memory old) e answer) ∙ is)) counts;
        run = λ t start begin history run. by t start begin history run;
      }
    where
      turn_at : State → Turn
      turn_at s = turn_of who e (kept s e answer) (view new.disk).clock

      trail_at : (s : State) → (memory old) ≡ s → new.trail ≡ old.trail ++ turn_at s ∷ []
      trail_at s stands =
          trail ∙ ap (λ (a : Result Done Refusal). old.trail ++ turn_of who e a tick ∷ []) (held_is ∙ ap (λ (s : State). kept s e answer) stands)
          ∙ ap (λ (n : ℕ). old.trail ++ turn_of who e (kept s e answer) n ∷ []) tick_is

      by : IsTrue tells → (start : State) (begin : ℕ) (history : List Happening) → HasRun view start begin history old → Continues view start begin history (OneEvent old.limits who e answer (view new.disk).clock (last_state start history)) old new
      by t start begin history run =
          let s : State = last_state start history in
          let here : (memory old) ≡ s = run.0 in
          let turn : Turn = turn_at s in
          let stored : Stored old.limits (memory old) (now (view old.disk)) = subst (λ (s : State). Stored old.limits s (now (view old.disk))) (sym here) run.1.stored in
          let moved : Goes old.limits s (memory new) (view old.disk) (view new.disk) = subst (λ (s : State). Goes old.limits s (memory new) (view old.disk) (view new.disk)) here (goes t stored run.2) in
          let stepped : Step old.limits s e answer (memory new) = subst (λ (s : State). Step old.limits s e answer (memory new)) here (tells_step t start begin history run) in
          let more : IsHistory old.limits start begin (event turn (memory new) ∷ history) (view new.disk) (old.trail ++ turn ∷ []) =
          runs.event_more (recover old.limits) (Keeps old.limits) counters (recovered_legal old.limits) (Stored old.limits) (stored_gives old.limits) old.limits start begin history (view old.disk) old.trail run.1 (view new.disk) (memory new) turn refl known (answer, stepped, refl) moved in
          let past : KeepsPast (view old.disk) (view new.disk) =
          runs.past_event (recover old.limits) (Keeps old.limits) counters (recovered_legal old.limits) (Stored old.limits) (stored_gives old.limits) old.limits start begin history (view old.disk) old.trail run.1 (view new.disk) (memory new) moved in
          let whole : IsHistory new.limits start begin (event turn (memory new) ∷ history) (view new.disk) new.trail =
          subst (λ (l : Limits). IsHistory l start begin (event turn (memory new) ∷ history) (view new.disk) new.trail) (sym limits)
          (subst (λ (tr : List Turn). IsHistory old.limits start begin (event turn (memory new) ∷ history) (view new.disk) tr) (sym (trail_at s here)) more) in
          continues view start begin history (OneEvent old.limits who e answer (view new.disk).clock s) (event turn (memory new) ∷ []) old new limits
          (record { after = (memory new); step = stepped; happened = inl refl }) past (refl, whole, remembers t stored run.2)

  -- The same where a part gave the answer, and where the record was added behind a copy of the trail.
  pub read_called : (old new : Shown D) (answer given told held : Result Done Refusal) (tick : ℕ) (trail : List Turn) (asked : Event) → asked ≡ e → answer ≡ given → held ≡ kept (memory old) e given → tick ≡ (view new.disk).clock
      → new.number ≡ old.number → new.limits ≡ old.limits → new.opening ≡ old.opening → trail ≡ old.trail → new.trail ≡ trail ++ turn_of who asked held tick ∷ [] → IsKnown e
      → StepOnAny old.limits (memory old) e told (memory new) → kept (memory old) e given ≡ kept (memory old) e told → IsLike given told
      → (reads_object e ≡ false → Step old.limits (memory old) e given (memory new))
      → CallCause (fault_count old.disk) (fault_count new.disk) given
      → CountsBy old new
      → GoesBy old new
      → RemembersBy old new
      → (IsTrue tells → (start : State) (begin : ℕ) (history : List Happening) → HasRun view start begin history old → Step old.limits (memory old) e given (memory new))
      → CalledSo answer old new
  read_called old new answer given told held tick trail asked same_event said held_is tick_is number limits opening same more known step alike like exact cause counted goes remembers tells_step =
      let more_is : new.trail ≡ old.trail ++ turn_of who e held tick ∷ [] =
      more ∙ ap (λ (a : Event). trail ++ turn_of who a held tick ∷ []) same_event ∙ ap (λ (t : List Turn). t ++ turn_of who e held tick ∷ []) same in
      subst (λ (a : Result Done Refusal). CalledSo a old new) (sym said)
      (told_called old new given told held tick tick_is held_is number limits opening more_is known step alike like exact cause counted goes remembers tells_step)

  -- The same where the machine takes its step with what is answered.
  pub stepped_called : (old new : Shown D) (answer given held : Result Done Refusal) (tick : ℕ) (trail : List Turn) (asked : Event) → asked ≡ e → answer ≡ given → held ≡ kept (memory old) e given → tick ≡ (view new.disk).clock
      → new.number ≡ old.number → new.limits ≡ old.limits → new.opening ≡ old.opening → trail ≡ old.trail → new.trail ≡ trail ++ turn_of who asked held tick ∷ [] → IsKnown e
      → Step old.limits (memory old) e given (memory new)
      → CallCause (fault_count old.disk) (fault_count new.disk) given
      → CountsBy old new
      → GoesBy old new
      → RemembersBy old new
      → CalledSo answer old new
  stepped_called old new answer given held tick trail asked same_event said held_is tick_is number limits opening same more known step cause counted goes remembers =
      read_called old new answer given given held tick trail asked same_event said held_is tick_is number limits opening same more known (inl step) refl (inl refl) (λ reads. step) cause counted goes remembers (λ t start begin history run. step)

  -- The same where no file but the log's changes.
  pub called : (old new : Shown D) (answer given held : Result Done Refusal) (tick : ℕ) (trail : List Turn) (asked : Event) → asked ≡ e → answer ≡ given → held ≡ kept (memory old) e given → tick ≡ (view new.disk).clock
      → new.number ≡ old.number → new.limits ≡ old.limits → new.opening ≡ old.opening → trail ≡ old.trail → new.trail ≡ trail ++ turn_of who asked held tick ∷ [] → IsKnown e
      → Step old.limits (memory old) e given (memory new)
      → CallCause (fault_count old.disk) (fault_count new.disk) given
      → call_count new.disk ≤ call_count old.disk + settling_calls old.ledger.doubt + own_calls (memory old) e
      → (IsTrue tells → Moves old.limits (memory old) (memory new) (view old.disk) (view new.disk))
      → ledger_known new.ledger ≡ ledger_known old.ledger
      → CalledSo answer old new
  called old new answer given held tick trail asked same_event said held_is tick_is number limits opening same more known step cause counted moves stays =
      stepped_called old new answer given held tick trail asked same_event said held_is tick_is number limits opening same more known step cause (λ few. counted) (λ t stored r. (moves t).0) (λ t stored r. remembers_kept old.ledger new.ledger (view old.disk) (view new.disk) stays ((moves t).1 stored) r)
