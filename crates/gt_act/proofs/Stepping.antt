-- The parts of a step: what is in doubt is settled, and then the event acts.
use Rattle.std.proofs.Common.{◌≡◌, ◌⊎◌, inl, inr, ℕ, ◌+◌, ◌≤◌, Bool, true, false, cond, not, nat_eq, find, is_some, ◌&&◌, IsTrue, List, [], ◌∷◌, length, Option, Some, None, Result, Ok, Err, refl, sym, ◌∙◌, ap, subst, arith}
use Rattle.std.specs.Option.{option_map, unwrap_or}
use Rattle.gt_disk.specs.Files.{States, View, now, Quiet}
use Rattle.gt_model.specs.declared.change.Change.{Change}
use Rattle.gt_model.specs.declared.change.Change.TheVariants.{Create as CreateChange, Delete as DeleteChange}
use Rattle.gt_model.specs.declared.done.Done.{Done}
use Rattle.gt_model.specs.declared.done.Done.TheVariants.{Created, Deleted, Committed, Finished}
use Rattle.gt_model.specs.declared.added.Added.{Added}
use Rattle.gt_model.specs.declared.update.RefUpdate.{RefUpdate}
use Rattle.gt_model.specs.Verdicts.{verdict}
use Rattle.gt_model.specs.declared.entry.Entry.{Entry}
use Rattle.gt_model.specs.declared.event.Event.{Event}
use Rattle.gt_model.specs.declared.event.Event.TheVariants.{Create, Delete, Commit}
use Rattle.gt_model.specs.declared.limits.Limits.{Limits}
use Rattle.gt_model.specs.declared.refusal.Refusal.{Refusal}
use Rattle.gt_model.specs.declared.refusal.Refusal.TheVariants.{Memory, DeviceFault, RepositoryExists, NoRepository, PoolInUse, LogFull, Unsure}
use Rattle.gt_model.specs.Machine.{State, Pin, Effect, Fails, effect, reading, pin_of, released, is_live_as, is_transaction, is_empty, committed, answers, front, content, is_full, next_entry, with_entry, with_pins, refuses, adds, unless, is_asked, settles, settles_turn, after_fault, RunsOut, Ends, Acts, SettledEntry, SettledTurn, Step}
use Rattle.gt_model.specs.Contents.{has_repo, least_member}
use Rattle.gt_history.proofs.Moves as moves
use Rattle.gt_journal.specs.Ledger.{Ledger, Stored, KeepsBase, state_of}
use Rattle.gt_base.specs.Recovery.{recover, Keeps, counters}
use Rattle.gt_journal.specs.Histories.{Moves, Settling}
use Rattle.gt_act.specs.declared.ended.Ended.{Ended}
use Rattle.gt_act.specs.declared.ended.Ended.TheVariants as ended
use Rattle.gt_act.specs.Adding.{AddsChange}
use Rattle.gt_act.specs.Causes.{settling_calls}
use Rattle.gt_act.specs.Ended.{answer_of}

module _ (limits : Limits) (event : Event) where
  pub then_acts : (old mid new : State) (answer : Result Done Refusal) → IsTrue (is_asked old event) → settles event ≡ true → settles_turn event ≡ false → SettledEntry true old mid → Acts limits mid event answer new → Step limits old event answer new
  then_acts old mid new answer asked first second settled acts =
      (asked, inl (mid, (mid, subst (λ (b : Bool). SettledEntry b old mid) (sym first) settled, subst (λ (b : Bool). SettledTurn b mid mid) (sym second) refl), acts))

  pub at_once : (old new : State) (answer : Result Done Refusal) → IsTrue (is_asked old event) → settles event ≡ false → settles_turn event ≡ false → Acts limits old event answer new → Step limits old event answer new
  at_once old new answer asked first second acts =
      (asked, inl (old, (old, subst (λ (b : Bool). SettledEntry b old old) (sym first) refl, subst (λ (b : Bool). SettledTurn b old old) (sym second) refl), acts))

  -- what is in doubt stays so
  pub fails_first : (old new : State) → IsTrue (is_asked old event) → settles event ≡ true → IsTrue (is_some old.doubt) → after_fault old event ≡ old → new ≡ old → Step limits old event (Err DeviceFault) new
  fails_first old new asked first doubt after same =
      (asked, inr (inl (refl, inl (both (settles event) (is_some old.doubt) first doubt, same ∙ sym after))))
    where
      both : (a b : Bool) → a ≡ true → IsTrue b → IsTrue (a && b)
      both true b is holds = holds
      both false b is holds = absurd (cc is)

  -- memory is wanted, and nothing has changed
  pub stops : (s : State) → IsTrue (is_asked s event) → RunsOut event s s → Step limits s event (Err Memory) s
  stops s asked out = (asked, inr (inr (refl, out)))

-- where nothing is in doubt no call settles it
pub settle_calls : (doubt : Option Entry) (before after : ℕ) → (doubt ≡ None → after ≡ before) → after ≤ before + 2 → after ≤ before + settling_calls doubt
settle_calls None before after idle most = omega (arith, idle refl)
settle_calls (Some e) before after idle most = most

-- ---- the files

module _ (limits : Limits) where
  -- what was in doubt is settled, or stays so
  pub settling_moves : (old mid : State) (v w : View) → Settling limits old mid v w → Moves limits old mid v w
  settling_moves old mid v w settling = (moves.settling_still (recover limits) (Keeps limits) counters (Stored limits) old mid mid v w settling.0 (λ stored. stored), settling.1)

  keeps_join : (u v w : View) → KeepsBase u v → KeepsBase v w → KeepsBase u w
  keeps_join u v w one two f is = two f is ∙ one f is

  pub settled_moves : (old mid new : State) (u v w : View) → SettledEntry true old mid → mid.doubt ≡ None → Settling limits old mid u v → Moves limits mid new v w → Moves limits old new u w
  settled_moves old mid new u v w settled clear settling moved =
      (moves.settled_moves (recover limits) (Keeps limits) counters (Stored limits) old mid new u v w settled clear settling.0 moved.0, λ stored. keeps_join u v w (settling.1 stored) (moved.1 (settling.0 stored).0))

  -- the same log and doubt, whatever is live
  pub same_files : (l m : Ledger) (pins after : List Pin) (states : States) → m ≡ l → Stored limits (state_of l pins) states → Stored limits (state_of m after) states
  same_files l m pins after states same stored = subst (λ (x : Ledger). Stored limits (state_of x after) states) (sym same) (record { files = stored.files; legal = stored.legal; within = stored.within; order = record { begins = stored.order.begins; from = stored.order.from; to = stored.order.to; turn = stored.order.turn }; base = stored.base; turn = stored.turn })

  pub settling_pins : (old : State) (l m : Ledger) (pins after : List Pin) (v w : View) → m ≡ l → Settling limits old (state_of l pins) v w → Moves limits old (state_of m after) v w
  settling_pins old l m pins after v w same settling =
      (moves.settling_still (recover limits) (Keeps limits) counters (Stored limits) old (state_of l pins) (state_of m after) v w settling.0 (same_files l m pins after (now w) same), settling.1)

  pub moves_pins : (l m : Ledger) (pins after : List Pin) (v : View) → m ≡ l → Moves limits (state_of l pins) (state_of m after) v v
  moves_pins l m pins after v same = (moves.moves_still (recover limits) (Keeps limits) counters (Stored limits) (state_of l pins) (state_of m after) v (same_files l m pins after (now v) same), λ stored f is. refl)

  pub moves_quiet : (s : State) (v w : View) → Quiet v w → Moves limits s s v w
  moves_quiet s v w quiet =
      (moves.moves_quiet (recover limits) (Keeps limits) counters (Stored limits) s s v w quiet (λ stored. stored), λ stored f is. ap (λ (s : States). s f) (ap (λ (k : ℕ). w.at k) quiet.clock ∙ ap (λ (a : ℕ → States). a v.clock) quiet.at))

-- ---- entries

-- what is answered where the addition of a change ends so
abbrev pub told_of : (ℕ → Done) → Result ℕ Ended → Result Done Refusal
told_of done (Ok position) = Ok (done position)
told_of done (Err ended) = answer_of ended

-- An event that comes to the addition of a change acts by it.
module _ (limits : Limits) (s new : State) (event : Event) (path : List ℕ) (change : Change) (done : ℕ → Done) (still : after_fault s event ≡ s) (out : RunsOut event s s) where
  abbrev addition : Bool → Effect
  addition full = cond full (refuses LogFull s.pins) (adds (next_entry s path change) (done (front s + 1)) s.pins)

  abbrev ActsBy : Effect → Result Done Refusal → Type 0
  ActsBy e answer = Ends e s answer new ⊎ ((answer ≡ Err DeviceFault) × Fails event e s new) ⊎ ((answer ≡ Err Memory) × RunsOut event s new)

  -- whether the log is full is what the addition says
  added_by : (added : Result ℕ Ended) (full : Bool) → is_full limits s ≡ full → AddsChange limits s path change added new → ActsBy (addition full) (told_of done added)
  added_by (Err ended.LogFull) true at (full, same) = inl (refl, same)
  added_by (Err ended.LogFull) false at (full, same) = absurd (cc (at, full))
  added_by (Ok position) true at (room, rest) = absurd (cc (at, room))
  added_by (Ok position) false at (room, (here, is)) = inl (inl (ap (λ (n : ℕ). Ok (done n)) here, is))
  added_by (Err (ended.Unsure position)) true at (room, rest) = absurd (cc (at, room))
  added_by (Err (ended.Unsure position)) false at (room, (here, is)) = inl (inr (ap (λ (n : ℕ). Err (Unsure n)) here, is))
  added_by (Err ended.DeviceFault) true at (room, rest) = absurd (cc (at, room))
  added_by (Err ended.DeviceFault) false at (room, same) = inr (inl (refl, same ∙ sym still))
  added_by (Err ended.Memory) true at (room, rest) = absurd (cc (at, room))
  added_by (Err ended.Memory) false at (room, same) = inr (inr (refl, subst (RunsOut event s) (sym same) out))
  added_by (Err other) full at (room, never) = absurd never

  pub addition_acts : (added : Result ℕ Ended) → effect limits s event ≡ addition (is_full limits s) → AddsChange limits s path change added new → Acts limits s event (told_of done added) new
  addition_acts added comes ends = subst (λ (e : Effect). ActsBy e (told_of done added)) (sym comes) (added_by added (is_full limits s) refl ends)

pub creation_acts : (limits : Limits) (s new : State) (path : List ℕ) (pool : Bool) (added : Result ℕ Ended) → has_repo (content s) path ≡ false → AddsChange limits s path (CreateChange pool) added new → Acts limits s (Create path pool) (told_of (λ n. Created n pool) added) new
creation_acts limits s new path pool added free ends =
    addition_acts limits s new (Create path pool) path (CreateChange pool) (λ n. Created n pool) refl refl added (ap (λ (b : Bool). cond b (refuses RepositoryExists s.pins) (addition limits s new (Create path pool) path (CreateChange pool) (λ n. Created n pool) refl refl (is_full limits s))) free) ends

pub deletion_acts : (limits : Limits) (s new : State) (path : List ℕ) (added : Result ℕ Ended) → has_repo (content s) path ≡ true → least_member (content s) path ≡ None → AddsChange limits s path DeleteChange added new → Acts limits s (Delete path) (told_of Deleted added) new
deletion_acts limits s new path added there unused ends =
    addition_acts limits s new (Delete path) path DeleteChange Deleted refl refl added (λ i. cond (not (there i)) (refuses NoRepository s.pins) (unless (option_map PoolInUse (unused i)) s.pins (addition limits s new (Delete path) path DeleteChange Deleted refl refl (is_full limits s)))) ends

-- ---- what is live

pub found_pin : (l : Ledger) (pins : List Pin) (number : ℕ) (p : Pin) → find (λ (q : Pin). nat_eq q.number number) pins ≡ Some p → pin_of (state_of l pins) number ≡ p
found_pin l pins number p is = ap (λ (o : Option Pin). unwrap_or o (reading number 0 [])) is

pub released_state : (l : Ledger) (pins new : List Pin) (number : ℕ) → new ≡ released pins number → state_of l new ≡ with_pins (state_of l pins) (released pins number)
released_state l pins new number is = λ i. state_of l (is i)

-- ending one lengthens nothing
pub fewer_released : (pins : List Pin) (number : ℕ) → length (released pins number) ≤ length pins
fewer_released [] number = omega arith
fewer_released (p ∷ ps) number = by (not (nat_eq p.number number)) (fewer_released ps number)
  where
    by : (b : Bool) → length (released ps number) ≤ length ps → length (cond b (p ∷ released ps number) (released ps number)) ≤ length (p ∷ ps)
    by true le = omega (arith, le)
    by false le = omega (arith, le)

pub fewer_by : (pins new : List Pin) (number : ℕ) → new ≡ released pins number → length new ≤ length pins
fewer_by pins new number is = omega (arith, ap (λ (pins : List Pin). length pins) is, fewer_released pins number)

-- ---- a commit

-- the entry of a good commit is added, and its transaction is gone
pub write_adds : (l m : Ledger) (pins after : List Pin) (entry : Entry) (number : ℕ) (answer : Result Done Refusal) → answer ≡ Ok (Committed entry.position) → after ≡ released pins number
    → state_of m after ≡ with_pins (with_entry (state_of l pins) entry) after → Ends (adds entry (Committed entry.position) (released pins number)) (state_of l pins) answer (state_of m after)
write_adds l m pins after entry number answer said gone is = inl (said, is ∙ (λ i. with_pins (with_entry (state_of l pins) entry) (gone i)))

pub nothing_staged : (refs : List RefUpdate) (records : List Added) → refs ≡ [] → records ≡ [] → is_empty refs records ≡ true
nothing_staged refs records empty none = λ i. is_empty (empty i) (none i)

-- a transaction that has staged nothing ends
pub finish_steps : (limits : Limits) (l m : Ledger) (pins after : List Pin) (number : ℕ) (refs : List RefUpdate) (records : List Added) (answer : Result Done Refusal) → is_live_as is_transaction pins number ≡ true → is_empty refs records ≡ true
    → answer ≡ Ok (Finished (pin_of (state_of l pins) number).position) → m ≡ l → after ≡ released pins number → Step limits (state_of l pins) (Commit number refs records) answer (state_of m after)
finish_steps limits l m pins after number refs records answer live none said same gone =
    let s : State = state_of l pins in
    at_once limits (Commit number refs records) s (state_of m after) answer live (ap not none) refl (inl (by (is_empty refs records) none))
  where
    by : (b : Bool) → b ≡ true → Ends (cond b (answers (Finished (pin_of (state_of l pins) number).position) (released pins number)) (committed limits (state_of l pins) number (record { refs = refs; records = records }) (verdict (content (state_of l pins)) (pin_of (state_of l pins) number).path (record { refs = refs; records = records })))) (state_of l pins) answer (state_of m after)
    by true is = (said, λ i. state_of (same i) (gone i))
    by false is = absurd (cc is)

pub some_staged : (refs : List RefUpdate) (records : List Added) → (is_empty refs records ≡ false) → settles (Commit 0 refs records) ≡ true
some_staged refs records some = ap not some
