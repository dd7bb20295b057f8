-- A step keeps a state in order, its log only grows, and what it acknowledges is in the log.
use Rattle.std.proofs.Common.{◌≡◌, inl, inr, ℕ, ◌+◌, ◌-◌, ◌≤◌, min, Bool, true, false, cond, not, ◌&&◌, ◌||◌, is_some, is_none, IsTrue, nat_eq, nat_lt, nat_le, List, [], ◌∷◌, ◌++◌, length, take, find, fold, Option, Some, None, Result, Ok, Err, refl, sym, ◌∙◌, ap, subst, arith, length-append, append-nil, append_assoc, true≢false}
use Rattle.std.specs.List.{AllByRecursion}
use Rattle.std.specs.Option.{option_map, unwrap_or}
use Rattle.std.proofs.lemmas.Bool.Decides.{nat_tests}
use Rattle.std.proofs.lemmas.List.{length-take, length-drop}
use Rattle.gt_model.specs.declared.added.Added.{Added}
use Rattle.gt_model.specs.declared.change.Change.TheVariants.{Create as CreateChange, Delete as DeleteChange, Link as LinkChange, Write}
use Rattle.gt_model.specs.declared.done.Done.{Done}
use Rattle.gt_model.specs.declared.done.Done.TheVariants.{Created, Deleted, Linked, Begun, Committed, Finished, HouseDone, Step as StepDone}
use Rattle.gt_model.specs.declared.entry.Entry.{Entry}
use Rattle.gt_model.specs.declared.event.Event.{Event}
use Rattle.gt_model.specs.declared.event.Event.TheVariants.{Create, Delete, Link, Begin, GetRef, ListRefs, Cat, Commit, Abort, HouseOpen, HouseStep, HouseCommit, Apply, Trim, Sweep}
use Rattle.gt_model.specs.declared.job.Job.{Job}
use Rattle.gt_model.specs.declared.limits.Limits.{Limits}
use Rattle.gt_model.specs.declared.refusal.Refusal.{Refusal}
use Rattle.gt_model.specs.declared.refusal.Refusal.TheVariants.{NoRepository, RepositoryExists, Behind, PinsFull, LogFull, EpochFull, PoolInUse, IsPool, NotPool, AlreadyLinked, NotLinked}
use Rattle.gt_model.specs.declared.update.RefUpdate.{RefUpdate}
use Rattle.gt_model.specs.Contents.{Content, has_repo, is_pool, pool_of, found, least_member}
use Rattle.gt_model.specs.Verdicts.{Staged, Ready, verdict, added_records}
use Rattle.gt_model.specs.Jobs.{job_change}
use Rattle.gt_model.specs.Conflicts.{is_unlink, job_conflict}
use Rattle.gt_model.specs.Batches.{new_files}
use Rattle.gt_model.specs.Machine.{Work, Pin, State, Applying, with_doubt, line, front, content, content_at, entries_past, released, reading, free_number, pin_of, work_of, with_work, working, fewer, stepped, is_full, has_no_number, is_ready_job, next_entry, Effect, refuses, answers, adds, opens, works, applies, removes, by_units, by_dropped, first_refusal, unless, object, committed, is_empty, opened_job, closed_job, applied_by, effect, settles, settles_turn, with_pins, with_floor, with_entry, with_job, turned, turned_by, numbered, Ends, after_fault, Fails, RunsOut, Acts, SettledEntry, SettledTurn, Settled, FailsToSettle, Step, StepOnAny, IsWorkIn, IsPinIn, IsTurningIn, IsInOrder}
use Rattle.gt_model.specs.Histories.{position, done_position, kept}

-- ---- what is live

abbrev pub AreIn : ℕ → ℕ → ℕ → ℕ → List Pin → Type 0
AreIn floor applied top next pins = AllByRecursion (IsPinIn floor applied top next) pins

-- what is live in a state may be this
abbrev pub LiveIn : State → List Pin → Type 0
LiveIn s pins = AreIn s.floor s.applied (front s) s.next pins

work_later : (applied applied2 next next2 at : ℕ) (work : Option Work) → applied ≤ applied2 → next ≤ next2 → IsWorkIn applied next at work → IsWorkIn applied2 next2 at work
work_later applied applied2 next next2 at None le le2 is = tt
work_later applied applied2 next next2 at (Some w) le le2 is = (omega (arith, le, is.0), omega (arith, le2, is.1), is.2)

pub in_later : (floor applied top next applied2 top2 next2 : ℕ) (pins : List Pin) → applied ≤ applied2 → top ≤ top2 → next ≤ next2 → AreIn floor applied top next pins → AreIn floor applied2 top2 next2 pins
in_later floor applied top next applied2 top2 next2 [] a b c are = tt
in_later floor applied top next applied2 top2 next2 (p ∷ ps) a b c (is, rest) =
    ((is.0, omega (arith, b, is.1), work_later applied applied2 next next2 p.position p.work a c is.2), in_later floor applied top next applied2 top2 next2 ps a b c rest)

pub in_released : (floor applied top next : ℕ) (pins : List Pin) (number : ℕ) → AreIn floor applied top next pins → AreIn floor applied top next (released pins number)
in_released floor applied top next [] number are = tt
in_released floor applied top next (p ∷ ps) number (is, rest) = by (not (nat_eq p.number number)) (in_released floor applied top next ps number rest)
  where
    by : (b : Bool) → AreIn floor applied top next (released ps number) → AreIn floor applied top next (cond b (p ∷ released ps number) (released ps number))
    by true more = (is, more)
    by false more = more

in_more : (floor applied top next : ℕ) (pins : List Pin) (p : Pin) → AreIn floor applied top next pins → IsPinIn floor applied top next p → AreIn floor applied top next (pins ++ p ∷ [])
in_more floor applied top next [] p are is = (is, tt)
in_more floor applied top next (x ∷ xs) p (first, rest) is = (first, in_more floor applied top next xs p rest is)

-- what a change of the work of a job must leave
abbrev KeepsWork : (Work → Work) → Type 0
KeepsWork f = (applied next at : ℕ) (w : Work) → IsWorkIn applied next at (Some w) → IsWorkIn applied next at (Some (f w))

keeps_fewer : (n : ℕ) → KeepsWork (fewer n)
keeps_fewer n applied next at w (a, b, c) = (a, b, λ ready. omega (arith, c ready))

keeps_stepped : (n : ℕ) → KeepsWork (stepped n)
keeps_stepped n applied next at w (a, b, c) = (a, b, λ ready. none ready)
  where
    none : IsTrue (nat_le w.left n) → w.left - n ≡ 0
    none ready = let le : w.left ≤ n = grind (arith, nat_tests, ready) in omega (arith, le)

in_working : (f : Work → Work) → KeepsWork f → (floor applied top next : ℕ) (pins : List Pin) (number : ℕ) → AreIn floor applied top next pins → AreIn floor applied top next (working pins number f)
in_working f keeps floor applied top next [] number are = tt
in_working f keeps floor applied top next (p ∷ ps) number (is, rest) = (by (nat_eq p.number number), in_working f keeps floor applied top next ps number rest)
  where
    worked : (work : Option Work) → IsWorkIn applied next p.position work → IsWorkIn applied next p.position (option_map f work)
    worked None w = tt
    worked (Some w) i = keeps applied next p.position w i

    by : (b : Bool) → IsPinIn floor applied top next (cond b (with_work f p) p)
    by true = (is.0, is.1, worked p.work is.2)
    by false = is

found_in : (floor applied top next : ℕ) (f : Pin → Bool) (none : Pin) (pins : List Pin) → none.position ≤ top → AreIn floor applied top next pins → (unwrap_or (find f pins) none).position ≤ top
found_in floor applied top next f none [] le are = le
found_in floor applied top next f none (p ∷ ps) le (is, rest) = by (f p) (found_in floor applied top next f none ps le rest)
  where
    by : (b : Bool) → (unwrap_or (find f ps) none).position ≤ top → (unwrap_or (cond b (Some p) (find f ps)) none).position ≤ top
    by true le2 = is.1
    by false le2 = le2

-- what is live reads a position of the log
pub pin_reads : (s : State) (number : ℕ) → LiveIn s s.pins → (pin_of s number).position ≤ front s
pin_reads s number live = found_in s.floor s.applied (front s) s.next (λ p. nat_eq p.number number) (reading number 0 []) s.pins (omega arith) live

-- ---- the low water

abbrev low : ℕ → List Pin → ℕ
low start pins = fold (λ low p. min low p.position) start pins

low_below : (start : ℕ) (pins : List Pin) → low start pins ≤ start
low_below start [] = omega arith
low_below start (p ∷ ps) = omega (arith, low_below (min start p.position) ps)

low_above : (floor applied top next start : ℕ) (pins : List Pin) → floor ≤ start → AreIn floor applied top next pins → floor ≤ low start pins
low_above floor applied top next start [] le are = le
low_above floor applied top next start (p ∷ ps) le (is, rest) = low_above floor applied top next (min start p.position) ps (omega (arith, le, is.0)) rest

-- each of these reads the low water or a later position
low_in : (floor applied top next start : ℕ) (pins : List Pin) → AreIn floor applied top next pins → AreIn (low start pins) applied top next pins
low_in floor applied top next start [] are = tt
low_in floor applied top next start (p ∷ ps) (is, rest) =
    let below : low (min start p.position) ps ≤ min start p.position = low_below (min start p.position) ps in
    ((omega (arith, below), is.1, is.2), low_in floor applied top next (min start p.position) ps rest)

-- ---- states in order

module _ (s : State) (order : IsInOrder s) where
  pub order_pins : (pins : List Pin) → LiveIn s pins → IsInOrder (with_pins s pins)
  order_pins pins live = record { base_first = order.base_first; floor_kept = order.floor_kept; applied_is_there = order.applied_is_there; numbers = order.numbers; live = live; doubted = order.doubted; turn = order.turn }

  order_floor : (floor : ℕ) → s.floor ≤ floor → floor ≤ s.applied → AreIn floor s.applied (front s) s.next s.pins → IsInOrder (with_floor s floor)
  order_floor floor above below live = record { base_first = omega (arith, order.base_first, above); floor_kept = below; applied_is_there = order.applied_is_there; numbers = order.numbers; live = live; doubted = order.doubted; turn = order.turn }

  turn_later : (top next : ℕ) (turning : Option Applying) → front s ≤ top → s.next ≤ next → IsTurningIn s.applied (front s) s.next turning → IsTurningIn s.applied top next turning
  turn_later top next None le le2 is = tt
  turn_later top next (Some a) le le2 is = (is.0, omega (arith, le, is.1), omega (arith, le2, is.2))

  -- entries join the log, and none is in doubt
  pub order_more : (log : List Entry) → length s.log ≤ length log → IsInOrder (record s { log = log; doubt = None })
  order_more log le = record {
    base_first = order.base_first;
    floor_kept = order.floor_kept;
    applied_is_there = omega (arith, order.applied_is_there, le);
    numbers = order.numbers;
    live = in_later s.floor s.applied (front s) s.next s.applied (s.begin + length log) s.next s.pins (omega arith) (omega (arith, le)) (omega arith) order.live;
    doubted = tt;
    turn = turn_later (s.begin + length log) s.next s.turning (omega (arith, le)) (omega arith) order.turn;
  }

  order_doubt : (e : Entry) (pins : List Pin) → e.position ≡ front s + 1 → LiveIn s pins → IsInOrder (record s { doubt = Some e; pins = pins })
  order_doubt e pins at live = record { base_first = order.base_first; floor_kept = order.floor_kept; applied_is_there = order.applied_is_there; numbers = order.numbers; live = live; doubted = at; turn = order.turn }

  order_numbered : (a : Applying) → s.next ≤ a.next → IsInOrder (numbered s a)
  order_numbered a le = record {
    base_first = order.base_first;
    floor_kept = order.floor_kept;
    applied_is_there = order.applied_is_there;
    numbers = omega (arith, order.numbers, le);
    live = in_later s.floor s.applied (front s) s.next s.applied (front s) a.next s.pins (omega arith) (omega arith) le order.live;
    doubted = order.doubted;
    turn = turn_later (front s) a.next s.turning (omega arith) le order.turn;
  }

  order_turning : (turning : Option Applying) → IsTurningIn s.applied (front s) s.next turning → IsInOrder (record s { turning = turning })
  order_turning turning is = record { base_first = order.base_first; floor_kept = order.floor_kept; applied_is_there = order.applied_is_there; numbers = order.numbers; live = order.live; doubted = order.doubted; turn = is }

  pub order_turned : (a : Applying) → IsTurningIn s.applied (front s) s.next (Some a) → IsInOrder (turned s a)
  order_turned a is = record {
    base_first = order.base_first;
    floor_kept = omega (arith, order.floor_kept, is.0);
    applied_is_there = is.1;
    numbers = is.2;
    live = in_later s.floor s.applied (front s) s.next a.position (front s) s.next s.pins (omega (arith, is.0)) (omega arith) (omega arith) order.live;
    doubted = order.doubted;
    turn = tt;
  }

  order_job : (p : Pin) → IsPinIn s.floor s.applied (front s) (s.next + 1) p → IsInOrder (with_job s p)
  order_job p is = record {
    base_first = order.base_first;
    floor_kept = order.floor_kept;
    applied_is_there = order.applied_is_there;
    numbers = omega (arith, order.numbers);
    live = in_more s.floor s.applied (front s) (s.next + 1) s.pins p (in_later s.floor s.applied (front s) s.next s.applied (front s) (s.next + 1) s.pins (omega arith) (omega arith) (omega arith) order.live) is;
    doubted = order.doubted;
    turn = turn_later (front s) (s.next + 1) s.turning (omega arith) (omega arith) order.turn;
  }

-- ---- effects

-- what it leaves live is in order, and what it names is in the log after it
abbrev Keeps : State → Effect → Type 0
Keeps s (refuses r pins) = LiveIn s pins
Keeps s (answers done pins) = LiveIn s pins × (done_position done ≤ front s)
Keeps s (adds e done pins) = LiveIn s pins × (done_position done ≤ front s + 1) × (e.position ≡ front s + 1)
Keeps s (opens p) = IsPinIn s.floor s.applied (front s) (s.next + 1) p
Keeps s (works pin n) = Unit {0}
Keeps s (applies a) = (s.applied + 1 ≤ a.position) × (a.position ≤ front s) × (s.next ≤ a.next)
Keeps s (removes floor done) = (s.floor ≤ floor) × (floor ≤ s.applied) × (done_position done ≤ front s) × AreIn floor s.applied (front s) s.next s.pins
Keeps s (by_units c path job more) = (units : ℕ) → Keeps s (more units)
Keeps s (by_dropped c path job more) = (dropped : List (List ℕ)) → Keeps s (more dropped)

keeps_first : (s : State) (pins : List Pin) (causes : List (Bool × Refusal)) (e : Effect) → LiveIn s pins → Keeps s e → Keeps s (first_refusal pins causes e)
keeps_first s pins [] e live keeps = keeps
keeps_first s pins (r ∷ rs) e live keeps = by r.0 (keeps_first s pins rs e live keeps)
  where
    by : (b : Bool) → Keeps s (first_refusal pins rs e) → Keeps s (cond b (refuses r.1 pins) (first_refusal pins rs e))
    by true rest = live
    by false rest = rest

keeps_unless : (s : State) (refusal : Option Refusal) (pins : List Pin) (e : Effect) → LiveIn s pins → Keeps s e → Keeps s (unless refusal pins e)
keeps_unless s None pins e live keeps = keeps
keeps_unless s (Some r) pins e live keeps = live

keeps_object : (s : State) (whole : Option (List ℕ)) (name : List ℕ) (pins : List Pin) → LiveIn s pins → Keeps s (object whole name pins)
keeps_object s None name pins live = live
keeps_object s (Some whole) name pins live = (live, omega arith)

module _ (limits : Limits) (s : State) (order : IsInOrder s) where
  gone : (pin : ℕ) → LiveIn s (released s.pins pin)
  gone pin = in_released s.floor s.applied (front s) s.next s.pins pin order.live

  keeps_committed : (pin : ℕ) (staged : Staged) (v : Result Ready Refusal) → Keeps s (committed limits s pin staged v)
  keeps_committed pin staged (Err refusal) = gone pin
  keeps_committed pin staged (Ok ready) =
      keeps_first s s.pins ((is_full limits s, LogFull) ∷ []) (adds (next_entry s (pin_of s pin).path (Write ready.refs ready.needed (added_records (content s) (pin_of s pin).path staged))) (Committed (front s + 1)) (released s.pins pin)) order.live (gone pin, omega arith, refl)

  keeps_commit : (pin : ℕ) (refs : List RefUpdate) (records : List Added) → Keeps s (effect limits s (Commit pin refs records))
  keeps_commit pin refs records = by (is_empty refs records)
    where
      staged : Staged
      staged = record { refs = refs; records = records }

      by : (b : Bool) → Keeps s (cond b (answers (Finished (pin_of s pin).position) (released s.pins pin)) (committed limits s pin staged (verdict (content s) (pin_of s pin).path staged)))
      by true = (gone pin, pin_reads s pin order.live)
      by false = keeps_committed pin staged (verdict (content s) (pin_of s pin).path staged)

  keeps_open : (path : List ℕ) (job : Job) (c : Content) → Keeps s (opened_job limits s path job c)
  keeps_open path job c =
      keeps_first s s.pins ((nat_le limits.pins (length s.pins), PinsFull) ∷ (not (has_repo c path), NoRepository) ∷ (is_unlink job && is_none (pool_of c path), NotLinked) ∷ (has_no_number s, EpochFull) ∷ [])
      (by_units c path job (λ units. opens (record { number = free_number s.pins; position = s.applied; path = path; work = Some (record { job = job; file = s.next; left = units; is_ready = false }) }))) order.live
      (λ units. (order.floor_kept, order.applied_is_there, (omega arith, omega arith, λ ready. absurd (true≢false (sym ready)))))

  keeps_close : (p : Pin) (w : Work) (pins : List Pin) (c : Content) → LiveIn s pins → Keeps s (closed_job limits s p w pins c)
  keeps_close p w pins c live dropped =
      let closed : Effect = adds (next_entry s p.path (job_change w.job w.file dropped)) (HouseDone (front s + 1)) pins in
      keeps_unless s (job_conflict c p.path w.job dropped (entries_past s p.position)) pins (first_refusal pins ((is_full limits s, LogFull) ∷ []) closed) live
      (keeps_first s pins ((is_full limits s, LogFull) ∷ []) closed live (live, omega arith, refl))

  keeps_step : (pin n : ℕ) (b : Bool) → Keeps s (cond b (answers (StepDone true) s.pins) (works pin n))
  keeps_step pin n true = (order.live, omega arith)
  keeps_step pin n false = tt

  keeps_apply : (entries : List Entry) → s.applied + length entries ≤ front s → Keeps s (applied_by limits s entries)
  keeps_apply [] le = (order.live, omega (arith, order.applied_is_there))
  keeps_apply (e ∷ es) le =
      keeps_first s s.pins ((nat_le limits.epochs s.epoch || has_no_number s, EpochFull) ∷ [])
      (applies (record { position = s.applied + length (e ∷ es); next = s.next + new_files (e ∷ es) })) order.live (omega arith, le, omega arith)

  past_there : (n : ℕ) → s.applied + length (take n (entries_past s s.applied)) ≤ front s
  past_there n = omega (arith, length-take n (entries_past s s.applied), length-drop (s.applied - s.begin) s.log, order.base_first, order.floor_kept, order.applied_is_there)

  keeps : (event : Event) → Keeps s (effect limits s event)
  keeps (Create path pool) = keeps_first s s.pins ((has_repo (content s) path, RepositoryExists) ∷ (is_full limits s, LogFull) ∷ []) (adds (next_entry s path (CreateChange pool)) (Created (front s + 1) pool) s.pins) order.live (order.live, omega arith, refl)
  keeps (Delete path) =
      let deleted : Effect = adds (next_entry s path DeleteChange) (Deleted (front s + 1)) s.pins in
      keeps_first s s.pins ((not (has_repo (content s) path), NoRepository) ∷ []) (unless (option_map PoolInUse (least_member (content s) path)) s.pins (first_refusal s.pins ((is_full limits s, LogFull) ∷ []) deleted)) order.live
      (keeps_unless s (option_map PoolInUse (least_member (content s) path)) s.pins (first_refusal s.pins ((is_full limits s, LogFull) ∷ []) deleted) order.live
      (keeps_first s s.pins ((is_full limits s, LogFull) ∷ []) deleted order.live (order.live, omega arith, refl)))
  keeps (Link path pool) = keeps_first s s.pins ((not (has_repo (content s) path && has_repo (content s) pool), NoRepository) ∷ (is_pool (content s) path, IsPool) ∷ (not (is_pool (content s) pool), NotPool) ∷ (is_some (pool_of (content s) path), AlreadyLinked) ∷ (is_full limits s, LogFull) ∷ []) (adds (next_entry s path (LinkChange pool)) (Linked (front s + 1)) s.pins) order.live (order.live, omega arith, refl)
  keeps (Begin path seen) =
      keeps_first s s.pins ((nat_lt (front s) seen, Behind seen (front s)) ∷ (nat_le limits.pins (length s.pins), PinsFull) ∷ (not (has_repo (content s) path), NoRepository) ∷ []) (answers (Begun (front s)) (s.pins ++ reading (free_number s.pins) (front s) path ∷ [])) order.live
      (in_more s.floor s.applied (front s) s.next s.pins (reading (free_number s.pins) (front s) path) order.live (omega (arith, order.floor_kept, order.applied_is_there), omega arith, tt), omega arith)
  keeps (GetRef pin name) = (order.live, omega arith)
  keeps (ListRefs pin prefix) = (order.live, omega arith)
  keeps (Cat pin name) = keeps_object s (found _ (pin_of s pin).path name) name s.pins order.live
  keeps (Commit pin refs records) = keeps_commit pin refs records
  keeps (Abort pin) = (gone pin, omega arith)
  keeps (HouseOpen path job) = keeps_open path job (content_at s s.applied)
  keeps (HouseStep pin n) = keeps_step pin n (is_ready_job (pin_of s pin))
  keeps (HouseCommit pin) = keeps_close (pin_of s pin) (work_of (pin_of s pin)) (released s.pins pin) _ (gone pin)
  keeps (Apply n) = keeps_apply (take n (entries_past s s.applied)) (past_there n)
  keeps Trim = (low_above s.floor s.applied (front s) s.next s.applied s.pins order.floor_kept order.live, low_below s.applied s.pins, omega arith, low_in s.floor s.applied (front s) s.next s.applied s.pins order.live)
  keeps Sweep = (omega arith, order.floor_kept, omega arith, order.live)

-- ---- what grows

-- It is in order, and has the same base; entries have joined its log.
pub record Grows (old new : State) : Type 0 where
  pub order : IsInOrder new
  pub begin : new.begin ≡ old.begin
  pub base : new.base ≡ old.base
  pub more : List Entry
  pub log : new.log ≡ old.log ++ more

pub grown_longer : (old new : State) → Grows old new → front old ≤ front new
grown_longer old new g = omega (arith, g.begin, ap length g.log, length-append old.log g.more)

pub grows_on : (a b c : State) → Grows a b → Grows b c → Grows a c
grows_on a b c one two = record {
  order = two.order;
  begin = two.begin ∙ one.begin;
  base = two.base ∙ one.base;
  more = one.more ++ two.more;
  log = two.log ∙ ap (λ (l : List Entry). l ++ two.more) one.log ∙ append_assoc old one.more two.more;
}
  where
    old : List Entry
    old = a.log

-- the state is this one, which is in order and has the same log
same : (s new : State) (is : State) → new ≡ is → IsInOrder is → is.begin ≡ s.begin → is.base ≡ s.base → is.log ≡ s.log → Grows s new
same s new is e order begin base log =
    subst (λ (x : State). Grows s x) (sym e) (record { order = order; begin = begin; base = base; more = []; log = log ∙ sym (append-nil s.log) })

joined : (s new : State) (log more : List Entry) → new ≡ record s { log = log; doubt = None } → log ≡ s.log ++ more → IsInOrder s → Grows s new
joined s new log more e is order =
    subst (λ (x : State). Grows s x) (sym e) (record { order = order_more s order log (omega (arith, ap length is, length-append s.log more)); begin = refl; base = refl; more = more; log = is })

-- ---- one event

ends_grows : (s : State) (e : Effect) (answer : Result Done Refusal) (new : State) → IsInOrder s → Keeps s e → Ends e s answer new → Grows s new
ends_grows s (refuses r pins) answer new order keep (said, is) = same s new (with_pins s pins) is (order_pins s order pins keep) refl refl refl
ends_grows s (answers done pins) answer new order keep (said, is) = same s new (with_pins s pins) is (order_pins s order pins keep.0) refl refl refl
ends_grows s (adds e done pins) answer new order keep (inl (said, is)) =
    let longer : length s.log ≤ length (s.log ++ e ∷ []) = omega (arith, length-append s.log (e ∷ [])) in
    let more : IsInOrder (with_entry s e) = order_more s order (s.log ++ e ∷ []) longer in
    subst (λ (x : State). Grows s x) (sym is) (record {
      order = order_pins (with_entry s e) more pins (in_later s.floor s.applied (front s) s.next s.applied (s.begin + length (s.log ++ e ∷ [])) s.next pins (omega arith) (omega (arith, longer)) (omega arith) keep.0);
      begin = refl;
      base = refl;
      more = e ∷ [];
      log = refl;
    })
ends_grows s (adds e done pins) answer new order keep (inr (said, is)) = same s new (record s { doubt = Some e; pins = pins }) is (order_doubt s order e pins keep.2 keep.0) refl refl refl
ends_grows s (opens p) answer new order keep (said, is) = same s new (with_job s p) is (order_job s order p keep) refl refl refl
ends_grows s (works pin n) answer new order keep (said, is) =
    same s new (with_pins s (working s.pins pin (stepped n))) is (order_pins s order (working s.pins pin (stepped n)) (in_working (stepped n) (keeps_stepped n) s.floor s.applied (front s) s.next s.pins pin order.live)) refl refl refl
ends_grows s (applies a) answer new order keep (said, is) =
    same s new (turned (numbered s a) a) is (order_turned (numbered s a) (order_numbered s order a keep.2) a (keep.0, keep.1, omega arith)) refl refl refl
ends_grows s (removes floor done) answer new order keep (said, is) = same s new (with_floor s floor) is (order_floor s order floor keep.0 keep.1 keep.3) refl refl refl
ends_grows s (by_units c path job more) answer new order keep (units, are, e) = ends_grows s (more units) answer new order (keep units) e
ends_grows s (by_dropped c path job more) answer new order keep (dropped, are, e) = ends_grows s (more dropped) answer new order (keep dropped) e

ends_acked : (s : State) (e : Effect) (answer : Result Done Refusal) (new : State) → IsInOrder s → Keeps s e → Ends e s answer new → position answer ≤ front new
ends_acked s (refuses r pins) answer new order keep (said, is) = omega (arith, ap position said)
ends_acked s (answers done pins) answer new order keep (said, is) = omega (arith, ap position said, keep.1, ap front is)
ends_acked s (adds e done pins) answer new order keep (inl (said, is)) = omega (arith, ap position said, keep.1, ap front is, length-append s.log (e ∷ []))
ends_acked s (adds e done pins) answer new order keep (inr (said, is)) = omega (arith, ap position said)
ends_acked s (opens p) answer new order keep (said, is) = omega (arith, ap position said, keep.1, ap front is)
ends_acked s (works pin n) answer new order keep (said, is) = omega (arith, ap position said)
ends_acked s (applies a) answer new order keep (said, is) = omega (arith, ap position said, keep.1, ap front is)
ends_acked s (removes floor done) answer new order keep (said, is) = omega (arith, ap position said, keep.2, ap front is)
ends_acked s (by_units c path job more) answer new order keep (units, are, e) = ends_acked s (more units) answer new order (keep units) e
ends_acked s (by_dropped c path job more) answer new order keep (dropped, are, e) = ends_acked s (more dropped) answer new order (keep dropped) e

unchanged : (s new : State) → IsInOrder s → new ≡ s → Grows s new
unchanged s new order is = same s new s is order refl refl refl

pub after_fault_grows : (s : State) (event : Event) → IsInOrder s → Grows s (after_fault s event)
after_fault_grows s (HouseStep pin n) order = same s (with_pins s (released s.pins pin)) (with_pins s (released s.pins pin)) refl (order_pins s order (released s.pins pin) (in_released s.floor s.applied (front s) s.next s.pins pin order.live)) refl refl refl
after_fault_grows s (HouseCommit pin) order = same s (with_pins s (released s.pins pin)) (with_pins s (released s.pins pin)) refl (order_pins s order (released s.pins pin) (in_released s.floor s.applied (front s) s.next s.pins pin order.live)) refl refl refl
after_fault_grows s (Create path pool) order = unchanged s s order refl
after_fault_grows s (Delete path) order = unchanged s s order refl
after_fault_grows s (Link path pool) order = unchanged s s order refl
after_fault_grows s (Begin path seen) order = unchanged s s order refl
after_fault_grows s (GetRef pin name) order = unchanged s s order refl
after_fault_grows s (ListRefs pin prefix) order = unchanged s s order refl
after_fault_grows s (Cat pin name) order = unchanged s s order refl
after_fault_grows s (Commit pin refs records) order = unchanged s s order refl
after_fault_grows s (Abort pin) order = unchanged s s order refl
after_fault_grows s (HouseOpen path job) order = unchanged s s order refl
after_fault_grows s (Apply n) order = unchanged s s order refl
after_fault_grows s Trim order = unchanged s s order refl
after_fault_grows s Sweep order = unchanged s s order refl

failed_so : (s : State) (event : Event) (new : State) → IsInOrder s → new ≡ after_fault s event → Grows s new
failed_so s event new order is = subst (λ (x : State). Grows s x) (sym is) (after_fault_grows s event order)

fails_grows : (event : Event) (e : Effect) (s new : State) → IsInOrder s → Keeps s e → Fails event e s new → Grows s new
fails_grows event (refuses r pins) s new order keep fails = absurd fails
fails_grows event (answers done pins) s new order keep (object, is) = unchanged s new order is
fails_grows event (adds e done pins) s new order keep is = failed_so s event new order is
fails_grows event (opens p) s new order keep fails = absurd fails
fails_grows event (works pin n) s new order keep is = failed_so s event new order is
fails_grows event (applies a) s new order keep (inl is) = unchanged s new order is
fails_grows event (applies a) s new order keep (inr (inl is)) = same s new (numbered s a) is (order_numbered s order a keep.2) refl refl refl
fails_grows event (applies a) s new order keep (inr (inr is)) =
    same s new (record (numbered s a) { turning = Some a }) is (order_turning (numbered s a) (order_numbered s order a keep.2) (Some a) (keep.0, keep.1, omega arith)) refl refl refl
fails_grows event (removes floor done) s new order keep (inl is) = unchanged s new order is
fails_grows event (removes floor done) s new order keep (inr is) = same s new (with_floor s floor) is (order_floor s order floor keep.0 keep.1 keep.3) refl refl refl
fails_grows event (by_units c path job more) s new order keep (units, are, f) = fails_grows event (more units) s new order (keep units) f
fails_grows event (by_dropped c path job more) s new order keep (dropped, are, f) = fails_grows event (more dropped) s new order (keep dropped) f

runs_out_grows : (event : Event) (s new : State) → IsInOrder s → RunsOut event s new → Grows s new
runs_out_grows (Abort pin) s new order never = absurd never
runs_out_grows (HouseStep pin n) s new order (some, le, is) =
    same s new (with_pins s (working s.pins pin (fewer some))) is (order_pins s order (working s.pins pin (fewer some)) (in_working (fewer some) (keeps_fewer some) s.floor s.applied (front s) s.next s.pins pin order.live)) refl refl refl
runs_out_grows (HouseCommit pin) s new order is = unchanged s new order is
runs_out_grows (Create path pool) s new order is = unchanged s new order is
runs_out_grows (Delete path) s new order is = unchanged s new order is
runs_out_grows (Link path pool) s new order is = unchanged s new order is
runs_out_grows (Begin path seen) s new order is = unchanged s new order is
runs_out_grows (GetRef pin name) s new order is = unchanged s new order is
runs_out_grows (ListRefs pin prefix) s new order is = unchanged s new order is
runs_out_grows (Cat pin name) s new order is = unchanged s new order is
runs_out_grows (Commit pin refs records) s new order is = unchanged s new order is
runs_out_grows (HouseOpen path job) s new order is = unchanged s new order is
runs_out_grows (Apply n) s new order is = unchanged s new order is
runs_out_grows Trim s new order is = unchanged s new order is
runs_out_grows Sweep s new order is = unchanged s new order is

acts_grows : (limits : Limits) (s : State) (event : Event) (answer : Result Done Refusal) (new : State) → IsInOrder s → Acts limits s event answer new → Grows s new
acts_grows limits s event answer new order (inl e) = ends_grows s (effect limits s event) answer new order (keeps limits s order event) e
acts_grows limits s event answer new order (inr (inl (said, f))) = fails_grows event (effect limits s event) s new order (keeps limits s order event) f
acts_grows limits s event answer new order (inr (inr (said, r))) = runs_out_grows event s new order r

acts_acked : (limits : Limits) (s : State) (event : Event) (answer : Result Done Refusal) (new : State) → IsInOrder s → Acts limits s event answer new → position answer ≤ front new
acts_acked limits s event answer new order (inl e) = ends_acked s (effect limits s event) answer new order (keeps limits s order event) e
acts_acked limits s event answer new order (inr (inl (said, f))) = omega (arith, ap position said)
acts_acked limits s event answer new order (inr (inr (said, r))) = omega (arith, ap position said)

-- ---- what is settled

pub line_more : (s : State) → (more : List Entry) × (line s ≡ s.log ++ more)
line_more s = by s.doubt
  where
    by : (d : Option Entry) → (more : List Entry) × (with_doubt s.log d ≡ s.log ++ more)
    by None = ([], sym (append-nil s.log))
    by (Some e) = (e ∷ [], refl)

pub entry_grows : (b : Bool) (s new : State) → IsInOrder s → SettledEntry b s new → Grows s new
entry_grows false s new order is = unchanged s new order is
entry_grows true s new order (inl is) = joined s new s.log [] is (sym (append-nil s.log)) order
entry_grows true s new order (inr is) = joined s new (line s) (line_more s).0 is (line_more s).1 order

turned_by_grows : (s : State) (turning : Option Applying) → IsInOrder s → IsTurningIn s.applied (front s) s.next turning → Grows s (turned_by s turning)
turned_by_grows s None order is = unchanged s s order refl
turned_by_grows s (Some a) order is = same s (turned s a) (turned s a) refl (order_turned s order a is) refl refl refl

pub turn_grows : (b : Bool) (s new : State) → IsInOrder s → SettledTurn b s new → Grows s new
turn_grows false s new order is = unchanged s new order is
turn_grows true s new order (inl is) = same s new (record s { turning = None }) is (order_turning s order None tt) refl refl refl
turn_grows true s new order (inr is) = subst (λ (x : State). Grows s x) (sym is) (turned_by_grows s s.turning order order.turn)

settled_grows : (event : Event) (s new : State) → IsInOrder s → Settled event s new → Grows s new
settled_grows event s new order (mid, one, two) =
    let first = entry_grows (settles event) s mid order one in
    grows_on s mid new first (turn_grows (settles_turn event) mid new first.order two)

to_settle_grows : (event : Event) (s new : State) → IsInOrder s → FailsToSettle event s new → Grows s new
to_settle_grows event s new order (inl (doubt, is)) = failed_so s event new order is
to_settle_grows event s new order (inr (doubt, one)) = entry_grows true s new order one

-- ---- steps

pub step_grows : (limits : Limits) (s : State) (event : Event) (answer : Result Done Refusal) (new : State) → IsInOrder s → Step limits s event answer new → Grows s new
step_grows limits s event answer new order (asked, inl (mid, settled, a)) =
    let first = settled_grows event s mid order settled in
    grows_on s mid new first (acts_grows limits mid event answer new first.order a)
step_grows limits s event answer new order (asked, inr (inl (said, f))) = to_settle_grows event s new order f
step_grows limits s event answer new order (asked, inr (inr (said, r))) = runs_out_grows event s new order r

pub step_acked : (limits : Limits) (s : State) (event : Event) (answer : Result Done Refusal) (new : State) → IsInOrder s → Step limits s event answer new → position answer ≤ front new
step_acked limits s event answer new order (asked, inl (mid, settled, a)) = acts_acked limits mid event answer new (settled_grows event s mid order settled).order a
step_acked limits s event answer new order (asked, inr (inl (said, f))) = omega (arith, ap position said)
step_acked limits s event answer new order (asked, inr (inr (said, r))) = omega (arith, ap position said)

pub step_on_any_grows : (limits : Limits) (s : State) (event : Event) (answer : Result Done Refusal) (new : State) → IsInOrder s → StepOnAny limits s event answer new → Grows s new
step_on_any_grows limits s event answer new order (inl step) = step_grows limits s event answer new order step
step_on_any_grows limits s event answer new order (inr (asked, said, is)) = failed_so s event new order is

pub step_on_any_acked : (limits : Limits) (s : State) (event : Event) (answer : Result Done Refusal) (new : State) → IsInOrder s → StepOnAny limits s event answer new → position answer ≤ front new
step_on_any_acked limits s event answer new order (inl step) = step_acked limits s event answer new order step
step_on_any_acked limits s event answer new order (inr (asked, (file, place, said), is)) = omega (arith, ap position said)

-- what a record keeps of an answer acknowledges no more
pub kept_acked : (s : State) (event : Event) (answer : Result Done Refusal) (n : ℕ) → IsInOrder s → front s ≤ n → position answer ≤ n → position (kept s event answer) ≤ n
kept_acked s (ListRefs pin prefix) (Ok done) n order le le2 = omega (arith, pin_reads s pin order.live, le)
kept_acked s (Cat pin name) (Ok done) n order le le2 = omega (arith, pin_reads s pin order.live, le)
kept_acked s (ListRefs pin prefix) (Err r) n order le le2 = le2
kept_acked s (Cat pin name) (Err r) n order le le2 = le2
kept_acked s (Create path pool) answer n order le le2 = le2
kept_acked s (Delete path) answer n order le le2 = le2
kept_acked s (Link path pool) answer n order le le2 = le2
kept_acked s (Begin path seen) answer n order le le2 = le2
kept_acked s (GetRef pin name) answer n order le le2 = le2
kept_acked s (Commit pin refs records) answer n order le le2 = le2
kept_acked s (Abort pin) answer n order le le2 = le2
kept_acked s (HouseOpen path job) answer n order le le2 = le2
kept_acked s (HouseStep pin k) answer n order le le2 = le2
kept_acked s (HouseCommit pin) answer n order le le2 = le2
kept_acked s (Apply k) answer n order le le2 = le2
kept_acked s Trim answer n order le le2 = le2
kept_acked s Sweep answer n order le le2 = le2
