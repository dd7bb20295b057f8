-- A step and an opening leave each content sound, and each entry says what it needs.
use Rattle.std.proofs.Common.{◌≡◌, inl, inr, ℕ, ◌+◌, Bool, true, false, cond, not, ◌&&◌, ◌||◌, is_none, nat_lt, nat_le, List, [], ◌∷◌, ◌++◌, length, take, Option, Some, None, Result, Ok, Err, refl, sym, subst, All}
use Rattle.std.specs.Option.{option_map}
use Rattle.sha1.specs.Sha1.{sha1}
use Rattle.gt_model.specs.declared.added.Added.{Added}
use Rattle.gt_model.specs.declared.change.Change.TheVariants.{Create as CreateChange, Delete as DeleteChange, Write}
use Rattle.gt_model.specs.declared.done.Done.{Done}
use Rattle.gt_model.specs.declared.done.Done.TheVariants.{Created, Deleted, Begun, Committed, Finished, Step as StepDone}
use Rattle.gt_model.specs.declared.entry.Entry.{Entry}
use Rattle.gt_model.specs.declared.event.Event.{Event}
use Rattle.gt_model.specs.declared.event.Event.TheVariants.{Create, Delete, Link, Begin, GetRef, ListRefs, Cat, Commit, Abort, HouseOpen, HouseStep, HouseCommit, Apply, Trim, Sweep}
use Rattle.gt_model.specs.declared.job.Job.{Job}
use Rattle.gt_model.specs.declared.limits.Limits.{Limits}
use Rattle.gt_model.specs.declared.refusal.Refusal.{Refusal}
use Rattle.gt_model.specs.declared.refusal.Refusal.TheVariants.{NoRepository, RepositoryExists, Behind, PinsFull, LogFull, EpochFull, PoolInUse, NotLinked}
use Rattle.gt_model.specs.declared.update.RefUpdate.{RefUpdate}
use Rattle.gt_model.specs.Contents.{Content, has_repo, pool_of, found, least_member, after}
use Rattle.gt_model.specs.Soundness.{IsSound}
use Rattle.gt_model.specs.Verdicts.{Staged, Ready, verdict, added_records}
use Rattle.gt_model.specs.Needed.{HasNeeded}
use Rattle.gt_model.specs.Conflicts.{is_unlink}
use Rattle.gt_model.specs.Batches.{new_files}
use Rattle.gt_model.specs.Machine.{Pin, State, Applying, Recovered, line, front, content, content_at, entries_past, released, reading, free_number, pin_of, is_full, has_no_number, is_ready_job, next_entry, Effect, refuses, answers, adds, opens, works, applies, removes, by_units, by_dropped, first_refusal, unless, object, committed, is_empty, opened_job, applied_by, effect, settles, settles_turn, turned_by, after_fault, Ends, Fails, RunsOut, Acts, SettledEntry, SettledTurn, Step, StepOnAny, MayRecover, IsInOrder, opening}
use Rattle.gt_model.specs.Histories.{IsPart}
use Rattle.gt_model.proofs.Sound.{commit_sound}
use Rattle.gt_model.proofs.Needs.{good_needs}
use Rattle.gt_model.proofs.Members.{none}
use Rattle.gt_model.proofs.Openings.{may_recover_part}
use Rattle.gt_sound.specs.Sound.{IsSoundState, IsKnown}
use Rattle.gt_sound.proofs.Repositories.{creation_sound, deletion_sound}
use Rattle.gt_sound.proofs.Logs.{IsSoundLog, at_front, front_sound, rest_sound, more_sound, log_sound, sound_line, sound_state}

-- ---- effects

-- the entry that it adds, if it adds one, says what it needs, and the content is sound after it
abbrev Brings : State → Effect → Type 0
Brings s (adds e done pins) = IsSound (after (content s) e) × HasNeeded e
Brings s (by_units c path job more) = (units : ℕ) → Brings s (more units)
Brings s (by_dropped c path job more) = (dropped : List (List ℕ)) → Brings s (more dropped)
Brings s effect = Unit {0}

-- what is left where a refusal doesn't stand
brings_unless : (s : State) (b : Bool) (r : Refusal) (pins : List Pin) (e : Effect) → (b ≡ false → Brings s e) → Brings s (cond b (refuses r pins) e)
brings_unless s true r pins e brings = tt
brings_unless s false r pins e brings = brings refl

brings_deletion : (s : State) (path : List ℕ) (full : Bool) (done : Done) (member : Option (List ℕ)) → least_member (content s) path ≡ member → IsSound (content s)
    → Brings s (unless (option_map PoolInUse member) s.pins (first_refusal s.pins ((full, LogFull) ∷ []) (adds (next_entry s path DeleteChange) done s.pins)))
brings_deletion s path full done (Some member) is sound = tt
brings_deletion s path full done None is sound = brings_unless s full LogFull s.pins (adds (next_entry s path DeleteChange) done s.pins) (λ room. (deletion_sound (content s) path is sound, λ name h. absurd (none name h)))

brings_object : (s : State) (whole : Option (List ℕ)) (name : List ℕ) (pins : List Pin) → Brings s (object whole name pins)
brings_object s None name pins = tt
brings_object s (Some whole) name pins = tt

brings_first : (s : State) (pins : List Pin) (causes : List (Bool × Refusal)) (e : Effect) → Brings s e → Brings s (first_refusal pins causes e)
brings_first s pins [] e brings = brings
brings_first s pins (r ∷ rs) e brings = brings_unless s r.0 r.1 pins (first_refusal pins rs e) (λ _. brings_first s pins rs e brings)

brings_step : (s : State) (pin n : ℕ) (b : Bool) → Brings s (cond b (answers (StepDone true) s.pins) (works pin n))
brings_step s pin n true = tt
brings_step s pin n false = tt

brings_apply : (limits : Limits) (s : State) (entries : List Entry) → Brings s (applied_by limits s entries)
brings_apply limits s [] = tt
brings_apply limits s (e ∷ es) =
    brings_first s s.pins ((nat_le limits.epochs s.epoch || has_no_number s, EpochFull) ∷ []) (applies (record { position = s.applied + length (e ∷ es); next = s.next + new_files (e ∷ es) })) tt

brings_open : (limits : Limits) (s : State) (path : List ℕ) (job : Job) (c : Content) → Brings s (opened_job limits s path job c)
brings_open limits s path job c =
    brings_first s s.pins ((nat_le limits.pins (length s.pins), PinsFull) ∷ (not (has_repo c path), NoRepository) ∷ (is_unlink job && is_none (pool_of c path), NotLinked) ∷ (has_no_number s, EpochFull) ∷ [])
    (by_units c path job (λ units. opens (record { number = free_number s.pins; position = s.applied; path = path; work = Some (record { job = job; file = s.next; left = units; is_ready = false }) }))) (λ units. tt)

module _ (limits : Limits) (s : State) (sound : IsSound (content s)) where
  brings_committed : (pin : ℕ) (staged : Staged) (v : Result Ready Refusal) → All (λ a. sha1 a.whole ≡ a.name) staged.records → verdict (content s) (pin_of s pin).path staged ≡ v → Brings s (committed limits s pin staged v)
  brings_committed pin staged (Err refusal) named is = tt
  brings_committed pin staged (Ok ready) named is =
      brings_first s s.pins ((is_full limits s, LogFull) ∷ [])
      (adds (next_entry s (pin_of s pin).path (Write ready.refs ready.needed (added_records (content s) (pin_of s pin).path staged))) (Committed (front s + 1)) (released s.pins pin))
      (commit_sound (content s) (pin_of s pin).path staged ready sound named is, good_needs (content s) (pin_of s pin).path staged ready is)

  brings_commit : (pin : ℕ) (refs : List RefUpdate) (records : List Added) → All (λ a. sha1 a.whole ≡ a.name) records → Brings s (effect limits s (Commit pin refs records))
  brings_commit pin refs records named = by (is_empty refs records)
    where
      staged : Staged
      staged = record { refs = refs; records = records }

      by : (b : Bool) → Brings s (cond b (answers (Finished (pin_of s pin).position) (released s.pins pin)) (committed limits s pin staged (verdict (content s) (pin_of s pin).path staged)))
      by true = tt
      by false = brings_committed pin staged (verdict (content s) (pin_of s pin).path staged) named refl

  -- an event that brings its records under their names adds what keeps the content sound
  brings : (event : Event) → IsKnown event → Brings s (effect limits s event)
  brings (Create path pool) known =
      let made : Effect = adds (next_entry s path (CreateChange pool)) (Created (front s + 1) pool) s.pins in
      brings_unless s (has_repo (content s) path) RepositoryExists s.pins (first_refusal s.pins ((is_full limits s, LogFull) ∷ []) made)
      (λ free. brings_unless s (is_full limits s) LogFull s.pins made (λ room. (creation_sound (content s) path pool free sound, λ name h. absurd (none name h))))
  brings (Delete path) known =
      brings_unless s (not (has_repo (content s) path)) NoRepository s.pins
      (unless (option_map PoolInUse (least_member (content s) path)) s.pins (first_refusal s.pins ((is_full limits s, LogFull) ∷ []) (adds (next_entry s path DeleteChange) (Deleted (front s + 1)) s.pins)))
      (λ there. brings_deletion s path (is_full limits s) (Deleted (front s + 1)) (least_member (content s) path) refl sound)
  brings (Begin path seen) known =
      brings_first s s.pins ((nat_lt (front s) seen, Behind seen (front s)) ∷ (nat_le limits.pins (length s.pins), PinsFull) ∷ (not (has_repo (content s) path), NoRepository) ∷ []) (answers (Begun (front s)) (s.pins ++ reading (free_number s.pins) (front s) path ∷ [])) tt
  brings (GetRef pin name) known = tt
  brings (ListRefs pin prefix) known = tt
  brings (Cat pin name) known = brings_object s (found _ (pin_of s pin).path name) name s.pins
  brings (Commit pin refs records) known = brings_commit pin refs records known
  brings (Abort pin) known = tt
  brings (Link path pool) known = absurd known
  brings (HouseOpen path job) known = brings_open limits s path job (content_at s s.applied)
  brings (HouseStep pin n) known = brings_step s pin n (is_ready_job (pin_of s pin))
  brings (HouseCommit pin) known = absurd known
  brings (Apply n) known = brings_apply limits s (take n (entries_past s s.applied))
  brings Trim known = tt
  brings Sweep known = tt

-- ---- steps

-- the state is this one, which has the same line over the same base
same : (s new : State) (is : State) → new ≡ is → is.base ≡ s.base → line is ≡ line s → IsSoundState s → IsSoundState new
same s new is e base log sound =
    subst IsSoundState (sym e) (sound_state is (subst (λ (b : Content). IsSoundLog b (line is)) (sym base) (subst (λ (l : List Entry). IsSoundLog s.base l) (sym log) (sound_line s sound))))

ends_sound : (s : State) (e : Effect) (answer : Result Done Refusal) (new : State) → Brings s e → IsSoundState s → Ends e s answer new → IsSoundState new
ends_sound s (refuses r pins) answer new brings sound (said, is) = same s new _ is refl refl sound
ends_sound s (answers done pins) answer new brings sound (said, is) = same s new _ is refl refl sound
ends_sound s (adds e done pins) answer new brings sound (inl (said, is)) =
    subst IsSoundState (sym is) (sound_state _ (more_sound s.base s.log e (log_sound s.base s.log s.doubt (sound_line s sound)) brings.0 brings.1))
ends_sound s (adds e done pins) answer new brings sound (inr (said, is)) =
    subst IsSoundState (sym is) (sound_state _ (more_sound s.base s.log e (log_sound s.base s.log s.doubt (sound_line s sound)) brings.0 brings.1))
ends_sound s (opens p) answer new brings sound (said, is) = same s new _ is refl refl sound
ends_sound s (works pin n) answer new brings sound (said, is) = same s new _ is refl refl sound
ends_sound s (applies a) answer new brings sound (said, is) = same s new _ is refl refl sound
ends_sound s (removes floor done) answer new brings sound (said, is) = same s new _ is refl refl sound
ends_sound s (by_units c path job more) answer new brings sound (units, are, e) = ends_sound s (more units) answer new (brings units) sound e
ends_sound s (by_dropped c path job more) answer new brings sound (dropped, are, e) = ends_sound s (more dropped) answer new (brings dropped) sound e

after_fault_sound : (s : State) (event : Event) → IsSoundState s → IsSoundState (after_fault s event)
after_fault_sound s (HouseStep pin n) sound = same s _ (after_fault s (HouseStep pin n)) refl refl refl sound
after_fault_sound s (HouseCommit pin) sound = same s _ (after_fault s (HouseCommit pin)) refl refl refl sound
after_fault_sound s (Create path pool) sound = sound
after_fault_sound s (Delete path) sound = sound
after_fault_sound s (Link path pool) sound = sound
after_fault_sound s (Begin path seen) sound = sound
after_fault_sound s (GetRef pin name) sound = sound
after_fault_sound s (ListRefs pin prefix) sound = sound
after_fault_sound s (Cat pin name) sound = sound
after_fault_sound s (Commit pin refs records) sound = sound
after_fault_sound s (Abort pin) sound = sound
after_fault_sound s (HouseOpen path job) sound = sound
after_fault_sound s (Apply n) sound = sound
after_fault_sound s Trim sound = sound
after_fault_sound s Sweep sound = sound

failed_so : (s : State) (event : Event) (new : State) → IsSoundState s → new ≡ after_fault s event → IsSoundState new
failed_so s event new sound is = subst IsSoundState (sym is) (after_fault_sound s event sound)

unchanged : (s new : State) → IsSoundState s → new ≡ s → IsSoundState new
unchanged s new sound is = subst IsSoundState (sym is) sound

fails_sound : (event : Event) (e : Effect) (s new : State) → IsSoundState s → Fails event e s new → IsSoundState new
fails_sound event (refuses r pins) s new sound fails = absurd fails
fails_sound event (answers done pins) s new sound (object, is) = unchanged s new sound is
fails_sound event (adds e done pins) s new sound is = failed_so s event new sound is
fails_sound event (opens p) s new sound fails = absurd fails
fails_sound event (works pin n) s new sound is = failed_so s event new sound is
fails_sound event (applies a) s new sound (inl is) = unchanged s new sound is
fails_sound event (applies a) s new sound (inr (inl is)) = same s new _ is refl refl sound
fails_sound event (applies a) s new sound (inr (inr is)) = same s new _ is refl refl sound
fails_sound event (removes floor done) s new sound (inl is) = unchanged s new sound is
fails_sound event (removes floor done) s new sound (inr is) = same s new _ is refl refl sound
fails_sound event (by_units c path job more) s new sound (units, are, f) = fails_sound event (more units) s new sound f
fails_sound event (by_dropped c path job more) s new sound (dropped, are, f) = fails_sound event (more dropped) s new sound f

runs_out_sound : (event : Event) (s new : State) → IsSoundState s → RunsOut event s new → IsSoundState new
runs_out_sound (Abort pin) s new sound never = absurd never
runs_out_sound (HouseStep pin n) s new sound (some, le, is) = same s new _ is refl refl sound
runs_out_sound (HouseCommit pin) s new sound is = unchanged s new sound is
runs_out_sound (Create path pool) s new sound is = unchanged s new sound is
runs_out_sound (Delete path) s new sound is = unchanged s new sound is
runs_out_sound (Link path pool) s new sound is = unchanged s new sound is
runs_out_sound (Begin path seen) s new sound is = unchanged s new sound is
runs_out_sound (GetRef pin name) s new sound is = unchanged s new sound is
runs_out_sound (ListRefs pin prefix) s new sound is = unchanged s new sound is
runs_out_sound (Cat pin name) s new sound is = unchanged s new sound is
runs_out_sound (Commit pin refs records) s new sound is = unchanged s new sound is
runs_out_sound (HouseOpen path job) s new sound is = unchanged s new sound is
runs_out_sound (Apply n) s new sound is = unchanged s new sound is
runs_out_sound Trim s new sound is = unchanged s new sound is
runs_out_sound Sweep s new sound is = unchanged s new sound is

acts_sound : (limits : Limits) (s : State) (event : Event) (answer : Result Done Refusal) (new : State) → IsKnown event → IsSoundState s → Acts limits s event answer new → IsSoundState new
acts_sound limits s event answer new known sound (inl e) =
    ends_sound s (effect limits s event) answer new (brings limits s (at_front s.base s.log (log_sound s.base s.log s.doubt (sound_line s sound)).contents) event known) sound e
acts_sound limits s event answer new known sound (inr (inl (said, f))) = fails_sound event (effect limits s event) s new sound f
acts_sound limits s event answer new known sound (inr (inr (said, r))) = runs_out_sound event s new sound r

entry_sound : (b : Bool) (s new : State) → IsSoundState s → SettledEntry b s new → IsSoundState new
entry_sound false s new sound is = unchanged s new sound is
entry_sound true s new sound (inl is) = subst IsSoundState (sym is) (sound_state _ (log_sound s.base s.log s.doubt (sound_line s sound)))
entry_sound true s new sound (inr is) = same s new _ is refl refl sound

turned_by_sound : (s : State) (turning : Option Applying) → IsSoundState s → IsSoundState (turned_by s turning)
turned_by_sound s None sound = sound
turned_by_sound s (Some a) sound = same s _ (turned_by s (Some a)) refl refl refl sound

turn_sound : (b : Bool) (s new : State) → IsSoundState s → SettledTurn b s new → IsSoundState new
turn_sound false s new sound is = unchanged s new sound is
turn_sound true s new sound (inl is) = same s new _ is refl refl sound
turn_sound true s new sound (inr is) = subst IsSoundState (sym is) (turned_by_sound s s.turning sound)

step_sound : (limits : Limits) (old new : State) (event : Event) (answer : Result Done Refusal) → IsKnown event → Step limits old event answer new → IsSoundState old → IsSoundState new
step_sound limits old new event answer known (asked, inl (mid, (entry, one, two), a)) sound =
    acts_sound limits mid event answer new known (turn_sound (settles_turn event) entry mid (entry_sound (settles event) old entry sound one) two) a
step_sound limits old new event answer known (asked, inr (inl (said, inl (doubt, is)))) sound = failed_so old event new sound is
step_sound limits old new event answer known (asked, inr (inl (said, inr (doubt, one)))) sound = entry_sound true old new sound one
step_sound limits old new event answer known (asked, inr (inr (said, r))) sound = runs_out_sound event old new sound r

pub step_on_any_sound : (limits : Limits) (old new : State) (event : Event) (answer : Result Done Refusal) → IsKnown event → StepOnAny limits old event answer new → IsSoundState old → IsSoundState new
step_on_any_sound limits old new event answer known (inl step) sound = step_sound limits old new event answer known step sound
step_on_any_sound limits old new event answer known (inr (asked, said, is)) sound = failed_so old event new sound is

-- ---- openings

pub part_sound : (old new : State) → IsPart old new → new.doubt ≡ None → IsSoundState old → IsSoundState new
part_sound old new part clear sound =
    let split : IsSoundLog old.base (part.passed ++ (new.log ++ part.rest)) = subst (λ (l : List Entry). IsSoundLog old.base l) part.whole (sound_line old sound) in
    let behind : IsSoundLog new.base (new.log ++ part.rest) = subst (λ (c : Content). IsSoundLog c (new.log ++ part.rest)) (sym part.base) (rest_sound old.base part.passed (new.log ++ part.rest) split) in
    let is : line new ≡ new.log = rw clear in
    sound_state new (subst (λ (l : List Entry). IsSoundLog new.base l) (sym is) (front_sound new.base new.log part.rest behind))

pub may_recover_sound : (old : State) (r : Recovered) → IsInOrder old → MayRecover old r → IsSoundState old → IsSoundState (opening r)
may_recover_sound old r order may sound = part_sound old (opening r) (may_recover_part old r order may) refl sound
