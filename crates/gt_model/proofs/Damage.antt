-- Over a disk that tells no event finds anything damaged.
use Rattle.std.proofs.Common.{◌≡◌, inl, inr, ℕ, ◌+◌, Bool, true, false, cond, not, ◌&&◌, ◌||◌, is_none, is_some, nat_lt, nat_le, List, [], ◌∷◌, ◌++◌, length, take, find, map as map_list, Option, Some, None, Result, Ok, Err, refl, sym, ◌∙◌, ap, true≢false}
use Rattle.std.specs.Option.{option_map, option_or}
use Rattle.std.specs.List.{list_any, AllByRecursion}
use Rattle.gt_object.specs.Whole.{deps}
use Rattle.gt_disk.specs.declared.file_id.FileId.{FileId}
use Rattle.gt_model.specs.declared.added.Added.{Added}
use Rattle.gt_model.specs.declared.change.Change.TheVariants.{Create as CreateChange, Delete as DeleteChange, Link as LinkChange, Write}
use Rattle.gt_model.specs.declared.done.Done.{Done}
use Rattle.gt_model.specs.declared.done.Done.TheVariants.{Created, Deleted, Linked, Begun, Committed, Finished, HouseDone, Step as StepDone}
use Rattle.gt_model.specs.declared.entry.Entry.{Entry}
use Rattle.gt_model.specs.declared.event.Event.{Event}
use Rattle.gt_model.specs.declared.event.Event.TheVariants.{Create, Delete, Link, Begin, GetRef, ListRefs, Cat, Commit, Abort, HouseOpen, HouseStep, HouseCommit, Apply, Trim, Sweep}
use Rattle.gt_model.specs.declared.job.Job.{Job}
use Rattle.gt_model.specs.declared.limits.Limits.{Limits}
use Rattle.gt_model.specs.declared.needer.Needer.TheVariants.{Ref, Object}
use Rattle.gt_model.specs.declared.refusal.Refusal.{Refusal}
use Rattle.gt_model.specs.declared.refusal.Refusal.TheVariants.{NoRepository, RepositoryExists, Behind, PinsFull, LogFull, EpochFull, PoolInUse, IsPool, NotPool, AlreadyLinked, NotLinked, Damaged, HousekeepingConflict, PrunedObject, ReferenceConflict, DirectoryConflict, MissingObject, RepositoryGone}
use Rattle.gt_model.specs.declared.update.RefUpdate.{RefUpdate}
use Rattle.gt_model.specs.Contents.{Content, and_then, has_repo, is_pool, pool_of, found, finds_old, value_or_zero, with_refs, least_member}
use Rattle.gt_model.specs.Verdicts.{Staged, Ready, same_name, first_some, target, clash_in, refs_in, is_present, verdict, failed, conflict, directory, missing_value, missing_dep, added_records, needed_names}
use Rattle.gt_model.specs.Needed.{needed_by}
use Rattle.gt_model.specs.Jobs.{job_change}
use Rattle.gt_model.specs.Conflicts.{is_prune, is_unlink, is_kin, is_in_way, pruned_by, job_conflict}
use Rattle.gt_model.specs.Batches.{new_files}
use Rattle.gt_model.specs.Machine.{Work, Pin, State, front, content, content_at, entries_past, released, reading, free_number, pin_of, work_of, is_full, has_no_number, is_ready_job, next_entry, Effect, refuses, answers, adds, opens, works, applies, removes, by_units, by_dropped, first_refusal, unless, object, committed, is_empty, opened_job, closed_job, applied_by, effect, Ends, Step}

-- it names no damage
abbrev pub is_harmless : Refusal → Bool
is_harmless (Damaged file at) = false
is_harmless refusal = true

abbrev Harmless : Refusal → Type 0
Harmless r = is_harmless r ≡ true

abbrev AreHarmless : Option Refusal → Type 0
AreHarmless None = Unit {0}
AreHarmless (Some r) = Harmless r

-- no refusal of it names damage
abbrev Tells : Effect → Type 0
Tells (refuses r pins) = Harmless r
Tells (by_units c path job more) = (units : ℕ) → Tells (more units)
Tells (by_dropped c path job more) = (dropped : List (List ℕ)) → Tells (more dropped)
Tells effect = Unit {0}

-- ---- refusals

or_harmless : (a b : Option Refusal) → AreHarmless a → AreHarmless b → AreHarmless (option_or a b)
or_harmless None b one two = two
or_harmless (Some r) b one two = one

first_harmless : {A : Type 0} (f : A → Option Refusal) (xs : List A) → ((x : A) → AreHarmless (f x)) → AreHarmless (first_some f xs)
first_harmless f [] each = tt
first_harmless f (x ∷ xs) each = or_harmless (f x) (first_some f xs) (each x) (first_harmless f xs each)

map_harmless : {A : Type 0} (f : A → Refusal) (o : Option A) → ((x : A) → Harmless (f x)) → AreHarmless (option_map f o)
map_harmless f None each = tt
map_harmless f (Some x) each = each x

then_harmless : {A : Type 0} (o : Option A) (f : A → Option Refusal) → ((x : A) → AreHarmless (f x)) → AreHarmless (and_then o f)
then_harmless None f each = tt
then_harmless (Some x) f each = each x

if_harmless : (b : Bool) (r : Refusal) → Harmless r → AreHarmless (cond b None (Some r))
if_harmless true r h = tt
if_harmless false r h = h

failed_harmless : (c : Content) (path : List ℕ) (s : Staged) → AreHarmless (failed c path s)
failed_harmless c path s = by (has_repo c path)
  where
    checks : AreHarmless (option_or (conflict c path s) (option_or (directory c path s) (option_or (missing_value c path s) (missing_dep c path s))))
    checks =
        or_harmless (conflict c path s) _ (first_harmless _ s.refs (λ u. if_harmless (finds_old c path u) (ReferenceConflict u.name u.old (value_or_zero c path u.name)) refl))
        (or_harmless (directory c path s) _ (first_harmless _ s.refs (λ u. then_harmless (target u) _ (λ new. map_harmless (DirectoryConflict u.name) (clash_in (with_refs (refs_in c path) s.refs) u.name) (λ x. refl))))
        (or_harmless (missing_value c path s) _ (first_harmless _ s.refs (λ u. then_harmless (target u) _ (λ new. if_harmless (is_present c path s new) (MissingObject new (Ref u.name)) refl)))
        (first_harmless _ (added_records c path s) (λ a. map_harmless (λ dep. MissingObject dep (Object a.name)) (find (λ dep. not (is_present c path s dep)) (deps a.whole)) (λ x. refl)))))

    by : (b : Bool) → AreHarmless (cond b (option_or (conflict c path s) (option_or (directory c path s) (option_or (missing_value c path s) (missing_dep c path s)))) (Some RepositoryGone))
    by true = checks
    by false = refl

abbrev IsHarmlessVerdict : Result Ready Refusal → Type 0
IsHarmlessVerdict (Ok ready) = Unit {0}
IsHarmlessVerdict (Err r) = Harmless r

verdict_harmless : (c : Content) (path : List ℕ) (s : Staged) → IsHarmlessVerdict (verdict c path s)
verdict_harmless c path s = by (failed c path s) (failed_harmless c path s)
  where
    by : (f : Option Refusal) → AreHarmless f
        → IsHarmlessVerdict (elim f as (λ f. Result Ready Refusal) [ Some refusal ↦ Err refusal | None ↦ Ok (record { refs = s.refs; needed = needed_names c path s; added = map_list (λ a. a.name) (added_records c path s) }) ])
    by None h = tt
    by (Some r) h = h

conflict_harmless : (c : Content) (path : List ℕ) (job : Job) (dropped : List (List ℕ)) (since : List Entry) → AreHarmless (job_conflict c path job dropped since)
conflict_harmless c path job dropped since =
    or_harmless (option_map (λ e. HousekeepingConflict e.position) (find (is_in_way c path job) since)) _ (map_harmless (λ e. HousekeepingConflict e.position) (find (is_in_way c path job) since) (λ e. refl)) (by (is_prune job))
  where
    one : (e : Entry) (b : Bool) → AreHarmless (cond b (option_map (λ n. PrunedObject n e.position) (find (λ n. list_any (same_name n) dropped) (needed_by e.change))) None)
    one e true = map_harmless (λ n. PrunedObject n e.position) (find (λ n. list_any (same_name n) dropped) (needed_by e.change)) (λ n. refl)
    one e false = tt

    by : (b : Bool) → AreHarmless (cond b (first_some (pruned_by c path dropped) since) None)
    by true = first_harmless (pruned_by c path dropped) since (λ e. one e (is_kin c path e.path))
    by false = tt

-- ---- effects

tells_first : (pins : List Pin) (causes : List (Bool × Refusal)) (e : Effect) → AllByRecursion (λ r. Harmless r.1) causes → Tells e → Tells (first_refusal pins causes e)
tells_first pins [] e are tells = tells
tells_first pins (r ∷ rs) e (is, are) tells = by r.0 (tells_first pins rs e are tells)
  where
    by : (b : Bool) → Tells (first_refusal pins rs e) → Tells (cond b (refuses r.1 pins) (first_refusal pins rs e))
    by true rest = is
    by false rest = rest

tells_unless : (refusal : Option Refusal) (pins : List Pin) (e : Effect) → AreHarmless refusal → Tells e → Tells (unless refusal pins e)
tells_unless None pins e h tells = tells
tells_unless (Some r) pins e h tells = h

tells_object : (whole : Option (List ℕ)) (name : List ℕ) (pins : List Pin) → Tells (object whole name pins)
tells_object None name pins = refl
tells_object (Some whole) name pins = tt

module _ (limits : Limits) (s : State) where
  tells_committed : (pin : ℕ) (staged : Staged) (v : Result Ready Refusal) → IsHarmlessVerdict v → Tells (committed limits s pin staged v)
  tells_committed pin staged (Err r) h = h
  tells_committed pin staged (Ok ready) h =
      tells_first s.pins ((is_full limits s, LogFull) ∷ []) (adds (next_entry s (pin_of s pin).path (Write ready.refs ready.needed (added_records (content s) (pin_of s pin).path staged))) (Committed (front s + 1)) (released s.pins pin)) (refl, tt) tt

  tells_commit : (pin : ℕ) (refs : List RefUpdate) (records : List Added) → Tells (effect limits s (Commit pin refs records))
  tells_commit pin refs records = by (is_empty refs records)
    where
      staged : Staged
      staged = record { refs = refs; records = records }

      by : (b : Bool) → Tells (cond b (answers (Finished (pin_of s pin).position) (released s.pins pin)) (committed limits s pin staged (verdict (content s) (pin_of s pin).path staged)))
      by true = tt
      by false = tells_committed pin staged (verdict (content s) (pin_of s pin).path staged) (verdict_harmless (content s) (pin_of s pin).path staged)

  tells_open : (path : List ℕ) (job : Job) (c : Content) → Tells (opened_job limits s path job c)
  tells_open path job c =
      tells_first s.pins ((nat_le limits.pins (length s.pins), PinsFull) ∷ (not (has_repo c path), NoRepository) ∷ (is_unlink job && is_none (pool_of c path), NotLinked) ∷ (has_no_number s, EpochFull) ∷ [])
      (by_units c path job (λ units. opens (record { number = free_number s.pins; position = s.applied; path = path; work = Some (record { job = job; file = s.next; left = units; is_ready = false }) }))) (refl, (refl, (refl, (refl, tt)))) (λ units. tt)

  tells_close : (p : Pin) (w : Work) (pins : List Pin) (c : Content) → Tells (closed_job limits s p w pins c)
  tells_close p w pins c dropped =
      tells_unless (job_conflict c p.path w.job dropped (entries_past s p.position)) pins _ (conflict_harmless c p.path w.job dropped (entries_past s p.position))
      (tells_first pins ((is_full limits s, LogFull) ∷ []) (adds (next_entry s p.path (job_change w.job w.file dropped)) (HouseDone (front s + 1)) pins) (refl, tt) tt)

  tells_step : (pin n : ℕ) (b : Bool) → Tells (cond b (answers (StepDone true) s.pins) (works pin n))
  tells_step pin n true = tt
  tells_step pin n false = tt

  tells_apply : (entries : List Entry) → Tells (applied_by limits s entries)
  tells_apply [] = tt
  tells_apply (e ∷ es) =
      tells_first s.pins ((nat_le limits.epochs s.epoch || has_no_number s, EpochFull) ∷ []) (applies (record { position = s.applied + length (e ∷ es); next = s.next + new_files (e ∷ es) })) (refl, tt) tt

  tells : (event : Event) → Tells (effect limits s event)
  tells (Create path pool) = tells_first s.pins ((has_repo (content s) path, RepositoryExists) ∷ (is_full limits s, LogFull) ∷ []) (adds (next_entry s path (CreateChange pool)) (Created (front s + 1) pool) s.pins) (refl, (refl, tt)) tt
  tells (Delete path) =
      let deleted : Effect = adds (next_entry s path DeleteChange) (Deleted (front s + 1)) s.pins in
      tells_first s.pins ((not (has_repo (content s) path), NoRepository) ∷ []) (unless (option_map PoolInUse (least_member (content s) path)) s.pins (first_refusal s.pins ((is_full limits s, LogFull) ∷ []) deleted)) (refl, tt)
      (tells_unless (option_map PoolInUse (least_member (content s) path)) s.pins (first_refusal s.pins ((is_full limits s, LogFull) ∷ []) deleted) (map_harmless PoolInUse (least_member (content s) path) (λ m. refl))
      (tells_first s.pins ((is_full limits s, LogFull) ∷ []) deleted (refl, tt) tt))
  tells (Link path pool) =
      tells_first s.pins ((not (has_repo (content s) path && has_repo (content s) pool), NoRepository) ∷ (is_pool (content s) path, IsPool) ∷ (not (is_pool (content s) pool), NotPool) ∷ (is_some (pool_of (content s) path), AlreadyLinked) ∷ (is_full limits s, LogFull) ∷ []) (adds (next_entry s path (LinkChange pool)) (Linked (front s + 1)) s.pins) (refl, (refl, (refl, (refl, (refl, tt))))) tt
  tells (Begin path seen) =
      tells_first s.pins ((nat_lt (front s) seen, Behind seen (front s)) ∷ (nat_le limits.pins (length s.pins), PinsFull) ∷ (not (has_repo (content s) path), NoRepository) ∷ []) (answers (Begun (front s)) (s.pins ++ reading (free_number s.pins) (front s) path ∷ [])) (refl, (refl, (refl, tt))) tt
  tells (GetRef pin name) = tt
  tells (ListRefs pin prefix) = tt
  tells (Cat pin name) = tells_object (found _ (pin_of s pin).path name) name s.pins
  tells (Commit pin refs records) = tells_commit pin refs records
  tells (Abort pin) = tt
  tells (HouseOpen path job) = tells_open path job (content_at s s.applied)
  tells (HouseStep pin n) = tells_step pin n (is_ready_job (pin_of s pin))
  tells (HouseCommit pin) = tells_close (pin_of s pin) (work_of (pin_of s pin)) (released s.pins pin) _
  tells (Apply n) = tells_apply (take n (entries_past s s.applied))
  tells Trim = tt
  tells Sweep = tt

-- ---- steps

abbrev pub harm_of : Result Done Refusal → Bool
harm_of (Ok done) = true
harm_of (Err r) = is_harmless r

ends_harmless : (e : Effect) (s : State) (answer : Result Done Refusal) (new : State) → Tells e → Ends e s answer new → harm_of answer ≡ true
ends_harmless (refuses r pins) s answer new tells (said, is) = ap harm_of said ∙ tells
ends_harmless (answers done pins) s answer new tells (said, is) = ap harm_of said
ends_harmless (adds e done pins) s answer new tells (inl (said, is)) = ap harm_of said
ends_harmless (adds e done pins) s answer new tells (inr (said, is)) = ap harm_of said
ends_harmless (opens p) s answer new tells (said, is) = ap harm_of said
ends_harmless (works pin n) s answer new tells (said, is) = ap harm_of said
ends_harmless (applies a) s answer new tells (said, is) = ap harm_of said
ends_harmless (removes floor done) s answer new tells (said, is) = ap harm_of said
ends_harmless (by_units c path job more) s answer new tells (units, are, e) = ends_harmless (more units) s answer new (tells units) e
ends_harmless (by_dropped c path job more) s answer new tells (dropped, are, e) = ends_harmless (more dropped) s answer new (tells dropped) e

step_harmless : (limits : Limits) (old new : State) (event : Event) (answer : Result Done Refusal) → Step limits old event answer new → harm_of answer ≡ true
step_harmless limits old new event answer (asked, inl (mid, settled, inl ends)) = ends_harmless (effect limits mid event) mid answer new (tells limits mid event) ends
step_harmless limits old new event answer (asked, inl (mid, settled, inr (inl (said, f)))) = ap harm_of said
step_harmless limits old new event answer (asked, inl (mid, settled, inr (inr (said, r)))) = ap harm_of said
step_harmless limits old new event answer (asked, inr (inl (said, f))) = ap harm_of said
step_harmless limits old new event answer (asked, inr (inr (said, r))) = ap harm_of said

pub never_damaged : (limits : Limits) (old new : State) (event : Event) (file : FileId) (place : ℕ) → Step limits old event (Err (Damaged file place)) new → ⊥
never_damaged limits old new event file place step = true≢false (sym (step_harmless limits old new event (Err (Damaged file place)) step))
