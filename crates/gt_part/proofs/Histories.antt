-- How a partition's history goes on.
use Rattle.std.proofs.Common.{◌≡◌, ◌⊎◌, inl, inr, ⊎_elim, ℕ, ◌+◌, ◌<◌, ◌≤◌, List, [], ◌∷◌, ◌++◌, length, length-append, Option, Some, None, Result, Ok, Err, refl, sym, ◌∙◌, ap, subst, arith, IsTrue, append_assoc, IfOk, IfErr, ◌-◌, ◌^◌, min, Bool, true, false}
use Rattle.std.specs.Prelude.{if◌then◌else◌}
use Rattle.std.specs.Option.{option_map}
use Rattle.std.proofs.lemmas.Bool.{cases_lt}
use Rattle.gt_disk.specs.Files.{View, now, IsImage, Rose}
use Rattle.gt_disk.specs.Moments.{Since, Narrows}
use Rattle.gt_log.specs.declared.mount_error.MountError.{MountError}
use Rattle.gt_model.specs.declared.entry.Entry.{Entry}
use Rattle.gt_model.specs.declared.limits.Limits.{Limits}
use Rattle.gt_model.specs.declared.turn.Turn.{Turn}
use Rattle.gt_model.specs.Machine.{State, Pin, Settles, MayRecover, opening, with_doubt, is_faulty}
use Rattle.gt_model.specs.Histories.{Happening, opened, last_state}
use Rattle.gt_sound.specs.Sound.{IsSoundState}
use Rattle.gt_sound.proofs.Logs.{log_sound, sound_line, sound_state}
use Rattle.gt_history.specs.Runs.{KeepsPast}
use Rattle.gt_history.proofs.Safe.{same_ok}
use Rattle.gt_history.proofs.Runs as runs
use Rattle.gt_base.specs.Recovery.{recover, Keeps, counters}
use Rattle.gt_table.specs.Table.{base}
use Rattle.gt_journal.specs.Ledger.{Ledger, HasLog, Stored, applying, state_of, ground}
use Rattle.gt_journal.specs.Loading.{IsNumbered}
use Rattle.gt_journal.specs.Histories.{IsGood, Gives, Holds, IsHistory}
use Rattle.gt_journal.proofs.Images.{recovered_legal, stored_gives}
use Rattle.gt_part.specs.Mounts.{Mounts}
use Rattle.gt_part.specs.Shown.{Shown, memory, HasRun, Continues, OneOpening, faults_in}

module _ (limits : Limits) (start : State) (begin : ℕ) (history : List Happening) (v : View) (trail : List Turn) (going : IsHistory limits start begin history v trail) where
  pub holds_now : Holds limits start begin history v
  holds_now = runs.holds_now (recover limits) (Keeps limits) counters (recovered_legal limits) (Stored limits) (stored_gives limits) limits start begin history v trail going

  pub good_now : IsGood limits (now v)
  good_now = runs.going_good (recover limits) (Keeps limits) counters (recovered_legal limits) (Stored limits) (stored_gives limits) limits start begin history v trail going

  pub holds_later : (w : View) → Narrows v w → Since (IsGood limits) v w → Holds limits start begin history w
  holds_later w narrows good = runs.holds_later (recover limits) (Keeps limits) counters (recovered_legal limits) (Stored limits) (stored_gives limits) limits start begin history v w trail going narrows good

pub continues : {D : Type 0} (view : D → View) (start : State) (begin : ℕ) (history : List Happening) (P : List Happening → Type 0) (later : List Happening) (old p : Shown D)
    → p.limits ≡ old.limits → P later → KeepsPast (view old.disk) (view p.disk) → HasRun view start begin (later ++ history) p → Continues view start begin history P old p
continues view start begin history P later old p limits this past run = record {
  later = later;
  past = past;
  limits = limits;
  this = this;
  run = run;
  holds = subst (λ (l : Limits). Holds l start begin (later ++ history) (view p.disk)) limits (holds_now p.limits start begin (later ++ history) (view p.disk) p.trail run.1);
  good = subst (λ (l : Limits). IsGood l (now (view p.disk))) limits (good_now p.limits start begin (later ++ history) (view p.disk) p.trail run.1);
}

-- the files have the log that is in memory, and its contents are sound
module _ {D : Type 0} (view : D → View) (start : State) (begin : ℕ) (history : List Happening) (p : Shown D) (run : HasRun view start begin history p) where
  whole_stored : Stored p.limits (memory p) (now (view p.disk))
  whole_stored = subst (λ (s : State). Stored p.limits s (now (view p.disk))) (sym run.0) run.1.stored

  pub run_stored : HasLog p.ledger (now (view p.disk))
  run_stored = record { files = whole_stored.files; legal = whole_stored.legal }

  pub run_sound : IsSoundState (opening (ground p.ledger))
  run_sound =
      let sound : IsSoundState (memory p) = subst IsSoundState (sym run.0) (runs.going_sound (recover p.limits) (Keeps p.limits) counters (recovered_legal p.limits) (Stored p.limits) (stored_gives p.limits) p.limits start begin history (view p.disk) p.trail run.1) in
      sound_state (opening (ground p.ledger)) (log_sound (base p.ledger.past) p.ledger.past.log p.ledger.doubt (sound_line (memory p) sound))

  pub run_few : p.limits.positions < 2 ^ 64 → p.ledger.past.begin + 1 + length p.ledger.past.log ≤ 2 ^ 64
  run_few most = by p.ledger.past.log p.ledger.doubt whole_stored.within
    where
      by : (log : List Entry) (doubt : Option Entry) → p.ledger.past.begin + length (with_doubt log doubt) ≤ p.limits.positions → p.ledger.past.begin + 1 + length log ≤ 2 ^ 64
      by log None le = omega (arith, le, most)
      by log (Some e) le = omega (arith, le, most, length-append log (e ∷ []))

-- ---- openings

module _ {D : Type 0} (view : D → View) (start : State) (begin : ℕ) (history : List Happening) (old : Shown D) (disk : D) (same : disk ≡ old.disk) (shows : IsImage (now (view old.disk)) (view old.disk).reads) (run : HasRun view start begin history old) where
  abbrev last : State
  last = last_state start history

  reopened : (p : Shown D) → p.limits ≡ old.limits → Mounts (recover old.limits (view disk).reads) (Ok p) → p.trail ≡ [] → Narrows (view disk) (view p.disk)
      → (IsGood old.limits (now (view disk)) → Since (IsGood old.limits) (view disk) (view p.disk)) → (IsGood old.limits (now (view disk)) → HasRun view (memory p) (view p.disk).clock [] p)
      → Settles last (memory p) × Continues view start begin history (OneOpening (view p.disk).clock (memory p)) old p
  reopened p limits mounts empty narrows moments good =
      let v = view old.disk in
      let r = mounts.0 in
      let is : recover old.limits v.reads ≡ Ok r = ap (λ (d : D). recover old.limits (view d).reads) (sym same) ∙ mounts.1 in
      let g : Gives old.limits last (now v) v.reads = (stored_gives old.limits last (now v) run.1.stored).gives v.reads shows in
      let may : MayRecover last r = subst (MayRecover last) (same_ok (recover old.limits v.reads) g.0 r g.1 is) g.2 in
      let here : IsGood old.limits (now (view disk)) = subst (λ (d : D). IsGood old.limits (now (view d))) (sym same) (good_now old.limits start begin history v old.trail run.1) in
      let narrowed : Narrows v (view p.disk) = subst (λ (d : D). Narrows (view d) (view p.disk)) same narrows in
      let since : Since (IsGood old.limits) v (view p.disk) = subst (λ (d : D). Since (IsGood old.limits) (view d) (view p.disk)) same (moments here) in
      let stored : Stored old.limits (opening r) (now (view p.disk)) = subst (λ (s : State). Stored old.limits s (now (view p.disk))) mounts.2 (subst (λ (l : Limits). Stored l (memory p) (now (view p.disk))) limits (good here).1.stored) in
      let more : IsHistory old.limits start begin (opened (view p.disk).clock (opening r) ∷ history) (view p.disk) [] =
      runs.opened_more (recover old.limits) (Keeps old.limits) counters (recovered_legal old.limits) (Stored old.limits) (stored_gives old.limits) old.limits start begin history v old.trail run.1 (view p.disk) r may narrowed since stored in
      let whole : IsHistory p.limits start begin (opened (view p.disk).clock (memory p) ∷ history) (view p.disk) p.trail =
      subst (λ (l : Limits). IsHistory l start begin (opened (view p.disk).clock (memory p) ∷ history) (view p.disk) p.trail) (sym limits)
      (subst (λ (t : List Turn). IsHistory old.limits start begin (opened (view p.disk).clock (memory p) ∷ history) (view p.disk) t) (sym empty)
      (subst (λ (s : State). IsHistory old.limits start begin (opened (view p.disk).clock s ∷ history) (view p.disk) []) (sym mounts.2) more)) in
      ((r, may, mounts.2), continues view start begin history (OneOpening (view p.disk).clock (memory p)) (opened (view p.disk).clock (memory p) ∷ []) old p limits refl (runs.past_since _ v (view p.disk) narrowed) (refl, whole, (good here).2))

  restarted : (result : Result (Shown D) (MountError D)) → IfOk result (λ p. p.limits ≡ old.limits) → Mounts (recover old.limits (view disk).reads) result → IfOk result (λ p. p.trail ≡ []) → IfOk result (λ p. Narrows (view disk) (view p.disk))
      → (IsGood old.limits (now (view disk)) → IfOk result (λ p. Since (IsGood old.limits) (view disk) (view p.disk))) → (IsGood old.limits (now (view disk)) → IfOk result (λ p. HasRun view (memory p) (view p.disk).clock [] p))
      → IfOk result (λ p. Settles last (memory p)) × IfOk result (λ p. Continues view start begin history (OneOpening (view p.disk).clock (memory p)) old p)
  restarted (Err e) limits mounts empty narrows moments good = (tt, tt)
  restarted (Ok p) limits mounts empty narrows moments good = reopened p limits mounts empty narrows moments good

  abbrev Reopens : Limits → ℕ → Type 0
  Reopens limits number =
      (result : Result (Shown D) (MountError D)) → IfOk result (λ p. (p.number ≡ number) × (p.limits ≡ limits)) → Mounts (recover limits (view disk).reads) result → IfOk result (λ p. p.trail ≡ []) → IfOk result (λ p. Narrows (view disk) (view p.disk))
      → (IsGood limits (now (view disk)) → IfOk result (λ p. Since (IsGood limits) (view disk) (view p.disk))) → (IsGood limits (now (view disk)) → IfOk result (λ p. HasRun view (memory p) (view p.disk).clock [] p))
      → IfOk result (λ p. Settles last (memory p)) × IfOk result (λ p. Continues view start begin history (OneOpening (view p.disk).clock (memory p)) old p)

  kept_limits : (limits : Limits) (number : ℕ) (result : Result (Shown D) (MountError D)) → IfOk result (λ p. (p.number ≡ number) × (p.limits ≡ limits)) → IfOk result (λ p. p.limits ≡ limits)
  kept_limits limits number (Err e) kept = tt
  kept_limits limits number (Ok p) kept = kept.1

  pub restarted_by : (limits : Limits) (number : ℕ) → limits ≡ old.limits → Reopens limits number
  restarted_by limits number is = subst (λ (l : Limits). Reopens l number) (sym is) (λ result kept mounts empty narrows moments good. restarted result (kept_limits old.limits number result kept) mounts empty narrows moments good)

pub reopened_in_vain : {D : Type 0} (view : D → View) (start : State) (begin : ℕ) (history : List Happening) (old : Shown D) → HasRun view start begin history old → (result : Result (Shown D) (MountError D))
    → IfErr result (λ e. Narrows (view old.disk) (view e.disk)) → (IsGood old.limits (now (view old.disk)) → IfErr result (λ e. Since (IsGood old.limits) (view old.disk) (view e.disk)))
    → IfErr result (λ e. Holds old.limits start begin history (view e.disk))
reopened_in_vain view start begin history old run (Ok p) narrows moments = tt
reopened_in_vain view start begin history old run (Err e) narrows moments =
    let v = view old.disk in
    holds_later old.limits start begin history v old.trail run.1 (view e.disk) narrows (moments (good_now old.limits start begin history v old.trail run.1))

-- Two parts of a history, one after the other, where the second is about the history that the first has made.
pub continues_on : {D : Type 0} (view : D → View) (start : State) (begin : ℕ) (history : List Happening) (P Q R : List Happening → Type 0) (o p q : Shown D) → (c : Continues view start begin history P o p)
    → ((older : List Happening) → HasRun view start begin older p → Continues view start begin older Q p q) → ((one two : List Happening) → P one → Q two → R (two ++ one)) → Continues view start begin history R o q
continues_on view start begin history P Q R o p q c more joins =
    let d = more (c.later ++ history) c.run in
    let is : d.later ++ (c.later ++ history) ≡ (d.later ++ c.later) ++ history = sym (append_assoc d.later c.later history) in
    continues view start begin history R (d.later ++ c.later) o q (d.limits ∙ c.limits) (joins c.later d.later c.this d.this) (runs.past_join (view o.disk) (view p.disk) (view q.disk) c.past d.past) (subst (λ (h : List Happening). HasRun view start begin h q) is d.run)

-- ---- faults

faults_push : (trail : List Turn) (turn : Turn) → faults_in (trail ++ turn ∷ []) ≡ faults_in trail + (if is_faulty turn.answer then 1 else 0)
faults_push [] turn = omega arith
faults_push (x ∷ xs) turn = omega (arith, faults_push xs turn)

counts_by : (b : Bool) (first before now old : ℕ) → before ≤ now → (IsTrue b → Rose before now) → (first + old ≤ before) ⊎ (2 ^ 64 - 1 ≤ before) → (first + (old + (if b then 1 else 0)) ≤ now) ⊎ (2 ^ 64 - 1 ≤ now)
counts_by b first before now old later rose (inr full) = inr (omega (arith, later, full))
counts_by false first before now old later rose (inl le) = inl (omega (arith, later, le))
counts_by true first before now old later rose (inl le) = let r : min (before + 1) (2 ^ 64 - 1) ≤ now = rose refl in ⊎_elim (λ lt. inr (omega (arith, lt, r))) (λ ge. inl (omega (arith, ge, r, le))) (cases_lt (2 ^ 64 - 1) (before + 1))

pub counts_more : (first before now : ℕ) (trail new : List Turn) (turn : Turn) → new ≡ trail ++ turn ∷ [] → before ≤ now → (IsTrue (is_faulty turn.answer) → Rose before now)
    → (first + faults_in trail ≤ before) ⊎ (2 ^ 64 - 1 ≤ before) → (first + faults_in new ≤ now) ⊎ (2 ^ 64 - 1 ≤ now)
counts_more first before now trail new turn is later rose counts =
    subst (λ (n : ℕ). (first + n ≤ now) ⊎ (2 ^ 64 - 1 ≤ now)) (sym (ap faults_in is ∙ faults_push trail turn)) (counts_by (is_faulty turn.answer) first before now (faults_in trail) later rose counts)

-- ---- the first opening

-- nothing is in doubt, nothing past the base has been applied, and nothing is gone
pub record IsFresh (l : Ledger) : Type 0 where
  pub clear : l.doubt ≡ None
  pub flat : l.base.doubt ≡ None
  pub unapplied : l.base.manifest.applied ≡ l.past.begin
  pub whole : l.floor ≡ l.past.begin
  pub numbered : IsNumbered l

pub opened_stands : (l : Ledger) (pins : List Pin) → IsFresh l → pins ≡ [] → state_of l pins ≡ opening (ground l)
opened_stands l pins fresh empty = λ i. record (opening (ground l)) { doubt = fresh.clear i; pins = empty i; applied = fresh.unapplied i; floor = fresh.whole i; turning = option_map applying (fresh.flat i); next = fresh.numbered i }

pub first_run : (limits : Limits) (x : View) (l : Ledger) (pins : List Pin) (trail : List Turn) → IsFresh l → pins ≡ [] → trail ≡ [] → Stored limits (opening (ground l)) (now x) → IsSoundState (opening (ground l)) → IsHistory limits (state_of l pins) x.clock [] x trail
first_run limits x l pins trail fresh empty none stored sound =
    subst (λ (t : List Turn). IsHistory limits (state_of l pins) x.clock [] x t) (sym none)
    (subst (λ (s : State). IsHistory limits s x.clock [] x []) (sym (opened_stands l pins fresh empty))
    (runs.first_opened (recover limits) (Keeps limits) counters (recovered_legal limits) (Stored limits) (stored_gives limits) limits x (ground l) stored sound))
