-- A history is safe at each of its moments.
use Rattle.std.proofs.Common.{◌≡◌, inl, inr, ⊎_elim, ℕ, ◌+◌, ◌<◌, ◌≤◌, max, Bool, true, false, nat_lt, cond, List, [], ◌∷◌, Result, Ok, refl, sym, ◌∙◌, ap, subst, arith}
use Rattle.std.proofs.lemmas.Bool.{cases_lt}
use Rattle.std.proofs.lemmas.Bool.Decides.{nat_tests}
use Rattle.gt_disk.specs.declared.file_id.FileId.{FileId}
use Rattle.gt_disk.specs.Files.{Files, States, IsImage}
use Rattle.gt_model.specs.declared.limits.Limits.{Limits}
use Rattle.gt_model.specs.Contents.{IsLegal}
use Rattle.gt_model.specs.Machine.{State, Recovered, IsInOrder, opening, front}
use Rattle.gt_model.specs.Histories.{Happening, tick, state, acks, last_tick, last_state, acked, around, IsRun}
use Rattle.gt_model.proofs.Runs.{run_acked, run_order}
use Rattle.gt_sound.specs.Sound.{IsSoundState}
use Rattle.gt_sound.proofs.Steps.{may_recover_sound}
use Rattle.gt_history.specs.Crash.{IsSafe, Ascends, AreSteady, Gives, GivesThis, GivesEither}
use Rattle.gt_history.specs.Runs.{Run}
use Rattle.gt_history.proofs.Parts.{recovered_on, recovered_long}

pub lt_true : (m n : ℕ) → m < n → nat_lt m n ≡ true
lt_true m n lt = grind (arith, nat_tests)

pub lt_false : (m n : ℕ) → n ≤ m → nat_lt m n ≡ false
lt_false m n le = grind (arith, nat_tests)

-- what is one is one
pub same_ok : {A B : Type 0} (r : Result A B) (a b : A) → r ≡ Ok a → r ≡ Ok b → a ≡ b
same_ok r a b one other = let ok : Ok a ≡ Ok b = sym one ∙ other in cc ok

module _ {B : Type 0} (recover : Files → Result Recovered B) (Keeps : Files → States → Type 0) (counters : List FileId) where
  abbrev GivesOf : State → States → Files → Type 0
  GivesOf = Gives recover Keeps counters

  abbrev GivesThisOf : State → States → Type 0
  GivesThisOf = GivesThis recover Keeps counters

  abbrev GivesEitherOf : State → State → States → Type 0
  GivesEitherOf = GivesEither recover Keeps counters

  abbrev RunOf : Limits → State → ℕ → (ℕ → States) → List Happening → Type 0
  RunOf = Run recover Keeps counters

  -- the machine's part of a run
  pub is_run : (limits : Limits) (start : State) (begin : ℕ) (at : ℕ → States) (history : List Happening) → RunOf limits start begin at history → IsRun limits start history
  is_run limits start begin at [] run = run.1
  is_run limits start begin at (h ∷ older) run = (is_run limits start begin at older run.0, run.1)

  -- its moments
  pub run_ascends : (limits : Limits) (start : State) (begin : ℕ) (at : ℕ → States) (history : List Happening) → RunOf limits start begin at history → Ascends begin history
  run_ascends limits start begin at [] run = tt
  run_ascends limits start begin at (h ∷ older) run = (run_ascends limits start begin at older run.0, run.2.later)

  pub run_in_order : (limits : Limits) (start : State) (begin : ℕ) (at : ℕ → States) (history : List Happening) → RunOf limits start begin at history → IsInOrder (last_state start history)
  run_in_order limits start begin at history run = run_order limits start history (is_run limits start begin at history run)

  acked_le : (limits : Limits) (start : State) (begin : ℕ) (at : ℕ → States) (history : List Happening) → RunOf limits start begin at history → (m : ℕ) → acked start history m ≤ front (last_state start history)
  acked_le limits start begin at history run m = run_acked limits start history m (is_run limits start begin at history run)

  -- what a run has come to is sound
  pub run_sound : (limits : Limits) (start : State) (begin : ℕ) (at : ℕ → States) (history : List Happening) → RunOf limits start begin at history → IsSoundState (last_state start history)
  run_sound limits start begin at [] run = run.2
  run_sound limits start begin at (h ∷ older) run = run.2.sound

  -- what comes later leaves a history as it was
  pub run_past : (limits : Limits) (start : State) (begin : ℕ) (at next : ℕ → States) (history : List Happening) → ((m : ℕ) → m ≤ last_tick begin history → next m ≡ at m) → RunOf limits start begin at history → RunOf limits start begin next history
  run_past limits start begin at next [] past run = (subst (λ (x : States). GivesThisOf start x) (sym (past begin (omega arith))) run.0, run.1, run.2)
  run_past limits start begin at next (h ∷ older) past run = (
    run_past limits start begin at next older (λ m le. past m (omega (arith, le, run.2.later))) run.0,
    run.1,
    record {
      later = run.2.later;
      during = λ m lt le. subst (λ (x : States). GivesEitherOf (last_state start older) (state h) x) (sym (past m le)) (run.2.during m lt le);
      end = subst (λ (x : States). GivesThisOf (state h) x) (sym (past (tick h) (omega arith))) run.2.end;
      sound = run.2.sound;
    },
  )

  pub begins_before : (limits : Limits) (start : State) (begin : ℕ) (at : ℕ → States) (history : List Happening) → RunOf limits start begin at history → begin ≤ last_tick begin history
  begins_before limits start begin at [] run = omega arith
  begins_before limits start begin at (h ∷ older) run = omega (arith, begins_before limits start begin at older run.0, run.2.later)

  -- what counts is steady at each moment of a run
  pub run_steady : (limits : Limits) (start : State) (begin : ℕ) (at : ℕ → States) (history : List Happening) → RunOf limits start begin at history → (m : ℕ) → begin ≤ m → m ≤ last_tick begin history → AreSteady recover Keeps counters (at m)
  run_steady limits start begin at [] run m ge le =
      let here : begin ≡ m = omega (arith, ge, le) in
      subst (λ (k : ℕ). AreSteady recover Keeps counters (at k)) here run.0.steady
  run_steady limits start begin at (h ∷ older) run m ge le = elim (cases_lt (last_tick begin older) m) [
    | inl later ↦ (run.2.during m later le).steady
    | inr earlier ↦ run_steady limits start begin at older run.0 m ge earlier
  ]

  -- after the last happening the last state stands
  around_after : (start : State) (begin : ℕ) (history : List Happening) (m : ℕ) → last_tick begin history < m → around start begin history m ≡ (last_state start history, last_state start history)
  around_after start begin [] m lt = refl
  around_after start begin (h ∷ older) m lt =
      ap (λ (b : Bool). cond b (state h, state h) (cond (nat_lt (last_tick begin older) m) (last_state start older, state h) (around start begin older m))) (lt_true (tick h) m lt)

  -- what an image recovers to is safe, and its files are still
  abbrev pub Safely : ℕ → State × State → States → Files → Type 0
  Safely n both states image = (r : Recovered) × (recover image ≡ Ok r) × IsSafe n both.0 both.1 r × Keeps image states

  -- what a state gives at one moment it gives at the same moment
  gives_at : (s : State) (at : ℕ → States) (m n : ℕ) → m ≡ n → GivesThisOf s (at n) → GivesThisOf s (at m)
  gives_at s at m n same gives = subst (λ (k : ℕ). GivesThisOf s (at k)) (sym same) gives

  -- where each entry of what recovers fits
  module _ (legal : (image : Files) (r : Recovered) → recover image ≡ Ok r → IsLegal r.base (r.applied + 1) r.log) where
    from_old : (n : ℕ) (old new : State) (states : States) (image : Files) → n ≤ front old → IsInOrder old → IsSoundState old → GivesOf old states image → Safely n (old, new) states image
    from_old n old new states image le order sound (r, is, may, keeps) = (
      r,
      is,
      record { all = omega (arith, le, recovered_long old r order may); one = inl (recovered_on old r order may); legal = legal image r is; sound = may_recover_sound old r order may sound },
      keeps,
    )

    from_new : (n : ℕ) (old new : State) (states : States) (image : Files) → n ≤ front new → IsInOrder new → IsSoundState new → GivesOf new states image → Safely n (old, new) states image
    from_new n old new states image le order sound (r, is, may, keeps) = (
      r,
      is,
      record { all = omega (arith, le, recovered_long new r order may); one = inr (recovered_on new r order may); legal = legal image r is; sound = may_recover_sound new r order may sound },
      keeps,
    )

    -- a happening that took no time
    raised : (a n : ℕ) (both : State × State) (new : State) (states : States) (image : Files) → Safely a both states image → n ≤ front new → IsInOrder new → GivesOf new states image → Safely n both states image
    raised a n both new states image (r, is, is_safe, keeps) le order (r2, is2, may, keeps2) =
        let same : r2 ≡ r = same_ok (recover image) r2 r is2 is in
        let long : front new ≤ front (opening r) = subst (λ (x : Recovered). front new ≤ front (opening x)) same (recovered_long new r2 order may) in
        (r, is, record { all = omega (arith, le, long); one = is_safe.one; legal = is_safe.legal; sound = is_safe.sound }, keeps)

    pub safe : (limits : Limits) (start : State) (begin : ℕ) (at : ℕ → States) (history : List Happening) → RunOf limits start begin at history → (m : ℕ) → begin ≤ m → m ≤ last_tick begin history
        → (image : Files) → IsImage (at m) image → Safely (acked start history m) (around start begin history m) (at m) image
    safe limits start begin at [] run m ge le image is =
        let here : m ≡ begin = omega (arith, ge, le) in
        from_old (front start) start start (at m) image (omega arith) run.1 run.2 ((gives_at start at m begin here run.0).gives image is)
    safe limits start begin at (h ∷ older) run m ge le image is =
        let u = last_tick begin older in
        let old = last_state start older in
        let low = acked_le limits start begin at older run.0 m in
        let old_order = run_in_order limits start begin at older run.0 in
        let new_order = run_in_order limits start begin at (h ∷ older) run in
        let not_after : nat_lt (tick h) m ≡ false = lt_false (tick h) m le in
        let top = acked_le limits start begin at (h ∷ older) run m in
        elim (cases_lt u m) [
          | inl later ↦
              let both : around start begin (h ∷ older) m ≡ (old, state h) =
              ap (λ (b : Bool). cond b (state h, state h) (cond (nat_lt u m) (old, state h) (around start begin older m))) not_after
              ∙ ap (λ (b : Bool). cond b (old, state h) (around start begin older m)) (lt_true u m later) in
              subst (λ (p : State × State). Safely (acked start (h ∷ older) m) p (at m) image) (sym both) (elim (cases_lt m (tick h)) [
                | inl early ↦
                    let same : acked start (h ∷ older) m ≡ acked start older m = ap (λ (b : Bool). max (cond b 0 (acks h)) (acked start older m)) (lt_true m (tick h) early) ∙ (let e : max 0 (acked start older m) ≡ acked start older m = omega arith in e) in
                    ⊎_elim
                    (λ gives. from_old (acked start (h ∷ older) m) old (state h) (at m) image (omega (arith, same, low)) old_order (run_sound limits start begin at older run.0) gives)
                    (λ gives. from_new (acked start (h ∷ older) m) old (state h) (at m) image top new_order run.2.sound gives)
                    ((run.2.during m later le).gives image is)
                | inr late ↦
                    let here : m ≡ tick h = omega (arith, late, le) in
                    from_new (acked start (h ∷ older) m) old (state h) (at m) image top new_order run.2.sound ((gives_at (state h) at m (tick h) here run.2.end).gives image is)
              ])
          | inr earlier ↦
              let both : around start begin (h ∷ older) m ≡ around start begin older m =
              ap (λ (b : Bool). cond b (state h, state h) (cond (nat_lt u m) (old, state h) (around start begin older m))) not_after
              ∙ ap (λ (b : Bool). cond b (old, state h) (around start begin older m)) (lt_false u m earlier) in
              elim (cases_lt m (tick h)) [
                | inl early ↦
                    let same : acked start (h ∷ older) m ≡ acked start older m = ap (λ (b : Bool). max (cond b 0 (acks h)) (acked start older m)) (lt_true m (tick h) early) ∙ (let e : max 0 (acked start older m) ≡ acked start older m = omega arith in e) in
                    subst (λ (p : State × State). Safely (acked start (h ∷ older) m) p (at m) image) (sym both)
                    (subst (λ (n : ℕ). Safely n (around start begin older m) (at m) image) (sym same) (safe limits start begin at older run.0 m ge earlier image is))
                | inr late ↦
                    let here : m ≡ tick h = omega (arith, late, le) in
                    subst (λ (p : State × State). Safely (acked start (h ∷ older) m) p (at m) image) (sym both)
                    (raised (acked start older m) (acked start (h ∷ older) m) (around start begin older m) (state h) (at m) image (safe limits start begin at older run.0 m ge earlier image is) top new_order
                    ((gives_at (state h) at m (tick h) here run.2.end).gives image is))
              ]
        ]

    pub safe_after : (limits : Limits) (start : State) (begin : ℕ) (at : ℕ → States) (history : List Happening) → RunOf limits start begin at history → (m : ℕ) → last_tick begin history < m
        → (states : States) (image : Files) → GivesOf (last_state start history) states image → Safely (acked start history m) (around start begin history m) states image
    safe_after limits start begin at history run m lt states image gives =
        subst (λ (p : State × State). Safely (acked start history m) p states image) (sym (around_after start begin history m lt))
        (from_new (acked start history m) (last_state start history) (last_state start history) states image (acked_le limits start begin at history run m) (run_in_order limits start begin at history run) (run_sound limits start begin at history run) gives)
