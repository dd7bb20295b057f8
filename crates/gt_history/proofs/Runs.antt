-- How a history goes on.
use Rattle.std.proofs.Common.{◌≡◌, inl, inr, ℕ, ◌+◌, ◌<◌, ◌≤◌, List, [], ◌∷◌, ◌++◌, reverse, Result, Ok, refl, sym, ◌∙◌, ap, subst, arith}
use Rattle.std.specs.List.{AllByRecursion}
use Rattle.std.proofs.lemmas.Bool.{cases_lt}
use Rattle.std.proofs.lemmas.List.{reverse-append}
use Rattle.gt_disk.specs.declared.file_id.FileId.{FileId}
use Rattle.gt_disk.specs.Files.{Files, States, View, now, IsImage, still}
use Rattle.gt_disk.specs.Moments.{Since, Narrows}
use Rattle.gt_model.specs.declared.limits.Limits.{Limits}
use Rattle.gt_model.specs.declared.turn.Turn.{Turn}
use Rattle.gt_model.specs.Contents.{IsLegal}
use Rattle.gt_model.specs.Machine.{State, Recovered, Settles, MayRecover, IsInOrder, opening}
use Rattle.gt_model.specs.Histories.{Happening, event, opened, last_tick, last_state, Happens}
use Rattle.gt_model.proofs.Openings.{opening_order}
use Rattle.gt_sound.specs.Sound.{IsSoundState, IsKnown}
use Rattle.gt_sound.proofs.Steps.{step_on_any_sound, may_recover_sound}
use Rattle.gt_history.specs.Crash.{IsSteady, Gives, GivesThis, GivesEither, IsGood, CrashAt, Holds}
use Rattle.gt_history.specs.Runs.{KeepsPast, Moves, Run, IsHistory}
use Rattle.gt_history.proofs.Safe.{same_ok, is_run, run_ascends, safe, safe_after, run_steady, run_past, run_sound, run_in_order}

reverse-push : (trail : List Turn) (turn : Turn) → turn ∷ reverse trail ≡ reverse (trail ++ turn ∷ [])
reverse-push trail turn = sym (reverse-append trail (turn ∷ []))

-- ---- the past

pub past_since : (P : States → Type 0) (v w : View) → Since P v w → KeepsPast v w
past_since P v w s = record { clock = s.later; at = s.past }

pub past_same : (v : View) → KeepsPast v v
past_same v = record { clock = omega arith; at = λ m le. refl }

pub past_join : (u v w : View) → KeepsPast u v → KeepsPast v w → KeepsPast u w
past_join u v w p q = record { clock = omega (arith, p.clock, q.clock); at = λ m le. q.at m (omega (arith, p.clock)) ∙ p.at m le }

-- what a stop has left is the one image of itself
pub one_image : (files image : Files) → IsImage (λ file. still (files file)) image → image ≡ files
one_image files image is = λ i file. is file i

all_still : (files : Files) (counters : List FileId) → AllByRecursion (λ f. IsSteady (still (files f))) counters
all_still files [] = tt
all_still files (f ∷ fs) = (tt, all_still files fs)

module _ {B : Type 0} (recover : Files → Result Recovered B) (Keeps : Files → States → Type 0) (counters : List FileId) where
  abbrev GivesThisOf : State → States → Type 0
  GivesThisOf = GivesThis recover Keeps counters

  abbrev GivesEitherOf : State → State → States → Type 0
  GivesEitherOf = GivesEither recover Keeps counters

  abbrev IsGoodOf : States → Type 0
  IsGoodOf = IsGood recover Keeps counters

  -- ---- moments at which no stop can leave anything new, and the disk may still be handed in

  -- what a state gave before, it gives at each of them
  pub gives_since : (s : State) (v w : View) → GivesThisOf s (now v) → Narrows v w → Since IsGoodOf v w → (m : ℕ) → v.clock < m → m ≤ w.clock → GivesThisOf s (w.at m)
  gives_since s v w before narrows good m lt le =
      let g = good.each m lt le in
      record { steady = g.steady; gives = λ image is. by m image (g.each image is) (before.gives image (narrows.each m lt le image is)) }
    where
      by : (m : ℕ) (image : Files) → (r : Recovered) × (recover image ≡ Ok r) × Keeps image (w.at m) × IsSoundState (opening r) → Gives recover Keeps counters s (now v) image → Gives recover Keeps counters s (w.at m) image
      by m image (r, is, keeps, sound) (r2, is2, may, keeps2) = (r, is, subst (MayRecover s) (same_ok (recover image) r2 r is2 is) may, keeps)

  -- at the end too
  pub gives_end : (s : State) (v w : View) → GivesThisOf s (now v) → Narrows v w → Since IsGoodOf v w → GivesThisOf s (now w)
  gives_end s v w before narrows good = elim (cases_lt v.clock w.clock) [
    | inl lt ↦ gives_since s v w before narrows good w.clock lt (omega arith)
    | inr ge ↦
        let same : w.clock ≡ v.clock = omega (arith, ge, narrows.later) in
        subst (λ (x : States). GivesThisOf s x) (sym (ap (λ (k : ℕ). w.at k) same ∙ narrows.past v.clock (omega arith))) before
  ]

  pub good_end : (v w : View) → IsGoodOf (now v) → Since IsGoodOf v w → IsGoodOf (now w)
  good_end v w good since = elim (cases_lt v.clock w.clock) [
    | inl lt ↦ since.each w.clock lt (omega arith)
    | inr ge ↦
        let same : w.clock ≡ v.clock = omega (arith, ge, since.later) in
        subst (λ (s : States). IsGoodOf s) (sym (ap (λ (k : ℕ). w.at k) same ∙ since.past v.clock (omega arith))) good
  ]

  -- ---- disks that may be handed in

  -- what a sound state gives may be handed in
  pub given_good : (s : State) (states : States) → IsInOrder s → IsSoundState s → GivesThisOf s states → IsGoodOf states
  given_good s states order sound gives = record { steady = gives.steady; each = λ image is. by (gives.gives image is) }
    where
      by : {image : Files} → Gives recover Keeps counters s states image → (r : Recovered) × (recover image ≡ Ok r) × Keeps image states × IsSoundState (opening r)
      by (r, is, may, keeps) = (r, is, keeps, may_recover_sound s r order may sound)

  -- what a stop leaves may be handed in, where what is still keeps what it recovers to
  pub stop_good : ((image : Files) (r : Recovered) → recover image ≡ Ok r → Keeps image (λ file. still (image file))) → (states : States) (files : Files) → IsGoodOf states → IsImage states files → IsGoodOf (λ file. still (files file))
  stop_good stays states files good left =
      record { steady = all_still files counters; each = λ image is. by image (one_image files image is) (good.each files left) }
    where
      by : (image : Files) → image ≡ files → (r : Recovered) × (recover files ≡ Ok r) × Keeps files states × IsSoundState (opening r) → (r : Recovered) × (recover image ≡ Ok r) × Keeps image (λ file. still (files file)) × IsSoundState (opening r)
      by image same (r, is, keeps, sound) =
          let here = ap recover same ∙ is in
          (r, here, subst (λ (x : Files). Keeps image (λ file. still (x file))) same (stays image r here), sound)

  -- what a disk shows that gives a state, it may recover to
  pub shown_settles : (s : State) (v : View) (r : Recovered) → GivesThisOf s (now v) → IsImage (now v) v.reads → recover v.reads ≡ Ok r → Settles s (opening r)
  shown_settles s v r gives shows is = by (gives.gives v.reads shows)
    where
      by : Gives recover Keeps counters s (now v) v.reads → Settles s (opening r)
      by (r2, is2, may, keeps) = (r, subst (MayRecover s) (same_ok (recover v.reads) r2 r is2 is) may, refl)

  -- ---- histories

  module _
      (legal : (image : Files) (r : Recovered) → recover image ≡ Ok r → IsLegal r.base (r.applied + 1) r.log)
      (Stored : State → States → Type 0) (stored_gives : (s : State) (states : States) → Stored s states → GivesThisOf s states) where
    abbrev Going : Limits → State → ℕ → List Happening → View → List Turn → Type 0
    Going = IsHistory recover Keeps counters Stored

    module _ (limits : Limits) (start : State) (begin : ℕ) (history : List Happening) (v : View) (trail : List Turn) (going : Going limits start begin history v trail) where
      -- the state that it has come to
      abbrev here : State
      here = last_state start history

      pub going_sound : IsSoundState here
      going_sound = run_sound recover Keeps counters limits start begin v.at history going.run

      pub going_order : IsInOrder here
      going_order = run_in_order recover Keeps counters limits start begin v.at history going.run

      pub going_gives : GivesThisOf here (now v)
      going_gives = stored_gives here (now v) going.stored

      pub going_good : IsGoodOf (now v)
      going_good = given_good here (now v) going_order going_sound going_gives

      pub event_more : (w : View) (new : State) (turn : Turn) → turn.tick ≡ w.clock → IsKnown turn.event → Happens limits here (event turn new) → Moves recover Keeps counters Stored here new v w
          → Going limits start begin (event turn new ∷ history) w (trail ++ turn ∷ [])
      event_more w new turn tick_is known step moves =
          let m = moves going.stored in
          let since : Since (GivesEitherOf here new) v w = m.1 in
          let u_is : last_tick begin history ≡ v.clock = going.clock in
          record {
            stored = m.0;
            run = (
              run_past recover Keeps counters limits start begin v.at w.at history (λ k le. since.past k (omega (arith, le, u_is))) going.run,
              step,
              record {
                later = omega (arith, u_is, tick_is, since.later);
                during = λ k lt le. since.each k (omega (arith, lt, u_is)) (omega (arith, le, tick_is));
                end = subst (λ (k : ℕ). GivesThisOf new (w.at k)) (sym tick_is) (stored_gives new (now w) m.0);
                sound = step_on_any_sound limits here new turn.event step.0 known (inl step.1) going_sound;
              },
            );
            events = ap (λ (l : List Turn). turn ∷ l) going.events ∙ reverse-push trail turn;
            clock = tick_is;
          }

      pub past_event : (w : View) (new : State) → Moves recover Keeps counters Stored here new v w → KeepsPast v w
      past_event w new moves = past_since (GivesEitherOf here new) v w (moves going.stored).1

      pub opened_more : (w : View) (r : Recovered) → MayRecover here r → Narrows v w → Since IsGoodOf v w → Stored (opening r) (now w) → Going limits start begin (opened w.clock (opening r) ∷ history) w []
      opened_more w r may narrows good stored =
          let u_is : last_tick begin history ≡ v.clock = going.clock in
          record {
            stored = stored;
            run = (
              run_past recover Keeps counters limits start begin v.at w.at history (λ k le. narrows.past k (omega (arith, le, u_is))) going.run,
              (r, may, refl),
              record {
                later = omega (arith, u_is, narrows.later);
                during = λ k lt le.
                    let g = gives_since here v w going_gives narrows good k (omega (arith, lt, u_is)) le in
                    record { steady = g.steady; gives = λ image is. inl (g.gives image is) };
                end = stored_gives (opening r) (now w) stored;
                sound = may_recover_sound here r going_order may going_sound;
              },
            );
            events = refl;
            clock = refl;
          }

      -- at each moment of a run the disk may be handed in
      run_good : (m : ℕ) → begin ≤ m → m ≤ last_tick begin history → IsGoodOf (v.at m)
      run_good m ge le = record {
        steady = run_steady recover Keeps counters limits start begin v.at history going.run m ge le;
        each = λ image is.
            let g = safe recover Keeps counters legal limits start begin v.at history going.run m ge le image is in
            (g.0, g.1, g.3, g.2.sound);
      }

      run_crash : (m : ℕ) → begin ≤ m → m ≤ last_tick begin history → CrashAt recover Keeps counters start begin v.at history m
      run_crash m ge le image is =
          let g = safe recover Keeps counters legal limits start begin v.at history going.run m ge le image is in
          (g.0, g.1, g.2)

      pub holds_now : Holds recover Keeps counters limits start begin history v
      holds_now = record {
        run = is_run recover Keeps counters limits start begin v.at history going.run;
        ascends = run_ascends recover Keeps counters limits start begin v.at history going.run;
        past = omega (arith, going.clock);
        crash = λ m ge le. run_crash m ge (omega (arith, le, going.clock));
        good = λ m ge le. run_good m ge (omega (arith, le, going.clock));
        ends = going_gives;
      }

    -- what has happened still holds where a stop can leave nothing new
    pub holds_later : (limits : Limits) (start : State) (begin : ℕ) (history : List Happening) (v w : View) (trail : List Turn) → Going limits start begin history v trail → Narrows v w → Since IsGoodOf v w → Holds recover Keeps counters limits start begin history w
    holds_later limits start begin history v w trail going narrows good =
        let u_is : last_tick begin history ≡ v.clock = going.clock in
        let before = holds_now limits start begin history v trail going in
        let last : State = last_state start history in
        let past : Run recover Keeps counters limits start begin w.at history = run_past recover Keeps counters limits start begin v.at w.at history (λ k le. narrows.past k (omega (arith, le, u_is))) going.run in
        let still_there : (k : ℕ) → k ≤ v.clock → w.at k ≡ v.at k = narrows.past in
        record {
          run = is_run recover Keeps counters limits start begin w.at history past;
          ascends = run_ascends recover Keeps counters limits start begin w.at history past;
          past = omega (arith, u_is, narrows.later);
          crash = λ m ge le. elim (cases_lt v.clock m) [
            | inl lt ↦ (λ image is.
                let g = safe_after recover Keeps counters legal limits start begin w.at history past m (omega (arith, lt, u_is)) (w.at m) image ((gives_since last v w before.ends narrows good m lt le).gives image is) in
                (g.0, g.1, g.2))
            | inr not ↦ (λ image is.
                let g = safe recover Keeps counters legal limits start begin w.at history past m ge (omega (arith, not, u_is)) image is in
                (g.0, g.1, g.2))
          ];
          good = λ m ge le. elim (cases_lt v.clock m) [
            | inl lt ↦ good.each m lt le
            | inr not ↦ subst IsGoodOf (sym (still_there m not)) (before.good m ge not)
          ];
          ends = gives_end last v w before.ends narrows good;
        }

    -- the first opening
    pub first_opened : (limits : Limits) (x : View) (r : Recovered) → Stored (opening r) (now x) → IsSoundState (opening r) → Going limits (opening r) x.clock [] x []
    first_opened limits x r stored sound = record { stored = stored; run = (stored_gives (opening r) (now x) stored, opening_order r, sound); events = refl; clock = refl }
