-- The parts of an event, one after the other.
use Rattle.std.proofs.Common.{◌≡◌, inl, inr, ⊎_elim, true, ℕ, List, None, Result, sym, ◌∙◌, ap, subst, arith}
use Rattle.gt_disk.specs.declared.file_id.FileId.{FileId}
use Rattle.gt_disk.specs.Files.{Files, States, View, now, Quiet}
use Rattle.gt_disk.specs.Moments.{Since}
use Rattle.gt_disk.proofs.Steps.{since_join, since_none}
use Rattle.gt_model.specs.Machine.{State, Recovered, line, with_doubt, SettledEntry, MayRecover}
use Rattle.gt_history.specs.Crash.{Gives, GivesThis, GivesEither}
use Rattle.gt_history.specs.Runs.{Moves, Settling}

pub since_weaken : (P Q : States → Type 0) (v w : View) → Since P v w → ((s : States) → P s → Q s) → Since Q v w
since_weaken P Q v w s imp = record { later = s.later; past = s.past; each = λ m lt le. imp (w.at m) (s.each m lt le) }

-- where no entry is in doubt nothing is left to settle
settled_same : (s new : State) → s.doubt ≡ None → SettledEntry true s new → new ≡ s
settled_same s new clear (inl is) = is ∙ cleared
  where
    cleared : record s { doubt = None } ≡ s
    cleared = λ i. record s { doubt = sym clear i }
settled_same s new clear (inr is) = is ∙ cleared
  where
    cleared : record s { log = line s; doubt = None } ≡ s
    cleared = λ i. record s { log = with_doubt s.log (clear i); doubt = sym clear i }

-- what a settled state may recover to the old one may recover to
pub may_recover_settled : (old mid : State) (r : Recovered) → SettledEntry true old mid → mid.doubt ≡ None → MayRecover mid r → MayRecover old r
may_recover_settled old mid r settled clear (entry, turn, one, two, is) =
    (entry, turn, subst (SettledEntry true old) (sym (settled_same mid entry clear one)) settled, two, is)

module _ {B : Type 0} (recover : Files → Result Recovered B) (Keeps : Files → States → Type 0) (counters : List FileId) where
  abbrev GivesThisOf : State → States → Type 0
  GivesThisOf = GivesThis recover Keeps counters

  abbrev GivesEitherOf : State → State → States → Type 0
  GivesEitherOf = GivesEither recover Keeps counters

  gives_settled : (old mid : State) (states : States) (image : Files) → SettledEntry true old mid → mid.doubt ≡ None → Gives recover Keeps counters mid states image → Gives recover Keeps counters old states image
  gives_settled old mid states image settled clear (r, is, may, keeps) = (r, is, may_recover_settled old mid r settled clear may, keeps)

  -- each image gives the old state still
  pub still_old : (old new : State) (states : States) → GivesThisOf old states → GivesEitherOf old new states
  still_old old new states g = record { steady = g.steady; gives = λ image is. inl (g.gives image is) }

  module _ (Stored : State → States → Type 0) where
    abbrev MovesOf : State → State → View → View → Type 0
    MovesOf = Moves recover Keeps counters Stored

    abbrev SettlingOf : State → State → View → View → Type 0
    SettlingOf = Settling recover Keeps counters Stored

    -- no call of the disk, and the files have the new state as they had the old
    pub moves_still : (old new : State) (v : View) → (Stored old (now v) → Stored new (now v)) → MovesOf old new v v
    moves_still old new v stays stored = (stays stored, since_none (GivesEitherOf old new) v)

    -- the disk was read
    pub moves_quiet : (old new : State) (v w : View) → Quiet v w → (Stored old (now v) → Stored new (now v)) → MovesOf old new v w
    moves_quiet old new v w quiet stays stored =
        let here : now w ≡ now v = ap (λ (k : ℕ). w.at k) quiet.clock ∙ ap (λ (a : ℕ → States). a v.clock) quiet.at in (
          subst (Stored new) (sym here) (stays stored),
          record { later = omega (arith, quiet.clock); past = λ m le. ap (λ (a : ℕ → States). a m) quiet.at; each = λ m lt le. absurd (omega (arith, lt, le, quiet.clock)) },
        )

    -- what was in doubt is settled, and then the files have the new state as they had the settled one
    pub settling_still : (old mid new : State) (v w : View) → SettlingOf old mid v w → (Stored mid (now w) → Stored new (now w)) → MovesOf old new v w
    settling_still old mid new v w settling stays stored =
        let a = settling stored in
        (stays a.0, since_weaken (GivesThisOf old) (GivesEitherOf old new) v w a.1 (still_old old new))

    -- what was in doubt is settled, and then the event goes on
    pub settled_moves : (old mid new : State) (u v w : View) → SettledEntry true old mid → mid.doubt ≡ None → SettlingOf old mid u v → MovesOf mid new v w → MovesOf old new u w
    settled_moves old mid new u v w settled clear settling moves stored =
        let a = settling stored in
        let b = moves a.0 in
        (b.0, since_join (GivesEitherOf old new) u v w (since_weaken (GivesThisOf old) (GivesEitherOf old new) u v a.1 (still_old old new)) (since_weaken (GivesEitherOf mid new) (GivesEitherOf old new) v w b.1 later))
      where
        later : (states : States) → GivesEitherOf mid new states → GivesEitherOf old new states
        later states g = record {
          steady = g.steady;
          gives = λ image is. ⊎_elim (λ before. inl (gives_settled old mid states image settled clear before)) (λ after. inr after) (g.gives image is);
        }
