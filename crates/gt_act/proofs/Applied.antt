-- The parts of an application: both doubts are settled, and then it acts.
use Rattle.std.proofs.Common.{◌≡◌, inl, inr, ⊎_elim, true, IsTrue, ℕ, Option, Some, None, Result, Ok, Err, refl, sym, ◌∙◌, ap, subst}
use Rattle.std.specs.Prelude.{is_some}
use Rattle.gt_disk.specs.Files.{Files, States, View}
use Rattle.gt_disk.proofs.Steps.{since_join}
use Rattle.gt_base.specs.Recovery.{recover, Keeps, counters}
use Rattle.gt_history.proofs.Moves as moves
use Rattle.gt_history.proofs.Moves.{since_weaken, still_old}
use Rattle.gt_model.specs.declared.done.Done.{Done}
use Rattle.gt_model.specs.declared.event.Event.TheVariants.{Apply}
use Rattle.gt_model.specs.declared.limits.Limits.{Limits}
use Rattle.gt_model.specs.declared.refusal.Refusal.{Refusal}
use Rattle.gt_model.specs.declared.refusal.Refusal.TheVariants.{DeviceFault}
use Rattle.gt_model.specs.Machine.{State, Recovered, Applying, with_doubt, recovered_of, turned_by, SettledEntry, SettledTurn, MayRecover, Acts, Step}
use Rattle.gt_journal.specs.Applying.{AppliesTo}
use Rattle.gt_journal.specs.Histories.{Gives, GivesThis, GivesEither, Goes, GoesSettling}
use Rattle.gt_journal.specs.Ledger.{Stored}
use Rattle.gt_journal.specs.declared.apply_error.ApplyError.{ApplyError}
use Rattle.gt_journal.specs.declared.apply_error.ApplyError.TheVariants as why
use Rattle.gt_act.specs.Ended.{answer_of}
use Rattle.gt_act.specs.Turning.{ActsSure}
use Rattle.gt_act.specs.declared.ended.Ended.{Ended}
use Rattle.gt_act.specs.declared.ended.Ended.TheVariants as ended

-- ---- doubts

-- nothing is left to settle
pub entry_same : (s new : State) → s.doubt ≡ None → SettledEntry true s new → new ≡ s
entry_same s new clear (inl is) = is ∙ (λ i. record s { doubt = sym clear i })
entry_same s new clear (inr is) = is ∙ (λ i. record s { log = with_doubt s.log (clear i); doubt = sym clear i })

pub turn_same : (s new : State) → s.turning ≡ None → SettledTurn true s new → new ≡ s
turn_same s new flat (inl is) = is ∙ (λ i. record s { turning = sym flat i })
turn_same s new flat (inr is) = is ∙ ap (turned_by s) flat

turned_doubt : (s : State) (a : Option Applying) → (turned_by s a).doubt ≡ s.doubt
turned_doubt s None = refl
turned_doubt s (Some a) = refl

settled_doubt : (old mid : State) → old.doubt ≡ None → SettledTurn true old mid → mid.doubt ≡ None
settled_doubt old mid clear (inl is) = ap (λ (s : State). s.doubt) is ∙ clear
settled_doubt old mid clear (inr is) = ap (λ (s : State). s.doubt) is ∙ turned_doubt old old.turning ∙ clear

-- what a settled state may recover to the old one may recover to
may_recover_turned : (old mid : State) (r : Recovered) → old.doubt ≡ None → SettledTurn true old mid → mid.turning ≡ None → MayRecover mid r → MayRecover old r
may_recover_turned old mid r clear settled flat (entry, turn, one, two, is) =
    let entry_is : entry ≡ mid = entry_same mid entry (settled_doubt old mid clear settled) one in
    let turn_is : turn ≡ mid = turn_same mid turn flat (subst (λ (e : State). SettledTurn true e turn) entry_is two) in
    (old, mid, inl (λ i. record old { doubt = clear i }), settled, is ∙ ap recovered_of turn_is)

module _ (limits : Limits) where
  gives_turned : (old mid : State) (states : States) (image : Files) → old.doubt ≡ None → SettledTurn true old mid → mid.turning ≡ None → Gives limits mid states image → Gives limits old states image
  gives_turned old mid states image clear settled flat (r, is, may, keeps) = (r, is, may_recover_turned old mid r clear settled flat may, keeps)

  -- an application in doubt is settled, and then the event goes on
  pub turned_goes : (old mid new : State) (u v w : View) → old.doubt ≡ None → SettledTurn true old mid → mid.turning ≡ None → GoesSettling limits old mid u v → Goes limits mid new v w → Goes limits old new u w
  turned_goes old mid new u v w clear settled flat settling goes stored =
      let a = settling stored in
      let b = goes a.0 in (
        b.0,
        since_join (GivesEither limits old new) u v w (since_weaken (GivesThis limits old) (GivesEither limits old new) u v a.1 (still_old (recover limits) (Keeps limits) counters old new))
            (since_weaken (GivesEither limits mid new) (GivesEither limits old new) v w b.1 (λ states g. record {
              steady = g.steady;
              gives = λ image is. ⊎_elim (λ before. inl (gives_turned old mid states image clear settled flat before)) (λ after. inr after) (g.gives image is);
            })),
      )

  -- the disk failed while it was settled
  pub turning_goes : (old new : State) (v w : View) → GoesSettling limits old new v w → Goes limits old new v w
  turning_goes old new v w settling = moves.settling_still (recover limits) (Keeps limits) counters (Stored limits) old new new v w settling (λ stored. stored)

  -- an entry in doubt is settled, and then the event goes on
  pub entry_goes : (old mid new : State) (u v w : View) → SettledEntry true old mid → mid.doubt ≡ None → GoesSettling limits old mid u v → Goes limits mid new v w → Goes limits old new u w
  entry_goes old mid new u v w settled clear settling goes = moves.settled_moves (recover limits) (Keeps limits) counters (Stored limits) old mid new u v w settled clear settling goes

-- ---- steps

module _ (limits : Limits) (n : ℕ) where
  -- The application in doubt is settled, and then it acts.
  pub turn_acts : (old mid new : State) (answer : Result Done Refusal) → SettledTurn true old mid → Acts limits mid (Apply n) answer new → ActsSure limits old (Apply n) answer new
  turn_acts old mid new answer settled acts = inl (mid, settled, acts)

  -- The disk fails while it is settled.
  pub turn_fails : (old new : State) → IsTrue (is_some old.turning) → new ≡ old → ActsSure limits old (Apply n) (Err DeviceFault) new
  turn_fails old new doubted same = inr (refl, doubted, same)

  turning_of : (old mid : State) → SettledEntry true old mid → IsTrue (is_some mid.turning) → IsTrue (is_some old.turning)
  turning_of old mid (inl is) doubted = subst (λ (s : State). IsTrue (is_some s.turning)) is doubted
  turning_of old mid (inr is) doubted = subst (λ (s : State). IsTrue (is_some s.turning)) is doubted

  -- The entry in doubt is settled before.
  pub entry_steps : (old mid new : State) (answer : Result Done Refusal) → SettledEntry true old mid → ActsSure limits mid (Apply n) answer new → Step limits old (Apply n) answer new
  entry_steps old mid new answer settled (inl (turn, one, acts)) = (refl, inl (turn, (mid, settled, one), acts))
  entry_steps old mid new answer settled (inr (said, doubted, same)) = (refl, inr (inl (said, inr (turning_of old mid settled doubted, subst (SettledEntry true old) (sym same) settled))))

  -- The disk fails while that is settled.
  pub entry_fails : (old new : State) → IsTrue (is_some old.doubt) → new ≡ old → Step limits old (Apply n) (Err DeviceFault) new
  entry_fails old new doubted same = (refl, inr (inl (refl, inl (doubted, same))))

  -- how an application acts
  abbrev pub ended_of : Result ℕ ApplyError → Ended
  ended_of (Ok position) = ended.Applied position
  ended_of (Err why.EpochFull) = ended.EpochFull
  ended_of (Err why.Failed) = ended.DeviceFault
  ended_of (Err why.Memory) = ended.Memory

  pub acts_by : (s new : State) (result : Result ℕ ApplyError) → AppliesTo limits s n result new → Acts limits s (Apply n) (answer_of (ended_of result)) new
  acts_by s new (Ok position) ends = inl ends
  acts_by s new (Err why.EpochFull) ends = inl ends
  acts_by s new (Err why.Failed) fails = inr (inl (refl, fails))
  acts_by s new (Err why.Memory) same = inr (inr (refl, same))
