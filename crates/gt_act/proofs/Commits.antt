-- How a commit leaves the live transactions.
use Rattle.std.proofs.Common.{◌≡◌, inl, inr, ℕ, Bool, true, false, cond, List, Some, None, Result, Ok, Err, refl, sym, ◌∙◌, ap, subst, ◌+◌}
use Rattle.gt_model.specs.declared.added.Added.{Added}
use Rattle.gt_model.specs.declared.change.Change.TheVariants.{Write}
use Rattle.gt_model.specs.declared.done.Done.{Done}
use Rattle.gt_model.specs.declared.done.Done.TheVariants.{Finished, Committed}
use Rattle.gt_model.specs.declared.entry.Entry.{Entry}
use Rattle.gt_model.specs.declared.event.Event.TheVariants.{Commit}
use Rattle.gt_model.specs.declared.limits.Limits.{Limits}
use Rattle.gt_model.specs.declared.refusal.Refusal.{Refusal}
use Rattle.gt_model.specs.declared.refusal.Refusal.TheVariants.{LogFull}
use Rattle.gt_model.specs.declared.update.RefUpdate.{RefUpdate}
use Rattle.gt_model.specs.Contents.{Content}
use Rattle.gt_model.specs.Verdicts.{Staged, Ready, verdict, added_records}
use Rattle.gt_model.specs.Machine.{Pin, State, content, released, is_live, is_empty, settles, pin_of, is_full, refuses, answers, adds, committed, effect, Ends, Fails, Acts, SettledEntry, Step, with_pins, next_entry, front, is_fault}
use Rattle.gt_pins.specs.Ends.{ends}
use Rattle.gt_pins.proofs.Numbers.{released_gone}
use Rattle.gt_write.proofs.Refusals.{verdict_has}
use Rattle.gt_act.specs.Live.{Ended}

-- ---- a check that fails ends the transaction

-- It ends the transaction, and is no fault.
abbrev IsEnd : Refusal → Type 0
IsEnd refusal = (ends (Err refusal) ≡ true) × (is_fault refusal ≡ false)

pub verdict_ends : (c : Content) (path : List ℕ) (s : Staged) (refusal : Refusal) → verdict c path s ≡ Err refusal → IsEnd refusal
verdict_ends c path s refusal is = verdict_has IsEnd (refl, refl) (λ name expected actual. (refl, refl)) (λ name existing. (refl, refl)) (λ name needer. (refl, refl)) c path s refusal is

-- ---- the transactions after a commit

-- the one is gone, or all live on
abbrev pub Leaves : Bool → ℕ → List Pin → List Pin → Type 0
Leaves true pin old new = new ≡ released old pin
Leaves false pin old new = new ≡ old

abbrev LeavesBy : Result Done Refusal → ℕ → List Pin → List Pin → Type 0
LeavesBy answer pin old new = Leaves (ends answer) pin old new

gone : (answer : Result Done Refusal) (pin : ℕ) (old new : List Pin) → ends answer ≡ true → new ≡ released old pin → LeavesBy answer pin old new
gone answer pin old new is same = subst (λ (b : Bool). Leaves b pin old new) (sym is) same

stays : (answer : Result Done Refusal) (pin : ℕ) (old new : List Pin) → ends answer ≡ false → new ≡ old → LeavesBy answer pin old new
stays answer pin old new is same = subst (λ (b : Bool). Leaves b pin old new) (sym is) same

module _ (limits : Limits) (pin : ℕ) (refs : List RefUpdate) (records : List Added) where
  abbrev staged : Staged
  staged = record { refs = refs; records = records }

  pins_are : (s new : State) (pins : List Pin) → new ≡ with_pins s pins → new.pins ≡ pins
  pins_are s new pins is = ap (λ (s : State). s.pins) is

  committed_ends : (s new : State) (answer : Result Done Refusal) (v : Result Ready Refusal) → verdict (content s) (pin_of s pin).path staged ≡ v → Ends (committed limits s pin staged v) s answer new → LeavesBy answer pin s.pins new.pins
  committed_ends s new answer (Err refusal) is (said, same) =
      gone answer pin s.pins new.pins (ap ends said ∙ (verdict_ends (content s) (pin_of s pin).path staged refusal is).0) (pins_are s new (released s.pins pin) same)
  committed_ends s new answer (Ok ready) is done = by (is_full limits s) done
    where
      e : Entry
      e = next_entry s (pin_of s pin).path (Write ready.refs ready.needed (added_records (content s) (pin_of s pin).path staged))

      by : (b : Bool) → Ends (cond b (refuses LogFull s.pins) (adds e (Committed (front s + 1)) (released s.pins pin))) s answer new → LeavesBy answer pin s.pins new.pins
      by true (said, same) = stays answer pin s.pins new.pins (ap ends said) (pins_are s new s.pins same)
      by false (inl (said, same)) = gone answer pin s.pins new.pins (ap ends said) (ap (λ (s : State). s.pins) same)
      by false (inr (said, same)) = gone answer pin s.pins new.pins (ap ends said) (ap (λ (s : State). s.pins) same)

  committed_stays : (s new : State) (v : Result Ready Refusal) → Fails (Commit pin refs records) (committed limits s pin staged v) s new → new ≡ s
  committed_stays s new (Err refusal) fails = absurd fails
  committed_stays s new (Ok ready) fails = by (is_full limits s) fails
    where
      e : Entry
      e = next_entry s (pin_of s pin).path (Write ready.refs ready.needed (added_records (content s) (pin_of s pin).path staged))

      by : (b : Bool) → Fails (Commit pin refs records) (cond b (refuses LogFull s.pins) (adds e (Committed (front s + 1)) (released s.pins pin))) s new → new ≡ s
      by true fails = absurd fails
      by false is = is

  effect_ends : (s new : State) (answer : Result Done Refusal) → Ends (effect limits s (Commit pin refs records)) s answer new → LeavesBy answer pin s.pins new.pins
  effect_ends s new answer done = by (is_empty refs records) done
    where
      by : (b : Bool) → Ends (cond b (answers (Finished (pin_of s pin).position) (released s.pins pin)) (committed limits s pin staged (verdict (content s) (pin_of s pin).path staged))) s answer new → LeavesBy answer pin s.pins new.pins
      by true (said, same) = gone answer pin s.pins new.pins (ap ends said) (pins_are s new (released s.pins pin) same)
      by false e = committed_ends s new answer (verdict (content s) (pin_of s pin).path staged) refl e

  effect_stays : (s new : State) → Fails (Commit pin refs records) (effect limits s (Commit pin refs records)) s new → new ≡ s
  effect_stays s new fails = by (is_empty refs records) fails
    where
      by : (b : Bool) → Fails (Commit pin refs records) (cond b (answers (Finished (pin_of s pin).position) (released s.pins pin)) (committed limits s pin staged (verdict (content s) (pin_of s pin).path staged))) s new → new ≡ s
      by true (object, is) = is
      by false f = committed_stays s new (verdict (content s) (pin_of s pin).path staged) f

  acts_ends : (s new : State) (answer : Result Done Refusal) → Acts limits s (Commit pin refs records) answer new → LeavesBy answer pin s.pins new.pins
  acts_ends s new answer (inl done) = effect_ends s new answer done
  acts_ends s new answer (inr (inl (said, fails))) = stays answer pin s.pins new.pins (ap ends said) (ap (λ (s : State). s.pins) (effect_stays s new fails))
  acts_ends s new answer (inr (inr (said, same))) = stays answer pin s.pins new.pins (ap ends said) (ap (λ (s : State). s.pins) same)

  entry_pins : (b : Bool) (s new : State) → SettledEntry b s new → new.pins ≡ s.pins
  entry_pins false s new is = ap (λ (s : State). s.pins) is
  entry_pins true s new (inl is) = ap (λ (s : State). s.pins) is
  entry_pins true s new (inr is) = ap (λ (s : State). s.pins) is

  pub commit_ends : (s new : State) (answer : Result Done Refusal) → Step limits s (Commit pin refs records) answer new → LeavesBy answer pin s.pins new.pins
  commit_ends s new answer (asked, inl (mid, (entry, one, two), acts)) =
      let same : mid.pins ≡ s.pins = ap (λ (s : State). s.pins) two ∙ entry_pins (settles (Commit pin refs records)) s entry one in
      subst (λ (pins : List Pin). LeavesBy answer pin pins new.pins) same (acts_ends mid new answer acts)
  commit_ends s new answer (asked, inr (inl (said, inl (doubt, same)))) = stays answer pin s.pins new.pins (ap ends said) (ap (λ (s : State). s.pins) same)
  commit_ends s new answer (asked, inr (inl (said, inr (never, one)))) = absurd (cc never)
  commit_ends s new answer (asked, inr (inr (said, same))) = stays answer pin s.pins new.pins (ap ends said) (ap (λ (s : State). s.pins) same)

-- ---- the pin

-- A pin that is still live is kept, and its transaction lives on.
pub pin_kept : (b : Bool) (pin : ℕ) (old new : List Pin) → Leaves b pin old new → is_live new pin ≡ true → Ended b pin (Some pin) old new
pin_kept true pin old new same live = absurd (cc (live, ap (λ (pins : List Pin). is_live pins pin) same, released_gone old pin))
pin_kept false pin old new same live = (refl, same)

-- One that isn't is gone, and so is its transaction.
pub pin_gone : (b : Bool) (pin : ℕ) (old new : List Pin) → Leaves b pin old new → is_live old pin ≡ true → is_live new pin ≡ false → Ended b pin None old new
pin_gone true pin old new same live dead = (refl, same)
pin_gone false pin old new same live dead = absurd (cc (live, dead, ap (λ (pins : List Pin). is_live pins pin) same))
