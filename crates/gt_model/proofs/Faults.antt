-- What the disk and memory can and cannot do to a step.
use Rattle.std.proofs.Common.{rules, ◌≡◌, ◌⊎◌, inl, inr, ℕ, ◌+◌, Bool, true, false, cond, ◌||◌, nat_le, List, [], ◌∷◌, length, take, None, Result, Ok, Err, sym, ap, subst}
use Rattle.gt_model.specs.declared.done.Done.{Done}
use Rattle.gt_model.specs.declared.entry.Entry.{Entry}
use Rattle.gt_model.specs.declared.event.Event.{Event}
use Rattle.gt_model.specs.declared.event.Event.TheVariants.{Apply}
use Rattle.gt_model.specs.declared.limits.Limits.{Limits}
use Rattle.gt_model.specs.declared.refusal.Refusal.{Refusal}
use Rattle.gt_model.specs.declared.refusal.Refusal.TheVariants.{DeviceFault, EpochFull}
use Rattle.gt_model.specs.Batches.{new_files}
use Rattle.gt_model.specs.Machine.{State, Pin, Applying, entries_past, has_no_number, Effect, refuses, applies, applied_by, effect, Ends, Fails, Acts, FailsToSettle, Step}
use Rattle.gt_model.proofs.Decided.{all_settled}

abbrev pub fault_of : Result Done Refusal → Refusal
fault_of (Ok done) = DeviceFault
fault_of (Err r) = r

never : (limits : Limits) (event : Event) (old new : State) → old.doubt ≡ None → old.turning ≡ None → FailsToSettle event old new → ⊥
never limits event old new clear flat fails = search rules

-- with nothing in doubt a step that fails fails as it acts
fault_acts : (limits : Limits) (event : Event) (old new : State) → old.doubt ≡ None → old.turning ≡ None → Step limits old event (Err DeviceFault) new → Acts limits old event (Err DeviceFault) new
fault_acts limits event old new clear flat (asked, inl (mid, settled, acts)) = subst (λ (s : State). Acts limits s event (Err DeviceFault) new) (all_settled event old mid clear flat settled) acts
fault_acts limits event old new clear flat (asked, inr (inl (said, fails))) = absurd (never limits event old new clear flat fails)
fault_acts limits event old new clear flat (asked, inr (inr (said, out))) = search rules

pub stands : (limits : Limits) (old new : State) (event : Event) (refusal : Refusal) (pins : List Pin) → old.doubt ≡ None → old.turning ≡ None → effect limits old event ≡ refuses refusal pins → Step limits old event (Err DeviceFault) new → refusal ≡ DeviceFault
stands limits old new event refusal pins clear flat is step = by (fault_acts limits event old new clear flat step)
  where
    by : Acts limits old event (Err DeviceFault) new → refusal ≡ DeviceFault
    by (inl ends) = let e : Ends (refuses refusal pins) old (Err DeviceFault) new = subst (λ (e : Effect). Ends e old (Err DeviceFault) new) is ends in sym (ap fault_of e.0)
    by (inr (inl (said, fails))) = absurd (subst (λ (e : Effect). Fails event e old new) is fails)
    by (inr (inr (said, out))) = search rules

-- what an application that failed leaves
pub record StaysBehind (old new : State) : Type 0 where
  pub applied : new.applied ≡ old.applied
  pub epoch : new.epoch ≡ old.epoch
  pub log : new.log ≡ old.log
  pub pins : new.pins ≡ old.pins
  pub floor : new.floor ≡ old.floor

behind : (old new : State) (a : Applying) (n : ℕ) → Fails (Apply n) (applies a) old new → StaysBehind old new
behind old new a n (inl is) = record { applied = ap (λ (s : State). s.applied) is; epoch = ap (λ (s : State). s.epoch) is; log = ap (λ (s : State). s.log) is; pins = ap (λ (s : State). s.pins) is; floor = ap (λ (s : State). s.floor) is }
behind old new a n (inr (inl is)) = record { applied = ap (λ (s : State). s.applied) is; epoch = ap (λ (s : State). s.epoch) is; log = ap (λ (s : State). s.log) is; pins = ap (λ (s : State). s.pins) is; floor = ap (λ (s : State). s.floor) is }
behind old new a n (inr (inr is)) = record { applied = ap (λ (s : State). s.applied) is; epoch = ap (λ (s : State). s.epoch) is; log = ap (λ (s : State). s.log) is; pins = ap (λ (s : State). s.pins) is; floor = ap (λ (s : State). s.floor) is }

pub stays : (limits : Limits) (old new : State) (n : ℕ) → old.doubt ≡ None → old.turning ≡ None → Step limits old (Apply n) (Err DeviceFault) new → StaysBehind old new
stays limits old new n clear flat step = by (fault_acts limits (Apply n) old new clear flat step)
  where
    cut : (b : Bool) (a : Applying) → Ends (cond b (refuses EpochFull old.pins) (applies a)) old (Err DeviceFault) new ⊎ Fails (Apply n) (cond b (refuses EpochFull old.pins) (applies a)) old new → StaysBehind old new
    cut true a (inl ends) = search rules
    cut true a (inr fails) = absurd fails
    cut false a (inl ends) = search rules
    cut false a (inr fails) = behind old new a n fails

    over : (entries : List Entry) → Ends (applied_by limits old entries) old (Err DeviceFault) new ⊎ Fails (Apply n) (applied_by limits old entries) old new → StaysBehind old new
    over [] (inl ends) = search rules
    over [] (inr fails) = search rules
    over (e ∷ es) h = cut (nat_le limits.epochs old.epoch || has_no_number old) (record { position = old.applied + length (e ∷ es); next = old.next + new_files (e ∷ es) }) h

    by : Acts limits old (Apply n) (Err DeviceFault) new → StaysBehind old new
    by (inl ends) = over (take n (entries_past old old.applied)) (inl ends)
    by (inr (inl (said, fails))) = over (take n (entries_past old old.applied)) (inr fails)
    by (inr (inr (said, out))) = search rules
