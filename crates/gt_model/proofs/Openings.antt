-- What files may recover to has a front of the log that was written, and is in order once it is opened.
use Rattle.std.proofs.Common.{◌≡◌, inl, inr, ℕ, ◌+◌, ◌-◌, ◌≤◌, max, true, List, [], ◌∷◌, ◌++◌, length, take, drop, Option, Some, None, refl, sym, ◌∙◌, ap, subst, arith, append-nil, append_assoc}
use Rattle.std.proofs.lemmas.List.{take-append-drop, length-take, length-drop}
use Rattle.gt_model.specs.declared.entry.Entry.{Entry}
use Rattle.gt_model.specs.Contents.{Content, after_all}
use Rattle.gt_model.specs.Batches.{next_past, file_of}
use Rattle.gt_model.specs.Machine.{State, Recovered, Applying, line, front, opening, recovered_of, turned_by, SettledEntry, SettledTurn, MayRecover, Settles, IsInOrder}
use Rattle.gt_model.specs.Histories.{IsPart}
use Rattle.gt_model.proofs.Steps.{grown_longer, entry_grows, turn_grows, line_more}

next_above : (next : ℕ) (log : List Entry) → next ≤ next_past next log
next_above next [] = omega arith
next_above next (e ∷ es) = omega (arith, next_above (max next (file_of e.change + 1)) es)

-- an opening is in order
pub opening_order : (r : Recovered) → IsInOrder (opening r)
opening_order r = record {
  base_first = omega arith;
  floor_kept = omega arith;
  applied_is_there = omega arith;
  numbers = next_above r.next r.log;
  live = tt;
  doubted = tt;
  turn = tt;
}

-- what is settled has a line that begins with its log, in which the log of the old state is the first part
record Within (old new : State) : Type 0 where
  pub order : IsInOrder new
  pub begin : new.begin ≡ old.begin
  pub base : new.base ≡ old.base
  pub rest : List Entry
  pub whole : line old ≡ new.log ++ rest
  pub longer : front old ≤ front new

entry_within : (old new : State) → IsInOrder old → SettledEntry true old new → Within old new
entry_within old new order (inl is) =
    let g = entry_grows true old new order (inl is) in
    record { order = g.order; begin = g.begin; base = g.base; rest = (line_more old).0; whole = (line_more old).1 ∙ ap (λ (l : List Entry). l ++ (line_more old).0) (sym (ap (λ (s : State). s.log) is)); longer = grown_longer old new g }
entry_within old new order (inr is) =
    let g = entry_grows true old new order (inr is) in
    record { order = g.order; begin = g.begin; base = g.base; rest = []; whole = sym (append-nil (line old)) ∙ ap (λ (l : List Entry). l ++ []) (sym (ap (λ (s : State). s.log) is)); longer = grown_longer old new g }

turned_log : (s : State) (turning : Option Applying) → (turned_by s turning).log ≡ s.log
turned_log s None = refl
turned_log s (Some a) = refl

turn_log : (old new : State) → SettledTurn true old new → new.log ≡ old.log
turn_log old new (inl is) = ap (λ (s : State). s.log) is
turn_log old new (inr is) = ap (λ (s : State). s.log) is ∙ turned_log old old.turning

settled_within : (old entry new : State) → Within old entry → SettledTurn true entry new → Within old new
settled_within old entry new within turn =
    let g = turn_grows true entry new within.order turn in
    record {
      order = g.order;
      begin = g.begin ∙ within.begin;
      base = g.base ∙ within.base;
      rest = within.rest;
      whole = within.whole ∙ ap (λ (l : List Entry). l ++ within.rest) (sym (turn_log entry new turn));
      longer = omega (arith, within.longer, grown_longer entry new g);
    }

-- an opening of what a settled state has on disk
reopened_part : (old s : State) → Within old s → IsPart old (opening (recovered_of s))
reopened_part old s within =
    let cut : ℕ = s.applied - s.begin in
    let parts : take cut s.log ++ drop cut s.log ≡ s.log = take-append-drop cut s.log in
    let order = within.order in
    let size : length (take cut s.log) ≡ cut = omega (arith, length-take cut s.log, order.applied_is_there, order.base_first, order.floor_kept) in
    record {
      passed = take cut s.log;
      rest = within.rest;
      whole = within.whole ∙ ap (λ (l : List Entry). l ++ within.rest) (sym parts) ∙ append_assoc (take cut s.log) (drop cut s.log) within.rest;
      begin = let is : s.applied ≡ old.begin + length (take cut s.log) = omega (arith, size, order.base_first, order.floor_kept, within.begin) in is;
      base = ap (λ (c : Content). after_all c (take cut s.log)) within.base;
      longer = omega (arith, within.longer, length-drop cut s.log, order.applied_is_there, order.base_first, order.floor_kept);
    }

pub may_recover_part : (old : State) (r : Recovered) → IsInOrder old → MayRecover old r → IsPart old (opening r)
may_recover_part old r order (entry, turn, one, two, is) =
    subst (λ (x : Recovered). IsPart old (opening x)) (sym is) (reopened_part old turn (settled_within old entry turn (entry_within old entry order one) two))

pub opening_part : (old new : State) → IsInOrder old → Settles old new → IsInOrder new × IsPart old new
opening_part old new order (r, may, is) =
    (subst IsInOrder (sym is) (opening_order r), subst (λ (x : State). IsPart old x) (sym is) (may_recover_part old r order may))
