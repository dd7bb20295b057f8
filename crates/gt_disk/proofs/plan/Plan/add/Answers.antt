use Rattle.std.proofs.Common.{◌≡◌, ◌≤◌, ◌+◌, ◌∷◌, ◌++◌, [], ℕ, List, length, take, get_or, nat_cmp, ap, sym, ◌∙◌, arith}
use Rattle.std.proofs.lemmas.List.{take_more}
use Rattle.std.specs.Ordering.{is_eq}
use Rattle.std.specs.BTreeMap as tree
use Rattle.std.specs.Map.{lookup}
use Rattle.std.specs.Prelude.{Option}
use Rattle.std.proofs.lemmas.Grind.{common_steps}
use Rattle.gt_disk.specs.Plan.{listed}
use Rattle.gt_disk.specs.declared.fault.Fault.{Fault}
use Rattle.gt_disk.proofs.Planned.{planned_step, same_entries}
use Rattle.gt_disk.proofs.plan.Plan.add.Goals as goal

pub loop-fault-init : goal.loop-fault-init
loop-fault-init c =
    let same : c.in_ok-more.more.entries ≡ c.args.self.now.faults.entries = same_entries _ _ c.in_ok-more.ensures.cases in
    record {
      planned = λ call. ap (λ (es : List (ℕ × ℕ)). lookup (λ k. is_eq (nat_cmp call k)) es) same;
      len = omega (arith, ap length same);
    }

pub loop-fault-preserved : goal.loop-fault-preserved
loop-fault-preserved c =
    let fault : Fault = get_or c.args.faults.now c.loop-fault.fault-index (record { call = 0; kept = 0 }) in
    let front : List Fault = take c.loop-fault.fault-index c.args.faults.now in
    let longer : take (c.loop-fault.fault-index + 1) c.args.faults.now ≡ front ++ fault ∷ [] = take_more c.args.faults.now c.loop-fault.fault-index (record { call = 0; kept = 0 }) c.loop-fault-test.true in
    let before : ℕ → Option ℕ = λ call. tree.get nat_cmp c.args.self.now.faults call in
    let planned : (call : ℕ) → tree.get nat_cmp c.insert.new.self call ≡ listed (front ++ fault ∷ []) call (before call) =
    planned_step c.loop-fault.more c.insert.new.self front fault before c.in_default.ensures.updates.0 c.loop-fault.invariant.planned in
    let len : tree.btree_map_len c.insert.new.self ≤ tree.btree_map_len c.loop-fault.more + 1 = grind (arith, common_steps) in
    record {
      planned = λ call. planned call ∙ ap (λ (l : List Fault). listed l call (before call)) (sym longer);
      len = omega arith;
    }
