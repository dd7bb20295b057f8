-- What the files of a state may recover to has the contents of that state.
use Rattle.std.proofs.Common.{◌≡◌, ℕ, suc, ◌+◌, ◌-◌, ◌≤◌, List, [], ◌∷◌, ◌++◌, length, take, sym, ◌∙◌, ap, arith, length-append}
use Rattle.std.proofs.lemmas.List.{take-append-le}
use Rattle.gt_model.specs.declared.entry.Entry.{Entry}
use Rattle.gt_model.specs.Contents.{Content, after_all}
use Rattle.gt_model.specs.Machine.{State, Recovered, MayRecover, IsInOrder, opening, front, line, line_at, content_at}
use Rattle.gt_model.specs.Histories.{IsPart}
use Rattle.gt_model.proofs.Logs.{after_all-append}
use Rattle.gt_model.proofs.Openings.{may_recover_part}
use Rattle.gt_history.specs.Crash.{IsOn}

take_past : (one two : List Entry) (k : ℕ) → take (length one + k) (one ++ two) ≡ one ++ take k two
take_past [] two k = ap (λ (n : ℕ). take n two) (let e : 0 + k ≡ k = omega arith in e)
take_past (e ∷ es) two k = ap (λ (n : ℕ). take n (e ∷ (es ++ two))) (let is : length (e ∷ es) + k ≡ suc (length es + k) = omega arith in is) ∙ ap (λ (l : List Entry). e ∷ l) (take_past es two k)

part_content : (old new : State) (p : IsPart old new) (position : ℕ) → new.begin ≤ position → position ≤ front new → content_at new position ≡ line_at old position
part_content old new p position ge le =
    let k : ℕ = position - new.begin in
    let at : position - old.begin ≡ length p.passed + k = omega (arith, p.begin, ge) in
    let within : k ≤ length new.log = omega (arith, le, ge) in
    sym (
    ap (λ (n : ℕ). after_all old.base (take n (line old))) at
    ∙ ap (λ (l : List Entry). after_all old.base (take (length p.passed + k) l)) p.whole
    ∙ ap (after_all old.base) (take_past p.passed (new.log ++ p.rest) k)
    ∙ after_all-append old.base p.passed (take k (new.log ++ p.rest))
    ∙ ap (after_all (after_all old.base p.passed)) (take-append-le k new.log p.rest within)
    ∙ ap (λ (c : Content). after_all c (take k new.log)) (sym p.base)
    )

pub recovered_on : (s : State) (r : Recovered) → IsInOrder s → MayRecover s r → IsOn s (opening r)
recovered_on s r order may =
    let p = may_recover_part s r order may in
    record {
      begins = omega (arith, p.begin);
      within = omega (arith, p.begin, ap length p.whole, length-append p.passed (r.log ++ p.rest), length-append r.log p.rest);
      each = part_content s (opening r) p;
    }

pub recovered_long : (s : State) (r : Recovered) → IsInOrder s → MayRecover s r → front s ≤ front (opening r)
recovered_long s r order may = (may_recover_part s r order may).longer
