use Rattle.std.proofs.Common.{ℕ, List, sym, ap, ◌∙◌}
use Rattle.std.specs.Prelude.{nat_eq}
use Rattle.std.specs.List.{starts_with}
use Rattle.gt_verify.proofs.SortedLaws.{below_none, below_here, below_past}
use Rattle.gt_verify.proofs.sorted.SortedRefs.below.Goals as goal

pub returns-then-starts_with : goal.returns-then-starts_with
returns-then-starts_with c =
    below_here c.args.self.now c.args.text.now c.in-Some.found.now c.in-Some.ensures (ap (λ (x : List ℕ). starts_with nat_eq x c.args.text.now) (sym c.bytes.ensures.text) ∙ sym c.if-starts_with.ensures.value)

pub returns-else-starts_with : goal.returns-else-starts_with
returns-else-starts_with c =
    below_past c.args.self.now c.args.text.now c.in-Some.found.now c.in-Some.ensures (ap (λ (x : List ℕ). starts_with nat_eq x c.args.text.now) (sym c.bytes.ensures.text) ∙ sym c.if-starts_with.ensures.value)

pub returns-in-None : goal.returns-in-None
returns-in-None c = below_none c.args.self.now c.args.text.now c.in-None.ensures
