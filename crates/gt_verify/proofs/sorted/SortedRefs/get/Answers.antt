use Rattle.std.proofs.Common.{ℕ, List, ap, ◌∙◌}
use Rattle.gt_model.specs.Verdicts.{same_name}
use Rattle.gt_verify.proofs.SortedLaws.{get_none, get_other}
use Rattle.gt_verify.proofs.sorted.SortedRefs.get.Goals as goal

pub returns-else-eq : goal.returns-else-eq
returns-else-eq c = get_other c.args.self.now c.args.text.now c.in-Some.found.now c.in-Some.ensures (c.if-eq.ensures ∙ ap (λ (x : List ℕ). same_name x c.args.text.now) c.bytes.ensures.text)

pub returns-in-None : goal.returns-in-None
returns-in-None c = get_none c.args.self.now c.args.text.now c.in-None.ensures
