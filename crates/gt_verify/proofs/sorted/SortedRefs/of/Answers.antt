use Rattle.std.proofs.Common.{sym}
use Rattle.std.proofs.lemmas.List.Sorted.{list_any-IsPermutation}
use Rattle.gt_model.specs.Verdicts.{same_name}
use Rattle.gt_verify.proofs.sorted.SortedRefs.of.Goals as goal

pub returns-in-Ok : goal.returns-in-Ok
returns-in-Ok c = λ q. sym (list_any-IsPermutation (same_name q) _ _ c.in-Ok.ensures.permutation)
