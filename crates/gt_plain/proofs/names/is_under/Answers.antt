use Rattle.std.proofs.Common.{◌∙◌, ap, ap₂, nat_eq, codes}
use Rattle.std.specs.List.{starts_with}
use Rattle.gt_model.specs.Verdicts.{is_under}
use Rattle.gt_plain.proofs.Folders.{under_some, under_none}
use Rattle.gt_plain.proofs.names.is_under.Goals as goal

pub returns-in-Some : goal.returns-in-Some
returns-in-Some c =
    c.starts_with.ensures.value ∙ ap (λ rest. starts_with nat_eq rest (codes "/")) c.in-Some.ensures.cases.1 ∙ under_some c.bytes.result.now c.bytes-2.result.now c.in-Some.ensures.cases.0
    ∙ ap₂ is_under c.bytes.ensures.text c.bytes-2.ensures.text

pub returns-in-None : goal.returns-in-None
returns-in-None c = under_none c.bytes.result.now c.bytes-2.result.now c.in-None.ensures.cases ∙ ap₂ is_under c.bytes.ensures.text c.bytes-2.ensures.text
