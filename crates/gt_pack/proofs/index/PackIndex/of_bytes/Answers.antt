use Rattle.std.proofs.Common.{sym, ap, ◌∙◌, arith}
use Rattle.gt_pack.specs.Reading.{pack_of}
use Rattle.gt_pack.proofs.WholeLaws.{pack_takes, pack_again}
use Rattle.gt_pack.proofs.RiseLaws.{index_rises}
use Rattle.gt_pack.proofs.index.PackIndex.of_bytes.Goals as goal

pub invariant_of-result : goal.invariant_of-result
invariant_of-result c = index_rises c.args.bytes.now (λ i. omega (arith, c.type_inv.bytes i)) _ c.in-Ok.ensures.value

pub returns-in-Ok-clause-found : goal.returns-in-Ok-clause-found
returns-in-Ok-clause-found c = pack_takes c.args.bytes.now (λ i. omega (arith, c.type_inv.bytes i)) _ c.in-Ok.ensures.value

pub returns-in-Ok-clause-only : goal.returns-in-Ok-clause-only
returns-in-Ok-clause-only c = λ ps good is. sym (ap pack_of is ∙ pack_again ps good) ∙ c.in-Ok.ensures.value

pub returns-in-Err-BadField-clause-only : goal.returns-in-Err-BadField-clause-only
returns-in-Err-BadField-clause-only c =
    let h = rw c.in-Err-BadField.field-0-is at c.in-Err-BadField.ensures.value in
    λ ps good is. sym (ap pack_of is ∙ pack_again ps good) ∙ h
