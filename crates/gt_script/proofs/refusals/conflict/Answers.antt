use Rattle.gt_script.proofs.refusals.conflict.Goals as goal

pub returns : goal.returns
returns c = rw (c.bytes.ensures.text, c.text-expected.ensures.digits, c.text-actual.ensures.digits) at c.line.ensures
