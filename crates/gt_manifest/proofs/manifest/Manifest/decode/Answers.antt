use Rattle.std.proofs.Common.{arith}
use Rattle.gt_manifest.proofs.ManifestLemmas.{is_found, is_read}
use Rattle.gt_manifest.proofs.SecondLemmas.{is_written}
use Rattle.gt_manifest.proofs.manifest.Manifest.decode.Goals as goal

pub returns-clause-found : goal.returns-clause-found
returns-clause-found c = is_found c.args.bytes.now c.read_manifest.result (λ i. omega (arith, c.type_inv.bytes i)) c.read_manifest.ensures.value

pub returns-clause-fits : goal.returns-clause-fits
returns-clause-fits c = is_written c.args.bytes.now c.read_manifest.result (returns-clause-found c)

pub returns-clause-only : goal.returns-clause-only
returns-clause-only c = λ v m fits is. is_read c.args.bytes.now c.read_manifest.result v m fits is c.read_manifest.ensures.value
