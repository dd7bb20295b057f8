use Rattle.gt_manifest.proofs.ManifestLemmas.{manifest_again}
use Rattle.gt_manifest.proofs.laws.law_a_manifest_is_read_again.Goals as goal

pub returns : goal.returns
returns c = manifest_again
