use Rattle.gt_manifest.proofs.ManifestLemmas.{no_front}
use Rattle.gt_manifest.proofs.laws.law_no_manifest_begins_another.Goals as goal

pub returns : goal.returns
returns c = no_front
