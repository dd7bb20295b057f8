use Rattle.std.proofs.Common.{refl}
use Rattle.std.proofs.lemmas.Result.{err_from_is_err_and}
use Rattle.gt_manifest.proofs.FirstLemmas.{path_of_owner}
use Rattle.gt_manifest.proofs.reading.read_repo.Goals as goal

pub returns-in_err-packs-clause-memory : goal.returns-in_err-packs-clause-memory
returns-in_err-packs-clause-memory c =
    let p = err_from_is_err_and c.from_residual-in_err-packs.result c.from_residual-in_err-packs.ensures.1 in
    rw p.1 (λ is. path_of_owner c.args.bytes.now c.args.before.now c.args.at (rw c.in_ok-path.ensures.value refl))
