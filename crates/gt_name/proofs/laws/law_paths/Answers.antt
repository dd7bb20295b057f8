use Rattle.std.proofs.Common.{not}
use Rattle.gt_name.specs.Paths.{is_path_byte}
use Rattle.gt_name.proofs.LawsLemmas.{all_fail, kept_by_path, not_false}
use Rattle.gt_name.proofs.laws.law_paths.Goals as goal

pub returns-clause-bytes : goal.returns-clause-bytes
returns-clause-bytes c = λ t good k d within. not_false _ (all_fail (λ b. not (is_path_byte b)) t (kept_by_path t good) k d within)
