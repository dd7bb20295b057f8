use Rattle.std.proofs.Common.{◌≡◌, false, length, ltb, arith, refl}
use Rattle.std.proofs.lemmas.Bool.Decides.{nat_tests}
use Rattle.gt_name.specs.References.{is_forbidden}
use Rattle.gt_name.proofs.LawsLemmas.{all_fail, failed, passed, kept_by_reference}
use Rattle.gt_name.proofs.laws.law_references.Goals as goal

pub returns-clause-short : goal.returns-clause-short
returns-clause-short c = λ t good.
    let short : ltb 1024 (length t) ≡ false = failed _ 1024 (kept_by_reference t good).0 in
    grind (arith, nat_tests)

pub returns-clause-begins : goal.returns-clause-begins
returns-clause-begins c = λ t good. passed _ 0 (kept_by_reference t good).1

pub returns-clause-bytes : goal.returns-clause-bytes
returns-clause-bytes c = λ t good k d within. rw (all_fail is_forbidden t (kept_by_reference t good).2 k d within) refl
