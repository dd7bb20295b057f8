use Rattle.gt_script.proofs.NumberLaws.{number-read, number-only}
use Rattle.gt_script.proofs.laws.numbers_are_their_digits.Goals as goal

pub returns-clause-read : goal.returns-clause-read
returns-clause-read c = number-read

pub returns-clause-only : goal.returns-clause-only
returns-clause-only c = λ low high n w. number-only low high n w
