-- What is made of that which is read fails where the reading does.
use Rattle.std.proofs.Common.{ℕ, Result, Ok, Err}
use Rattle.gt_script.specs.declared.error.LineError.{LineError}
use Rattle.gt_script.specs.declared.error.LineError.TheVariants.{BadLine, Memory}
use Rattle.gt_script.specs.Words.{if_good}
use Rattle.gt_script.specs.Answers.{Fails}

pub made_fails : {A B : Type 0} (f : A → B) (read : Result A ℕ) (e : LineError) → Fails read e → Fails (if_good read (λ a. Ok (f a))) e
made_fails f (Ok a) Memory h = h
made_fails f (Err at) Memory h = h
made_fails f (Ok a) (BadLine place) h = absurd cc
made_fails f (Err at) (BadLine place) h = cc
