-- What is known not to be a fault isn't one.
use Rattle.std.proofs.Common.{◌≡◌, ℕ, false, Result, refl, arith}
use Rattle.gt_model.specs.declared.done.Done.{Done}
use Rattle.gt_model.specs.declared.refusal.Refusal.{Refusal}
use Rattle.gt_model.specs.Machine.{is_faulty}
use Rattle.gt_act.specs.Causes.{CallCause}

pub sure_cause : (n : ℕ) (answer : Result Done Refusal) → is_faulty answer ≡ false → CallCause n n answer
sure_cause n answer sure = record { later = omega arith; fault = λ is. absurd (cc (sure, is)); sure = λ _. refl }
