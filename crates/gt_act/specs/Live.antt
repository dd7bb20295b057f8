-- How the live transactions of a partition change.
use Rattle.std.specs.Prelude.{◌≡◌, ℕ, Bool, true, false, List, Option, Some, None, Result, Ok, Err}
use Rattle.gt_model.specs.declared.done.Done.{Done}
use Rattle.gt_model.specs.declared.refusal.Refusal.{Refusal}
use Rattle.gt_model.specs.Machine.{Pin, released}
use Rattle.gt_pins.specs.Ends.{ends}

-- A pin of this number is given with what was done, and none with a refusal.
abbrev pub GivesPin : Result Done Refusal → Option ℕ → ℕ → Type 0
GivesPin (Ok done) pin number = pin ≡ Some number
GivesPin (Err refusal) pin number = pin ≡ None

-- the pin and the live transactions after a commit
abbrev pub Ended : Bool → ℕ → Option ℕ → List Pin → List Pin → Type 0
Ended true pin pass old new = (pass ≡ None) × (new ≡ released old pin)
Ended false pin pass old new = (pass ≡ Some pin) × (new ≡ old)

-- A commit's answer ends its transaction, or leaves it.
abbrev pub EndsBy : Result Done Refusal → ℕ → Option ℕ → List Pin → List Pin → Type 0
EndsBy answer pin pass old new = Ended (ends answer) pin pass old new
