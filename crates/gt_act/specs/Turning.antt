-- An event that settles an application in doubt, where no entry is in doubt.
use Rattle.std.specs.Prelude.{◌≡◌, ◌⊎◌, true, is_some, IsTrue, Result, Err}
use Rattle.gt_model.specs.declared.done.Done.{Done}
use Rattle.gt_model.specs.declared.event.Event.{Event}
use Rattle.gt_model.specs.declared.limits.Limits.{Limits}
use Rattle.gt_model.specs.declared.refusal.Refusal.{Refusal}
use Rattle.gt_model.specs.declared.refusal.Refusal.TheVariants.{DeviceFault}
use Rattle.gt_model.specs.Machine.{State, SettledTurn, Acts}

-- It is settled, and then the event acts; or the disk fails before.
abbrev pub ActsSure : Limits → State → Event → Result Done Refusal → State → Type 0
ActsSure limits s event answer new = ((mid : State) × SettledTurn true s mid × Acts limits mid event answer new) ⊎ ((answer ≡ Err DeviceFault) × IsTrue (is_some s.turning) × (new ≡ s))
