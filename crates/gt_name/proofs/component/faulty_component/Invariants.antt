-- What is left to scan gives the place of the whole, counted from here.
use Rattle.std.proofs.Common.{◌≡◌, ◌+◌, drop}
use Rattle.std.specs.Option.{option_map}
use Rattle.gt_name.specs.Components.{faulty_component, faulty_from}
use Rattle.gt_name.proofs.component.faulty_component.Given as goal

abbrev pub invariant-loop-at : goal.invariant-loop-at
invariant-loop-at l = faulty_component l.fault l.text ≡ option_map (λ k. l.at + k) (faulty_from l.fault l.begins (drop l.at l.text))
