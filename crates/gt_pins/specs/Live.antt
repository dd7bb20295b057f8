-- Live transactions, as the machine has them.
use Rattle.std.specs.Prelude.{◌≤◌, ℕ, List, [], ◌∷◌}
use Rattle.std.specs.Coded.{×_prop, le_prop, Unit-prop}
use Rattle.gt_model.specs.Machine.{Pin, reading}
use Rattle.gt_pins.specs.declared.live.LivePin.{LivePin}

abbrev pub pin_of : LivePin → Pin
pin_of p = reading p.number p.position p.path

-- each of these reads a position from the one up to the other
abbrev pub ReadIn : ℕ → ℕ → List Pin → Type 0
ReadIn floor front [] = Unit {0}
ReadIn floor front (p ∷ ps) = ((floor ≤ p.position) × (p.position ≤ front)) × ReadIn floor front ps

-- That they do has one proof at most, so that a ghost field may say it.
pub reads_in : (floor front : ℕ) (pins : List Pin) → IsProp (ReadIn floor front pins)
reads_in floor front [] = Unit-prop
reads_in floor front (p ∷ ps) = ×_prop (×_prop le_prop le_prop) (reads_in floor front ps)
