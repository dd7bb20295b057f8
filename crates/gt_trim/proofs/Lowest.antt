-- The least position of live transactions.
use Rattle.std.proofs.Common.{◌≡◌, ◌≤◌, ℕ, List, [], ◌∷◌, refl, fold, min, arith, map as map_list}
use Rattle.gt_model.specs.Machine.{Pin}
use Rattle.gt_pins.specs.Live.{ReadIn, pin_of}
use Rattle.gt_pins.specs.declared.live.LivePin.{LivePin}

-- the least of this position and of theirs
abbrev pub least_of : ℕ → List Pin → ℕ
least_of least pins = fold (λ low p. min low p.position) least pins

-- it is that of their pins
pub least_of_pins : (least : ℕ) (live : List LivePin) → fold (λ low p. min low p.position) least live ≡ least_of least (map_list pin_of live)
least_of_pins least [] = refl
least_of_pins least (p ∷ ps) = least_of_pins (min least p.position) ps

pub least_below : (least : ℕ) (pins : List Pin) → least_of least pins ≤ least
least_below least [] = omega arith
least_below least (p ∷ ps) = omega (arith, least_below (min least p.position) ps)

-- where each reads from the floor on, so does the least
pub least_from : (floor front least : ℕ) (pins : List Pin) → floor ≤ least → ReadIn floor front pins → floor ≤ least_of least pins
least_from floor front least [] le read = le
least_from floor front least (p ∷ ps) le read = least_from floor front (min least p.position) ps (omega (arith, le, read.0.0)) read.1

-- each reads from the least on
pub least_read : (floor front least : ℕ) (pins : List Pin) → ReadIn floor front pins → ReadIn (least_of least pins) front pins
least_read floor front least [] read = tt
least_read floor front least (p ∷ ps) read = ((omega (arith, least_below (min least p.position) ps), read.0.1), least_read floor front (min least p.position) ps read.1)
