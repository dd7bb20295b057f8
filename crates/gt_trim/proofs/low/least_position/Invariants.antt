use Rattle.std.proofs.Common.{◌≡◌, drop, fold, min}
use Rattle.gt_trim.proofs.low.least_position.Given as goal

-- what is left leads to the same
abbrev pub invariant-loop-pin : goal.invariant-loop-pin
invariant-loop-pin l = fold (λ low p. min low p.position) l.low (drop l.pin-index l.pins) ≡ fold (λ low p. min low p.position) l.least l.pins
