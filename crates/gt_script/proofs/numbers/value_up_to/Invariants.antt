use Rattle.std.proofs.Common.{◌≡◌, ◌≤◌, drop}
use Rattle.gt_script.specs.Values.{digits_value}
use Rattle.gt_script.proofs.numbers.value_up_to.Given as goal

abbrev pub invariant-loop-byte : goal.invariant-loop-byte
invariant-loop-byte l = record { small : l.value ≤ l.high; same : digits_value l.value (drop l.byte-index l.word) ≡ digits_value 0 l.word }
