use Rattle.std.proofs.Common.{◌≡◌, ◌-◌, length}
use Rattle.gt_model.specs.Machine.{free_number, free_from}
use Rattle.gt_pins.proofs.live.Live.least_free.Given as goal

abbrev pub invariant-loop-number : goal.invariant-loop-number
invariant-loop-number l = record {
  len : l.len ≡ length l.self;
  free : free_number l.self ≡ free_from l.self l.number (l.len - l.number);
}
