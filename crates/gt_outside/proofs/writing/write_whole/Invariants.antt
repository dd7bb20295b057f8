use Rattle.std.proofs.Common.{◌≡◌, ◌≤◌, ◌-◌, length, take}
use Rattle.gt_outside.specs.Written.{AppendsAll}
use Rattle.gt_outside.proofs.writing.write_whole.Given as goal

-- the bytes before `at` are written
abbrev pub invariant-pieces : goal.invariant-pieces
invariant-pieces g l =
    let written = g.K.Sink.written in
    let faults = g.K.Sink.faults in
    record {
      within : l.at ≤ length l.bytes;
      done : AppendsAll (written l.fn.sink) (written l.sink) (take l.at l.bytes);
      same : faults l.sink ≡ faults l.fn.sink;
    }

abbrev pub decreases-pieces : goal.decreases-pieces
decreases-pieces g l = length l.bytes - l.at
