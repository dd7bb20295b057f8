use Rattle.std.proofs.Common.{◌≡◌, ◌≤◌, ◌+◌, ◌-◌, vec_len}
use Rattle.std.specs.Io.KnownBytes.{Consumes}
use Rattle.gt_outside.proofs.reading.read_whole.Given as goal

-- what was read is what the source had first
abbrev pub invariant-pieces : goal.invariant-pieces
invariant-pieces g l =
    let left = g.S.Source.left in
    let faults = g.S.Source.faults in
    record {
      done : Consumes (left l.fn.source) (left l.source) l.all.items;
      within : vec_len l.all ≤ l.limit + 1;
      same : faults l.source ≡ faults l.fn.source;
    }

abbrev pub decreases-pieces : goal.decreases-pieces
decreases-pieces g l = (l.limit + 1) - vec_len l.all
