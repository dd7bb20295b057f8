use Rattle.std.proofs.Common.{◌≡◌, ◌++◌}
use Rattle.gt_session.specs.Pieces.{values_with}
use Rattle.gt_session.proofs.listing.values_with.Given as goal

abbrev pub invariant-loop-name : goal.invariant-loop-name
invariant-loop-name l = l.values.items ++ values_with l.prefix l.name-iterator ≡ values_with l.prefix l.fn.table.entries
