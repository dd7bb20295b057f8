use Rattle.std.proofs.Common.{◌≡◌, length}
use Rattle.thread_rows.proofs.kit.kits_of.Given as goal

abbrev pub invariant-kits : goal.invariant-kits
invariant-kits l = length l.kits ≡ l.counter
