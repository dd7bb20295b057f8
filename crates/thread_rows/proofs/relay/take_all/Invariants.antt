use Rattle.std.proofs.Common.{◌≡◌}
use Rattle.thread_rows.proofs.relay.take_all.Given as goal

abbrev pub invariant-tickets : goal.invariant-tickets
invariant-tickets g l = record { of : l.pass.of ≡ l.tickets; calls : l.kit.calls ≡ l.fn.kit.calls }
