use Rattle.std.proofs.Common.{arith, ap}
use Rattle.gt_journal.specs.Ledger.{front_of}
use Rattle.gt_table.specs.Table.{front}
use Rattle.gt_pins.proofs.Positions.{reads_begun_or_not}
use Rattle.gt_act.proofs.beginning.begin_settled.Goals as goal

pub invariant_of-state : goal.invariant_of-state
invariant_of-state c =
    record { reads = reads_begun_or_not c.args.state.now.journal.floor (front_of c.args.state.now.journal) c.begin.result c.args.state.now.live c.begin.new.self _ c.begin.ensures.live c.begin.ensures.unchanged (omega (arith, c.front-front.ensures, ap front c.table.ensures.past)) (omega (arith, c.front-front.ensures, ap front c.table.ensures.past)) c.args.state.now.reads }
