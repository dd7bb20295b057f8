use Rattle.std.proofs.Common.{arith, ap, Ok, Err}
use Rattle.gt_journal.specs.declared.apply_error.ApplyError.TheVariants.{EpochFull, Failed, Memory}
use Rattle.gt_pins.specs.Live.{ReadIn}
use Rattle.gt_pins.proofs.Positions.{reads_later}
use Rattle.gt_table.specs.Table.{front}
use Rattle.gt_journal.specs.Ledger.{front_of}
use Rattle.gt_act.specs.PartitionState.{state_of}
use Rattle.gt_act.proofs.Applied.{acts_by}
use Rattle.gt_act.proofs.applying.apply_settled.Goals as goal

pub invariant_of-state : goal.invariant_of-state
invariant_of-state g c = record { reads = reads_later c.args.state.now.journal.floor _ (front_of c.args.state.now.journal) _ c.args.state.now.live (omega (arith, c.apply.ensures.floor)) (omega (arith, ap front c.apply.ensures.past)) c.args.state.now.reads }

pub returns-in-Ok-clause-acts : goal.returns-in-Ok-clause-acts
returns-in-Ok-clause-acts g c = acts_by c.args.limits.now c.args.n (state_of c.args.state.now) _ (Ok c.in-Ok.position) (c.in-Ok.ensures.applies c.args.state.now.live)

pub returns-in-Err-EpochFull-clause-acts : goal.returns-in-Err-EpochFull-clause-acts
returns-in-Err-EpochFull-clause-acts g c = acts_by c.args.limits.now c.args.n (state_of c.args.state.now) _ (Err EpochFull) (rw c.in-Err-EpochFull.field-0-is at (c.in-Err-EpochFull.ensures.applies c.args.state.now.live))

pub returns-in-Err-Failed-clause-acts : goal.returns-in-Err-Failed-clause-acts
returns-in-Err-Failed-clause-acts g c = acts_by c.args.limits.now c.args.n (state_of c.args.state.now) _ (Err Failed) (rw c.in-Err-Failed.field-0-is at (c.in-Err-Failed.ensures.applies c.args.state.now.live))

pub returns-in-Err-Memory-clause-acts : goal.returns-in-Err-Memory-clause-acts
returns-in-Err-Memory-clause-acts g c = acts_by c.args.limits.now c.args.n (state_of c.args.state.now) _ (Err Memory) (rw c.in-Err-Memory.field-0-is at (c.in-Err-Memory.ensures.applies c.args.state.now.live))

pub returns-in-Ok-clause-goes : goal.returns-in-Ok-clause-goes
returns-in-Ok-clause-goes g c told stored r = c.apply.ensures.goes told c.args.state.now.live c.args.state.now.live r

pub returns-in-Ok-clause-remembers : goal.returns-in-Ok-clause-remembers
returns-in-Ok-clause-remembers g c told stored r = c.apply.ensures.remembers told c.args.state.now.live stored r

pub returns-in-Err-EpochFull-clause-goes : goal.returns-in-Err-EpochFull-clause-goes
returns-in-Err-EpochFull-clause-goes g c told stored r = c.apply.ensures.goes told c.args.state.now.live c.args.state.now.live r

pub returns-in-Err-EpochFull-clause-remembers : goal.returns-in-Err-EpochFull-clause-remembers
returns-in-Err-EpochFull-clause-remembers g c told stored r = c.apply.ensures.remembers told c.args.state.now.live stored r

pub returns-in-Err-Failed-clause-goes : goal.returns-in-Err-Failed-clause-goes
returns-in-Err-Failed-clause-goes g c told stored r = c.apply.ensures.goes told c.args.state.now.live c.args.state.now.live r

pub returns-in-Err-Failed-clause-remembers : goal.returns-in-Err-Failed-clause-remembers
returns-in-Err-Failed-clause-remembers g c told stored r = c.apply.ensures.remembers told c.args.state.now.live stored r

pub returns-in-Err-Memory-clause-goes : goal.returns-in-Err-Memory-clause-goes
returns-in-Err-Memory-clause-goes g c told stored r = c.apply.ensures.goes told c.args.state.now.live c.args.state.now.live r

pub returns-in-Err-Memory-clause-remembers : goal.returns-in-Err-Memory-clause-remembers
returns-in-Err-Memory-clause-remembers g c told stored r = c.apply.ensures.remembers told c.args.state.now.live stored r
