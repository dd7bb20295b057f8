use Rattle.std.proofs.Common.{◌≡◌, ◌≤◌, map, take}
use Rattle.gt_session.specs.Together.{AreHeld}
use Rattle.gt_prog.specs.One.{in_one}
use Rattle.gt_prog.specs.Played.{Played}
use Rattle.gt_prog.proofs.playing.play_lines.Given as goal

-- the requests so far were done, and their answers and nothing else were written
abbrev pub invariant-loop-request : goal.invariant-loop-request
invariant-loop-request g l = record {
  played : Played g.D.Disk.tells g.D.Disk.view g.D.Disk.fault_count (take l.request-index l.requests) l.sessions l.initial.local l.local (g.K.Sink.written l.fn.sink) (g.K.Sink.written l.sink);
  held : AreHeld l.sessions (in_one (map (λ p. p.number) l.local.live));
  numbered : l.line ≡ l.request-index;
  sure : g.K.Sink.faults l.sink ≡ g.K.Sink.faults l.fn.sink;
  later : g.K.Sink.faults l.fn.sink ≤ g.K.Sink.faults l.sink;
  limits : l.local.limits ≡ l.initial.local.limits;
  counts : g.D.Disk.fault_count l.initial.local.disk ≤ g.D.Disk.fault_count l.local.disk;
}
