use Rattle.gt_prog.proofs.PlaySteps.{part_none, played_whole}
use Rattle.gt_prog.proofs.playing.play.Goals as goal

pub returns-in-Err-clause-part : goal.returns-in-Err-clause-part
returns-in-Err-clause-part g c = part_none g.D.Disk.tells g.D.Disk.view g.D.Disk.fault_count c.args.partition c.args.requests.now (g.K.Sink.written c.args.sink.now) c.unmount.result c.unmount.ensures

pub returns-in-Ok-play_lines-clause-played : goal.returns-in-Ok-play_lines-clause-played
returns-in-Ok-play_lines-clause-played g c =
    played_whole g.D.Disk.tells g.D.Disk.view g.D.Disk.fault_count g.D.Disk.call_count c.play_lines.new.sessions c.args.partition c.in-Ok-play_lines.local c.finish.result c.args.requests.now (g.K.Sink.written c.args.sink.now) (g.K.Sink.written c.play_lines.new.sink) c.in-Ok-play_lines.ensures.played
    c.finish.ensures.ends c.finish.ensures.later
