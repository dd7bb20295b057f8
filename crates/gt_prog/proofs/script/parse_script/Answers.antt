use Rattle.gt_prog.specs.Script.{lines_of}
use Rattle.gt_prog.proofs.SessionNumbers.{requests_sessions}
use Rattle.gt_prog.proofs.script.parse_script.Goals as goal

pub returns-in-None-clause-sessions : goal.returns-in-None-clause-sessions
returns-in-None-clause-sessions c = requests_sessions 1 (lines_of c.args.bytes.now) c.in-Ok.requests.items c.in-Ok.ensures.ok
