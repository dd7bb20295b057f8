use Rattle.std.proofs.Common.{sym}
use Rattle.gt_prog.proofs.ScriptSteps.{fed_line, last_line}
use Rattle.gt_prog.proofs.script.line_len.Goals as goal

pub returns-in-None-clause-first : goal.returns-in-None-clause-first
returns-in-None-clause-first c = last_line c.args.text.now c.requires (sym c.in-None.ensures)

pub returns-in-Some-clause-first : goal.returns-in-Some-clause-first
returns-in-Some-clause-first c = fed_line c.args.text.now c.in-Some.at (sym c.in-Some.ensures)
