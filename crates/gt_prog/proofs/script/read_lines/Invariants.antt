use Rattle.std.proofs.Common.{◌≡◌, ◌≤◌, ◌+◌, length}
use Rattle.gt_prog.specs.Script.{lines_of, requests_of}
use Rattle.gt_prog.proofs.ScriptSteps.{Read}
use Rattle.gt_prog.proofs.script.read_lines.Given as goal

-- the requests of the lines before the rest are read
abbrev pub invariant-lines : goal.invariant-lines
invariant-lines l = record {
  read : Read l.requests.items l.line l.rest (requests_of 1 (lines_of l.bytes));
  numbered : l.line ≡ length l.requests.items + 1;
  left : l.line + length l.rest ≤ length l.bytes + 1;
}

abbrev pub decreases-lines : goal.decreases-lines
decreases-lines l = length l.rest
