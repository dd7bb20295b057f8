use Rattle.std.proofs.Common.{◌≡◌, ◌≤◌, ◌+◌, ◌-◌, length}
use Rattle.gt_reftext.specs.Packed.{line_begin}
use Rattle.gt_reftext.proofs.lines.line_begin.Given as goal

abbrev pub invariant-lines : goal.invariant-lines
invariant-lines l = record { within : l.begin + length l.rest ≤ length l.bytes; so_far : line_begin l.bytes l.line ≡ l.begin + line_begin l.rest (l.line - l.counter + 1) }
