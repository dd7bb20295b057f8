use Rattle.std.proofs.Common.{◌≡◌, [], None, ◌+◌, ◌≤◌, length}
use Rattle.gt_reftext.specs.Packed.{read_from}
use Rattle.gt_reftext.specs.Lines.{first_from}
use Rattle.gt_reftext.specs.Answers.{seen}
use Rattle.gt_reftext.proofs.PartsLemmas.{IsBegun}
use Rattle.gt_reftext.proofs.reading.read_lines.Given as goal

abbrev pub invariant-lines : goal.invariant-lines
invariant-lines l = record { counted : l.number + length l.rest ≤ length l.text + 1; so_far : read_from (seen l.progress) l.number l.rest ≡ read_from ([], None) 1 l.text; begun : IsBegun l.number (seen l.progress) l.rest (first_from 1 l.text) }

abbrev pub decreases-lines : goal.decreases-lines
decreases-lines l = length l.rest
