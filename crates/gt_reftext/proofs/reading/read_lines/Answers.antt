use Rattle.std.proofs.Common.{◌≡◌, ◌∙◌, [], None, true, false, eqb, arith, length, refl, sym}
use Rattle.std.proofs.lemmas.Result.{err_from_is_err_and}
use Rattle.gt_reftext.specs.Packed.{read_from}
use Rattle.gt_reftext.specs.Lines.{first_from}
use Rattle.gt_reftext.specs.Answers.{seen}
use Rattle.gt_reftext.proofs.PartsLemmas.{line_goes, line_fails, line_ends, begun_goes, line_first}
use Rattle.gt_reftext.proofs.reading.read_lines.Goals as goal

pub returns-in_err-progress-clause-read : goal.returns-in_err-progress-clause-read
returns-in_err-progress-clause-read c =
    let p = err_from_is_err_and c.from_residual.result c.from_residual.ensures.1 in
    rw (p.1, p.2) (line_fails c.in_err-progress.field-0.0 c.lines.number (seen c.lines.progress) c.lines.rest.now c.in-Some.line.now c.in-Some.after.now (read_from ([], None) 1 c.args.text.now) c.in-Some.ensures.0 c.in_err-progress.ensures.moves c.lines.invariant.so_far)

pub lines-preserved : goal.lines-preserved
lines-preserved c = record {
  counted = omega (arith, c.in-Some.ensures.1, c.lines.invariant.counted);
  so_far = line_goes c.lines.number (seen c.lines.progress) (seen c.in_ok-progress.progress) c.lines.rest.now c.in-Some.line.now c.in-Some.after.now (read_from ([], None) 1 c.args.text.now) c.in-Some.ensures.0 c.in_ok-progress.ensures.moves c.lines.invariant.so_far;
  begun = begun_goes c.lines.number (seen c.lines.progress) (seen c.in_ok-progress.progress) c.lines.rest.now c.in-Some.line.now c.in-Some.after.now (first_from 1 c.args.text.now) c.in-Some.ensures.0 c.in_ok-progress.ensures.moves c.lines.invariant.begun;
}

pub returns-then-not-is_empty-clause-read : goal.returns-then-not-is_empty-clause-read
returns-then-not-is_empty-clause-read c =
    let ends = line_ends c.lines.number (seen c.lines.progress) c.lines.rest.now (read_from ([], None) 1 c.args.text.now) c.in_default.ensures c.lines.invariant.so_far in
    let test : eqb (length c.lines.rest.now) 0 ≡ false = sym c.is_empty.ensures ∙ c.if-not-is_empty.true in
    ends ∙ rw test refl

pub returns-clause-read : goal.returns-clause-read
returns-clause-read c =
    let ends = line_ends c.lines.number (seen c.lines.progress) c.lines.rest.now (read_from ([], None) 1 c.args.text.now) c.in_default.ensures c.lines.invariant.so_far in
    let test : eqb (length c.lines.rest.now) 0 ≡ true = sym c.is_empty.ensures ∙ c.if-not-is_empty.false in
    ends ∙ rw test refl

pub returns-in_err-progress-clause-memory : goal.returns-in_err-progress-clause-memory
returns-in_err-progress-clause-memory c =
    let p = err_from_is_err_and c.from_residual.result c.from_residual.ensures.1 in
    let h = c.in_err-progress.ensures.memory in
    rw p.1 (λ is. line_first c.lines.number (seen c.lines.progress) c.lines.rest.now c.in-Some.line.now c.in-Some.after.now (first_from 1 c.args.text.now) c.in-Some.ensures.0 c.lines.invariant.begun (h (sym p.2 ∙ is)))
