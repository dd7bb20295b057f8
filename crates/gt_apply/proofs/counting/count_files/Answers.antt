use Rattle.std.proofs.Common.{◌≡◌, ◌+◌, ◌∙◌, true, false, length, sym, arith}
use Rattle.gt_model.specs.Batches.{files_of}
use Rattle.gt_apply.specs.Steps.{seen}
use Rattle.gt_apply.proofs.WriteLaws.{how_many}
use Rattle.gt_apply.proofs.counting.count_files.Goals as goal

pub returns-then-any_has_records : goal.returns-then-any_has_records
returns-then-any_has_records c =
    let all : 1 + length c.in_ok-values.values ≡ length (files_of (seen c.args.own.now)) = how_many (seen c.args.own.now) c.in_ok-values.values true c.in_ok-values.ensures (sym c.any_has_records.ensures ∙ c.if-any_has_records.true) in
    let long = c.len-loose.ensures in
    omega arith

pub returns : goal.returns
returns c =
    let all : 0 + length c.in_ok-values.values ≡ length (files_of (seen c.args.own.now)) = how_many (seen c.args.own.now) c.in_ok-values.values false c.in_ok-values.ensures (sym c.any_has_records.ensures ∙ c.if-any_has_records.false) in
    let long = c.len-loose.ensures in
    omega arith
