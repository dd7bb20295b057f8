use Rattle.std.proofs.Common.{ℕ, not, List, take}
use Rattle.std.proofs.lemmas.List.Elements.{filter-append}
use Rattle.gt_model.specs.Verdicts.{is_added}
use Rattle.gt_verify.specs.Checks.{old_ones, names_of}
use Rattle.gt_verify.proofs.Owning.{noted, names_of-taken}
use Rattle.gt_verify.proofs.needed.note_records.Goals as goal

pub loop-i-preserved : goal.loop-i-preserved
loop-i-preserved g c =
    let content = g.L.Look.content c.args.front.now in
    let records = c.args.stage.now.staged.records in
    noted (old_ones content c.args.path.now c.args.stage.now.staged) (filter-append (λ (n : List ℕ). not (is_added content c.args.path.now c.args.stage.now.staged n))) c.args.names.now c.loop-i.names c.note.new.names
    (names_of (take c.loop-i.i records)) _ c.record_name.result (names_of-taken records c.loop-i.i c.record_name.result c.record_name.ensures) c.loop-i.invariant c.in_ok-note.ensures
