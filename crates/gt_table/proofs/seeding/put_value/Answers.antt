use Rattle.std.proofs.Common.{ap, ◌∙◌, sym, cond}
use Rattle.std.specs.FinMap as map
use Rattle.gt_model.specs.Contents.{Names}
use Rattle.gt_versions.proofs.Keys.{inserted, removed}
use Rattle.gt_table.proofs.seeding.put_value.Goals as goal

pub returns-then-is_zero : goal.returns-then-is_zero
returns-then-is_zero c =
    let old : Names = map.from_entries c.args.names.now.entries in
    let v = c.args.value.now in
    removed c.args.names.now.entries c.remove.new.self.entries v.name c.remove.ensures.updates.0
    ∙ ap (λ b. cond b (map.remove old v.name) (map.insert old v.name v.value)) (sym c.if-is_zero.true ∙ c.is_zero.ensures)

pub returns : goal.returns
returns c =
    let old : Names = map.from_entries c.args.names.now.entries in
    let v = c.args.value.now in
    inserted c.args.names.now.entries c.insert.new.self.entries c.in-Ok.name v.value c.in-Ok-insert.ensures.updates.0
    ∙ ap (λ n. map.insert old n v.value) c.in-Ok.ensures.cases
    ∙ ap (λ b. cond b (map.remove old v.name) (map.insert old v.name v.value)) (sym c.if-is_zero.false ∙ c.is_zero.ensures)
