use Rattle.std.proofs.Common.{◌+◌, ◌∷◌, drop, ap, ◌∙◌, sym}
use Rattle.std.proofs.lemmas.List.{drop_more}
use Rattle.std.specs.FinMap as map
use Rattle.gt_table.proofs.SeedLaws.{loose_more}
use Rattle.gt_table.proofs.seeding.put_loose.Goals as goal

pub loop-value-preserved : goal.loop-value-preserved
loop-value-preserved c =
    let values = c.args.loose.now in
    let i = c.loop-value.value-index in
    let v = c.value-item.result in
    let is = drop_more values i v c.loop-value-test.true ∙ ap (λ x. x ∷ drop (i + 1) values) (sym c.value-item.is) in
    loose_more values i v (map.from_entries c.loop-value.names.entries) (map.from_entries c.put_value.new.names.entries) _ is c.in_default.ensures c.loop-value.invariant
