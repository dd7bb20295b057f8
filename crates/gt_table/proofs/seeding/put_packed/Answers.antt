use Rattle.std.proofs.Common.{ap, ◌∙◌, sym, drop}
use Rattle.std.specs.FinMap as map
use Rattle.gt_base.specs.Held.{packed_values}
use Rattle.gt_model.specs.Contents.{Names}
use Rattle.gt_versions.proofs.Keys.{inserted}
use Rattle.gt_table.proofs.SeedLaws.{one_back}
use Rattle.gt_table.proofs.seeding.put_packed.Goals as goal

pub loop-i-preserved : goal.loop-i-preserved
loop-i-preserved c =
    let packed = c.args.packed.now in
    let item = c.index-packed-i.result in
    let is = one_back packed c.loop-i.i item c.loop-i-test.true c.loop-i.auto.i c.index-packed-i.is in
    inserted c.loop-i.names.entries c.insert.new.self.entries c.in-Ok.name item.value c.in-Ok-insert.ensures.updates.0
    ∙ ap (λ (m : Names). map.insert m c.in-Ok.name item.value) c.loop-i.invariant
    ∙ ap (λ n. map.insert (packed_values (drop c.loop-i.i packed)) n item.value) c.in-Ok.ensures.cases
    ∙ sym (ap packed_values is)
