use Rattle.std.proofs.Common.{drop, ◌-◌}
use Rattle.gt_base.specs.Held.{place_of, place_in}
use Rattle.gt_table.proofs.SeedLaws.{more_put, pack_more, pack_put, one_back}
use Rattle.gt_table.proofs.seeding.seed_packs.Goals as goal

pub loop-i-preserved : goal.loop-i-preserved
loop-i-preserved c =
    let packs = c.args.packs.now in
    let pack = c.index-packs-i.result in
    let is = one_back packs c.loop-i.i pack c.loop-i-test.true c.loop-i.auto.i c.index-packs-i.is in
    more_put c.args.path.now (place_of (drop c.loop-i.i packs)) (place_in pack) (place_of (drop (c.loop-i.i - 1) packs)) c.args.objects.now c.loop-i.objects c.seed_items.new.objects
    (λ x. pack_more packs (c.loop-i.i - 1) c.loop-i.i pack x is) c.loop-i.invariant
    (pack_put c.args.path.now pack c.number.result c.items.result.now c.loop-i.objects c.seed_items.new.objects c.number.ensures c.items.ensures c.in_default.ensures)
