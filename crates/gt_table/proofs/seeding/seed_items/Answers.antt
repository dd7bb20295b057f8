use Rattle.std.proofs.Common.{◌-◌}
use Rattle.gt_table.proofs.SeedLaws.{more_put, item_more, one_back, placed_from}
use Rattle.gt_table.proofs.seeding.seed_items.Goals as goal

pub loop-i-preserved : goal.loop-i-preserved
loop-i-preserved c =
    let items = c.args.items.now in
    let item = c.index-items-i.result in
    let is = one_back items c.loop-i.i item c.loop-i-test.true c.loop-i.auto.i c.index-items-i.is in
    more_put c.args.path.now (placed_from c.args.number items c.loop-i.i) _ (placed_from c.args.number items (c.loop-i.i - 1)) c.args.objects.now c.loop-i.objects c.seed_item.new.objects
    (λ x. item_more c.args.number items (c.loop-i.i - 1) c.loop-i.i item x is) c.loop-i.invariant c.in_default.ensures
