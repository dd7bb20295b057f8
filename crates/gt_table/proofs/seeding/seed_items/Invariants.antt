use Rattle.gt_table.specs.Seeds.{PutsPlaces}
use Rattle.gt_table.proofs.SeedLaws.{placed_from}
use Rattle.gt_table.proofs.seeding.seed_items.Given as goal

abbrev pub invariant-loop-i : goal.invariant-loop-i
invariant-loop-i l = PutsPlaces l.path (placed_from l.number l.items l.i) l.fn.objects l.objects
