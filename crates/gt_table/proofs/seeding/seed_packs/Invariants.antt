use Rattle.std.proofs.Common.{drop}
use Rattle.gt_base.specs.Held.{place_of}
use Rattle.gt_table.specs.Seeds.{PutsPlaces}
use Rattle.gt_table.proofs.seeding.seed_packs.Given as goal

abbrev pub invariant-loop-i : goal.invariant-loop-i
invariant-loop-i l = PutsPlaces l.path (place_of (drop l.i l.packs)) l.fn.objects l.objects
