use Rattle.std.proofs.Common.{◌≡◌, ◌++◌, codes, drop}
use Rattle.gt_slots.specs.Pages.{all}
use Rattle.gt_slots.specs.Clashing.{seek}
use Rattle.gt_slots.proofs.clashing.seek_pages.Given as goal

abbrev pub invariant-loop-page : goal.invariant-loop-page
invariant-loop-page l = record {
  done : seek l.start l.position l.gone (l.folder ++ codes "/") (all (drop l.page-index l.pages)) ≡ seek l.start l.position l.gone (l.folder ++ codes "/") (all l.pages);
}
