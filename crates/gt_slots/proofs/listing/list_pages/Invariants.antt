use Rattle.std.proofs.Common.{◌≡◌, ◌++◌, drop}
use Rattle.gt_slots.specs.Pages.{all}
use Rattle.gt_slots.specs.Listing.{taken, values_of}
use Rattle.gt_slots.proofs.listing.list_pages.Given as goal

abbrev pub invariant-loop-page : goal.invariant-loop-page
invariant-loop-page l = record {
  done : l.out ++ values_of l.start l.position (taken l.prefix (all (drop l.page-index l.pages))) ≡ l.fn.out ++ values_of l.start l.position (taken l.prefix (all l.pages));
}
