use Rattle.std.proofs.Common.{◌≡◌}
use Rattle.gt_model.specs.Verdicts.{first_some}
use Rattle.gt_versions.proofs.Keys.{at_key}
use Rattle.gt_slots.specs.Pages.{all}
use Rattle.gt_slots.specs.Clashing.{folders, standing}
use Rattle.gt_slots.proofs.FolderLaws.{ahead}
use Rattle.gt_slots.proofs.clashing.folder_of.Given as goal

abbrev pub invariant-loop-at : goal.invariant-loop-at
invariant-loop-at l = record {
  done : ahead (λ f. standing l.start l.position l.gone f (at_key (all l.pages) f)) l.name l.at ≡ first_some (λ f. standing l.start l.position l.gone f (at_key (all l.pages) f)) (folders l.name);
}
