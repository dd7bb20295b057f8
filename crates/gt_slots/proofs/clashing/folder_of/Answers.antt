use Rattle.std.proofs.Common.{sym, ◌∙◌}
use Rattle.std.specs.Option.{option_copied}
use Rattle.gt_versions.proofs.Keys.{at_key}
use Rattle.gt_slots.specs.Pages.{all}
use Rattle.gt_slots.specs.Clashing.{standing}
use Rattle.gt_slots.proofs.FolderLaws.{start_ahead, ahead_more, none_copied}
use Rattle.gt_slots.proofs.clashing.folder_of.Goals as goal

pub loop-at-init : goal.loop-at-init
loop-at-init c = record { done = start_ahead (λ f. standing c.args.start c.args.position c.args.gone.now f (at_key (all c.args.pages.now) f)) c.args.name.now }

pub loop-at-preserved : goal.loop-at-preserved
loop-at-preserved c = record {
  done = ahead_more (λ f. standing c.args.start c.args.position c.args.gone.now f (at_key (all c.args.pages.now) f)) c.args.name.now c.loop-at.at (option_copied c.folder_at-found.result) _ c.loop-at-test.true c.folder_at-found.ensures c.loop-at.invariant.done (none_copied _ c.folder_at-found.result (sym c.is_some.ensures ∙ c.if-is_some.false));
}
