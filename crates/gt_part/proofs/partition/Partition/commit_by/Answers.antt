use Rattle.std.proofs.Common.{refl, sym, ap, ◌∙◌}
use Rattle.gt_model.specs.Machine.{is_live, is_live_as, is_transaction}
use Rattle.gt_part.specs.Shown.{Shown}
use Rattle.gt_part.proofs.Calling.{same_called}
use Rattle.gt_part.proofs.partition.Partition.commit_by.Goals as goal

pub returns-in_default : goal.returns-in_default
returns-in_default g c = record { called = same_called _ _ _ _ _ _ _ (ap (λ (p : Shown _). is_live_as is_transaction p.live c.args.pin.now) (sym c.self.view_is) ∙ c.are_transactions.ensures c.args.pin.now ∙ ap (λ (p : Shown _). is_live p.live c.args.pin.now) c.self.view_is ∙ c.requires) refl }
