use Rattle.std.proofs.Common.{◌∙◌, ap, map}
use Rattle.std.specs.FinMap as finite
use Rattle.gt_model.specs.Contents.{key_cmp}
use Rattle.gt_plain.specs.Plain.{with_missing}
use Rattle.gt_plain.proofs.Union.{with_missing-empty}
use Rattle.gt_plain.proofs.needs.by_name.Goals as goal

pub loop-item-init : goal.loop-item-init
loop-item-init c =
    ap (λ es. with_missing (finite.from_entries {R = key_cmp} es) (map (λ a. (a.name, a)) c.args.records.now)) c.new-tree.ensures.empty ∙ with_missing-empty (map (λ a. (a.name, a)) c.args.records.now)
