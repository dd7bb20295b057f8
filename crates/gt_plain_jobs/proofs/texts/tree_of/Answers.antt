use Rattle.std.proofs.Common.{◌∙◌, ap, map}
use Rattle.std.specs.FinMap as finite
use Rattle.gt_model.specs.Contents.{key_cmp}
use Rattle.gt_plain.specs.Plain.{with_missing}
use Rattle.gt_plain.proofs.Union.{with_missing-empty}
use Rattle.gt_plain_jobs.proofs.texts.tree_of.Goals as goal

pub loop-text-init : goal.loop-text-init
loop-text-init c =
    ap (λ es. with_missing (finite.from_entries {R = key_cmp} es) (map (λ name. (name, name)) c.args.texts.now)) c.new-tree.ensures.empty ∙ with_missing-empty (map (λ name. (name, name)) c.args.texts.now)
