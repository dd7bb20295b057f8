use Rattle.std.proofs.Common.{◌≡◌, ◌∙◌, ap}
use Rattle.std.specs.FinMap as map
use Rattle.gt_model.specs.Contents.{key_cmp}
use Rattle.gt_plain.specs.Plain.{with_missing}
use Rattle.gt_plain.proofs.Union.{with_missing-empty}
use Rattle.gt_plain_files.proofs.shelves.copied.Goals as goal

pub loop-path-init : goal.loop-path-init
loop-path-init c =
    let is : c.into_iter-path-iterator.result ≡ c.args.tree.now.entries = c.into_iter-path-iterator.ensures.into_iter_gives ∙ c.iter-path-items.ensures.rest in
    ap (λ es. with_missing (map.from_entries {R = key_cmp} es) c.into_iter-path-iterator.result) c.new-copy.ensures.empty
    ∙ with_missing-empty c.into_iter-path-iterator.result
    ∙ ap (λ es. map.from_entries {R = key_cmp} es) is
