use Rattle.std.proofs.Common.{◌≡◌, ◌∙◌, ap, filter, nat_le}
use Rattle.std.specs.FinMap as map
use Rattle.gt_model.specs.Contents.{key_cmp}
use Rattle.gt_plain.specs.Plain.{with_missing}
use Rattle.gt_plain.proofs.Union.{with_missing-empty}
use Rattle.gt_plain_files.proofs.numbers.copied_from.Goals as goal

pub loop-name-init : goal.loop-name-init
loop-name-init c =
    let is : c.into_iter-name-iterator.result ≡ c.args.tree.now.entries = c.into_iter-name-iterator.ensures.into_iter_gives ∙ c.iter-name-items.ensures.rest in
    ap (λ es. with_missing (map.from_entries {R = key_cmp} es) (filter (λ r. nat_le c.args.file r.1) c.into_iter-name-iterator.result)) c.new-copy.ensures.empty
    ∙ with_missing-empty (filter (λ r. nat_le c.args.file r.1) c.into_iter-name-iterator.result)
    ∙ ap (λ es. map.from_entries {R = key_cmp} (filter (λ r. nat_le c.args.file r.1) es)) is
