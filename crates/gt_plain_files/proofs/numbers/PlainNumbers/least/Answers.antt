use Rattle.std.proofs.Common.{ℕ, ◌∙◌, ap, sym, filter, nat_le}
use Rattle.std.specs.FinMap as map
use Rattle.std.specs.FinMap.{FinMap}
use Rattle.gt_model.specs.Contents.{key_cmp}
use Rattle.gt_plain.proofs.Maps.{entries_of}
use Rattle.gt_plain_files.proofs.numbers.PlainNumbers.least.Goals as goal

pub returns : goal.returns
returns c =
    c.in_ok-tree.ensures.copy
    ∙ ap (λ es. map.from_entries {R = key_cmp} (filter (λ r. nat_le c.args.file r.1) es))
    (sym (entries_of c.self.inside.tree.entries c.copied_from.ensures.ordered) ∙ ap (λ (m : FinMap key_cmp ℕ). map.entries m) c.self.view_is)
