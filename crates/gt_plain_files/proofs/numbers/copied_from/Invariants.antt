use Rattle.std.proofs.Common.{◌≡◌, filter, nat_le}
use Rattle.std.specs.FinMap as map
use Rattle.gt_model.specs.Contents.{key_cmp}
use Rattle.gt_plain.specs.Plain.{with_missing}
use Rattle.gt_plain_files.proofs.numbers.copied_from.Given as goal

-- what is left leads to all
abbrev pub invariant-loop-name : goal.invariant-loop-name
invariant-loop-name l = with_missing (map.from_entries {R = key_cmp} l.copy.entries) (filter (λ r. nat_le l.file r.1) l.name-iterator) ≡ map.from_entries (filter (λ r. nat_le l.file r.1) l.tree.entries)
