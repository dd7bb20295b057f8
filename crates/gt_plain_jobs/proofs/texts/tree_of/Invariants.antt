use Rattle.std.proofs.Common.{◌≡◌, drop, map}
use Rattle.std.specs.FinMap as finite
use Rattle.gt_model.specs.Contents.{key_cmp}
use Rattle.gt_plain.specs.Plain.{with_missing}
use Rattle.gt_plain_jobs.proofs.texts.tree_of.Given as goal

-- what is left leads to all
abbrev pub invariant-loop-text : goal.invariant-loop-text
invariant-loop-text l = with_missing (finite.from_entries {R = key_cmp} l.tree.entries) (map (λ name. (name, name)) (drop l.text-index l.texts)) ≡ finite.from_entries (map (λ name. (name, name)) l.texts)
