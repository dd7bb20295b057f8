use Rattle.std.proofs.Common.{◌≡◌, ◌+◌, ◌++◌, drop, map}
use Rattle.gt_apply.specs.declared.new_file.NewContent.TheVariants.{Loose}
use Rattle.gt_apply.specs.Plan.{numbered}
use Rattle.gt_apply.proofs.filing.add_values.Given as goal

-- what was added, and what is left to add
abbrev pub invariant-loop-value : goal.invariant-loop-value
invariant-loop-value l = record {
  next : l.next ≡ l.number + l.value-index;
  left : l.files ++ numbered l.next (map (λ v. Loose v.1) (drop l.value-index l.values)) ≡ l.initial.files ++ numbered l.number (map (λ v. Loose v.1) l.values);
}
