use Rattle.std.proofs.Common.{◌≡◌, drop}
use Rattle.gt_apply.specs.Steps.{drafted_all}
use Rattle.gt_apply.proofs.filing.file_paths.Given as goal

-- what is left leads to the same
abbrev pub invariant-loop-path : goal.invariant-loop-path
invariant-loop-path l = drafted_all l.entries (drop l.path-index l.paths) l.draft ≡ drafted_all l.entries l.paths l.initial.draft
