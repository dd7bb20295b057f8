use Rattle.std.proofs.Common.{◌≡◌, drop}
use Rattle.gt_model.specs.NamedFiles.{filed_paths}
use Rattle.gt_plain_files.proofs.placing.filed_paths.Given as goal

-- what is left leads to the same
abbrev pub invariant-loop-path : goal.invariant-loop-path
invariant-loop-path l = filed_paths l.entries l.next (drop l.path-index l.paths) l.filing ≡ filed_paths l.entries l.number l.paths l.initial.filing
