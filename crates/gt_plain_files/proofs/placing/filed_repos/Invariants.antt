use Rattle.std.proofs.Common.{◌≡◌, drop}
use Rattle.gt_model.specs.NamedFiles.{filed_repos}
use Rattle.gt_plain_files.proofs.placing.filed_repos.Given as goal

-- what is left leads to the same
abbrev pub invariant-loop-entries : goal.invariant-loop-entries
invariant-loop-entries l = filed_repos l.path l.next (drop l.entries-index l.repos) l.filing ≡ filed_repos l.path l.number l.repos l.initial.filing
