use Rattle.std.proofs.Common.{◌≡◌, drop, fold, map}
use Rattle.gt_apply.specs.Steps.{seen, drafted}
use Rattle.gt_apply.proofs.filing.file_repos.Given as goal

-- what is left leads to the same
abbrev pub invariant-loop-own : goal.invariant-loop-own
invariant-loop-own l = fold (drafted l.path) l.draft (map seen (drop l.own-index l.repos)) ≡ fold (drafted l.path) l.initial.draft (map seen l.repos)
