use Rattle.std.proofs.Common.{◌≡◌, length, map}
use Rattle.gt_apply.specs.Plan.{shelves_of}
use Rattle.gt_apply.proofs.TreeLaws.{onto}
use Rattle.gt_apply.proofs.shelves.Shelves.of.Given as goal

-- what is left, over what is there
abbrev pub invariant-loop-repo : goal.invariant-loop-repo
invariant-loop-repo l = onto (map (λ r. (r.path, r)) l.left) l.shelves ≡ shelves_of l.repos

abbrev pub decreases-loop-repo : goal.decreases-loop-repo
decreases-loop-repo l = length l.left
