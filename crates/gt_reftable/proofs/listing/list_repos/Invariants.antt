use Rattle.std.proofs.Common.{◌≡◌, ◌++◌}
use Rattle.gt_reftable.specs.Table.{all_in, EachUpTo}
use Rattle.gt_reftable.proofs.listing.list_repos.Given as goal

abbrev pub invariant-loop-path : goal.invariant-loop-path
invariant-loop-path l = record {
  done : l.out ++ all_in l.position l.path-iterator ≡ all_in l.position l.repos.entries;
  up : EachUpTo l.position l.path-iterator;
}
