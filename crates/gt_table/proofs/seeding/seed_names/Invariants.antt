use Rattle.std.specs.List.{All}
use Rattle.std.proofs.Common.{◌≡◌, Some}
use Rattle.gt_versions.proofs.Keys.{at_key}
use Rattle.gt_table.proofs.SeedLaws.{NamesLeft}
use Rattle.gt_table.proofs.seeding.seed_names.Given as goal

abbrev pub invariant-loop-name : goal.invariant-loop-name
invariant-loop-name l = record {
  left : NamesLeft l.path l.names.entries l.name-iterator l.fn.refs l.refs;
  found : All (λ e. at_key l.names.entries e.0 ≡ Some e.1) l.name-iterator;
}
