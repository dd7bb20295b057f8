use Rattle.std.proofs.Common.{◌≡◌, ◌++◌, is_some, filter}
use Rattle.std.specs.BTreeMap as tree
use Rattle.gt_model.specs.Contents.{key_cmp}
use Rattle.gt_objset.specs.Table.{head_in_slot}
use Rattle.gt_objset.proofs.listing.paths_there.Given as goal

abbrev pub invariant-loop-path : goal.invariant-loop-path
invariant-loop-path l = l.paths ++ filter (λ q. is_some (head_in_slot (tree.get key_cmp l.repos q) l.at)) l.path-iterator ≡ filter (λ q. is_some (head_in_slot (tree.get key_cmp l.repos q) l.at)) (tree.keys l.repos)
