use Rattle.gt_reftable.proofs.TableLaws.{up_in_tree}
use Rattle.gt_reftable.proofs.AllLaws.{all_of_tree}
use Rattle.gt_reftable.proofs.table.RefTable.list_all.Goals as goal

pub list_repos-requires : goal.list_repos-requires
list_repos-requires c = up_in_tree c.self.inside.front c.self.inside.repos.entries c.self.invariant

pub returns : goal.returns
returns c = rw (← c.self.view_is) (all_of_tree c.list_repos.result c.self.inside.floor c.self.inside.front c.self.inside.repos.entries c.list_repos.ensures.ordered c.list_repos.ensures.all)
