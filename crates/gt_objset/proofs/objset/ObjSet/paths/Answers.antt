use Rattle.std.proofs.Common.{is_some, filter, map as list_map}
use Rattle.gt_model.specs.Contents.{at}
use Rattle.gt_versions.proofs.Keys.{at_key}
use Rattle.gt_objset.specs.Agree.{Agrees}
use Rattle.gt_objset.specs.Table.{head_in_slot}
use Rattle.gt_objset.specs.Lists.{all_paths}
use Rattle.gt_objset.proofs.TableLaws.{table}
use Rattle.gt_objset.proofs.ListedLaws.{paths_listed, ok_listed}
use Rattle.gt_objset.proofs.objset.ObjSet.paths.Goals as goal

pub returns : goal.returns
returns c =
    let low = rw (← c.self.view_is) at c.requires.from in
    let high = rw (← c.self.view_is) at c.requires.to in
    rw (← c.self.view_is) (ok_listed c.paths_there.result (filter (λ q. is_some (head_in_slot (at_key c.self.inside.repos.entries q) c.args.at)) (list_map (λ e. e.0) c.self.inside.repos.entries))
    (λ base log. Agrees (table c.self.inside.floor c.self.inside.front c.self.inside.repos.entries c.self.inside.members.entries c.self.inside.head c.self.inside.puts) base log) (λ base log. all_paths (at c.self.inside.floor base log c.args.at))
    (λ base log h. paths_listed c.self.inside.floor c.self.inside.front c.self.inside.repos.entries c.self.inside.members.entries c.self.inside.head c.self.inside.puts c.args.at low high base log h c.paths_there.ensures.ordered) c.paths_there.ensures.paths)
