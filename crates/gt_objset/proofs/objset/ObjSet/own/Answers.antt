use Rattle.std.proofs.Common.{◌∙◌, is_some, filter}
use Rattle.std.specs.FinMap as map
use Rattle.gt_model.specs.Contents.{at}
use Rattle.gt_objset.specs.Agree.{Agrees}
use Rattle.gt_objset.specs.Track.{own_in_track}
use Rattle.gt_objset.specs.Lists.{own_names}
use Rattle.gt_objset.proofs.TableLaws.{table}
use Rattle.gt_objset.proofs.ListedLaws.{own_listed, none_listed, ok_listed}
use Rattle.gt_objset.proofs.objset.ObjSet.own.Goals as goal

pub returns-in-None : goal.returns-in-None
returns-in-None c =
    let low = rw (← c.self.view_is) at c.requires.from in
    let high = rw (← c.self.view_is) at c.requires.to in
    rw (← c.self.view_is) (λ base log h. c.new.ensures ∙ none_listed c.self.inside.floor c.self.inside.front c.self.inside.repos.entries c.self.inside.members.entries c.self.inside.head c.self.inside.puts c.args.at low high base log h c.args.path.now c.in-None.ensures.value)

pub returns-in-Some : goal.returns-in-Some
returns-in-Some c =
    let low = rw (← c.self.view_is) at c.requires.from in
    let high = rw (← c.self.view_is) at c.requires.to in
    rw (← c.self.view_is) (ok_listed c.own_names.result (filter (λ x. is_some (own_in_track c.in-Some.repo.now c.args.at x)) (map.keys c.in-Some.repo.now.objects))
    (λ base log. Agrees (table c.self.inside.floor c.self.inside.front c.self.inside.repos.entries c.self.inside.members.entries c.self.inside.head c.self.inside.puts) base log) (λ base log. own_names (at c.self.inside.floor base log c.args.at) c.args.path.now)
    (λ base log h. own_listed c.self.inside.floor c.self.inside.front c.self.inside.repos.entries c.self.inside.members.entries c.self.inside.head c.self.inside.puts c.args.at low high base log h c.args.path.now c.in-Some.repo.now c.in-Some.ensures.value) c.own_names.ensures)
