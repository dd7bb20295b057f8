use Rattle.std.proofs.Common.{rules}
use Rattle.gt_objset.proofs.RepoLaws.{items_of_tree, room_of_tree}
use Rattle.gt_objset.proofs.repo.RepoObjects.reserve.Goals as goal

pub returns-clause-same : goal.returns-clause-same
returns-clause-same c = rw (← c.self.view_is) (record {
  lives = c.reserve.ensures.same;
  kinds = c.reserve-2.ensures.same;
  pools = c.reserve-3.ensures.same;
  objects = items_of_tree c.self.inside.objects.entries c.reserve_slots.new.slots.entries c.reserve_slots.ensures.same;
})

pub returns-clause-ok : goal.returns-clause-ok
returns-clause-ok c = room_of_tree c.reserve.new.self c.reserve-2.new.self c.reserve-3.new.self c.reserve_slots.new.slots.entries c.reserve_slots.result c.args.puts.now
    (λ q. search rules) (λ q. search rules) (λ q. search rules) c.reserve_slots.ensures.ok
