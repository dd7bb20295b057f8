use Rattle.std.proofs.Common.{◌++◌, ◌∙◌, ap, sym}
use Rattle.std.proofs.lemmas.List.{append-nil}
use Rattle.std.proofs.lemmas.Map.Iter.{rest_all}
use Rattle.std.specs.Map.Iter.{deref}
use Rattle.gt_objset.specs.Track.{Track, own_in_track}
use Rattle.gt_objset.proofs.TakenLaws.{taken_list, keys_of, keys_in_tree, taken_whole}
use Rattle.gt_objset.proofs.repo.RepoObjects.taken.Goals as goal

pub loop-name-init : goal.loop-name-init
loop-name-init c =
    ap (λ ps. ps ++ taken_list (own_in_track c.args.self.now c.args.at) (own_in_track c.args.pool.now c.args.at) c.into_iter-name-iterator.result) c.new-puts.ensures
    ∙ ap (taken_list (own_in_track c.args.self.now c.args.at) (own_in_track c.args.pool.now c.args.at))
    (c.into_iter-name-iterator.ensures.into_iter_gives ∙ c.keys-name-items.ensures.rest ∙ keys_in_tree c.pool.inside.objects.entries c.keys-name-items.ensures.ordered ∙ ap (λ (t : Track). keys_of t.objects) c.pool.view_is)

pub returns : goal.returns
returns c = taken_whole c.args.self.now c.args.pool.now c.args.at c.loop-name.puts
    (sym (append-nil c.loop-name.puts)
    ∙ ap (λ ns. c.loop-name.puts ++ taken_list (own_in_track c.args.self.now c.args.at) (own_in_track c.args.pool.now c.args.at) ns) (sym (rest_all deref c.loop-name.name-iterator c.next.new.self c.next.result c.in-None.is c.next.ensures.steps))
    ∙ c.loop-name.invariant)
