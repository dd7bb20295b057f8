use Rattle.std.proofs.Common.{◌++◌, ◌∙◌, ap, is_some, filter}
use Rattle.gt_objset.specs.Track.{Track, own_in_track}
use Rattle.gt_objset.proofs.TakenLaws.{keys_of, keys_in_tree}
use Rattle.gt_objset.proofs.repo.RepoObjects.own_names.Goals as goal

pub loop-name-init : goal.loop-name-init
loop-name-init c =
    ap (λ ps. ps ++ filter (λ x. is_some (own_in_track c.args.self.now c.args.at x)) c.into_iter-name-iterator.result) c.new-names.ensures
    ∙ ap (filter (λ x. is_some (own_in_track c.args.self.now c.args.at x)))
    (c.into_iter-name-iterator.ensures.into_iter_gives ∙ c.keys-name-items.ensures.rest ∙ keys_in_tree c.self.inside.objects.entries c.keys-name-items.ensures.ordered ∙ ap (λ (t : Track). keys_of t.objects) c.self.view_is)
