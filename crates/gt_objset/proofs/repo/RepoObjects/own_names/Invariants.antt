use Rattle.std.proofs.Common.{◌≡◌, ◌++◌, is_some, filter}
use Rattle.std.specs.FinMap as map
use Rattle.gt_objset.specs.Track.{own_in_track}
use Rattle.gt_objset.proofs.repo.RepoObjects.own_names.Given as goal

abbrev pub invariant-loop-name : goal.invariant-loop-name
invariant-loop-name l = l.names ++ filter (λ x. is_some (own_in_track l.self l.at x)) l.name-iterator ≡ filter (λ x. is_some (own_in_track l.self l.at x)) (map.keys l.self.objects)
