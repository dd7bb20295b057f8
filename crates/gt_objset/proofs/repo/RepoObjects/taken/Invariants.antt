use Rattle.std.proofs.Common.{◌≡◌, ◌++◌}
use Rattle.gt_objset.specs.Track.{own_in_track}
use Rattle.gt_objset.proofs.TakenLaws.{taken_list, keys_of}
use Rattle.gt_objset.proofs.repo.RepoObjects.taken.Given as goal

abbrev pub invariant-loop-name : goal.invariant-loop-name
invariant-loop-name l = l.puts ++ taken_list (own_in_track l.self l.at) (own_in_track l.pool l.at) l.name-iterator ≡ taken_list (own_in_track l.self l.at) (own_in_track l.pool l.at) (keys_of l.pool.objects)
