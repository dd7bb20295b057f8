use Rattle.std.proofs.Common.{◌-◌, take}
use Rattle.gt_objset.proofs.AgreeLaws.{placed_all}
use Rattle.gt_objset.proofs.laws.own_objects_have_places.Goals as goal

pub returns : goal.returns
returns c = λ begin base places log position h. placed_all base places (take (position - begin) log) h
