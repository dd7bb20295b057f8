use Rattle.gt_places.proofs.Logs.{own_good}
use Rattle.gt_places.proofs.laws.records_stand_where_they_are_placed.Goals as goal

pub returns : goal.returns
returns c begin base based log position path name whole place placed legal typed has here = own_good begin base based placed log position legal typed path name whole place has here
