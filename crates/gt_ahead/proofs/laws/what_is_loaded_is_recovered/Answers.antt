use Rattle.std.proofs.Common.{ap}
use Rattle.gt_base.specs.Recovery.{all_recovered}
use Rattle.gt_ahead.proofs.laws.what_is_loaded_is_recovered.Goals as goal

pub returns : goal.returns
returns c limits xs states image loads is = let w = loads image is in (w.what, w.has, w.is, ap all_recovered w.is, w.steady)
