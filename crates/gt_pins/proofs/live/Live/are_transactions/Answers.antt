use Rattle.gt_pins.proofs.LiveLists.{all_transactions}
use Rattle.gt_pins.proofs.live.Live.are_transactions.Goals as goal

pub returns : goal.returns
returns c number = rw (← c.self.view_is) (all_transactions c.self.inside.pins.items number)
