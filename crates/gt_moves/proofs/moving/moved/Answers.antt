use Rattle.gt_moves.proofs.moving.moved.Goals as goal

pub returns : goal.returns
returns c = λ i. record { position = c.args.entry.now.position; path = c.in_ok-path.ensures i; name = c.args.item.now.name; place = c.place_of.ensures i; whole = record { marker = c.of.result.marker; value = c.of.ensures i } }
