use Rattle.std.proofs.Common.{◌≡◌, [], None}
use Rattle.gt_mark.proofs.Going.{next_at, stopped_there, went_there, only_this}
use Rattle.gt_mark.proofs.mark.Mark.look_up.Goals as goal

pub returns-in_err-add_names-clause-underway : goal.returns-in_err-add_names-clause-underway
returns-in_err-add_names-clause-underway g c told roots =
    stopped_there roots (g.R.Reads.mentions c.args.reader.now) c.self.inside.marked c.self.inside.looked c.args.self.now c.self.view_is c.in-Some.pair.now c.in-Some.ensures c.in_ok-path.path c.in_ok-path.names c.as_slice.result.now
    c.in_ok-path.ensures.path c.as_slice.ensures (c.in_ok-path.ensures.names told) c.add_names.new.self c.add_names.ensures.finds

pub returns-in_err-add_names-clause-only : goal.returns-in_err-add_names-clause-only
returns-in_err-add_names-clause-only g c told =
    only_this [] (g.R.Reads.mentions c.args.reader.now) c.self.inside.marked c.self.inside.looked c.args.self.now c.self.view_is c.in-Some.pair.now c.in-Some.ensures c.in_ok-path.path c.in_ok-path.names c.as_slice.result.now
    c.in_ok-path.ensures.path c.as_slice.ensures (c.in_ok-path.ensures.names told) c.add_names.new.self c.add_names.ensures.finds

pub returns-clause-underway : goal.returns-clause-underway
returns-clause-underway g c told roots =
    went_there roots (g.R.Reads.mentions c.args.reader.now) c.self.inside.marked c.self.inside.looked c.args.self.now c.self.view_is c.in-Some.pair.now c.in-Some.ensures c.in_ok-path.path c.in_ok-path.names c.as_slice.result.now
    c.in_ok-path.ensures.path c.as_slice.ensures (c.in_ok-path.ensures.names told) c.add_names.new.self c.add_names.ensures.finds c.in_ok-add_names.ensures.there

pub returns-clause-only : goal.returns-clause-only
returns-clause-only g c told =
    only_this [] (g.R.Reads.mentions c.args.reader.now) c.self.inside.marked c.self.inside.looked c.args.self.now c.self.view_is c.in-Some.pair.now c.in-Some.ensures c.in_ok-path.path c.in_ok-path.names c.as_slice.result.now
    c.in_ok-path.ensures.path c.as_slice.ensures (c.in_ok-path.ensures.names told) c.add_names.new.self c.add_names.ensures.finds

pub returns-clause-good : goal.returns-clause-good
returns-clause-good g c told =
    next_at (λ p. g.R.Reads.bad c.args.reader.now p.0 p.1 ≡ None) c.self.inside.marked c.self.inside.looked c.args.self.now c.self.view_is c.in-Some.pair.now c.in-Some.ensures (c.in_ok-path.ensures.good told)
