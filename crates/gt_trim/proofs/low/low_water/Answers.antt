use Rattle.std.proofs.Common.{◌≡◌, ◌∙◌, ◌≤◌, ℕ, subst, sym, ap}
use Rattle.gt_pins.specs.Live.{ReadIn}
use Rattle.gt_trim.proofs.Lowest.{least_of, least_of_pins, least_below, least_from, least_read}
use Rattle.gt_trim.proofs.low.low_water.Goals as goal

pub returns-clause-applied : goal.returns-clause-applied
returns-clause-applied c =
    let is : c.least_position.result ≡ least_of c.args.applied c.args.live.now = c.least_position.ensures ∙ least_of_pins c.args.applied c.as_slice.result.now ∙ ap (least_of c.args.applied) c.as_slice.ensures in
    subst (λ (n : ℕ). n ≤ c.args.applied) (sym is) (least_below c.args.applied c.args.live.now)

pub returns-clause-floor : goal.returns-clause-floor
returns-clause-floor c = λ floor front le read.
    let is : c.least_position.result ≡ least_of c.args.applied c.args.live.now = c.least_position.ensures ∙ least_of_pins c.args.applied c.as_slice.result.now ∙ ap (least_of c.args.applied) c.as_slice.ensures in
    subst (λ (n : ℕ). floor ≤ n) (sym is) (least_from floor front c.args.applied c.args.live.now le read)

pub returns-clause-read : goal.returns-clause-read
returns-clause-read c = λ floor front read.
    let is : c.least_position.result ≡ least_of c.args.applied c.args.live.now = c.least_position.ensures ∙ least_of_pins c.args.applied c.as_slice.result.now ∙ ap (least_of c.args.applied) c.as_slice.ensures in
    subst (λ (n : ℕ). ReadIn n front c.args.live.now) (sym is) (least_read floor front c.args.applied c.args.live.now read)
