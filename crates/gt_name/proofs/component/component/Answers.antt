use Rattle.gt_name.proofs.ComponentsLemmas.{take-position}
use Rattle.gt_name.specs.Components.{is_slash}
use Rattle.gt_name.proofs.component.component.Goals as goal

pub returns : goal.returns
returns c =
    let r = c.args.rest.now in
    rw (c.unwrap_or-end.ensures, c.first_slash.ensures) (take-position is_slash r)
