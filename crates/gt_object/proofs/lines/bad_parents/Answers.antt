use Rattle.std.proofs.Common.{◌≡◌, ◌+◌, length, refl, arith, true}
use Rattle.std.specs.Prelude.{codes}
use Rattle.gt_object.specs.Lines.{more_parents, line_at, parent_ids}
use Rattle.gt_object.specs.Grammar.{fault}
use Rattle.gt_object.proofs.Loops.{going_on}
use Rattle.gt_object.proofs.lines.bad_parents.Goals as goal

pub parents-init : goal.parents-init
unfolding parent_ids
parents-init c = record { within = omega arith; going = (length c.args.content.now, omega arith, refl) }

pub parents-preserved : goal.parents-preserved
parents-preserved c =
    let m : more_parents c.args.content.now c.parents.at ≡ true = cc in
    let w = c.in-Some.ensures.within in
    record { within = omega (arith, w); going = going_on (more_parents c.args.content.now) (line_at (codes "parent ") c.args.content.now) (length c.args.content.now) c.parents.at (c.parents.at + 48) c.in-Some.field-0 (fault (parent_ids c.args.content.now c.args.from)) m c.in-Some.ensures.value (omega arith) (omega (arith, w)) c.parents.invariant.going }
