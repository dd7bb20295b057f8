use Rattle.std.proofs.Common.{◌≡◌, ◌+◌, arith, true, false, length}
use Rattle.std.specs.Prelude.{codes}
use Rattle.gt_object.specs.Lines.{more_parents, line_at, parent_ids}
use Rattle.gt_object.specs.Mentions.{noted}
use Rattle.gt_object.proofs.Noting.{doing_begins, doing_on, doing_ends, doing_bad}
use Rattle.gt_object.proofs.deps.note_parents.Goals as goal

pub parents-init : goal.parents-init
parents-init c = record { within = omega arith; agrees = c.requires.agrees; doing = doing_begins (more_parents c.args.content.now) (line_at (codes "parent ") c.args.content.now) (length c.args.content.now) noted c.args.from c.args.names.now }

pub parents-preserved : goal.parents-preserved
parents-preserved c =
    let m : more_parents c.args.content.now c.parents.at ≡ true = cc in
    let w = c.in-Some.ensures.within in
    record {
      within = omega (arith, w);
      agrees = c.in-Ok.ensures.agrees;
      doing = doing_on (more_parents c.args.content.now) (line_at (codes "parent ") c.args.content.now) (length c.args.content.now) noted c.args.from c.args.names.now c.parents.at (c.parents.at + 48) c.in-Some.parent c.parents.names c.note.new.names m c.in-Some.ensures.value (omega arith) (omega (arith, w)) c.in-Ok.ensures.noted c.parents.invariant.doing;
    }

pub returns-in-None : goal.returns-in-None
unfolding parent_ids
returns-in-None c = λ ids e. let m : more_parents c.args.content.now c.parents.at ≡ true = cc in absurd (doing_bad (more_parents c.args.content.now) (line_at (codes "parent ") c.args.content.now) (length c.args.content.now) noted c.args.from c.args.names.now c.parents.at c.parents.names m c.in-None.ensures.value c.parents.invariant.doing ids e)

pub returns : goal.returns
unfolding parent_ids
returns c = let m : more_parents c.args.content.now c.parents.at ≡ false = cc in doing_ends (more_parents c.args.content.now) (line_at (codes "parent ") c.args.content.now) (length c.args.content.now) noted c.args.from c.args.names.now c.parents.at c.parents.names m c.parents.invariant.doing
