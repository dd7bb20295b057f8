use Rattle.std.proofs.Common.{◌&&◌, length, drop, nat_eq, codes, ap, sym, ◌∙◌, arith}
use Rattle.std.proofs.lemmas.List.{take_all, length-drop}
use Rattle.std.specs.List.{starts_with}
use Rattle.gt_slots.proofs.SeekLaws.{under_parts}
use Rattle.gt_slots.proofs.clashing.is_under.Goals as goal

pub returns-then-starts_with : goal.returns-then-starts_with
returns-then-starts_with c =
    c.starts_with-then-starts_with.ensures.value
    ∙ ap (λ r. starts_with nat_eq r (codes "/")) (take_all _ (drop (length c.args.folder.now) c.args.name.now) (omega (arith, length-drop (length c.args.folder.now) c.args.name.now)))
    ∙ sym (under_parts c.args.name.now c.args.folder.now (codes "/") ∙ ap (λ b. b && starts_with nat_eq (drop (length c.args.folder.now) c.args.name.now) (codes "/")) (sym c.starts_with.ensures.value ∙ c.if-starts_with.true))

pub returns-else-starts_with : goal.returns-else-starts_with
returns-else-starts_with c =
    c.if-starts_with.false
    ∙ sym (under_parts c.args.name.now c.args.folder.now (codes "/") ∙ ap (λ b. b && starts_with nat_eq (drop (length c.args.folder.now) c.args.name.now) (codes "/")) (sym c.starts_with.ensures.value ∙ c.if-starts_with.false))
