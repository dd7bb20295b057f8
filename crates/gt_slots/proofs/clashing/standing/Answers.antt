use Rattle.std.proofs.Common.{Some, None, cond, ap, sym, ◌∙◌}
use Rattle.gt_versions.proofs.Keys.{at_key}
use Rattle.gt_slots.specs.Pages.{all}
use Rattle.gt_slots.proofs.SeekLaws.{stands_found}
use Rattle.gt_slots.proofs.clashing.standing.Goals as goal

pub returns-then-stands : goal.returns-then-stands
returns-then-stands c = sym (ap (λ b. cond b (Some c.in-Some.slot.now.0) None) c.if-stands.true) ∙ stands_found c.args.start c.args.position c.args.gone.now c.args.folder.now c.in-Some.slot.now (at_key (all c.args.pages.now) c.args.folder.now) c.stands.result c.in-Some.ensures.value c.in-Some.ensures.key c.stands.ensures

pub returns-else-stands : goal.returns-else-stands
returns-else-stands c = sym (ap (λ b. cond b (Some c.in-Some.slot.now.0) None) c.if-stands.false) ∙ stands_found c.args.start c.args.position c.args.gone.now c.args.folder.now c.in-Some.slot.now (at_key (all c.args.pages.now) c.args.folder.now) c.stands.result c.in-Some.ensures.value c.in-Some.ensures.key c.stands.ensures
