use Rattle.std.proofs.Common.{nat_eq, length, ap, sym, ◌∙◌}
use Rattle.gt_slots.proofs.PlaceLaws.{page_at}
use Rattle.gt_slots.proofs.removing.has_one.Goals as goal

pub returns : goal.returns
returns c = ap (λ n. nat_eq n 1) (c.len.ensures ∙ ap length (c.index-pages-at.is ∙ sym (page_at c.args.pages.now c.args.at c.index-pages-at.result c.requires)))
