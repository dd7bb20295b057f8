use Rattle.gt_slots.proofs.RaisingLaws.{pages_well, pages_items, pages_left, ascending_at}
use Rattle.gt_slots.specs.Pages.{all}
use Rattle.gt_slots.proofs.raising.raise_pages.Goals as goal

pub returns-clause-well : goal.returns-clause-well
returns-clause-well c = pages_well c.args.start c.args.to c.args.pages.now.items c.raise_each.new.pages.items c.raise_each.ensures.pages c.requires

pub returns-clause-items : goal.returns-clause-items
returns-clause-items c = pages_items c.args.start c.args.to c.args.pages.now.items c.raise_each.new.pages.items c.raise_each.ensures.pages c.requires.sorted

pub returns-clause-left : goal.returns-clause-left
returns-clause-left c = pages_left c.args.start c.args.to c.args.pages.now.items c.raise_each.new.pages.items c.raise_each.ensures.pages

pub returns-clause-ascending : goal.returns-clause-ascending
returns-clause-ascending c = λ x. ascending_at x (all c.args.pages.now.items) c.raise_each.ensures.ascending
