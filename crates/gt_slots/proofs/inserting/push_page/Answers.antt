use Rattle.gt_slots.proofs.EditLaws.{page_pushed, page_well}
use Rattle.gt_slots.proofs.inserting.push_page.Goals as goal

pub returns-clause-well : goal.returns-clause-well
returns-clause-well c = page_well c.push_behind.result c.args.pages.now.items c.push_behind.new.pages.items c.in-Ok.page c.args.slot.0 c.args.slot.1 c.in-Ok.ensures c.requires.well c.requires.last c.push_behind.ensures.ok c.push_behind.ensures.err

pub returns-clause-ok : goal.returns-clause-ok
returns-clause-ok c = page_pushed c.push_behind.result c.args.pages.now.items c.push_behind.new.pages.items c.in-Ok.page c.args.slot c.in-Ok.ensures c.push_behind.ensures.ok
