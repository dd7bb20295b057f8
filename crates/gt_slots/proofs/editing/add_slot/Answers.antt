use Rattle.gt_slots.specs.Pages.{all}
use Rattle.gt_slots.proofs.EntryLaws.{add_here, add_ready, add_others}
use Rattle.std.proofs.Common.{◌∙◌}
use Rattle.gt_slots.proofs.editing.add_slot.Goals as goal

pub returns-clause-here : goal.returns-clause-here
returns-clause-here c = add_here c.insert_new.result (all c.args.pages.now.items) (all c.insert_new.new.pages.items) c.args.name.now c.in-Ok.key c.reserve.new.self c.in-Ok.ensures.cases c.requires.new (c.in_default.ensures.same ∙ c.new-versions.ensures) c.insert_new.ensures.ok c.insert_new.ensures.err

pub returns-clause-ok : goal.returns-clause-ok
returns-clause-ok c = add_ready c.insert_new.result (all c.args.pages.now.items) (all c.insert_new.new.pages.items) c.args.name.now c.in-Ok.key c.reserve.new.self c.in-Ok.ensures.cases c.requires.new c.in_default.ensures.ok c.insert_new.ensures.ok

pub returns-clause-others : goal.returns-clause-others
returns-clause-others c = add_others c.insert_new.result (all c.args.pages.now.items) (all c.insert_new.new.pages.items) c.args.name.now c.in-Ok.key c.reserve.new.self c.in-Ok.ensures.cases c.requires.new c.insert_new.ensures.ok c.insert_new.ensures.err
