use Rattle.std.proofs.Common.{sym, ◌∙◌}
use Rattle.gt_slots.proofs.ListLaws.{pages_more, pages_end}
use Rattle.gt_slots.proofs.listing.list_pages.Goals as goal

pub returns-in-Ok-false : goal.returns-in-Ok-false
returns-in-Ok-false c = pages_end c.args.start c.args.position c.args.prefix.now c.args.pages.now c.loop-page.page-index c.page-item.result c.slots.result.now c.loop-page-test.true c.page-item.is c.slots.ensures c.args.out.now c.loop-page.out c.list_slots.new.out c.loop-page.invariant.done c.in-Ok-false.ensures.list (sym c.in-Ok-false.ensures.more ∙ c.in-Ok-false.field-0-test)

pub loop-page-preserved : goal.loop-page-preserved
loop-page-preserved c = record {
  done = pages_more c.args.start c.args.position c.args.prefix.now c.args.pages.now c.loop-page.page-index c.page-item.result c.slots.result.now c.loop-page-test.true c.page-item.is c.slots.ensures c.args.out.now c.loop-page.out c.list_slots.new.out c.loop-page.invariant.done c.in-Ok-true.ensures.list (sym c.in-Ok-true.ensures.more ∙ c.in-Ok-true.field-0-test);
}
