use Rattle.std.proofs.Common.{◌++◌, codes}
use Rattle.std.specs.Option.{option_copied}
use Rattle.gt_slots.proofs.SeekLaws.{seek_found, seek_more}
use Rattle.gt_slots.proofs.clashing.seek_pages.Goals as goal

pub returns-in-Some : goal.returns-in-Some
returns-in-Some c = seek_found c.args.start c.args.position c.args.gone.now (c.args.folder.now ++ codes "/") c.args.pages.now c.loop-page.page-index c.page-item.result c.slots.result.now c.loop-page-test.true c.page-item.is c.slots.ensures c.loop-page.invariant.done (option_copied c.in-Some.answer) c.in-Some.ensures

pub loop-page-preserved : goal.loop-page-preserved
loop-page-preserved c = record {
  done = seek_more c.args.start c.args.position c.args.gone.now (c.args.folder.now ++ codes "/") c.args.pages.now c.loop-page.page-index c.page-item.result c.slots.result.now c.loop-page-test.true c.page-item.is c.slots.ensures c.loop-page.invariant.done c.in_default.ensures;
}
