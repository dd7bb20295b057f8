use Rattle.std.proofs.Common.{sym, ◌∙◌}
use Rattle.gt_plain.proofs.Union.{missing_kept, missing_put}
use Rattle.gt_plain_files.proofs.shelves.add_missing.Goals as goal

pub returns-then-contains_key : goal.returns-then-contains_key
returns-then-contains_key c = missing_kept c.args.tree.now.entries c.args.path c.args.shelf (sym c.contains_key.ensures ∙ c.if-contains_key.true)

pub returns-in-Ok : goal.returns-in-Ok
returns-in-Ok c = missing_put c.args.tree.now.entries c.insert.new.self.entries c.args.path c.args.shelf (sym c.contains_key.ensures ∙ c.if-contains_key.false) c.in-Ok.ensures.updates.0
