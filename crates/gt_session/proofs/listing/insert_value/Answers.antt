use Rattle.gt_versions.proofs.Keys.{inserted}
use Rattle.gt_session.proofs.listing.insert_value.Goals as goal

pub returns : goal.returns
returns c = inserted c.args.table.now.entries c.insert.new.self.entries c.args.name c.args.value c.in_default.ensures.updates.0
