use Rattle.gt_apply.proofs.WriteLaws.{files_are, contents_are}
use Rattle.gt_apply.specs.Steps.{seen}
use Rattle.gt_apply.proofs.writes.writes_of.Goals as goal

pub returns-clause-files : goal.returns-clause-files
returns-clause-files c = files_are (seen c.args.own.now) (record { pack = c.in_ok-pack.pack; values = c.in_ok-values.values }) c.in_ok-pack.ensures c.in_ok-values.ensures

pub returns-clause-contents : goal.returns-clause-contents
returns-clause-contents c = contents_are (seen c.args.own.now) (record { pack = c.in_ok-pack.pack; values = c.in_ok-values.values }) c.in_ok-pack.ensures c.in_ok-values.ensures
