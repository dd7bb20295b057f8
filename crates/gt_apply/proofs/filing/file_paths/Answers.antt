use Rattle.std.proofs.Common.{◌^◌}
use Rattle.gt_apply.specs.Steps.{drafted_all}
use Rattle.gt_apply.proofs.DraftLaws.{paths-left}
use Rattle.gt_apply.proofs.filing.file_paths.Goals as goal

pub file_path-requires : goal.file_path-requires
file_path-requires c =
    paths-left c.args.entries.now c.loop-path.draft (drafted_all c.args.entries.now c.args.paths.now c.args.draft) c.args.paths.now c.loop-path.path-index c.path-item.result (2 ^ 64)
    c.loop-path-test.true c.path-item.is c.loop-path.invariant c.requires
