use Rattle.std.proofs.Common.{◌+◌, ◌<◌, ◌^◌, List, length, subst, sym, fold, map}
use Rattle.gt_model.specs.Batches.{files_of}
use Rattle.gt_model.specs.declared.entry.Entry.{Entry}
use Rattle.std.proofs.Common.{Bor}
use Rattle.gt_apply.specs.Steps.{seen, drafted}
use Rattle.gt_apply.proofs.DraftLaws.{repos-left}
use Rattle.gt_apply.proofs.filing.file_repos.Goals as goal

pub file_repo-requires : goal.file_repo-requires
file_repo-requires c =
    subst (λ (own : List (Bor Entry)). c.loop-own.draft.next + length (files_of (seen own)) < 2 ^ 64) (sym c.as_slice.ensures)
    (repos-left c.args.path.now c.loop-own.draft (fold (drafted c.args.path.now) c.args.draft (map seen c.args.repos.now)) c.args.repos.now c.loop-own.own-index c.own-item.result (2 ^ 64)
    c.loop-own-test.true c.own-item.is c.loop-own.invariant c.requires)
