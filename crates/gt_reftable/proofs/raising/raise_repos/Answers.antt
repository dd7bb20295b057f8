use Rattle.std.proofs.Common.{rules}
use Rattle.gt_reftable.proofs.AllLaws.{sorted_of}
use Rattle.gt_reftable.proofs.RaisingLaws.{repos_raised}
use Rattle.gt_reftable.proofs.raising.raise_repos.Goals as goal

pub returns : goal.returns
returns c =
    repos_raised _ c.args.to _ (λ k v b w f t. record { raised = search rules; lean = search rules; gone = search rules; same = search rules })
    c.args.repos.now.entries c.retain.new.self.entries (sorted_of c.args.repos.now.entries c.retain.ensures.was_ordered) c.retain.ensures.filtered
