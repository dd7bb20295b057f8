use Rattle.std.proofs.Common.{◌++◌, ap, ◌∙◌}
use Rattle.gt_reftable.specs.Table.{all_in}
use Rattle.gt_reftable.proofs.AllLaws.{each_in_tree}
use Rattle.gt_reftable.proofs.listing.list_repos.Goals as goal

pub loop-path-init : goal.loop-path-init
loop-path-init c =
    let is = c.into_iter-path-iterator.ensures.into_iter_gives ∙ c.iter-path-items.ensures.rest in
    record {
      done = ap (λ l. l ++ all_in c.args.position c.into_iter-path-iterator.result) c.new-out.ensures ∙ ap (all_in c.args.position) is;
      up = each_in_tree c.args.position c.args.repos.now.entries c.into_iter-path-iterator.result is c.iter-path-items.ensures.ordered c.requires;
    }
