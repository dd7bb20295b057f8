use Rattle.std.proofs.Common.{rules}
use Rattle.std.proofs.lemmas.List.Sorted.{answers_always}
use Rattle.gt_pack.proofs.FindLaws.{searched}
use Rattle.gt_moves.proofs.finding.search.Goals as goal

pub returns : goal.returns
returns c =
    let facts = c.binary_search_by_key.ensures in
    let by_key = facts.position (λ e. e.name) (answers_always _ _ _ (λ f a r g called. search rules)) in
    searched c.args.items.now c.requires c.args.name.now _ facts.bound by_key
