use Rattle.std.proofs.Common.{ℕ, List, sym, ◌∙◌, subst, rules}
use Rattle.std.specs.Prelude.{IsSorted}
use Rattle.std.specs.Ordering.{is_lt}
use Rattle.std.proofs.lemmas.List.Sorted.{IsPartitionPoint-from_clause}
use Rattle.gt_model.specs.Contents.{key_cmp}
use Rattle.gt_verify.proofs.SortedLaws.{parted, place_is}
use Rattle.gt_verify.proofs.sorted.SortedRefs.place.Goals as goal

pub returns-clause-place : goal.returns-clause-place
returns-clause-place c =
    let up = subst (λ (l : List (List ℕ)). IsSorted key_cmp l) (sym c.deref.ensures.value) c.self.invariant in
    place_is c.deref.result.now c.args.self.now c.args.text.now c.partition_point.result (c.deref.ensures.value ∙ c.self.view_is)
    (IsPartitionPoint-from_clause (λ y. is_lt (key_cmp y c.args.text.now)) _ _ c.partition_point.ensures.partitioned (parted c.deref.result.now c.args.text.now up) (λ a r q k. search rules))

pub returns-clause-sorted : goal.returns-clause-sorted
returns-clause-sorted c = subst (λ (l : List (List ℕ)). IsSorted key_cmp l) c.self.view_is c.self.invariant
