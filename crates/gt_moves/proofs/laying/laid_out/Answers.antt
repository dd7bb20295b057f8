use Rattle.std.proofs.Common.{◌≡◌, List, None, Result, Ok, Err, IfOk, subst, sym, ap, ◌∙◌}
use Rattle.gt_apply.specs.Steps.{seen}
use Rattle.gt_pack.specs.Index.{Rises}
use Rattle.gt_pack.specs.declared.placed.Placed.{Placed}
use Rattle.gt_list.specs.declared.memory.NoMemory.{NoMemory}
use Rattle.gt_moves.specs.Laying.{spaced}
use Rattle.gt_moves.specs.Moves.{laid_out}
use Rattle.gt_moves.proofs.Spaces.{laid_by_lengths, laid_rise}
use Rattle.gt_moves.proofs.laying.laid_out.Goals as goal

pub returns-clause-places : goal.returns-clause-places
returns-clause-places c =
    subst (λ (ps : List Placed). IfOk c.spaced.result (λ places. places ≡ ps)) (ap (spaced 8) (c.as_slice.ensures ∙ c.in_ok-lengths.ensures) ∙ laid_by_lengths (seen c.args.own.now)) c.spaced.ensures

pub returns-clause-rises : goal.returns-clause-rises
returns-clause-rises c = by c.spaced.result (returns-clause-places c)
  where
    by : (r : Result (List Placed) NoMemory) → IfOk r (λ places. places ≡ laid_out (seen c.args.own.now)) → IfOk r (λ places. Rises None places)
    by (Ok ps) is = subst (Rises None) (sym is) (laid_rise (seen c.args.own.now))
    by (Err e) is = tt
