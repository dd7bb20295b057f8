use Rattle.std.proofs.Common.{ℕ, List, Option, Some, None, ap, sym, ◌∙◌}
use Rattle.std.specs.Option.{option_copied}
use Rattle.std.specs.FinMap as map
use Rattle.gt_model.specs.Contents.{Repo, Names}
use Rattle.gt_model.proofs.Checks.{entries-empty}
use Rattle.gt_plain_machine.proofs.transactions.refs_of.Goals as goal

pub returns-in-None : goal.returns-in-None
returns-in-None c =
    let refs : Option Repo → Names = λ o. elim o as (λ o. Names) [ None ↦ map.empty | Some r ↦ r.refs ] in
    c.new.ensures.items ∙ sym (ap (λ o. map.entries (refs o)) (sym c.get.ensures ∙ ap option_copied c.in-None.is) ∙ entries-empty (List ℕ))
