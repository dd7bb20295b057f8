use Rattle.std.proofs.Common.{◌≡◌, ◌∙◌, ℕ, List, filter, map as map_list, nat_eq, subst, IfOk}
use Rattle.std.specs.List.{starts_with}
use Rattle.gt_plain_machine.proofs.transactions.references.Goals as goal

pub returns : goal.returns
returns c =
    subst (λ (refs : List (List ℕ × List ℕ)). IfOk c.with_prefix.result (λ list. list ≡ map_list (λ e. record { name = e.0; value = e.1 }) (filter (λ e. starts_with nat_eq e.0 c.args.prefix.now) refs)))
    (c.deref.ensures.value ∙ c.in_ok-refs.ensures) c.with_prefix.ensures
