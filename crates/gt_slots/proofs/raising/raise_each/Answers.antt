use Rattle.std.proofs.Common.{rules, ℕ, List, Option, not, nat_eq, length}
use Rattle.gt_slots.specs.Pages.{all}
use Rattle.gt_slots.specs.Raised.{raised_page, AreAscending}
use Rattle.gt_slots.proofs.RaisingLaws.{retained, seen, ascending-append}
use Rattle.gt_slots.proofs.raising.raise_each.Goals as goal

pub returns-clause-pages : goal.returns-clause-pages
returns-clause-pages c =
    retained _ (λ (p : List (List ℕ × (List (ℕ × Option (List ℕ)) × ℕ))). not (nat_eq (length (raised_page c.args.start c.args.to p)) 0)) (raised_page c.args.start c.args.to)
    _ (λ x b t y k. search rules) _ _ c.retain_mut.ensures.filtered

pub returns-clause-ascending : goal.returns-clause-ascending
returns-clause-ascending c =
    seen _ AreAscending (λ ps. AreAscending (all ps))
    _ tt (λ p ps h rest. ascending-append p (all ps) h rest) (λ x b t y k. search rules) _ _ c.retain_mut.ensures.filtered
