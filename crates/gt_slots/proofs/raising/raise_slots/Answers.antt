use Rattle.std.proofs.Common.{rules, ℕ, List, Option}
use Rattle.gt_versions.specs.Ascending.{IsAscending}
use Rattle.gt_slots.specs.Raised.{raised_slot, is_left, AreAscending}
use Rattle.gt_slots.proofs.RaisingLaws.{retained, seen}
use Rattle.gt_slots.proofs.raising.raise_slots.Goals as goal

pub returns-clause-slots : goal.returns-clause-slots
returns-clause-slots c =
    retained _ (λ (e : List ℕ × (List (ℕ × Option (List ℕ)) × ℕ)). is_left (raised_slot c.args.start c.args.to e.1)) (λ e. (e.0, raised_slot c.args.start c.args.to e.1))
    _ (λ x b t y k. search rules) _ _ c.retain_mut.ensures.filtered

pub returns-clause-ascending : goal.returns-clause-ascending
returns-clause-ascending c =
    seen _ (λ (e : List ℕ × (List (ℕ × Option (List ℕ)) × ℕ)). IsAscending e.1.0) AreAscending
    _ tt (λ x xs p h. (p, h)) (λ x b t y k. search rules) _ _ c.retain_mut.ensures.filtered
