use Rattle.std.proofs.Common.{subst, List, ℕ, Option}
use Rattle.gt_slots.specs.Pages.{IsHalved}
use Rattle.gt_slots.proofs.EditLaws.{halved_all, halved_well}
use Rattle.gt_slots.proofs.inserting.split_page.Goals as goal

pub returns-clause-well : goal.returns-clause-well
returns-clause-well c =
    let P : List (List (List ℕ × (List (ℕ × Option (List ℕ)) × ℕ))) → Type 0 = λ ps. IsHalved c.args.at c.in-Ok.upper ps c.split_half.new.pages.items in
    halved_well c.args.at c.in-Ok.upper c.args.pages.now.items c.split_half.new.pages.items c.insert.new.self.items c.requires.well c.requires.fits (subst P c.reserve.ensures.items c.in-Ok.ensures.ok) c.in-Ok-insert.ensures.items

pub returns-clause-same : goal.returns-clause-same
returns-clause-same c =
    let P : List (List (List ℕ × (List (ℕ × Option (List ℕ)) × ℕ))) → Type 0 = λ ps. IsHalved c.args.at c.in-Ok.upper ps c.split_half.new.pages.items in
    halved_all c.args.at c.in-Ok.upper c.args.pages.now.items c.split_half.new.pages.items c.insert.new.self.items c.requires.fits (subst P c.reserve.ensures.items c.in-Ok.ensures.ok) c.in-Ok-insert.ensures.items
