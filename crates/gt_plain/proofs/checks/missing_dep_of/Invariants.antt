use Rattle.std.proofs.Common.{◌≡◌, [], drop, find, not, option_map}
use Rattle.gt_object.specs.Whole.{deps}
use Rattle.gt_model.specs.declared.needer.Needer.TheVariants.{Object}
use Rattle.gt_model.specs.declared.refusal.Refusal.TheVariants.{MissingObject}
use Rattle.gt_plain.specs.Plain.{staged}
use Rattle.gt_model.specs.Verdicts.{first_some, is_present}
use Rattle.gt_plain.proofs.checks.missing_dep_of.Given as goal

-- what is left answers as all do
abbrev pub invariant-loop-item : goal.invariant-loop-item
invariant-loop-item l =
    first_some (λ a. option_map (λ dep. MissingObject dep (Object a.name)) (find (λ dep. not (is_present l.content l.path (staged [] l.records) dep)) (deps a.whole))) (drop l.item-index l.added)
    ≡ first_some (λ a. option_map (λ dep. MissingObject dep (Object a.name)) (find (λ dep. not (is_present l.content l.path (staged [] l.records) dep)) (deps a.whole))) l.added
