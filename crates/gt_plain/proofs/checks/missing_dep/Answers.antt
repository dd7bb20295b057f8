use Rattle.std.proofs.Common.{◌≡◌, ◌∙◌, [], List, Option, find, not, option_map, subst, IfOk}
use Rattle.gt_object.specs.Whole.{deps}
use Rattle.gt_model.specs.declared.added.Added.{Added}
use Rattle.gt_model.specs.declared.needer.Needer.TheVariants.{Object}
use Rattle.gt_model.specs.declared.refusal.Refusal.{Refusal}
use Rattle.gt_model.specs.declared.refusal.Refusal.TheVariants.{MissingObject}
use Rattle.gt_plain.specs.Plain.{staged}
use Rattle.gt_model.specs.Verdicts.{first_some, is_present}
use Rattle.gt_plain.proofs.checks.missing_dep.Goals as goal

pub returns : goal.returns
returns c =
    let f : Added → Option Refusal = λ a. option_map (λ dep. MissingObject dep (Object a.name)) (find (λ dep. not (is_present c.args.content.now c.args.path.now (staged [] c.args.records.now) dep)) (deps a.whole)) in
    subst (λ (added : List Added). IfOk c.missing_dep_of.result (λ o. o ≡ first_some f added)) (c.as_slice.ensures.value ∙ c.in_ok-added.ensures) c.missing_dep_of.ensures
