use Rattle.std.proofs.Common.{◌∙◌, [], Option, find, not, option_map, sym}
use Rattle.gt_object.specs.Whole.{deps}
use Rattle.gt_model.specs.declared.added.Added.{Added}
use Rattle.gt_model.specs.declared.needer.Needer.TheVariants.{Object}
use Rattle.gt_model.specs.declared.refusal.Refusal.{Refusal}
use Rattle.gt_model.specs.declared.refusal.Refusal.TheVariants.{MissingObject}
use Rattle.gt_plain.specs.Plain.{staged}
use Rattle.gt_model.specs.Verdicts.{is_present}
use Rattle.gt_plain.proofs.Firsts.{answers_here, answers_later}
use Rattle.gt_plain.proofs.checks.missing_dep_of.Goals as goal

pub returns-in-Some : goal.returns-in-Some
returns-in-Some c =
    let f : Added → Option Refusal = λ a. option_map (λ dep. MissingObject dep (Object a.name)) (find (λ dep. not (is_present c.args.content.now c.args.path.now (staged [] c.args.records.now) dep)) (deps a.whole)) in
    answers_here f c.args.added.now c.loop-item.item-index c.item-item.result c.loop-item-test.true c.item-item.is c.in-Some.refusal (sym c.in-Some.is ∙ c.in_ok-refusal.ensures) c.loop-item.invariant

pub loop-item-preserved : goal.loop-item-preserved
loop-item-preserved c =
    let f : Added → Option Refusal = λ a. option_map (λ dep. MissingObject dep (Object a.name)) (find (λ dep. not (is_present c.args.content.now c.args.path.now (staged [] c.args.records.now) dep)) (deps a.whole)) in
    answers_later f c.args.added.now c.loop-item.item-index c.item-item.result c.loop-item-test.true c.item-item.is (sym c.in_default.is ∙ c.in_ok-refusal.ensures) c.loop-item.invariant
