use Rattle.std.proofs.Common.{◌≡◌, ◌∙◌, ◌<◌, ℕ, List, length, IfOk, subst, sym, ap, arith, map as map_list}
use Rattle.std.proofs.lemmas.Bool.Decides.{nat_tests}
use Rattle.std.specs.FinMap as map
use Rattle.std.specs.FinMap.{FinMap}
use Rattle.gt_manifest.specs.declared.manifest.Loose.{Loose}
use Rattle.gt_model.specs.Contents.{key_cmp}
use Rattle.gt_versions.proofs.Keys.{entries_of}
use Rattle.gt_apply.specs.Plan.{to_loose}
use Rattle.gt_apply.specs.Steps.{with_numbers}
use Rattle.gt_apply.proofs.PlacedLaws.{all_loose}
use Rattle.gt_apply.proofs.placing.with_all_loose.Goals as goal

pub returns : goal.returns
returns c =
    let some : 0 < length c.args.values.now = grind (arith, nat_tests, c.is_empty.ensures, c.if-is_empty.false) in
    subst (λ (l : List Loose). IfOk c.list_of.result (λ all. all ≡ l))
    (ap (map_list to_loose)
    (sym (entries_of c.put_all.new.tree.entries c.list_of.ensures.ordered)
    ∙ ap (λ (m : FinMap key_cmp ℕ). map.entries m) (c.in_ok-put_all.ensures ∙ ap (λ (m : FinMap key_cmp ℕ). with_numbers m c.args.number c.args.values.now) c.in_ok-tree.ensures))
    ∙ all_loose c.args.list c.args.number c.args.values.now some)
    c.list_of.ensures.list
