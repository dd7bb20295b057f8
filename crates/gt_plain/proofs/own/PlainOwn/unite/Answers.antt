use Rattle.std.proofs.Common.{◌≡◌, ap, sym, ◌∙◌, subst, OnOk}
use Rattle.gt_model.specs.Contents.{Names, union}
use Rattle.gt_plain.specs.Plain.{with_missing}
use Rattle.gt_plain.proofs.Maps.{entries_of}
use Rattle.gt_plain.proofs.Union.{with_missing-union}
use Rattle.gt_plain.proofs.own.PlainOwn.unite.Goals as goal

pub returns : goal.returns
returns c =
    let is : with_missing c.args.self.now c.other.inside.tree.entries ≡ union c.args.self.now c.args.other.now =
    ap (with_missing c.args.self.now) (sym (entries_of c.other.inside.tree.entries c.copy_all_missing.ensures.ordered)) ∙ with_missing-union c.args.self.now _ ∙ ap (union c.args.self.now) c.other.view_is in
    subst (λ (m : Names). OnOk c.copy_all_missing.result (c.copy_all_missing.new.own ≡ m)) is c.copy_all_missing.ensures.ok
