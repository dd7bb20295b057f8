use Rattle.std.proofs.Common.{◌≡◌, sym, ap, ◌∙◌}
use Rattle.std.specs.List.{list_any}
use Rattle.gt_model.specs.Jobs.{same_pair}
use Rattle.gt_mark.proofs.Pairs.{found_there, there_found}
use Rattle.gt_mark.proofs.marked.Marked.has.Goals as goal

pub returns : goal.returns
returns c =
    let e : c.contains.result ≡ list_any (same_pair c.args.pair.now) c.args.self.now = c.contains.ensures ∙ ap (list_any (same_pair c.args.pair.now)) c.self.view_is in
    (λ t. found_there c.args.pair.now c.args.self.now (sym e ∙ t), λ h. e ∙ there_found c.args.pair.now c.args.self.now h)
