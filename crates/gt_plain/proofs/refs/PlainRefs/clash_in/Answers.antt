use Rattle.std.proofs.Common.{◌∙◌, find, sym, ap, rules, tests, map as map_list}
use Rattle.std.proofs.lemmas.Iterator.Consumers.{YieldsList-from_rest}
use Rattle.std.proofs.lemmas.Iterator.Search.{find_from_yields_List}
use Rattle.gt_model.specs.Contents.{Names}
use Rattle.gt_model.specs.Verdicts.{clashes, clash_in}
use Rattle.gt_plain.proofs.Maps.{entries_of}
use Rattle.gt_plain.proofs.refs.PlainRefs.clash_in.Goals as goal

pub returns : goal.returns
returns c =
    find_from_yields_List (clashes c.args.name.now) _ _ c.find.result c.find.ensures.ran (YieldsList-from_rest _ cc) (λ x b q k. search (rules, tests))
    ∙ ap (λ es. find (clashes c.args.name.now) (map_list (λ e. e.0) es)) (sym (entries_of c.self.inside.tree.entries c.keys.ensures.ordered))
    ∙ ap (λ (m : Names). clash_in m c.args.name.now) c.self.view_is
