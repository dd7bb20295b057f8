use Rattle.std.proofs.Common.{◌∙◌, ◌&&◌, ℕ, List, not, find, sym, ap, rules, map as map_list}
use Rattle.std.proofs.lemmas.Iterator.Consumers.{YieldsList-from_rest}
use Rattle.std.proofs.lemmas.Iterator.Search.{find_from_yields_List}
use Rattle.std.proofs.Common.{tests}
use Rattle.std.specs.FinMap as map
use Rattle.std.specs.List.{list_any}
use Rattle.gt_model.specs.Contents.{Names}
use Rattle.gt_model.specs.Verdicts.{same_name, clashes}
use Rattle.gt_plain.proofs.Maps.{entries_of}
use Rattle.gt_plain.proofs.refs.PlainRefs.clash.Goals as goal

pub returns : goal.returns
returns c =
    let test : List ℕ → _ = λ (other : List ℕ). clashes c.args.name.now other && not (list_any (same_name other) c.args.gone.now) in
    find_from_yields_List test _ _ c.find.result c.find.ensures.ran (YieldsList-from_rest _ cc) (λ x b q k. search (rules, tests))
    ∙ ap (λ es. find test (map_list (λ e. e.0) es)) (sym (entries_of c.self.inside.tree.entries c.keys.ensures.ordered))
    ∙ ap (λ (m : Names). find test (map.keys m)) c.self.view_is
