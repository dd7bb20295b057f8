use Rattle.std.proofs.Common.{not, ◌&&◌, find, ap, ◌∙◌}
use Rattle.std.specs.List.{list_any}
use Rattle.std.specs.FinMap as map
use Rattle.gt_model.specs.Verdicts.{clashes, same_name}
use Rattle.gt_reftable.proofs.RefsLaws.{newest_refs}
use Rattle.gt_reftable.proofs.repo.RepoRefs.clash_newest.Goals as goal

pub returns : goal.returns
returns c =
    let up = rw (← c.self.view_is) at c.requires.values in
    rw (← c.self.view_is) (c.clash.ensures ∙ ap (λ m. find (λ other. clashes c.args.name.now other && not (list_any (same_name other) c.args.gone.now)) (map.keys m)) (newest_refs c.args.position _ up))
