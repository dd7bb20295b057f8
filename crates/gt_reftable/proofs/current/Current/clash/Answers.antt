use Rattle.std.proofs.Common.{not, ◌&&◌, find, cond, sym, ap, ◌∙◌}
use Rattle.std.specs.List.{list_any}
use Rattle.std.specs.FinMap as map
use Rattle.gt_model.specs.Verdicts.{clashes, same_name}
use Rattle.gt_slots.specs.Present.{refs_since}
use Rattle.gt_reftable.proofs.RefsLaws.{no_refs}
use Rattle.gt_reftable.proofs.ReadLaws.{no_keys}
use Rattle.gt_reftable.proofs.current.Current.clash.Goals as goal

pub returns-then-self : goal.returns-then-self
returns-then-self c = rw (← c.self.view_is) (
    sym (no_keys (λ other. clashes c.args.name.now other && not (list_any (same_name other) c.args.gone.now)))
    ∙ ap (λ m. find (λ other. clashes c.args.name.now other && not (list_any (same_name other) c.args.gone.now)) (map.keys m)) (sym (no_refs c.args.position))
    ∙ ap (λ b. find (λ other. clashes c.args.name.now other && not (list_any (same_name other) c.args.gone.now)) (map.keys (refs_since 0 c.args.position (cond b map.empty c.self.inside.refs)))) (sym c.if-self.true))
