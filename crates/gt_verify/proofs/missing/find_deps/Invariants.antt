use Rattle.std.proofs.Common.{◌≡◌, drop, not, find}
use Rattle.gt_model.specs.Verdicts.{is_present}
use Rattle.gt_verify.proofs.missing.find_deps.Given as goal

abbrev pub invariant-loop-dep : goal.invariant-loop-dep
invariant-loop-dep g l =
    find (λ dep. not (is_present (g.L.Look.content l.front) l.path l.stage.staged dep)) l.dep-items ≡ find (λ dep. not (is_present (g.L.Look.content l.front) l.path l.stage.staged dep)) (drop l.dep-index l.dep-items)
