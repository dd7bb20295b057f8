use Rattle.std.proofs.Common.{◌≡◌, ℕ, List, sym, ap, ◌∙◌}
use Rattle.std.proofs.lemmas.Result.{IfOk-weaker}
use Rattle.gt_model.specs.Verdicts.{ascending, added_records}
use Rattle.gt_verify.specs.Checks.{names_of}
use Rattle.gt_verify.proofs.Adding.{names-added}
use Rattle.gt_verify.proofs.added.added_names.Goals as goal

pub returns : goal.returns
returns g c =
    let content = g.L.Look.content c.args.front.now in
    IfOk-weaker c.ascending.result (λ (names : List (List ℕ)). names ≡ ascending c.as_slice.result.now) (λ (names : List (List ℕ)). names ≡ names_of (added_records content c.args.path.now c.args.stage.now.staged))
    (λ names is. is ∙ ap ascending (c.as_slice.ensures ∙ c.in_ok-names.ensures) ∙ sym (names-added content c.args.path.now c.args.stage.now.staged)) c.ascending.ensures
