use Rattle.std.proofs.Common.{◌≡◌, ◌+◌, ◌++◌, [], ◌∷◌, List, take, sym, ◌∙◌, ap}
use Rattle.std.proofs.lemmas.List.{take_more}
use Rattle.gt_disk.specs.declared.call.Call.{Call}
use Rattle.gt_disk.specs.Calls.{Cell, cell_at, first_cell, stepped}
use Rattle.gt_disk.proofs.Replay.{cell_push}
use Rattle.gt_disk.proofs.image.replay.Goals as goal

pub loop-call-preserved : goal.loop-call-preserved
loop-call-preserved c = λ f.
    let front : List Call = take c.loop-call.call-index c.args.calls.now in
    let longer : take (c.loop-call.call-index + 1) c.args.calls.now ≡ front ++ c.call-item.result ∷ [] = take_more c.args.calls.now c.loop-call.call-index c.call-item.result c.loop-call-test.true ∙ ap (λ (x : Call). front ++ x ∷ []) (sym c.call-item.is) in
    c.in_ok-replay_one.ensures f
    ∙ ap (λ (x : Cell). stepped f x c.call-item.result) (c.loop-call.invariant f)
    ∙ sym (cell_push f (first_cell c.args.start.now f) front c.call-item.result)
    ∙ ap (λ (l : List Call). cell_at c.args.start.now f l) (sym longer)
