use Rattle.std.proofs.Common.{List, Err, sym, ap, subst}
use Rattle.gt_model.specs.Usual.{usual}
use Rattle.gt_script.specs.declared.request.Request.{Request}
use Rattle.gt_prog.specs.Statuses.{Asks}
use Rattle.gt_prog.proofs.Completing.{input_completes, work_completes}
use Rattle.gt_prog.proofs.Ends.{is_done, is_cut_short, is_failed, is_damaged, is_without_memory, good_again}
use Rattle.gt_prog.proofs.top.gitstore_plain.Goals as goal

pub returns-in-Ok-clause-done : goal.returns-in-Ok-clause-done
returns-in-Ok-clause-done g c =
    let asked = subst (λ (rs : List Request). Asks (g.S.Source.left c.args.source.now) rs) (sym c.deref.ensures.value) c.in-Ok.ensures.input in
    let ends = rw c.usual.ensures at c.work.ensures.ends in
    is_done g.H.D.Disk.tells usual c.deref.result.now _ _ _ _ _ _ (g.S.Source.left c.args.source.now) asked c.work.result ends

pub returns-in-Ok-clause-cut_short : goal.returns-in-Ok-clause-cut_short
returns-in-Ok-clause-cut_short g c =
    let asked = subst (λ (rs : List Request). Asks (g.S.Source.left c.args.source.now) rs) (sym c.deref.ensures.value) c.in-Ok.ensures.input in
    let ends = rw c.usual.ensures at c.work.ensures.ends in
    is_cut_short g.H.D.Disk.tells usual c.deref.result.now _ _ _ _ _ _ (g.S.Source.left c.args.source.now) asked c.work.result ends

pub returns-in-Ok-clause-failed : goal.returns-in-Ok-clause-failed
returns-in-Ok-clause-failed g c =
    let asked = subst (λ (rs : List Request). Asks (g.S.Source.left c.args.source.now) rs) (sym c.deref.ensures.value) c.in-Ok.ensures.input in
    let ends = rw c.usual.ensures at c.work.ensures.ends in
    is_failed g.H.D.Disk.tells usual c.deref.result.now _ _ _ _ _ _ (g.S.Source.left c.args.source.now) asked c.work.result ends

pub returns-in-Ok-clause-found_damaged : goal.returns-in-Ok-clause-found_damaged
returns-in-Ok-clause-found_damaged g c =
    let asked = subst (λ (rs : List Request). Asks (g.S.Source.left c.args.source.now) rs) (sym c.deref.ensures.value) c.in-Ok.ensures.input in
    let ends = rw c.usual.ensures at c.work.ensures.ends in
    is_damaged g.H.D.Disk.tells usual c.deref.result.now _ _ _ _ _ _ (g.S.Source.left c.args.source.now) asked c.work.result ends

pub returns-in-Ok-clause-memory : goal.returns-in-Ok-clause-memory
returns-in-Ok-clause-memory g c =
    let asked = subst (λ (rs : List Request). Asks (g.S.Source.left c.args.source.now) rs) (sym c.deref.ensures.value) c.in-Ok.ensures.input in
    let ends = rw c.usual.ensures at c.work.ensures.ends in
    is_without_memory g.H.D.Disk.tells usual c.deref.result.now _ _ _ _ _ _ (g.S.Source.left c.args.source.now) asked c.work.result ends

pub returns-in-Ok-clause-good : goal.returns-in-Ok-clause-good
returns-in-Ok-clause-good g c =
    let ends = rw c.usual.ensures at c.work.ensures.ends in
    good_again g.H.D.Disk.tells usual c.deref.result.now _ _ _ _ _ _ c.work.result ends

pub returns-in-Ok-clause-complete : goal.returns-in-Ok-clause-complete
returns-in-Ok-clause-complete g c good source sink host disk =
    let ends = rw c.usual.ensures at c.work.ensures.ends in
    let undamaged = rw c.usual.ensures at c.work.ensures.undamaged in
    work_completes g.H.D.Disk.tells usual c.deref.result.now _ _ _ _ _ _ _ _ _ _ c.work.result ends c.work.ensures.write c.work.ensures.device (undamaged good.telling good.good) sink host disk

pub returns-in-Err-clause-complete : goal.returns-in-Err-clause-complete
returns-in-Err-clause-complete g c good source sink host disk = input_completes g.H.D.Disk.tells _ _ _ good c.in-Err.status _ _ c.in-Err.ensures.input (λ is. c.in-Err.ensures.read (ap Err is)) source
