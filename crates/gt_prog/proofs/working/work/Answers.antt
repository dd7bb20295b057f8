use Rattle.std.proofs.Common.{inl, refl, sym, subst}
use Rattle.gt_disk.specs.Files.{View, now}
use Rattle.gt_journal.specs.Histories.{IsGood}
use Rattle.gt_prog.proofs.Ends.{untouched}
use Rattle.gt_prog.proofs.working.work.Goals as goal

pub returns-in_default-clause-ends : goal.returns-in_default-clause-ends
returns-in_default-clause-ends g c = inl (untouched g.H.D.Disk.tells c.args.limits _ _ _ (c.in_default.ensures.views 1))

pub returns-clause-undamaged : goal.returns-clause-undamaged
returns-clause-undamaged g c told good = c.over_disk-disk.ensures.undamaged told (subst (λ (v : View). IsGood c.args.limits (now v)) (sym c.in-Ok.ensures.view) good)

pub returns-in_default-clause-host_sure : goal.returns-in_default-clause-host_sure
returns-in_default-clause-host_sure g c not = absurd (not 1 refl)
