use Rattle.std.proofs.Common.{List, sym, ap, subst, ◌∙◌}
use Rattle.gt_pack.specs.declared.placed.Placed.{Placed}
use Rattle.gt_pack.specs.Spelling.{tail}
use Rattle.gt_pack.specs.Building.{Built, IsWritten, Lasts}
use Rattle.gt_pack.proofs.BuildLaws.{built, lasts_now}
use Rattle.gt_pack.proofs.builder.PackBuilder.end.Goals as goal

pub returns-clause-lasts : goal.returns-clause-lasts
returns-clause-lasts g c = λ tells ps h.
    let old : Built = built c.self.inside.file c.self.inside.count c.self.inside.next c.self.inside.items.0 in
    let piece = c.deref.ensures.value ∙ c.in_ok-index.ensures ∙ ap (λ (z : List Placed). tail z c.self.inside.next) c.as_slice.ensures in
    let before = subst (λ (b : Built). IsWritten b ps (g.D.Disk.view c.args.disk.now)) (sym c.self.view_is) h in
    subst (λ (b : Built). Lasts b.file ps (g.D.Disk.view c.sync.new.self)) c.self.view_is
    (lasts_now old ps c.deref.result.now (g.D.Disk.view c.args.disk.now) (g.D.Disk.view c.append.new.self) (g.D.Disk.view c.sync.new.self) piece (rw (← c.self.view_is) at c.requires) (c.in_ok-append.ensures.appended tells) (c.in_ok-sync.ensures.moment tells) before)
