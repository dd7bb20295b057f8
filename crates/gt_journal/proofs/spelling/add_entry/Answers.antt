use Rattle.std.proofs.Common.{◌≡◌, ℕ, List, inr, refl, subst}
use Rattle.gt_disk.specs.Files.{now}
use Rattle.gt_disk.specs.Moments.{Since}
use Rattle.gt_log.specs.Log.{AddMoment}
use Rattle.gt_entry.specs.Spelling.{spelling}
use Rattle.gt_entry.proofs.WholeLemmas.{entry_again}
use Rattle.gt_base.specs.Spelling.{encode}
use Rattle.gt_journal.proofs.spelling.add_entry.Goals as goal

pub returns-in-Ok-clause-spelled : goal.returns-in-Ok-clause-spelled
returns-in-Ok-clause-spelled g c =
    let e = c.args.entry.now in
    inr (c.requires.built, entry_again (spelling e) e c.in-Ok.ensures.typed c.requires.spelling refl)

pub returns-in-Ok-clause-any_moment : goal.returns-in-Ok-clause-any_moment
returns-in-Ok-clause-any_moment g c told first entries count stands =
    let v = g.D.Disk.view c.args.disk.now in
    let bytes : c.deref.result.now ≡ encode c.args.entry.now = cc (c.deref.ensures.value, c.in-Ok.ensures.text) in
    subst (λ (b : List ℕ). Since (AddMoment c.add.result first entries b (now v)) v (g.D.Disk.view c.add.new.disk)) bytes (c.add.ensures.any_moment told first entries count stands)
