use Rattle.std.proofs.Common.{sym, subst}
use Rattle.std.specs.Prelude.{◌&&◌}
use Rattle.gt_verify.specs.Folders.{IsLeast, has_name, is_from}
use Rattle.gt_verify.proofs.SortedLaws.{from_least}
use Rattle.gt_verify.proofs.sorted.SortedRefs.from.Goals as goal

pub returns : goal.returns
returns c =
    subst (IsLeast (λ q. has_name c.args.self.now q && is_from c.args.text.now q)) (sym c.at.ensures) (from_least c.args.self.now c.args.text.now c.place.result c.place.ensures.sorted c.place.ensures.place)
