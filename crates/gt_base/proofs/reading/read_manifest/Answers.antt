use Rattle.std.proofs.Common.{sym, subst}
use Rattle.gt_manifest.specs.declared.version.Version.TheVariants.{Second}
use Rattle.gt_manifest.specs.Whole.{Fits}
use Rattle.gt_base.proofs.Headings.{first_fits}
use Rattle.gt_base.proofs.reading.read_manifest.Goals as goal

pub returns-then-epoch-eq0-clause-fits : goal.returns-then-epoch-eq0-clause-fits
returns-then-epoch-eq0-clause-fits g c = subst (Fits Second) (sym c.no_manifest.ensures) first_fits
