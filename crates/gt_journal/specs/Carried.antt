-- What memory holds of a log and its base, whatever the disk is.
use Rattle.std.specs.Prelude.{◌≡◌, ℕ, ◌+◌, ◌≤◌, All}
use Rattle.std.specs.Option.{ForSome}
use Rattle.gt_apply.specs.Fitting.{Lists, HasGoodPools}
use Rattle.gt_base.specs.Built.{IsBuilt}
use Rattle.gt_base.specs.Loading.{BaseState}
use Rattle.gt_entry.specs.Fits.{IsEntry, HasSpelling}
use Rattle.gt_manifest.specs.declared.manifest.Manifest.{Manifest}
use Rattle.gt_manifest.specs.declared.version.Version.TheVariants.{Second}
use Rattle.gt_manifest.specs.Whole.{Fits}
use Rattle.gt_model.specs.Contents.{IsLegal}
use Rattle.gt_table.specs.Table.{Past, base, front, content_at}
use Rattle.gt_journal.specs.Ledger.{Ledger}

-- The entries are legal past the base, have the types of their fields and a spelling each, and are of kinds that are built. The pools of the base are pools.
pub record IsLogged (p : Past) : Type 0 where
  pub legal : IsLegal (base p) (p.begin + 1) p.log
  pub typed : All IsEntry p.log
  pub spelled : All HasSpelling p.log
  pub built : All IsBuilt p.log
  pub pools : HasGoodPools (base p)

-- The manifest has a spelling, applies entries up to one of the log, and lists the repositories of the content there; its files have numbers below the next one.
pub record IsCarried (p : Past) (next : ℕ) (m : Manifest) : Type 0 where
  pub fits : Fits Second m
  pub from : p.begin ≤ m.applied
  pub to : m.applied ≤ front p
  pub lists : Lists m (content_at p m.applied)
  pub numbers : m.next ≤ next

-- The manifest that may count is of the next epoch, and applies more.
pub record IsCarriedNext (p : Past) (next : ℕ) (from to : Manifest) : Type 0 where
  pub carried : IsCarried p next to
  pub epoch : to.epoch ≡ from.epoch + 1
  pub more : from.applied + 1 ≤ to.applied

pub record Carries (p : Past) (next : ℕ) (b : BaseState) : Type 0 where
  pub now : IsCarried p next b.manifest
  pub later : ForSome b.doubt (IsCarriedNext p next b.manifest)

-- What holds of each log in memory: all of this, the floor stands between where the log begins and the applied position, and the entry in doubt has the types of its fields and a spelling.
pub record IsMemory (l : Ledger) : Type 0 where
  pub logged : IsLogged l.past
  pub carried : Carries l.past l.next l.base
  pub begins : l.past.begin ≤ l.floor
  pub floor : l.floor ≤ l.base.manifest.applied
  pub doubt : ForSome l.doubt (λ e. IsEntry e × HasSpelling e)
