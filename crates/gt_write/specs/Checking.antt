-- What the checks of a commit come to, over the content at the front and its position.
use Rattle.std.specs.Prelude.{◌≡◌, ◌+◌, ◌<◌, ◌≤◌, ℕ, IsTrue, List, Ok, Err}
use Rattle.gt_entry.specs.Fits.{HasSpelling}
use Rattle.gt_model.specs.declared.change.Change.TheVariants.{Write}
use Rattle.gt_model.specs.declared.entry.Entry.{Entry}
use Rattle.gt_model.specs.declared.limits.Limits.{Limits}
use Rattle.gt_model.specs.declared.refusal.Refusal.{Refusal}
use Rattle.gt_model.specs.Contents.{Content, fits}
use Rattle.gt_model.specs.Verdicts.{Staged, Ready, verdict, added_records}
use Rattle.gt_write.specs.declared.checked.Checked.{Checked}
use Rattle.gt_write.specs.declared.checked.Checked.TheVariants.{Good, Refused, Full, Memory}

-- the entry that a good commit adds
abbrev pub write_of : ℕ → Content → List ℕ → Staged → Ready → Entry
write_of front c path staged ready = record { position = front + 1; path = path; change = Write ready.refs ready.needed (added_records c path staged) }

-- It may be added behind the front: it has a spelling, fits, and there is a position for it.
pub record IsGoodWrite (limits : Limits) (front : ℕ) (c : Content) (e : Entry) : Type 0 where
  pub spelled : HasSpelling e
  pub next : e.position ≡ front + 1
  pub fit : IsTrue (fits c e)
  pub room : front < limits.positions

pub record IsVerdictOf (limits : Limits) (front : ℕ) (c : Content) (path : List ℕ) (staged : Staged) (e : Entry) : Type 0 where
  pub ready : Ready
  pub good : verdict c path staged ≡ Ok ready
  pub entry : e ≡ write_of front c path staged ready
  pub adds : IsGoodWrite limits front c e

pub record IsRefusalOf (c : Content) (path : List ℕ) (staged : Staged) (answer kept : Refusal) : Type 0 where
  pub failed : verdict c path staged ≡ Err answer
  pub same : kept ≡ answer

pub record IsFull (limits : Limits) (front : ℕ) (c : Content) (path : List ℕ) (staged : Staged) : Type 0 where
  pub ready : Ready
  pub good : verdict c path staged ≡ Ok ready
  pub full : limits.positions ≤ front

-- The verdict, carried out: an entry to add, a refusal, or a log at its limit; want of memory has its own cause.
abbrev pub IsChecked : Limits → ℕ → Content → List ℕ → Staged → Checked → Type 0
IsChecked limits front c path staged (Good entry) = IsVerdictOf limits front c path staged entry
IsChecked limits front c path staged (Refused answer kept) = IsRefusalOf c path staged answer kept
IsChecked limits front c path staged Full = IsFull limits front c path staged
IsChecked limits front c path staged Memory = Unit {0}

-- This is refused, unless memory ran out.
abbrev pub IsRefusedBy : Refusal → Checked → Type 0
IsRefusedBy refusal (Refused answer kept) = (answer ≡ refusal) × (kept ≡ refusal)
IsRefusedBy refusal Memory = Unit {0}
IsRefusedBy refusal (Good entry) = ⊥
IsRefusedBy refusal Full = ⊥
