-- The disks in memory, as clauses see them.
use Rattle.std.specs.Prelude.{◌≡◌, ℕ, ◌+◌, ◌-◌, ◌^◌, ◌<◌, ◌≤◌, min, List, length, take, Option, None, Result, IsOk, IsErr, IsErrOf, MatchOption}
use Rattle.std.specs.Ordering.{nat_cmp}
use Rattle.std.specs.BTreeMap as tree
use Rattle.gt_disk.specs.declared.file_id.FileId.{FileId}
use Rattle.gt_disk.specs.declared.errors.DiskError.{DiskError}
use Rattle.gt_disk.specs.declared.errors.DiskError.TheVariants.{Failed}
use Rattle.gt_disk.specs.declared.mem.MemDisk.{MemDisk}
use Rattle.gt_disk.specs.declared.steady.SteadyDisk.{SteadyDisk}
use Rattle.gt_disk.specs.Files.{View, Content}
use Rattle.gt_disk.specs.Calls.{Cell, cell_at, view_of}

-- what a read shows, the clock, and the state of each file at each moment up to now
abbrev pub mem_view : MemDisk → View
mem_view d = view_of d.records.start d.records.calls.items

-- what a read of a file showed at this moment, and what a stop then may leave of it
abbrev pub mem_cell : MemDisk → ℕ → FileId → Cell
mem_cell d m f = cell_at d.records.start f (take m d.records.calls.items)

-- how many calls have failed
abbrev pub mem_faults : MemDisk → ℕ
mem_faults d = d.plan.failed

-- how many calls were made
abbrev pub mem_made : MemDisk → ℕ
mem_made d = d.plan.made

-- whether the call of this number is to fail, and how many bytes of a piece are then there
abbrev pub planned : MemDisk → ℕ → Option ℕ
planned d call = tree.get nat_cmp d.plan.faults call

-- A call is counted once, and what is planned for later ones stands.
pub record IsCounted (old new : MemDisk) : Type 0 where
  pub made : mem_made new ≡ min (mem_made old + 1) (2 ^ 64 - 1)
  pub later : (call : ℕ) → mem_made old + 1 ≤ call → planned new call ≡ planned old call

-- the fault that is planned for the next call
abbrev pub next_fault : MemDisk → Option ℕ
next_fault d = planned d (mem_made d)

-- A call that takes no memory fails exactly where that was planned.
abbrev pub FailsAsPlanned : {T E : Type 0} → Option ℕ → Result T E → Type 0
FailsAsPlanned fault result = MatchOption fault (IsOk result) (λ kept. IsErr result)

-- A planned call fails, and no other call is a failure of the device. What a failure keeps is what was planned.
abbrev pub KeepsAsPlanned : {T : Type 0} → Option ℕ → Result T DiskError → (ℕ → Type 0) → Type 0
KeepsAsPlanned fault result kept = MatchOption fault (IsErrOf result Failed → ⊥) (λ count. IsErr result × (IsErrOf result Failed → kept count))

-- the first bytes of a piece, as many as a fault keeps
abbrev pub kept_of : List ℕ → ℕ → List ℕ
kept_of piece kept = take (min (length piece) kept) piece

-- after a planned failure of a removal: the file is there where nothing is kept, and absent otherwise
abbrev pub LeavesAsPlanned : Content → Content → ℕ → Type 0
LeavesAsPlanned old new kept = (kept ≡ 0 → new ≡ old) × (0 < kept → new ≡ None)

abbrev pub steady_view : SteadyDisk → View
steady_view d = view_of d.records.start d.records.calls.items

abbrev pub steady_cell : SteadyDisk → ℕ → FileId → Cell
steady_cell d m f = cell_at d.records.start f (take m d.records.calls.items)
