use Rattle.std.specs.Prelude.{ℕ, Bool, false, List, slice_get}
use Rattle.std.specs.Option.{option_map_or}
use Rattle.gt_real.specs.declared.disk_slot.DiskSlot.{DiskSlot}

-- whether the disk of this number is out
abbrev pub is_out_at : List DiskSlot → ℕ → Bool
is_out_at places n = option_map_or (λ place. place.is_out) (slice_get places n) false

-- the clock of the disk of this number
abbrev pub clock_at : List DiskSlot → ℕ → ℕ
clock_at places n = option_map_or (λ place. place.changes) (slice_get places n) 0

-- the count of faults of the disk of this number
abbrev pub faults_at : List DiskSlot → ℕ → ℕ
faults_at places n = option_map_or (λ place. place.faults) (slice_get places n) 0
