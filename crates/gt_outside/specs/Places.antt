-- The places of a host's disks.
use Rattle.std.specs.Prelude.{◌≡◌, ◌≢◌, ℕ, Bool, true, false, List, map, All, Option, Some, None, slice_get, is_none}
use Rattle.std.specs.Option.{option_map, option_map_or, unwrap_or}
use Rattle.gt_disk.specs.declared.mem.MemDisk.{MemDisk}
use Rattle.gt_disk.specs.Files.{View, still}
use Rattle.gt_outside.specs.declared.disk_slot.DiskSlot.{DiskSlot}

-- the disk at this place, or what it was when it was taken
abbrev pub known : DiskSlot → MemDisk
known place = unwrap_or place.disk place.last.value

-- the disk of this number, here or out
abbrev pub disk_at : List DiskSlot → ℕ → Option MemDisk
disk_at places n = option_map known (slice_get places n)

-- whether the disk of this number is out
abbrev pub is_out_at : List DiskSlot → ℕ → Bool
is_out_at places n = option_map_or (λ place. is_none place.disk) (slice_get places n) false

-- a property of the disk of this number, and this where there is none
abbrev pub known_at : {T : Type 0} → (MemDisk → T) → T → List DiskSlot → ℕ → T
known_at property none places n = option_map_or property (disk_at places n) none

-- the view of no disk
abbrev pub no_view : View
no_view = record { reads = λ _. None; clock = 0; at = λ _ _. still None }

-- these disks stand in their places
pub record IsAllHere (disks : List MemDisk) (places : List DiskSlot) : Type 0 where
  pub each : map known places ≡ disks
  pub here : All (λ place. is_none place.disk ≡ false) places

-- this disk is taken out of its place
pub record Takes (number : ℕ) (disk : MemDisk) (old new : List DiskSlot) : Type 0 where
  pub taken : disk_at old number ≡ Some disk
  pub disks : (n : ℕ) → disk_at new n ≡ disk_at old n
  pub out : is_out_at new number ≡ true
  pub others : (n : ℕ) → n ≢ number → is_out_at new n ≡ is_out_at old n

-- this disk stands in its place
pub record Gives (number : ℕ) (disk : MemDisk) (old new : List DiskSlot) : Type 0 where
  pub given : disk_at new number ≡ Some disk
  pub here : is_out_at new number ≡ false
  pub other_disks : (n : ℕ) → n ≢ number → disk_at new n ≡ disk_at old n
  pub others : (n : ℕ) → n ≢ number → is_out_at new n ≡ is_out_at old n
