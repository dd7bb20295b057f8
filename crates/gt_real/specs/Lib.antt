pub mod DiskSlots
