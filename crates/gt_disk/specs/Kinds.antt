-- The files of a store's disk, by kind and number.
use Rattle.std.specs.Prelude.{ℕ}
use Rattle.gt_disk.specs.declared.file_id.FileId.{FileId}

-- its length counts the entries that are in
abbrev pub gate_file : FileId
gate_file = record { kind = 1; number = 0 }

-- its length is the epoch
abbrev pub turn_file : FileId
turn_file = record { kind = 2; number = 0 }

-- by epoch
abbrev pub manifest_file : ℕ → FileId
manifest_file epoch = record { kind = 3; number = epoch }

-- by position
abbrev pub entry_file : ℕ → FileId
entry_file n = record { kind = 4; number = n }

-- The three that follow share one sequence of numbers.
abbrev pub pack_file : ℕ → FileId
pack_file n = record { kind = 5; number = n }

abbrev pub packed_file : ℕ → FileId
packed_file n = record { kind = 6; number = n }

abbrev pub loose_file : ℕ → FileId
loose_file n = record { kind = 7; number = n }
