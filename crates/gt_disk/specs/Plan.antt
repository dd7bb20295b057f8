-- Which calls are to fail.
use Rattle.std.specs.Prelude.{ℕ, List, [], ◌∷◌, Option, Some, nat_eq, if◌then◌else◌}
use Rattle.gt_disk.specs.declared.fault.Fault.{Fault}

-- the fault of a call after these are listed too: of two for one call the last counts
abbrev pub listed : List Fault → ℕ → Option ℕ → Option ℕ
listed [] call before = before
listed (fault ∷ more) call before = listed more call (if nat_eq fault.call call then Some fault.kept else before)
