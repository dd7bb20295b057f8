-- Which kinds of entries are made and read yet.
use Rattle.std.specs.Prelude.{◌≡◌, Bool, true, false}
use Rattle.gt_model.specs.declared.change.Change.{Change}
use Rattle.gt_model.specs.declared.change.Change.TheVariants.{Create, Delete, Link, Write, Repack, Prune, PackRefs, Unlink}
use Rattle.gt_model.specs.declared.entry.Entry.{Entry}

-- creations, deletions and writes
abbrev pub is_built : Change → Bool
is_built (Create pool) = true
is_built Delete = true
is_built (Link pool) = false
is_built (Write refs needed added) = true
is_built (Repack file dropped) = false
is_built (Prune file dropped) = false
is_built (PackRefs file) = false
is_built (Unlink file) = false

abbrev pub IsBuilt : Entry → Type 0
IsBuilt e = is_built e.change ≡ true
