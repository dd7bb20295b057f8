-- What the code finds at a place, against what the grammar reads there.
use Rattle.std.specs.Prelude.{◌≡◌, ℕ, ◌+◌, length, Bool, Option, Some, None, Result, Ok, Err, List, codes, ◌||◌, bytes_eq}
use Rattle.gt_object.specs.declared.tree.Found.{Found}
use Rattle.gt_object.specs.Trees.{TreeEntry}

-- the two spellings of octal 160000 in at most 7 digits
abbrev pub is_submodule_text : List ℕ → Bool
is_submodule_text mode = bytes_eq mode (codes "160000") || bytes_eq mode (codes "0160000")

-- what is found is of the entry that is read
abbrev pub FindsEntry : ℕ → Option Found → Result (TreeEntry × ℕ) ℕ → Type 0
FindsEntry at None read = read ≡ Err at
FindsEntry at (Some f) read = (e : TreeEntry) × (read ≡ Ok (e, f.next)) × (f.submodule ≡ is_submodule_text e.mode) × (f.id ≡ e.id)

-- what is found is the name on the line that is read
abbrev pub FindsLine : List ℕ → ℕ → Option (List ℕ) → Result (List ℕ × ℕ) ℕ → Type 0
FindsLine word at None read = read ≡ Err at
FindsLine word at (Some id) read = read ≡ Ok (id, at + (length word + 41))
