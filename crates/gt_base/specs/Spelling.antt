-- How an entry is spelled in its file, and read from it.
use Rattle.std.specs.Prelude.{◌≡◌, ℕ, List, [], ◌∷◌, Some, None, Result, Ok, Err, ◌==◌, bytes_eq, if◌then◌else◌}
use Rattle.gt_disk.specs.Files.{Content as FileContent}
use Rattle.gt_entry.specs.Reading.{entry_of}
use Rattle.gt_entry.specs.Spelling.{spelling}
use Rattle.gt_model.specs.declared.entry.Entry.{Entry}
use Rattle.gt_base.specs.Built.{IsBuilt}

abbrev pub encode : Entry → List ℕ
encode = spelling

-- It is of a kind that is built, and is read again from its spelling.
abbrev pub IsSpelled : Entry → Type 0
IsSpelled e = IsBuilt e × (entry_of (encode e) ≡ Ok e)

abbrev pub AreSpelled : List Entry → Type 0
AreSpelled [] = Unit {0}
AreSpelled (e ∷ es) = IsSpelled e × AreSpelled es

-- What is read of numbers that are bytes is what they spell.
abbrev pub exactly : List ℕ → Result Entry ℕ → Result Entry ℕ
exactly bytes (Ok e) = if bytes_eq (encode e) bytes then Ok e else Err 0
exactly bytes (Err at) = Err at

-- the position of an entry stands behind the magic
abbrev pub placed : ℕ → Result Entry ℕ → Result Entry ℕ
placed position (Ok e) = if e.position == position then Ok e else Err 4
placed position (Err at) = Err at

-- the entry at this position that a file spells, or the first bad place
abbrev pub decode : ℕ → FileContent → Result Entry ℕ
decode position None = Err 0
decode position (Some bytes) = placed position (exactly bytes (entry_of bytes))
