-- The entries of a log, read one after the other.
use Rattle.std.specs.Prelude.{ℕ, ◌+◌, zero, suc, ◌&&◌, List, [], ◌∷◌, Result, Ok, Err, if◌then◌else◌}
use Rattle.gt_disk.specs.Files.{Content as FileContent}
use Rattle.gt_disk.specs.Kinds.{entry_file}
use Rattle.gt_model.specs.declared.entry.Entry.{Entry}
use Rattle.gt_model.specs.Contents.{Content, after, fits}
use Rattle.gt_reading.specs.Reading.{Reading, done, ask, parsed, ◌>>=◌}
use Rattle.gt_base.specs.Built.{is_built}
use Rattle.gt_base.specs.Spelling.{decode}

-- It fits the content before it, and is of a kind that is built.
abbrev pub fitting : Content → Result Entry ℕ → Result Entry ℕ
fitting c (Ok e) = if is_built e.change && fits c e then Ok e else Err 0
fitting c (Err at) = Err at

-- the entry of a file that is there, spells an entry at this position, and fits the content before it, or the first bad place
abbrev pub entry_of : FileContent → Content → ℕ → Result Entry ℕ
entry_of file c position = fitting c (decode position file)

abbrev pub entry_in : Content → ℕ → Reading Entry
entry_in c position = ask (entry_file position) (λ file. parsed (entry_file position) (entry_of file c position))

-- the next entries from a position on, as many as this, over the content before them
abbrev pub entries_in : Content → ℕ → ℕ → Reading (List Entry)
entries_in c position zero = done []
entries_in c position (suc more) = entry_in c position >>= λ e. entries_in (after c e) (position + 1) more >>= λ es. done (e ∷ es)
