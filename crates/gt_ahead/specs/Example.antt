-- A disk without files, and one with the creation of a repository, and the first epochs that they may be switched to.
use Rattle.std.specs.Prelude.{ℕ, false, List, [], ◌∷◌, codes, Some, None, if◌then◌else◌}
use Rattle.gt_disk.specs.Calls.{same_file}
use Rattle.gt_disk.specs.Files.{Files, States, still}
use Rattle.gt_disk.specs.Kinds.{gate_file, entry_file}
use Rattle.gt_model.specs.declared.change.Change.TheVariants.{Create}
use Rattle.gt_model.specs.declared.entry.Entry.{Entry}
use Rattle.gt_base.specs.Spelling.{encode}
use Rattle.gt_base.specs.Recovery.{Based, Loaded, first_manifest}

abbrev pub no_files : Files
no_files f = None

abbrev pub no_states : States
no_states f = still None

-- no repository, and no log
abbrev pub nothing_loaded : Loaded
nothing_loaded = record { base = record { manifest = first_manifest; repos = [] }; log = [] }

-- epoch 1, with no repository
abbrev pub first_epoch : Based
first_epoch = record { manifest = record { epoch = 1; applied = 0; next = 1; repos = [] }; repos = [] }

-- ---- one entry

abbrev pub path : List ℕ
path = codes "a.git"

-- A repository is created there.
abbrev pub creation : Entry
creation = record { position = 1; path = path; change = Create false }

-- The gate has a byte, and the entry is in its file.
abbrev pub one_entry : Files
one_entry f = if same_file f gate_file then Some (1 ∷ []) else if same_file f (entry_file 1) then Some (encode creation) else None

abbrev pub one_entry_states : States
one_entry_states f = still (one_entry f)

abbrev pub one_loaded : Loaded
one_loaded = record { base = record { manifest = first_manifest; repos = [] }; log = creation ∷ [] }

-- epoch 1, with that repository
abbrev pub created_epoch : Based
created_epoch = record {
  manifest = record { epoch = 1; applied = 1; next = 1; repos = record { path = path; is_pool = false; pool = None; packs = []; packed = 0; loose = []; repacked = 0; refs_packed = 0 } ∷ [] };
  repos = record { path = path; is_pool = false; pool = None; packs = []; packed = []; loose = [] } ∷ [];
}
