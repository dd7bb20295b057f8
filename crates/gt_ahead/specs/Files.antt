-- Which files hold what was loaded, told by what it is.
use Rattle.std.specs.Prelude.{◌≡◌, ◌≢◌, ◌⊎◌, ℕ, zero, suc, ◌≤◌, List, [], ◌∷◌, ◌++◌, map}
use Rattle.std.specs.List.{flat_map, AllByRecursion}
use Rattle.gt_disk.specs.declared.file_id.FileId.{FileId}
use Rattle.gt_disk.specs.Kinds.{gate_file, turn_file, manifest_file, entry_file, pack_file, packed_file, loose_file}
use Rattle.gt_manifest.specs.Whole.{file_numbers}
use Rattle.gt_manifest.specs.declared.manifest.RepoFiles.{RepoFiles}
use Rattle.gt_manifest.specs.declared.manifest.Manifest.{Manifest}
use Rattle.gt_model.specs.declared.entry.Entry.{Entry}
use Rattle.gt_base.specs.Recovery.{Loaded}

-- Epoch 0 has no manifest.
abbrev pub manifest_files : ℕ → List FileId
manifest_files zero = []
manifest_files (suc n) = manifest_file (suc n) ∷ []

-- 0 is no packed file.
abbrev pub packed_files : ℕ → List FileId
packed_files zero = []
packed_files (suc n) = packed_file (suc n) ∷ []

-- packs, packed file, loose files
abbrev pub repo_files : RepoFiles → List FileId
repo_files r = map pack_file r.packs ++ (packed_files r.packed ++ map (λ l. loose_file l.file) r.loose)

abbrev pub base_files : Manifest → List FileId
base_files m = manifest_files m.epoch ++ flat_map repo_files m.repos

abbrev pub log_files : List Entry → List FileId
log_files log = map (λ e. entry_file e.position) log

-- the files whose bytes it is read from, in the order in which they are read
abbrev pub data_files_of : Loaded → List FileId
data_files_of x = base_files x.base.manifest ++ log_files x.log

-- the same behind those whose lengths count
abbrev pub files_of : Loaded → List FileId
files_of x = gate_file ∷ turn_file ∷ data_files_of x

-- ---- files that hold nothing of it

abbrev pub HoldsNothingOf : Loaded → FileId → Type 0
HoldsNothingOf x f = AllByRecursion (λ g. g ≢ f) (files_of x)

-- a pack, a packed file or a loose file of a number that its manifest doesn't name
abbrev pub IsUnnamed : Loaded → FileId → Type 0
IsUnnamed x f = (5 ≤ f.kind) × AllByRecursion (λ n. n ≢ f.number) (flat_map file_numbers x.base.manifest.repos)

-- one of a number that its manifest hasn't given out
abbrev pub IsNew : Loaded → FileId → Type 0
IsNew x f = (5 ≤ f.kind) × (x.base.manifest.next ≤ f.number)

-- the manifest of another epoch, or the entry of a position that was applied
abbrev pub IsOld : Loaded → FileId → Type 0
IsOld x f = ((f.kind ≡ 3) × (f.number ≢ x.base.manifest.epoch)) ⊎ ((f.kind ≡ 4) × (f.number ≤ x.base.manifest.applied))
