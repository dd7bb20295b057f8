-- What an application makes of a manifest, and the files that it adds: a fold of its rules over the entries.
use Rattle.std.specs.Prelude.{ℕ, ◌+◌, nat_le, Bool, List, [], ◌∷◌, ◌++◌, length, filter, fold, map as map_list, Option, Some, None}
use Rattle.std.specs.List.{flat_map}
use Rattle.std.specs.Option.{unwrap_or}
use Rattle.std.specs.FinMap as map
use Rattle.std.specs.FinMap.{FinMap}
use Rattle.gt_disk.specs.declared.file_id.FileId.{FileId}
use Rattle.gt_disk.specs.Kinds.{pack_file, loose_file}
use Rattle.gt_manifest.specs.declared.manifest.Loose.{Loose}
use Rattle.gt_manifest.specs.declared.manifest.RepoFiles.{RepoFiles}
use Rattle.gt_manifest.specs.declared.manifest.Manifest.{Manifest}
use Rattle.gt_model.specs.Batches as batch
use Rattle.gt_model.specs.Batches.{files_of, repos_at, files_at, paths_of, new_files}
use Rattle.gt_model.specs.Contents.{key_cmp, Names, zero}
use Rattle.gt_model.specs.declared.added.Added.{Added}
use Rattle.gt_model.specs.declared.change.Change.{Change}
use Rattle.gt_model.specs.declared.change.Change.TheVariants.{Create, Delete, Link, Write, Repack, Prune, PackRefs, Unlink}
use Rattle.gt_model.specs.declared.entry.Entry.{Entry}
use Rattle.gt_model.specs.declared.update.RefUpdate.{RefUpdate}
use Rattle.gt_apply.specs.declared.new_file.NewContent.{NewContent}
use Rattle.gt_apply.specs.declared.new_file.NewContent.TheVariants.{Pack, Loose as LooseValue}
use Rattle.gt_apply.specs.declared.new_file.NewFile.{NewFile}

-- ---- what new files have

abbrev pub added_by : Change → List Added
added_by (Write refs needed added) = added
added_by change = []

-- the records that these entries add, of a name the last one
abbrev pub records_of : List Entry → Names
records_of entries = fold (λ m a. map.insert m a.name a.whole) map.empty (flat_map (λ e. added_by e.change) entries)

-- A check writes nothing, and a deletion writes 40 zeros.
abbrev pub with_update : Names → RefUpdate → Names
with_update m u = with_new (u.new)
  where
    with_new : Option (List ℕ) → Names
    with_new None = m
    with_new (Some value) = map.insert m u.name value

abbrev pub updates_by : Change → List RefUpdate
updates_by (Write refs needed added) = refs
updates_by change = []

-- the last value that these entries write to each reference
abbrev pub values_of : List Entry → Names
values_of entries = fold with_update map.empty (flat_map (λ e. updates_by e.change) entries)

abbrev pub to_added : List ℕ × List ℕ → Added
to_added r = record { name = r.0; whole = r.1 }

-- what a new file has: the added records ascending by name, or the last value of a reference
abbrev pub content_of : List Entry → batch.NewFile → NewContent
content_of entries batch.pack = Pack (map_list to_added (map.entries (records_of entries)))
content_of entries (batch.loose name) = LooseValue (unwrap_or (map.get (values_of entries) name) zero)

-- the new files of one repository after the other: at a path in order of time, and paths ascending
abbrev pub contents_at : List ℕ → List Entry → List NewContent
contents_at path entries = flat_map (λ own. map_list (content_of own) (files_of own)) (repos_at path entries)

abbrev pub new_contents : List Entry → List NewContent
new_contents entries = flat_map (λ path. contents_at path entries) (paths_of entries)

abbrev pub file_for : ℕ → NewContent → FileId
file_for n (Pack records) = pack_file n
file_for n (LooseValue value) = loose_file n

abbrev pub numbered : ℕ → List NewContent → List NewFile
numbered n [] = []
numbered n (c ∷ cs) = record { file = file_for n c; content = c } ∷ numbered (n + 1) cs

-- the files that an application writes, numbered from the next free number on
abbrev pub planned_files : ℕ → List Entry → List NewFile
planned_files next entries = numbered next (new_contents entries)

-- ---- the manifest

-- the files of each repository, by path
abbrev pub Shelves : Type 0
Shelves = FinMap key_cmp RepoFiles

abbrev pub shelves_of : List RepoFiles → Shelves
shelves_of repos = map.from_entries (map_list (λ r. (r.path, r)) repos)

-- ascending by path
abbrev pub repos_of : Shelves → List RepoFiles
repos_of s = map_list (λ e. e.1) (map.entries s)

-- what is there becomes this; what isn't there stays so
abbrev pub changed : Shelves → List ℕ → (RepoFiles → RepoFiles) → Shelves
changed s path f = by (map.get s path)
  where
    by : Option RepoFiles → Shelves
    by None = s
    by (Some r) = map.insert s path (f r)

abbrev pub no_files : List ℕ → Bool → RepoFiles
no_files path is_pool = record { path = path; is_pool = is_pool; pool = None; packs = []; packed = 0; loose = []; repacked = 0; refs_packed = 0 }

abbrev pub numbers_of : List Loose → FinMap key_cmp ℕ
numbers_of list = map.from_entries (map_list (λ l. (l.name, l.file)) list)

abbrev pub to_loose : List ℕ × ℕ → Loose
to_loose r = record { name = r.0; file = r.1 }

-- the file of this reference is that one, in place of any other
abbrev pub with_loose : List Loose → List ℕ → ℕ → List Loose
with_loose list name n = map_list to_loose (map.entries (map.insert (numbers_of list) name n))

-- A new pack comes last; a new loose file is in place of the old one of its reference.
abbrev pub placed : ℕ → List batch.NewFile → RepoFiles → RepoFiles
placed n [] r = r
placed n (batch.pack ∷ files) r = placed (n + 1) files (record r { packs = r.packs ++ n ∷ [] })
placed n (batch.loose name ∷ files) r = placed (n + 1) files (record r { loose = with_loose r.loose name n })

-- A job's pack comes first, in place of the packs below it but for an unlink, which clears the pool; its packed references are in place of the loose files below it.
abbrev pub rearranged : ℕ → Change → RepoFiles → RepoFiles
rearranged position (Link pool) r = record r { pool = Some pool }
rearranged position (Repack file dropped) r = record r { packs = file ∷ filter (λ n. nat_le file n) r.packs; repacked = position }
rearranged position (Prune file dropped) r = record r { packs = file ∷ filter (λ n. nat_le file n) r.packs; repacked = position }
rearranged position (PackRefs file) r = record r { packed = file; loose = filter (λ l. nat_le file l.file) r.loose; refs_packed = position }
rearranged position (Unlink file) r = record r { packs = file ∷ r.packs; pool = None; repacked = position }
rearranged position change r = r

-- A creation adds a repository without files.
abbrev pub begun : List Entry → Shelves → Shelves
begun [] s = s
begun (e ∷ es) s = by e.change
  where
    by : Change → Shelves
    by (Create pool) = map.insert s e.path (no_files e.path pool)
    by change = s

abbrev pub entered : Shelves → Entry → Shelves
entered s e = by e.change
  where
    by : Change → Shelves
    by Delete = map.remove s e.path
    by change = changed s e.path (rearranged e.position change)

-- one repository, as its entries find it or create it, with new files from this number on; these stand first, since each job's file is below them
abbrev pub filed_repo : List ℕ → ℕ → List Entry → Shelves → Shelves
filed_repo path n own s = fold entered (changed (begun own s) path (placed n (files_of own))) own

abbrev pub filed_repos : List ℕ → ℕ → List (List Entry) → Shelves → Shelves
filed_repos path n [] s = s
filed_repos path n (own ∷ later) s = filed_repos path (n + length (files_of own)) later (filed_repo path n own s)

abbrev pub filed_paths : List Entry → ℕ → List (List ℕ) → Shelves → Shelves
filed_paths entries n [] s = s
filed_paths entries n (path ∷ paths) s = filed_paths entries (n + length (files_at path entries)) paths (filed_repos path n (repos_at path entries) s)

-- the manifest after an application of these entries
abbrev pub planned : Manifest → ℕ → List Entry → Manifest
planned from next entries = record {
  epoch = from.epoch + 1;
  applied = from.applied + length entries;
  next = next + new_files entries;
  repos = repos_of (filed_paths entries next (paths_of entries) (shelves_of from.repos));
}
