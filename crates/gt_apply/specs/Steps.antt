-- What the steps of a plan make.
use Rattle.std.specs.Prelude.{ℕ, ◌+◌, List, [], ◌∷◌, ◌++◌, length, fold, map as map_list, Option, Some, None, if◌then◌else◌}
use Rattle.std.specs.List.{list_any}
use Rattle.std.specs.Borrow.{Bor}
use Rattle.std.specs.FinMap as map
use Rattle.std.specs.FinMap.{FinMap}
use Rattle.gt_manifest.specs.declared.manifest.Loose.{Loose}
use Rattle.gt_model.specs.Batches as batch
use Rattle.gt_model.specs.Batches.{files_of, repos_at, has_records}
use Rattle.gt_model.specs.Contents.{key_cmp}
use Rattle.gt_model.specs.declared.added.Added.{Added}
use Rattle.gt_model.specs.declared.entry.Entry.{Entry}
use Rattle.gt_apply.specs.declared.new_file.NewContent.{NewContent}
use Rattle.gt_apply.specs.declared.new_file.NewContent.TheVariants.{Pack, Loose as LooseValue}
use Rattle.gt_apply.specs.declared.writes.Writes.{Writes}
use Rattle.gt_apply.specs.declared.filing.Draft.{Draft}
use Rattle.gt_apply.specs.Plan.{records_of, to_added, content_of, numbered, with_loose, filed_repo}

-- what these refer to
abbrev pub seen : List (Bor Entry) → List Entry
seen own = map_list (λ e. e.now) own

-- ---- what entries write to one repository

abbrev pub new_pack : Option (List Added) → List NewContent
new_pack None = []
new_pack (Some records) = Pack records ∷ []

abbrev pub pack_or_none : Option (List Added) → List batch.NewFile
pack_or_none None = []
pack_or_none (Some records) = batch.pack ∷ []

-- the records that entries add, where they add any
abbrev pub pack_in : List Entry → Option (List Added)
pack_in own = if list_any (λ e. has_records e.change) own then Some (map_list to_added (map.entries (records_of own))) else None

-- the new files, and what each has
abbrev pub files_in : Writes → List batch.NewFile
files_in w = pack_or_none w.pack ++ map_list (λ v. batch.loose v.0) w.values

abbrev pub contents_in : Writes → List NewContent
contents_in w = new_pack w.pack ++ map_list (λ v. LooseValue v.1) w.values

-- ---- loose files

-- these references have the files from this number on
abbrev pub with_numbers : FinMap key_cmp ℕ → ℕ → List (List ℕ × List ℕ) → FinMap key_cmp ℕ
with_numbers m n [] = m
with_numbers m n (v ∷ vs) = with_numbers (map.insert m v.0 n) (n + 1) vs

abbrev pub with_all_loose : List Loose → ℕ → List (List ℕ × List ℕ) → List Loose
with_all_loose list n [] = list
with_all_loose list n (v ∷ vs) = with_all_loose (with_loose list v.0 n) (n + 1) vs

-- ---- repository after repository

-- what the entries of one repository make of a draft
abbrev pub drafted : List ℕ → Draft → List Entry → Draft
drafted path d own = record {
  shelves = filed_repo path d.next own d.shelves;
  next = d.next + length (files_of own);
  files = d.files ++ numbered d.next (map_list (content_of own) (files_of own));
}

-- what all entries of a path make of it
abbrev pub drafted_at : List Entry → Draft → List ℕ → Draft
drafted_at entries d path = fold (drafted path) d (repos_at path entries)

abbrev pub drafted_all : List Entry → List (List ℕ) → Draft → Draft
drafted_all entries paths d = fold (drafted_at entries) d paths
