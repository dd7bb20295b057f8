-- Which of the known files nothing names.
use Rattle.std.specs.Prelude.{◌≡◌, Bool, not, List, [], ◌∷◌, ◌++◌, filter, fold, if◌then◌else◌}
use Rattle.std.specs.List.{list_any}
use Rattle.std.specs.BTreeSet.{BTreeSet, contains}
use Rattle.gt_disk.specs.declared.file_id.FileId.{FileId}
use Rattle.gt_disk.specs.Calls.{same_file}
use Rattle.gt_disk.specs.Files.{file_cmp}

abbrev pub is_among : List FileId → FileId → Bool
is_among files f = list_any (λ g. same_file g f) files

-- one more file, unless it is there
abbrev pub noted : List FileId → FileId → List FileId
noted files f = if is_among files f then files else files ++ f ∷ []

-- each file once, at its first place
abbrev pub once : List FileId → List FileId
once files = fold noted [] files

-- the known files that aren't named, in the order in which they are known, each once
abbrev pub removable_of : List FileId → List FileId → List FileId
removable_of known named = filter (λ f. not (is_among named f)) (once known)

-- The set has the files of the list.
abbrev pub Agrees : BTreeSet FileId → List FileId → Type 0
Agrees set files = (f : FileId) → contains file_cmp set f ≡ is_among files f
