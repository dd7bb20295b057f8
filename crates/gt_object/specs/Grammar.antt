-- What a content of each kind mentions, in order, or the first place where it breaks.
use Rattle.std.specs.Prelude.{ℕ, List, [], Option, Some, None, Result, Ok, Err}
use Rattle.gt_object.specs.declared.kind.Kind.{Kind}
use Rattle.gt_object.specs.declared.kind.Kind.TheVariants.{Commit, Tree, Blob, Tag}
use Rattle.gt_object.specs.Trees.{tree_ids}
use Rattle.gt_object.specs.Lines.{commit_ids, tag_ids}

-- the names that a content mentions, else the place where it breaks; a blob is anything
abbrev pub ids_of : Kind → List ℕ → Result (List (List ℕ)) ℕ
ids_of Blob c = Ok []
ids_of Tree c = tree_ids c
ids_of Commit c = commit_ids c
ids_of Tag c = tag_ids c

-- the place of a fault
abbrev pub fault : {A : Type 0} → Result A ℕ → Option ℕ
fault (Ok x) = None
fault (Err at) = Some at

-- the first place where a content of this kind breaks
abbrev pub bad_content : Kind → List ℕ → Option ℕ
bad_content kind c = fault (ids_of kind c)
