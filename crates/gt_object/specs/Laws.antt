-- The grammar in the words of Git's object format.
use Rattle.std.specs.Prelude.{◌≡◌, ℕ, ◌<◌, ◌^◌, ◌↔◌, List, [], ◌∷◌, ◌++◌, length, Some, None, Ok, Err, true, false, ◌⊎◌, codes, nat_eq}
use Rattle.std.specs.List.{flat_map, AllByRecursion, starts_with}
use Rattle.gt_bytes.specs.Standing.{IsBytes}
use Rattle.gt_object.specs.declared.kind.Kind.{Kind}
use Rattle.gt_object.specs.Header.{word, header, kind_of}
use Rattle.gt_object.specs.Trees.{TreeEntry, IsTreeEntry, tree_entry, tree_entries}
use Rattle.gt_object.specs.Lines.{line, IsId, commit_ids, tag_ids}
use Rattle.gt_object.specs.Grammar.{ids_of}
use Rattle.gt_object.specs.Mentions.{distinct_of}
use Rattle.gt_object.specs.Whole.{IsRecord, why_not, content_of, deps}

-- Bytes are refused for no reason exactly where they are a record.
abbrev pub RecordsHaveHeaders : Type 0
RecordsHaveHeaders = (w : List ℕ) → (why_not w ≡ None) ↔ IsRecord w

-- The parts of a header and a content are its kind, its content and what that needs.
pub record HasParts (kind : Kind) (content : List ℕ) : Type 0 where
  pub same_kind : kind_of (header kind (length content) ++ content) ≡ Some kind
  pub same_content : content_of (header kind (length content) ++ content) ≡ content
  pub same_deps : deps (header kind (length content) ++ content) ≡ distinct_of (ids_of kind content)

abbrev pub RecordsHaveParts : Type 0
RecordsHaveParts = (kind : Kind) (content : List ℕ) → length content < 2 ^ 64 → HasParts kind content

-- A tree is read as these entries exactly where it is their spellings, one after the other.
abbrev pub TreesAreEntries : Type 0
TreesAreEntries = (c : List ℕ) (es : List TreeEntry) → IsBytes c → (tree_entries c ≡ Ok es) ↔ ((c ≡ flat_map tree_entry es) × AllByRecursion IsTreeEntry es)

-- The content is a tree line, parent lines, and a rest that doesn't begin with `parent `.
pub record IsCommit (c tree : List ℕ) (parents : List (List ℕ)) : Type 0 where
  pub rest : List ℕ
  pub whole : c ≡ line (codes "tree ") tree ++ (flat_map (line (codes "parent ")) parents ++ rest)
  pub tree_is : IsId tree
  pub parents_are : AllByRecursion IsId parents
  pub ends : starts_with nat_eq rest (codes "parent ") ≡ false

-- A commit is read as this tree and these parents exactly where it is their lines.
abbrev pub CommitsAreLines : Type 0
CommitsAreLines = (c tree : List ℕ) (parents : List (List ℕ)) → IsBytes c → (commit_ids c ≡ Ok (tree ∷ parents)) ↔ IsCommit c tree parents

-- The content is an object line, a type line, and any rest.
pub record IsTag (c object : List ℕ) : Type 0 where
  pub kind : Kind
  pub rest : List ℕ
  pub whole : c ≡ line (codes "object ") object ++ (codes "type " ++ (word kind ++ 10 ∷ rest))
  pub object_is : IsId object

-- A tag is read as this object exactly where it is these lines.
abbrev pub TagsAreLines : Type 0
TagsAreLines = (c object : List ℕ) → IsBytes c → (tag_ids c ≡ Ok (object ∷ [])) ↔ IsTag c object

-- ---- where the first fault is

-- The content is entries up to this place, and then some bytes that no entry begins.
pub record BreaksTree (c : List ℕ) (at : ℕ) : Type 0 where
  pub entries : List TreeEntry
  pub rest : List ℕ
  pub whole : c ≡ flat_map tree_entry entries ++ rest
  pub place : at ≡ length (flat_map tree_entry entries)
  pub entries_are : AllByRecursion IsTreeEntry entries
  pub some : 0 < length rest
  pub none : (e : TreeEntry) (tail : List ℕ) → IsTreeEntry e → rest ≡ tree_entry e ++ tail → ⊥

-- No line of this word begins the bytes.
abbrev pub LacksLine : List ℕ → List ℕ → Type 0
LacksLine word c = (id tail : List ℕ) → IsId id → c ≡ line word id ++ tail → ⊥

-- The content is a tree line and parent lines up to this place, and then begins with `parent `, but not with a parent line.
pub record BreaksParent (c : List ℕ) (at : ℕ) : Type 0 where
  pub tree : List ℕ
  pub parents : List (List ℕ)
  pub rest : List ℕ
  pub whole : c ≡ (line (codes "tree ") tree ++ flat_map (line (codes "parent ")) parents) ++ rest
  pub place : at ≡ length (line (codes "tree ") tree ++ flat_map (line (codes "parent ")) parents)
  pub tree_is : IsId tree
  pub parents_are : AllByRecursion IsId parents
  pub starts : starts_with nat_eq rest (codes "parent ") ≡ true
  pub none : LacksLine (codes "parent ") rest

-- The content is an object line, which has 48 bytes, and then no type line.
pub record BreaksType (c : List ℕ) (at : ℕ) : Type 0 where
  pub object : List ℕ
  pub rest : List ℕ
  pub whole : c ≡ line (codes "object ") object ++ rest
  pub place : at ≡ 48
  pub object_is : IsId object
  pub none : (kind : Kind) (tail : List ℕ) → rest ≡ codes "type " ++ (word kind ++ 10 ∷ tail) → ⊥

-- The place of a fault is the begin of the first entry or line that breaks.
pub record FaultsAreFirst (c : List ℕ) (at : ℕ) : Type 0 where
  pub of_tree : tree_entries c ≡ Err at → BreaksTree c at
  pub of_commit : commit_ids c ≡ Err at → ((at ≡ 0) × LacksLine (codes "tree ") c) ⊎ BreaksParent c at
  pub of_tag : tag_ids c ≡ Err at → ((at ≡ 0) × LacksLine (codes "object ") c) ⊎ BreaksType c at

-- This holds in all bytes.
abbrev pub FaultsHavePlaces : Type 0
FaultsHavePlaces = (c : List ℕ) (at : ℕ) → IsBytes c → FaultsAreFirst c at
