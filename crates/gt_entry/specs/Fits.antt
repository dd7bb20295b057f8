-- Which entries have a spelling.
use Rattle.std.specs.Prelude.{◌≡◌, ℕ, ◌<◌, ◌^◌, List, length, map, None, IfSome}
use Rattle.std.specs.List.{All, IsDistinct}
use Rattle.std.specs.List.Sorted.{IsStrictlySortedBy}
use Rattle.gt_name.specs.Paths.{IsPath}
use Rattle.gt_name.specs.References.{IsRefName}
use Rattle.gt_object.specs.Whole.{why_not}
use Rattle.gt_model.specs.declared.added.Added.{Added}
use Rattle.gt_model.specs.declared.change.Change.{Change}
use Rattle.gt_model.specs.declared.change.Change.TheVariants.{Create, Delete, Link, Write, Repack, Prune, PackRefs, Unlink}
use Rattle.gt_model.specs.declared.entry.Entry.{Entry}
use Rattle.gt_model.specs.declared.update.RefUpdate.{RefUpdate}
use Rattle.gt_model.specs.Contents.{key_cmp}
use Rattle.gt_model.specs.Verdicts.{same_name}

-- ---- what the types say of each value

abbrev pub IsNumber : ℕ → Type 0
IsNumber n = n < 2 ^ 64

-- the name of an object
abbrev pub IsName : List ℕ → Type 0
IsName x = length x ≡ 20

pub record IsUpdate (u : RefUpdate) : Type 0 where
  pub name : IsRefName u.name
  pub old : IsName u.old
  pub new : IfSome u.new IsName

pub record IsAdded (a : Added) : Type 0 where
  pub name : IsName a.name
  pub whole : why_not a.whole ≡ None

pub record IsWrite (updates : List RefUpdate) (names : List (List ℕ)) (records : List Added) : Type 0 where
  pub refs : All IsUpdate updates
  pub needed : All IsName names
  pub added : All IsAdded records

abbrev pub IsChange : Change → Type 0
IsChange (Create pool) = Unit {0}
IsChange Delete = Unit {0}
IsChange (Link pool) = IsPath pool
IsChange (Write refs needed added) = IsWrite refs needed added
IsChange (Repack file dropped) = IsNumber file × All IsName dropped
IsChange (Prune file dropped) = IsNumber file × All IsName dropped
IsChange (PackRefs file) = IsNumber file
IsChange (Unlink file) = IsNumber file

pub record IsEntry (e : Entry) : Type 0 where
  pub position : IsNumber e.position
  pub path : IsPath e.path
  pub change : IsChange e.change

-- ---- what it takes beside that

-- The count fits its 4 bytes.
abbrev pub IsCounted : {A : Type 0} → List A → Type 0
IsCounted xs = length xs < 2 ^ 32

-- Names ascend, so none stands twice.
abbrev pub Ascend : List (List ℕ) → Type 0
Ascend names = IsStrictlySortedBy key_cmp names

-- No reference stands twice, and names ascend.
pub record IsWritable (refs : List RefUpdate) (needed : List (List ℕ)) (added : List Added) : Type 0 where
  pub refs_few : IsCounted refs
  pub refs_once : IsDistinct same_name (map (λ u. u.name) refs)
  pub needed_few : IsCounted needed
  pub needed_ascend : Ascend needed
  pub added_few : IsCounted added
  pub added_ascend : Ascend (map (λ a. a.name) added)

abbrev pub HasChangeSpelling : Change → Type 0
HasChangeSpelling (Create pool) = Unit {0}
HasChangeSpelling Delete = Unit {0}
HasChangeSpelling (Link pool) = Unit {0}
HasChangeSpelling (Write refs needed added) = IsWritable refs needed added
HasChangeSpelling (Repack file dropped) = IsCounted dropped × Ascend dropped
HasChangeSpelling (Prune file dropped) = IsCounted dropped × Ascend dropped
HasChangeSpelling (PackRefs file) = Unit {0}
HasChangeSpelling (Unlink file) = Unit {0}

abbrev pub HasSpelling : Entry → Type 0
HasSpelling e = HasChangeSpelling e.change
