-- What is present: from each reference everything that is reached, and from each object everything that it needs.
use Rattle.std.specs.Prelude.{◌≡◌, ℕ, true, IsTrue, List, [], ◌∷◌, take, Some, None}
use Rattle.std.specs.List.{IsAmong}
use Rattle.std.specs.FinMap as map
use Rattle.sha1.specs.Sha1.{sha1}
use Rattle.gt_object.specs.Whole.{deps}
use Rattle.gt_model.specs.declared.entry.Entry.{Entry}
use Rattle.gt_model.specs.Contents.{Content, Repo, value, own, found, is_visible, after_all}

-- The record that is seen under the first name mentions the second.
pub record Needs (c : Content) (path name dep : List ℕ) : Type 0 where
  pub whole : List ℕ
  pub seen : found c path name ≡ Some whole
  pub mentions : IsAmong (deps whole) dep

-- A reference names the last of these, and each is needed by the one behind it.
abbrev pub IsWay : Content → List ℕ → List ℕ → List (List ℕ) → Type 0
IsWay c path name [] = (ref : List ℕ) × (value c path ref ≡ Some name)
IsWay c path name (needer ∷ way) = Needs c path needer name × IsWay c path needer way

-- A name is reached where a way leads to it from a reference: the least set that has what references name and what the records of its members mention.
abbrev pub Reach : Content → List ℕ → List ℕ → Type 0
Reach c path name = (way : List (List ℕ)) × IsWay c path name way

-- A pool has no pool, and what a repository has as its pool is a pool.
pub record HasGoodPool (c : Content) (r : Repo) : Type 0 where
  pub none : IsTrue r.is_pool → r.pool ≡ None
  pub some : (pool : List ℕ) → r.pool ≡ Some pool → (p : Repo) × (map.get c pool ≡ Some p) × (p.is_pool ≡ true)

-- Each own name is that of its record. What a reference names is visible, and so is all that a visible record mentions.
pub record IsSound (c : Content) : Type 0 where
  pub pools : (path : List ℕ) (r : Repo) → map.get c path ≡ Some r → HasGoodPool c r
  pub named : (path name whole : List ℕ) → own c path name ≡ Some whole → sha1 whole ≡ name
  pub referred : (path ref name : List ℕ) → value c path ref ≡ Some name → IsTrue (is_visible c path name)
  pub closed : (path name dep : List ℕ) → Needs c path name dep → IsTrue (is_visible c path dep)

-- The content after each front of a log is sound.
abbrev pub AreSound : Content → List Entry → Type 0
AreSound base log = (count : ℕ) → IsSound (after_all base (take count log))
