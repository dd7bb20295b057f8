-- An own object whose record stands elsewhere, from a position on.
use Rattle.std.specs.Prelude.{◌≡◌, ◌≢◌, ◌⊎◌, ℕ, ◌-◌, ◌<◌, ◌≤◌, ◌&&◌, false, List, Some, None, IsSome}
use Rattle.std.specs.Ordering.{eq_by_cmp}
use Rattle.std.specs.FinMap as map
use Rattle.gt_model.specs.Contents.{key_cmp}
use Rattle.gt_versions.specs.Runs.{SetsRun}
use Rattle.gt_objset.specs.declared.place.Place.{Place}
use Rattle.gt_objset.specs.Track.{Track, items_of}
use Rattle.gt_objset.specs.Table.{Table, head_at, own_at}

-- The repository owns the object at each position from one to another.
abbrev pub IsOwnBetween : Table → List ℕ → List ℕ → ℕ → ℕ → Type 0
IsOwnBetween t path x from to = (q : ℕ) → from ≤ q → q ≤ to → IsSome (own_at t q path x)

-- The own object's place begins at the position: the position before has another, or none, or isn't asked for.
abbrev pub BeginsAt : Table → ℕ → List ℕ → List ℕ → Type 0
BeginsAt t p path x = t.floor < p → own_at t (p - 1) path x ≢ own_at t p path x

-- From the position on, where a place of the own object begins, it has this place for as long as it is own. Nothing else changes. Where its place began before, some of these positions may have the new one, and none before.
pub record Repoints (at : ℕ) (path x : List ℕ) (place : Place) (old new : Table) : Type 0 where
  pub floor : new.floor ≡ old.floor
  pub front : new.front ≡ old.front
  pub heads : (p : ℕ) (q : List ℕ) → head_at new p q ≡ head_at old p q
  pub moved : BeginsAt old at path x → (p : ℕ) → at ≤ p → IsOwnBetween old path x at p → own_at new p path x ≡ Some place
  pub either : (p : ℕ) → old.floor ≤ p → (own_at new p path x ≡ own_at old p path x) ⊎ IsSome (own_at old p path x) × (own_at new p path x ≡ Some place)
  pub gone : (p r : ℕ) → at ≤ r → r ≤ p → own_at old r path x ≡ None → own_at new p path x ≡ own_at old p path x
  pub before : (p : ℕ) → old.floor ≤ p → p < at → own_at new p path x ≡ own_at old p path x
  pub others : (p : ℕ) (q y : List ℕ) → (eq_by_cmp key_cmp q path && eq_by_cmp key_cmp y x) ≡ false → own_at new p q y ≡ own_at old p q y

-- The same of one repository.
pub record Moves (floor at : ℕ) (x : List ℕ) (place : Place) (old new : Track) : Type 0 where
  pub lives : new.lives.0 ≡ old.lives.0
  pub kinds : new.kinds.0 ≡ old.kinds.0
  pub pools : new.pools.0 ≡ old.pools.0
  pub here : SetsRun floor at place old.lives.0 (items_of (map.get old.objects x)) (items_of (map.get new.objects x))
  pub others : (y : List ℕ) → eq_by_cmp key_cmp x y ≡ false → items_of (map.get new.objects y) ≡ items_of (map.get old.objects y)
