-- A table whose floor is raised: what only earlier positions needed is gone.
use Rattle.std.specs.Prelude.{◌≡◌, ℕ, ◌+◌, ◌≤◌, Bool, true, not, nat_eq, is_some, if◌then◌else◌, length, List, [], ◌∷◌, Option, Some, None, IfSome, IsSome, ◌&&◌}
use Rattle.std.specs.FinMap as map
use Rattle.std.specs.BTreeSet as set
use Rattle.std.specs.BTreeSet.{BTreeSet}
use Rattle.gt_model.specs.Contents.{key_cmp, and_then}
use Rattle.gt_versions.specs.Ascending.{IsFrom, IsAscending}
use Rattle.gt_versions.specs.Lives.{value_since}
use Rattle.gt_versions.specs.Raised.{past, raised_lives, raised_values}
use Rattle.gt_objset.specs.declared.place.Place.{Place}
use Rattle.gt_objset.specs.Track.{Track, life_at}
use Rattle.gt_objset.specs.Members.{Sets, is_noted}
use Rattle.gt_objset.specs.Table.{Table, head_at, own_at}

-- The floor is this position, and from there on nothing differs.
pub record Raises (to : ℕ) (old new : Table) : Type 0 where
  pub floor : new.floor ≡ to
  pub front : new.front ≡ old.front
  pub heads : (p : ℕ) (path : List ℕ) → to ≤ p → head_at new p path ≡ head_at old p path
  pub own : (p : ℕ) (path x : List ℕ) → to ≤ p → own_at new p path x ≡ own_at old p path x

-- ---- nothing is kept in vain

module _ {V : Type 0} where
  -- At most the first version is at or before the floor, and then it passes.
  abbrev pub IsLeanList : ℕ → (ℕ × V → Bool) → List (ℕ × V) → Type 0
  IsLeanList floor test [] = Unit {0}
  IsLeanList floor test (e ∷ es) = (e.0 ≤ floor → test e ≡ true) × IsFrom (floor + 1) es

  -- whether a version counts for a life, and has a value
  abbrev pub counts : Option ℕ → ℕ × Option V → Bool
  counts life e = is_some (and_then life (λ c. value_since c (Some e)))

  abbrev pub has_versions : List (ℕ × V) → Bool
  has_versions es = not (nat_eq (length es) 0)

-- whether a set has any path
abbrev pub has_paths : BTreeSet (List ℕ) → Bool
has_paths s = not (nat_eq (length s.keys) 0)

-- The repository was there at the floor or is later. Of what was given it at or before the floor only the last is kept, where that counts at the floor, and no object is without a place.
pub record IsLeanTrack (floor : ℕ) (t : Track) : Type 0 where
  pub there : has_versions t.lives.0 ≡ true
  pub lives : IsLeanList floor (λ e. e.1) t.lives.0
  pub kinds : IsLeanList floor (counts (life_at t floor)) t.kinds.0
  pub pools : IsLeanList floor (counts (life_at t floor)) t.pools.0
  pub objects : (x : List ℕ) → IfSome (map.get t.objects x) (λ s. IsLeanList floor (counts (life_at t floor)) s.0)
  pub placed : (x : List ℕ) → IfSome (map.get t.objects x) (λ s. has_versions s.0 ≡ true)

-- Each repository of the table is so; the sets of candidates have no other, and no set has none.
pub record IsLean (t : Table) : Type 0 where
  pub repos : (path : List ℕ) → IfSome (map.get t.repos path) (IsLeanTrack t.floor)
  pub noted : (pool path : List ℕ) → is_noted (λ w. map.get t.members w) pool path ≡ true → IsSome (map.get t.repos path)
  pub sets : (pool : List ℕ) → IfSome (map.get t.members pool) (λ s. has_paths s ≡ true)

-- ---- one key, one repository

module _ {V : Type 0} where
  -- where it isn't there at the new floor, no value counts that was given by then
  abbrev pub raised_since : Option ℕ → ℕ → List (ℕ × Option V) → List (ℕ × Option V)
  raised_since None to es = past to es
  raised_since (Some start) to es = raised_values start to es

  pub record RaisesValues (life : Option ℕ) (to : ℕ) (old new : List (ℕ × Option V) × ℕ) : Type 0 where
    pub order : IsAscending old.0
    pub items : new.0 ≡ raised_since life to old.0

module _ {X : Type 0} where
  -- What was there is changed so, and stays where it passes then.
  abbrev pub Retained : (X → X → Type 0) → (X → Bool) → Option X → Option X → Type 0
  Retained P test None new = new ≡ None
  Retained P test (Some v) new = (w : X) × P v w × (new ≡ (if test w then Some w else None))

abbrev pub RaisesSlots : Option ℕ → ℕ → (List ℕ → Option (List (ℕ × Option Place) × ℕ)) → (List ℕ → Option (List (ℕ × Option Place) × ℕ)) → Type 0
RaisesSlots life to old new = (x : List ℕ) → Retained (RaisesValues life to) (λ s. has_versions s.0) (old x) (new x)

pub record RaisesTrack (to : ℕ) (old new : Track) : Type 0 where
  pub order : IsAscending old.lives.0
  pub lives : new.lives.0 ≡ raised_lives to old.lives.0
  pub kinds : RaisesValues (life_at old to) to old.kinds new.kinds
  pub pools : RaisesValues (life_at old to) to old.pools new.pools
  pub objects : RaisesSlots (life_at old to) to (λ x. map.get old.objects x) (λ x. map.get new.objects x)

abbrev pub RaisesRepos : ℕ → (List ℕ → Option Track) → (List ℕ → Option Track) → Type 0
RaisesRepos to old new = (path : List ℕ) → Retained (RaisesTrack to) (λ t. has_versions t.lives.0) (old path) (new path)

-- ---- the sets of candidates

-- Those stay whose repository is in the table.
abbrev pub KeepsPaths : (List ℕ → Option Track) → BTreeSet (List ℕ) → BTreeSet (List ℕ) → Type 0
KeepsPaths repos old new = (path : List ℕ) → set.contains key_cmp new path ≡ (set.contains key_cmp old path && is_some (repos path))

abbrev pub KeepsSets : (List ℕ → Option Track) → Sets → Sets → Type 0
KeepsSets repos old new = (pool : List ℕ) → Retained (KeepsPaths repos) has_paths (old pool) (new pool)
