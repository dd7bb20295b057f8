-- What the files of a base have, put piece by piece into both tables at the position of the base.
use Rattle.std.specs.Prelude.{◌≡◌, ℕ, if◌then◌else◌, List, Option, Some, None}
use Rattle.std.specs.Option.{option_map, option_or}
use Rattle.std.specs.Ordering.{eq_by_cmp}
use Rattle.std.specs.FinMap as map
use Rattle.gt_base.specs.declared.held.BaseRepo.{BaseRepo}
use Rattle.gt_base.specs.Held.{refs_of, place_of, repo_at}
use Rattle.gt_model.specs.Contents.{key_cmp, Names}
use Rattle.gt_objset.specs.Places.{Head}
use Rattle.gt_objset.specs.Table as objects
use Rattle.gt_objset.specs.Table.{head_at, own_at}
use Rattle.gt_objset.specs.declared.place.Place.{Place}
use Rattle.gt_reftable.specs.Table as refs
use Rattle.gt_reftable.specs.Table.{refs_at}

-- Own objects of a repository have these places; where none is said, what it had stays.
pub record PutsPlaces (path : List ℕ) (places : List ℕ → Option Place) (old new : objects.Table) : Type 0 where
  pub floor : new.floor ≡ old.floor
  pub front : new.front ≡ old.front
  pub heads : (q : List ℕ) → head_at new old.floor q ≡ head_at old old.floor q
  pub own : (q x : List ℕ) → own_at new old.floor q x ≡ (if eq_by_cmp key_cmp q path then option_or (places x) (own_at old old.floor q x) else own_at old old.floor q x)

-- what a repository of a base is, but for its references and objects
abbrev pub head_of : BaseRepo → Head
head_of r = record { is_pool = r.is_pool; pool = r.pool }

-- A repository is there, and its own objects have the places that its packs give them.
pub record PutsRepo (r : BaseRepo) (old new : objects.Table) : Type 0 where
  pub floor : new.floor ≡ old.floor
  pub front : new.front ≡ old.front
  pub heads : (q : List ℕ) → head_at new old.floor q ≡ (if eq_by_cmp key_cmp q r.path then Some (head_of r) else head_at old old.floor q)
  pub own : (q x : List ℕ) → own_at new old.floor q x ≡ (if eq_by_cmp key_cmp q r.path then place_of r.packs x else own_at old old.floor q x)

-- A repository has these references.
pub record PutsRefs (path : List ℕ) (names : Names) (old new : refs.Table) : Type 0 where
  pub floor : new.floor ≡ old.floor
  pub front : new.front ≡ old.front
  pub refs : (q : List ℕ) → refs_at new old.floor q ≡ (if eq_by_cmp key_cmp q path then names else refs_at old old.floor q)

-- ---- all repositories

-- of a repository its head, its references, and the place of one object
abbrev pub Parts : Type 0
Parts = Head × (Names × Option Place)

abbrev pub parts_of : List ℕ → BaseRepo → Parts
parts_of x r = (head_of r, (refs_of r.packed r.loose, place_of r.packs x))

-- as files have it
abbrev pub wanted : List BaseRepo → List ℕ → List ℕ → Option Parts
wanted repos path x = option_map (parts_of x) (repo_at repos path)

-- as the tables have it
abbrev pub given : ℕ → refs.Table → objects.Table → List ℕ → List ℕ → Option Parts
given begin r o path x = option_map (λ head. (head, (refs_at r begin path, own_at o begin path x))) (head_at o begin path)

-- The tables have what all these files have, but for what only the rest of them do; of no other repository they have anything.
pub record Left (begin : ℕ) (rest all : List BaseRepo) (r : refs.Table) (o : objects.Table) : Type 0 where
  pub refs_floor : r.floor ≡ begin
  pub refs_front : r.front ≡ begin
  pub objects_floor : o.floor ≡ begin
  pub objects_front : o.front ≡ begin
  pub parts : (path x : List ℕ) → option_or (given begin r o path x) (wanted rest path x) ≡ wanted all path x
  pub no_refs : (path : List ℕ) → head_at o begin path ≡ None → refs_at r begin path ≡ map.empty
  pub no_own : (path x : List ℕ) → head_at o begin path ≡ None → own_at o begin path x ≡ None
