-- A content at the floor, put in piece by piece before the first entry.
use Rattle.std.specs.Prelude.{◌≡◌, ℕ, Bool, ◌&&◌, if◌then◌else◌, List, Option, Some, None}
use Rattle.std.specs.Option.{unwrap_or}
use Rattle.std.specs.Ordering.{eq_by_cmp}
use Rattle.gt_model.specs.Contents.{key_cmp}
use Rattle.gt_objset.specs.declared.place.Place.{Place}
use Rattle.gt_objset.specs.Places.{Head, last_put, own_if}
use Rattle.gt_objset.specs.Track.{Track, head_in_track, own_in_track, IsTrackUpTo}
use Rattle.gt_objset.specs.Table.{Table, head_at, own_at, head_in_slot, own_in_slot, IsSlotUpTo}

-- A repository is at the floor, with nothing of its own; the others are as they were.
pub record SeedsRepo (path : List ℕ) (head : Head) (old new : Table) : Type 0 where
  pub floor : new.floor ≡ old.floor
  pub front : new.front ≡ old.front
  pub heads : (q : List ℕ) → head_at new old.floor q ≡ (if eq_by_cmp key_cmp q path then Some head else head_at old old.floor q)
  pub own : (q x : List ℕ) → own_at new old.floor q x ≡ (if eq_by_cmp key_cmp q path then None else own_at old old.floor q x)

-- A repository's own object has this place at the floor; nothing else differs.
pub record SeedsObject (path name : List ℕ) (place : Place) (old new : Table) : Type 0 where
  pub floor : new.floor ≡ old.floor
  pub front : new.front ≡ old.front
  pub heads : (q : List ℕ) → head_at new old.floor q ≡ head_at old old.floor q
  pub own : (q x : List ℕ) → own_at new old.floor q x ≡ (if eq_by_cmp key_cmp q path && eq_by_cmp key_cmp x name then Some place else own_at old old.floor q x)

-- ---- one repository

pub record IsSeeded (floor : ℕ) (what : Head) (t : Track) : Type 0 where
  pub head : head_in_track t floor ≡ Some what
  pub own : (x : List ℕ) → own_in_track t floor x ≡ None
  pub newest : IsTrackUpTo floor t

-- Where it is this one, its own objects are put; nothing else differs.
pub record SeedsPuts (floor : ℕ) (here : Bool) (puts : List (List ℕ × Option Place)) (old new : Option Track) : Type 0 where
  pub head : head_in_slot new floor ≡ head_in_slot old floor
  pub own : (x : List ℕ) → own_in_slot new floor x ≡ (if here then own_if (head_in_slot old floor) (unwrap_or (last_put puts x None) (own_in_slot old floor x)) else own_in_slot old floor x)
  pub newest : IsSlotUpTo floor new
