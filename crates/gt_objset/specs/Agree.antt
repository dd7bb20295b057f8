-- A table against the content of its log, and the places of the content's own objects.
use Rattle.std.specs.Prelude.{◌≡◌, ℕ, ◌+◌, ◌≤◌, is_some, List, length, Option}
use Rattle.gt_model.specs.declared.entry.Entry.{Entry}
use Rattle.gt_model.specs.Contents.{Content, at, own}
use Rattle.gt_objset.specs.declared.place.Place.{Place}
use Rattle.gt_objset.specs.Places.{head_in, places_at}
use Rattle.gt_objset.specs.Table.{Table, head_at, own_at}

-- At each position from the floor to the front the table has the repositories of the content there, and the own objects of each.
pub record Agrees (t : Table) (base : Content) (log : List Entry) : Type 0 where
  pub front : t.front ≡ t.floor + length log
  pub heads : (p : ℕ) (path : List ℕ) → t.floor ≤ p → p ≤ t.front → head_at t p path ≡ head_in (at t.floor base log p) path
  pub own : (p : ℕ) (path x : List ℕ) → t.floor ≤ p → p ≤ t.front → is_some (own_at t p path x) ≡ is_some (own (at t.floor base log p) path x)

-- The places are those of the content's own objects: each of them has one, and nothing else has.
abbrev pub ArePlaced : Content → (List ℕ → List ℕ → Option Place) → Type 0
ArePlaced c places = (path x : List ℕ) → is_some (places path x) ≡ is_some (own c path x)

-- At each of these positions an own object has the place that it has in the content at the floor, or in the file of the entry that put it.
pub record ArePlacedBy (t : Table) (base : Content) (places : List ℕ → List ℕ → Option Place) (log : List Entry) : Type 0 where
  pub placed : ArePlaced base places
  pub own : (p : ℕ) (path x : List ℕ) → t.floor ≤ p → p ≤ t.front → own_at t p path x ≡ places_at t.floor base places log p path x
