-- What a table keeps between its calls.
use Rattle.std.specs.Prelude.{◌≡◌, ℕ, ◌≤◌, true, List, Option}
use Rattle.std.specs.FinMap as map
use Rattle.std.specs.FinMap.{FinMap}
use Rattle.std.specs.BTreeSet.{BTreeSet}
use Rattle.gt_model.specs.Contents.{key_cmp, is_this}
use Rattle.gt_objset.specs.Places.{pool_in}
use Rattle.gt_objset.specs.Track.{Track}
use Rattle.gt_objset.specs.Members.{Sets, is_noted}
use Rattle.gt_objset.specs.Table.{head_in_slot, AllUpTo}

-- Each repository that has a pool at this position is in its set.
abbrev pub Covers : Sets → ℕ → (List ℕ → Option Track) → Type 0
Covers sets p slots = (pool path : List ℕ) → is_this (pool_in (head_in_slot (slots path) p)) pool ≡ true → is_noted sets pool path ≡ true

-- At each position from the floor on that is so.
abbrev pub CoversFrom : ℕ → Sets → (List ℕ → Option Track) → Type 0
CoversFrom floor sets slots = (p : ℕ) → floor ≤ p → Covers sets p slots

-- Nothing stands past the front, and the sets have what they should.
pub record IsKept (floor front : ℕ) (members : FinMap key_cmp (BTreeSet (List ℕ))) (repos : FinMap key_cmp Track) : Type 0 where
  pub order : floor ≤ front
  pub newest : AllUpTo front repos
  pub covers : CoversFrom floor (λ w. map.get members w) (λ q. map.get repos q)
