-- The references of all repositories at each position.
use Rattle.std.specs.Prelude.{◌≡◌, ℕ, ◌+◌, ◌≤◌, Bool, true, false, if◌then◌else◌, List, [], ◌∷◌, map as map_list, Option, Some, None, IsTrue}
use Rattle.std.specs.List.{flat_map}
use Rattle.std.specs.Ordering.{eq_by_cmp}
use Rattle.std.specs.FinMap as map
use Rattle.std.specs.FinMap.{FinMap, code}
use Rattle.std.specs.Coded.{Coded, code_by, coded×, coded_ℕ, coded_list}
use Rattle.std.proofs.Common.{refl}
use Rattle.gt_model.specs.Contents.{key_cmp, Names, with_refs}
use Rattle.gt_model.specs.declared.entry.Entry.{Entry}
use Rattle.gt_model.specs.declared.change.Change.{Change}
use Rattle.gt_model.specs.declared.change.Change.TheVariants.{Create, Delete, Link, Write, Repack, Prune, PackRefs, Unlink}
use Rattle.gt_model.specs.declared.reference.RefAt.{RefAt}
use Rattle.gt_model.specs.declared.reference.RefValue.{RefValue}
use Rattle.gt_model.specs.declared.update.RefUpdate.{RefUpdate}
use Rattle.gt_versions.specs.Versions.{ready}
use Rattle.gt_slots.specs.Slots.{items_of}
use Rattle.gt_reftable.specs.Tracks.{Track, track_code, value_in, refs_of, IsTrackUpTo, HasRoom, step_updates}

pub record Table : Type 0 where
  pub floor : ℕ
  pub front : ℕ
  pub repos : FinMap key_cmp Track

abbrev pub table_code : Coded Table
table_code =
    code_by (ℕ × (ℕ × FinMap key_cmp Track)) (coded× coded_ℕ (coded× coded_ℕ (code (coded_list coded_ℕ) track_code)))
    (λ t. (t.floor, (t.front, t.repos))) (λ p. record { floor = p.0; front = p.1.0; repos = p.1.1 }) (λ _. refl)

-- ---- what a table has

-- a repository that nothing was written to has no reference
abbrev pub track_refs : Option Track → ℕ → Names
track_refs None p = map.empty
track_refs (Some t) p = refs_of t p

-- the references of a repository at a position, none where it isn't there
abbrev pub refs_at : Table → ℕ → List ℕ → Names
refs_at t p path = track_refs (map.get t.repos path) p

-- a reference and its value, with the path of its repository
abbrev pub ref_at : List ℕ → RefValue → RefAt
ref_at path r = record { path = path; name = r.name; value = r.value }

-- the references of a repository, ascending by name, with its path
abbrev pub with_path : List ℕ → Names → List RefAt
with_path path refs = map_list (λ r. record { path = path; name = r.0; value = r.1 }) (map.entries refs)

abbrev pub all_in : ℕ → List (List ℕ × Track) → List RefAt
all_in p repos = flat_map (λ e. with_path e.0 (refs_of e.1 p)) repos

-- every reference at a position, ascending by repository, then by name
abbrev pub all_at : Table → ℕ → List RefAt
all_at t p = all_in p (map.entries t.repos)

-- ---- what an entry does to the references of a repository

abbrev pub refs_change : Change → Names → Names
refs_change (Create pool) refs = map.empty
refs_change Delete refs = map.empty
refs_change (Link pool) refs = refs
refs_change (Write updates needed added) refs = with_refs refs updates
refs_change (Repack file dropped) refs = refs
refs_change (Prune file dropped) refs = refs
refs_change (PackRefs file) refs = refs
refs_change (Unlink file) refs = refs

abbrev pub refs_after : Entry → List ℕ → Names → Names
refs_after e path refs = if eq_by_cmp key_cmp path e.path then refs_change e.change refs else refs

-- The table has the entry behind the others.
pub record Adds (entry : Entry) (old new : Table) : Type 0 where
  pub floor : new.floor ≡ old.floor
  pub front : new.front ≡ old.front + 1
  pub next : (path : List ℕ) → refs_at new (old.front + 1) path ≡ refs_after entry path (refs_at old old.front path)
  pub earlier : (p : ℕ) (path : List ℕ) → p ≤ old.front → refs_at new p path ≡ refs_at old p path

-- No reference differs at any position.
pub record IsSameTable (old new : Table) : Type 0 where
  pub floor : new.floor ≡ old.floor
  pub front : new.front ≡ old.front
  pub refs : (p : ℕ) (path : List ℕ) → refs_at new p path ≡ refs_at old p path

-- At the floor the reference is there besides, and where no entry was added that is all.
pub record Seeds (path name v : List ℕ) (old new : Table) : Type 0 where
  pub floor : new.floor ≡ old.floor
  pub front : new.front ≡ old.front
  pub refs : (x : List ℕ) → refs_at new old.floor x ≡ (if eq_by_cmp key_cmp x path then map.insert (refs_at old old.floor x) name v else refs_at old old.floor x)

-- No repository has a reference.
pub record IsEmpty (from : ℕ) (t : Table) : Type 0 where
  pub floor : t.floor ≡ from
  pub front : t.front ≡ from
  pub refs : (p : ℕ) (path : List ℕ) → refs_at t p path ≡ map.empty

-- the room that an entry needs at its repository
abbrev pub RoomHere : ℕ → Change → Option Track → Type 0
RoomHere q (Create pool) (Some t) = IsTrue (ready q t.lives)
RoomHere q Delete (Some t) = IsTrue (ready q t.lives)
RoomHere q (Write updates needed added) None = ⊥
RoomHere q (Write updates needed added) (Some t) = HasRoom q t updates
RoomHere q c s = Unit {0}

-- The room for adding this entry is there.
abbrev pub IsPrepared : Table → Entry → Type 0
IsPrepared t e = RoomHere (t.front + 1) e.change (map.get t.repos e.path)

-- ---- one reference

abbrev pub track_value : Option Track → ℕ → List ℕ → Option (List ℕ)
track_value None p x = None
track_value (Some t) p x = value_in t p x

abbrev pub IsSlotUpTo : ℕ → Option Track → Type 0
IsSlotUpTo q None = Unit {0}
IsSlotUpTo q (Some t) = IsTrackUpTo q t

-- each of these repositories has nothing past this position
abbrev pub EachUpTo : ℕ → List (List ℕ × Track) → Type 0
EachUpTo q [] = Unit {0}
EachUpTo q (e ∷ es) = IsTrackUpTo q e.1 × EachUpTo q es

abbrev pub AllUpTo : ℕ → FinMap key_cmp Track → Type 0
AllUpTo q m = (path : List ℕ) → IsSlotUpTo q (map.get m path)

-- one reference through a change of its repository
abbrev pub step_here : Change → List ℕ → Option (List ℕ) → Option (List ℕ)
step_here (Create pool) x o = None
step_here Delete x o = None
step_here (Link pool) x o = o
step_here (Write updates needed added) x o = step_updates updates x o
step_here (Repack file dropped) x o = o
step_here (Prune file dropped) x o = o
step_here (PackRefs file) x o = o
step_here (Unlink file) x o = o

abbrev pub step_entry : Entry → List ℕ → List ℕ → Option (List ℕ) → Option (List ℕ)
step_entry e path x o = if eq_by_cmp key_cmp path e.path then step_here e.change x o else o

-- a repository that is known is changed so, and another stays unknown
abbrev pub Changed : (Track → Track → Type 0) → Option Track → Option Track → Type 0
Changed P None new = new ≡ None
Changed P (Some t) None = ⊥
Changed P (Some t) (Some u) = P t u

-- At the next position each reference is what f makes of it, and until now nothing changes.
pub record Steps (front : ℕ) (f : List ℕ → Option (List ℕ) → Option (List ℕ)) (old new : Option Track) : Type 0 where
  pub next : (x : List ℕ) → track_value new (front + 1) x ≡ f x (track_value old front x)
  pub earlier : (p : ℕ) (x : List ℕ) → p ≤ front → track_value new p x ≡ track_value old p x
  pub newest : IsSlotUpTo (front + 1) new

-- No reference differs at any position.
pub record Same (old new : Option Track) : Type 0 where
  pub value : (p : ℕ) (x : List ℕ) → track_value new p x ≡ track_value old p x
  pub newest : (q : ℕ) → IsSlotUpTo q old → IsSlotUpTo q new

-- It was never made or deleted, and no reference was written.
pub record IsUnborn (t : Track) : Type 0 where
  pub lives : t.lives.0 ≡ []
  pub refs : (x : List ℕ) → items_of (map.get t.refs x) ≡ []
  pub current : (x : List ℕ) → items_of (map.get t.current x) ≡ []

-- the repository is known, and has room for these updates at each position
abbrev pub HasRoomHere : List RefUpdate → Option Track → Type 0
HasRoomHere us None = ⊥
HasRoomHere us (Some t) = (q : ℕ) → HasRoom q t us

-- A reference of this repository has this value at the newest position.
pub record SeedsHere (q : ℕ) (name v : List ℕ) (old new : Option Track) : Type 0 where
  pub value : (x : List ℕ) → track_value new q x ≡ (if eq_by_cmp key_cmp x name then Some v else track_value old q x)
  pub newest : IsSlotUpTo q new

abbrev pub SeedsAt : Bool → ℕ → List ℕ → List ℕ → Option Track → Option Track → Type 0
SeedsAt true q name v old new = SeedsHere q name v old new
SeedsAt false q name v old new = new ≡ old
