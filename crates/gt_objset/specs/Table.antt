-- The objects of all repositories at each position.
use Rattle.std.specs.Prelude.{◌≡◌, ℕ, ◌+◌, ◌≤◌, Bool, true, false, List, [], Option, Some, None}
use Rattle.std.specs.Option.{unwrap_or}
use Rattle.std.specs.FinMap as map
use Rattle.std.specs.FinMap.{FinMap, code}
use Rattle.std.specs.BTreeSet.{BTreeSet}
use Rattle.std.specs.Coded.{Coded, code_by, coded×, coded_ℕ, coded_list, coded_option, coded_bool}
use Rattle.std.proofs.Common.{refl}
use Rattle.gt_model.specs.declared.change.Change.{Change}
use Rattle.gt_model.specs.declared.change.Change.TheVariants.{Create, Delete, Link, Write, Repack, Prune, PackRefs, Unlink}
use Rattle.gt_model.specs.declared.entry.Entry.{Entry}
use Rattle.gt_model.specs.Contents.{key_cmp}
use Rattle.gt_objset.specs.declared.place.Place.{Place}
use Rattle.gt_objset.specs.declared.head.HeadChange.{HeadChange}
use Rattle.gt_objset.specs.Places.{Head, last_put, seen, own_here, own_if, head_after, own_after}
use Rattle.gt_objset.specs.Members.{notes}
use Rattle.gt_objset.specs.Track.{Track, track_code, place_code, head_in_track, own_in_track, IsTrackUpTo, HasRoom}

-- the floor, the front, each repository that was ever there since the floor, for each pool those that may have been given it since then, and what was prepared last
pub record Table : Type 0 where
  pub floor : ℕ
  pub front : ℕ
  pub repos : FinMap key_cmp Track
  pub members : FinMap key_cmp (BTreeSet (List ℕ))
  pub head : HeadChange
  pub puts : List (List ℕ × Option Place)

abbrev pub head_code : Coded HeadChange
head_code =
    code_by (Option Bool × (Option (Option Bool) × Option (Option (List ℕ)))) (coded× (coded_option coded_bool) (coded× (coded_option (coded_option coded_bool)) (coded_option (coded_option (coded_list coded_ℕ)))))
    (λ h. (h.life, (h.kind, h.pool))) (λ p. record { life = p.0; kind = p.1.0; pool = p.1.1 }) (λ _. refl)

abbrev pub paths_code : Coded (BTreeSet (List ℕ))
paths_code = code_by (List (List ℕ)) (coded_list (coded_list coded_ℕ)) (λ s. s.keys) (λ ks. record { keys = ks }) (λ _. refl)

abbrev pub table_code : Coded Table
table_code =
    code_by ((ℕ × ℕ) × ((FinMap key_cmp Track × FinMap key_cmp (BTreeSet (List ℕ))) × (HeadChange × List (List ℕ × Option Place))))
    (coded× (coded× coded_ℕ coded_ℕ) (coded× (coded× (code (coded_list coded_ℕ) track_code) (code (coded_list coded_ℕ) paths_code)) (coded× head_code (coded_list (coded× (coded_list coded_ℕ) (coded_option place_code))))))
    (λ t. ((t.floor, t.front), ((t.repos, t.members), (t.head, t.puts)))) (λ p. record { floor = p.0.0; front = p.0.1; repos = p.1.0.0; members = p.1.0.1; head = p.1.1.0; puts = p.1.1.1 }) (λ _. refl)

-- ---- what the table says of a position

abbrev pub head_in_slot : Option Track → ℕ → Option Head
head_in_slot None p = None
head_in_slot (Some t) p = head_in_track t p

abbrev pub own_in_slot : Option Track → ℕ → List ℕ → Option Place
own_in_slot None p x = None
own_in_slot (Some t) p x = own_in_track t p x

-- what a repository is, none where it isn't there
abbrev pub head_at : Table → ℕ → List ℕ → Option Head
head_at t p path = head_in_slot (map.get t.repos path) p

-- the place of an own object, none where it isn't own
abbrev pub own_at : Table → ℕ → List ℕ → List ℕ → Option Place
own_at t p path x = own_in_slot (map.get t.repos path) p x

-- the place of the record that is seen under a name, none where it isn't visible
abbrev pub place_at : Table → ℕ → List ℕ → List ℕ → Option Place
place_at t p path x = seen (head_at t p path) (own_at t p) path x

-- ---- what is prepared

abbrev pub head_change : Change → HeadChange
head_change (Create pool) = record { life = Some true; kind = Some (Some pool); pool = None }
head_change Delete = record { life = Some false; kind = None; pool = None }
head_change (Link pool) = record { life = None; kind = None; pool = Some (Some pool) }
head_change (Write refs needed added) = record { life = None; kind = None; pool = None }
head_change (Repack file dropped) = record { life = None; kind = None; pool = None }
head_change (Prune file dropped) = record { life = None; kind = None; pool = None }
head_change (PackRefs file) = record { life = None; kind = None; pool = None }
head_change (Unlink file) = record { life = None; kind = None; pool = Some None }

-- These puts make what the change makes of the own objects of its repository, where that stays.
abbrev pub Makes : Change → ℕ → List ℕ → Option Head → (List ℕ → List ℕ → Option Place) → List (List ℕ × Option Place) → Type 0
Makes change n path head own puts = (x : List ℕ) → own_if head (unwrap_or (last_put puts x None) (own path x)) ≡ own_if head (own_here change n path head own x)

-- the same of all changes; what begins or ends needs no puts
abbrev pub IsPlanned : Change → ℕ → List ℕ → Option Head → (List ℕ → List ℕ → Option Place) → List (List ℕ × Option Place) → Type 0
IsPlanned (Create pool) n path head own puts = puts ≡ []
IsPlanned Delete n path head own puts = puts ≡ []
IsPlanned (Link pool) n path head own puts = Makes (Link pool) n path head own puts
IsPlanned (Write refs needed added) n path head own puts = Makes (Write refs needed added) n path head own puts
IsPlanned (Repack file dropped) n path head own puts = Makes (Repack file dropped) n path head own puts
IsPlanned (Prune file dropped) n path head own puts = Makes (Prune file dropped) n path head own puts
IsPlanned (PackRefs file) n path head own puts = Makes (PackRefs file) n path head own puts
IsPlanned (Unlink file) n path head own puts = Makes (Unlink file) n path head own puts

abbrev pub RoomHere : ℕ → List (List ℕ × Option Place) → Option Track → Type 0
RoomHere q puts None = ⊥
RoomHere q puts (Some t) = HasRoom q puts t

-- All memory of adding the entry is taken, and what it changes is known. Where that gives a pool, the pool's set has the entry's path already.
pub record IsPrepared (t : Table) (e : Entry) : Type 0 where
  pub head : t.head ≡ head_change e.change
  pub puts : IsPlanned e.change e.position e.path (head_at t t.front e.path) (own_at t t.front) t.puts
  pub room : RoomHere (t.front + 1) t.puts (map.get t.repos e.path)
  pub noted : notes (λ pool. map.get t.members pool) e.path t.head.pool ≡ true

-- ---- steps

abbrev pub IsSlotUpTo : ℕ → Option Track → Type 0
IsSlotUpTo q None = Unit {0}
IsSlotUpTo q (Some t) = IsTrackUpTo q t

abbrev pub AllUpTo : ℕ → FinMap key_cmp Track → Type 0
AllUpTo q m = (path : List ℕ) → IsSlotUpTo q (map.get m path)

-- a repository that was made is changed so, and one that never was stays so
abbrev pub Changed : (Track → Track → Type 0) → Option Track → Option Track → Type 0
Changed P None new = new ≡ None
Changed P (Some t) None = ⊥
Changed P (Some t) (Some u) = P t u

-- At this position the repository is this, and before it nothing changes.
pub record Steps (front : ℕ) (head : Option Head) (own : List ℕ → Option Place) (old new : Option Track) : Type 0 where
  pub head_next : head_in_slot new (front + 1) ≡ head
  pub own_next : (x : List ℕ) → own_in_slot new (front + 1) x ≡ own x
  pub head_before : (p : ℕ) → p ≤ front → head_in_slot new p ≡ head_in_slot old p
  pub own_before : (p : ℕ) (x : List ℕ) → p ≤ front → own_in_slot new p x ≡ own_in_slot old p x
  pub newest : IsSlotUpTo (front + 1) new

-- It is the same at each position.
pub record SameSlot (old new : Option Track) : Type 0 where
  pub head : (p : ℕ) → head_in_slot new p ≡ head_in_slot old p
  pub own : (p : ℕ) (x : List ℕ) → own_in_slot new p x ≡ own_in_slot old p x
  pub newest : (q : ℕ) → IsSlotUpTo q old → IsSlotUpTo q new

-- The table has the entry behind the others: at the next position each repository and each own object is what the entry makes of it, and until now nothing changes.
pub record Adds (entry : Entry) (old new : Table) : Type 0 where
  pub floor : new.floor ≡ old.floor
  pub front : new.front ≡ old.front + 1
  pub head_next : (path : List ℕ) → head_at new (old.front + 1) path ≡ head_after entry path (head_at old old.front path)
  pub own_next : (path x : List ℕ) → own_at new (old.front + 1) path x ≡ own_after entry (head_at old old.front entry.path) (own_at old old.front) path x
  pub head_before : (p : ℕ) (path : List ℕ) → p ≤ old.front → head_at new p path ≡ head_at old p path
  pub own_before : (p : ℕ) (path x : List ℕ) → p ≤ old.front → own_at new p path x ≡ own_at old p path x

-- Nothing differs at any position.
pub record IsSameTable (old new : Table) : Type 0 where
  pub floor : new.floor ≡ old.floor
  pub front : new.front ≡ old.front
  pub heads : (p : ℕ) (path : List ℕ) → head_at new p path ≡ head_at old p path
  pub own : (p : ℕ) (path x : List ℕ) → own_at new p path x ≡ own_at old p path x
