-- That there is room for an entry has one proof at most, so that a ghost field may say it.
use Rattle.std.specs.Prelude.{◌≡◌, ℕ, List, [], ◌∷◌, Option, Some, None}
use Rattle.std.specs.Coded.{Coded-set, coded_ℕ, coded_list, coded_option, coded×}
use Rattle.std.proofs.Props.{props}
use Rattle.gt_model.specs.declared.change.Change.{Change}
use Rattle.gt_model.specs.declared.change.Change.TheVariants.{Create, Delete, Link, Write, Repack, Prune, PackRefs, Unlink}
use Rattle.gt_model.specs.declared.entry.Entry.{Entry}
use Rattle.gt_model.specs.declared.update.RefUpdate.{RefUpdate}
use Rattle.gt_objset.specs.Places.{Head}
use Rattle.gt_objset.specs.Table as objects_table
use Rattle.gt_objset.specs.Table.{head_code, IsPlanned}
use Rattle.gt_objset.specs.Track as objects_track
use Rattle.gt_objset.specs.Track.{place_code, HasSlots}
use Rattle.gt_objset.specs.declared.place.Place.{Place}
use Rattle.gt_reftable.specs.Table as refs_table
use Rattle.gt_reftable.specs.Tracks as refs_track
use Rattle.gt_table.specs.Table.{Tables, HasRoomFor}

place_for : (q : ℕ) (t : refs_track.Track) (name : List ℕ) (new : Option (List ℕ)) → IsProp (refs_track.HasPlace q t name new)
place_for q t name None = hlevel props
place_for q t name (Some new) = hlevel props

has_room : (q : ℕ) (t : refs_track.Track) (updates : List RefUpdate) → IsProp (refs_track.HasRoom q t updates)
has_room q t [] = hlevel props
has_room q t (u ∷ us) = hlevel (props, place_for q t u.name u.new, has_room q t us)

refs_room : (q : ℕ) (change : Change) (track : Option refs_track.Track) → IsProp (refs_table.RoomHere q change track)
refs_room q (Create pool) (Some t) = hlevel props
refs_room q Delete (Some t) = hlevel props
refs_room q (Write updates needed added) (Some t) = has_room q t updates
refs_room q (Write updates needed added) None = hlevel props
refs_room q (Create pool) None = hlevel props
refs_room q Delete None = hlevel props
refs_room q (Link pool) track = hlevel props
refs_room q (Repack file dropped) track = hlevel props
refs_room q (Prune file dropped) track = hlevel props
refs_room q (PackRefs file) track = hlevel props
refs_room q (Unlink file) track = hlevel props

abbrev Puts : Type 0
Puts = List (List ℕ × Option Place)

puts_same : (one other : Puts) → IsProp (one ≡ other)
puts_same one other = Coded-set (coded_list (coded× (coded_list coded_ℕ) (coded_option place_code))) one other

places_same : (one other : Option Place) → IsProp (one ≡ other)
places_same one other = Coded-set (coded_option place_code) one other

planned : (change : Change) (n : ℕ) (path : List ℕ) (head : Option Head) (own : List ℕ → List ℕ → Option Place) (puts : Puts) → IsProp (IsPlanned change n path head own puts)
planned (Create pool) n path head own puts = puts_same _ _
planned Delete n path head own puts = puts_same _ _
planned (Link pool) n path head own puts = hlevel (props, places_same)
planned (Write refs needed added) n path head own puts = hlevel (props, places_same)
planned (Repack file dropped) n path head own puts = hlevel (props, places_same)
planned (Prune file dropped) n path head own puts = hlevel (props, places_same)
planned (PackRefs file) n path head own puts = hlevel (props, places_same)
planned (Unlink file) n path head own puts = hlevel (props, places_same)

has_slots : (q : ℕ) (slots : List ℕ → Option (List (ℕ × Option Place) × ℕ)) (puts : Puts) → IsProp (HasSlots q slots puts)
has_slots q slots [] = hlevel props
has_slots q slots (e ∷ es) = hlevel (props, has_slots q slots es)

objects_room : (q : ℕ) (puts : Puts) (track : Option objects_track.Track) → IsProp (objects_table.RoomHere q puts track)
objects_room q puts None = hlevel props
objects_room q puts (Some t) = hlevel (props, has_slots)

head_same : (e : Entry) (t : objects_table.Table) → IsProp (t.head ≡ objects_table.head_change e.change)
head_same e t = Coded-set head_code _ _

pub room_for : (e : Entry) (t : Tables) → IsProp (HasRoomFor e t)
room_for e t = hlevel (props, refs_room, planned, objects_room, head_same)
