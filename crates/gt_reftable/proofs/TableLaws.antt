-- Laws of one reference of all repositories.
use Rattle.std.proofs.Common.{◌≡◌, ℕ, ◌+◌, ◌≤◌, Bool, true, false, cond, List, [], Option, Some, None, Result, Ok, Err, OnOk, IfSome, refl, sym, ap, ◌∙◌, subst, arith}
use Rattle.std.specs.Ordering.{eq_by_cmp}
use Rattle.std.specs.FinMap as map
use Rattle.std.specs.FinMap.{from_entries, get-empty}
use Rattle.gt_model.specs.Contents.{key_cmp}
use Rattle.gt_model.specs.declared.update.RefUpdate.{RefUpdate}
use Rattle.gt_model.specs.declared.added.Added.{Added}
use Rattle.gt_model.specs.declared.entry.Entry.{Entry}
use Rattle.gt_model.specs.declared.change.Change.{Change}
use Rattle.gt_model.specs.declared.change.Change.TheVariants.{Create, Delete, Write}
use Rattle.gt_versions.specs.Versions.{last_at, IsUpTo}
use Rattle.gt_versions.specs.Lives.{start_of, value_since}
use Rattle.gt_versions.proofs.Keys.{at_key, at_key-same, get_key, flip, spread}
use Rattle.gt_versions.proofs.VersionLaws.{upto_more}
use Rattle.gt_slots.specs.Slots.{items_of}
use Rattle.gt_reftable.specs.Tracks.{Track, start, named_at, IsTrackUpTo, PutsLife, Moves, HasRoom, IsRoomier, step_updates}
use Rattle.gt_reftable.specs.Table.{track_value, AllUpTo, IsSlotUpTo, step_here, step_entry, RoomHere, Changed, Steps, Same, IsUnborn, HasRoomHere}
use Rattle.gt_reftable.proofs.TrackLaws.{up_more, value_past, roomier_value, roomier_up}
use Rattle.gt_reftable.proofs.LifeSteps.{life_now, life_before, life_newest}

pub slot_more : (q r : ℕ) (s : Option Track) → q ≤ r → IsSlotUpTo q s → IsSlotUpTo r s
slot_more q r None l h = tt
slot_more q r (Some t) l h = up_more q r t l h

pub slot_past : (q p : ℕ) (s : Option Track) (x : List ℕ) → q ≤ p → IsSlotUpTo q s → track_value s p x ≡ track_value s q x
slot_past q p None x l h = refl
slot_past q p (Some t) x l h = value_past q p t x l h.values

-- ---- steps at the entry's repository

life_here : (front : ℕ) (there : Bool) (old new : Option Track) → IsSlotUpTo front old → Changed (PutsLife (front + 1) there) old new → Steps front (λ x o. None) old new
life_here front there None None up h = record { next = λ x. refl; earlier = λ p x l. refl; newest = tt }
life_here front there None (Some s) up h = let no : ⊥ = cc in absurd no
life_here front there (Some r) None up h = absurd h
life_here front there (Some r) (Some s) up h = record { next = λ x. life_now front there r s h up x; earlier = λ p x l. life_before front there r s h up p x l; newest = life_newest front there r s h up }

pub create_here : (front : ℕ) (pool : Bool) (ch : Change) (old new : Option Track) → ch ≡ Create pool → IsSlotUpTo front old → Changed (PutsLife (front + 1) true) old new → Steps front (step_here ch) old new
create_here front pool ch old new e up h = let P : Change → Type 0 = λ c. Steps front (step_here c) old new in subst P (sym e) (life_here front true old new up h)

pub delete_here : (front : ℕ) (ch : Change) (old new : Option Track) → ch ≡ Delete → IsSlotUpTo front old → Changed (PutsLife (front + 1) false) old new → Steps front (step_here ch) old new
delete_here front ch old new e up h = let P : Change → Type 0 = λ c. Steps front (step_here c) old new in subst P (sym e) (life_here front false old new up h)

pub write_here : (front : ℕ) (us refs : List RefUpdate) (needed : List (List ℕ)) (records : List Added) (ch : Change) (old new : Option Track) → ch ≡ Write refs needed records → us ≡ refs → RoomHere (front + 1) ch old → IsSlotUpTo front old → Changed (Moves (front + 1) (step_updates us)) old new → Steps front (step_here ch) old new
write_here front us refs needed records ch old new e same room up h =
    let P : Change → Type 0 = λ c. Steps front (step_here c) old new in
    let Q : Change → Type 0 = λ c. RoomHere (front + 1) c old in
    let R : List RefUpdate → Type 0 = λ vs. Changed (Moves (front + 1) (step_updates vs)) old new in
    subst P (sym e) (here old new (subst Q e room) up (subst R same h))
  where
    here : (old new : Option Track) → RoomHere (front + 1) (Write refs needed records) old → IsSlotUpTo front old → Changed (Moves (front + 1) (step_updates refs)) old new → Steps front (step_updates refs) old new
    here None new room up h = absurd room
    here (Some r) None room up h = absurd h
    here (Some r) (Some s) room up h = record {
      next = λ x. h.since_q (front + 1) x (omega arith) ∙ ap (step_updates refs x) (value_past front (front + 1) r x (omega arith) up.values);
      earlier = λ p x l. h.earlier p x (omega arith);
      newest = h.newest;
    }

pub same_here : (front : ℕ) (ch : Change) (s : Option Track) → ((x : List ℕ) (o : Option (List ℕ)) → step_here ch x o ≡ o) → IsSlotUpTo front s → Steps front (step_here ch) s s
same_here front ch s e h = record { next = λ x. slot_past front (front + 1) s x (omega arith) h ∙ sym (e x (track_value s front x)); earlier = λ p x l. refl; newest = slot_more front (front + 1) s (omega arith) h }

-- ---- steps at every repository

pub everywhere : (es fs : List (List ℕ × Track)) (front : ℕ) (e : Entry) → ((path : List ℕ) → IsSlotUpTo front (at_key es path)) → Steps front (step_here e.change) (at_key es e.path) (at_key fs e.path) → ((x : List ℕ) → eq_by_cmp key_cmp e.path x ≡ false → at_key fs x ≡ at_key es x) → (path : List ℕ) → Steps front (step_entry e path) (at_key es path) (at_key fs path)
everywhere es fs front e up here others path = by_test (eq_by_cmp key_cmp e.path path) refl
  where
    by_test : (b : Bool) → eq_by_cmp key_cmp e.path path ≡ b → Steps front (step_entry e path) (at_key es path) (at_key fs path)
    by_test true t =
        let a = at_key-same es e.path path t in
        let b = at_key-same fs e.path path t in
        record {
          next = λ x. ap (λ s. track_value s (front + 1) x) b ∙ here.next x ∙ ap (λ s. step_here e.change x (track_value s front x)) (sym a) ∙ sym (ap (λ v. cond v (step_here e.change x (track_value (at_key es path) front x)) (track_value (at_key es path) front x)) (flip path e.path ∙ t));
          earlier = λ p x l. ap (λ s. track_value s p x) b ∙ here.earlier p x l ∙ ap (λ s. track_value s p x) (sym a);
          newest = let P : Option Track → Type 0 = λ s. IsSlotUpTo (front + 1) s in subst P (sym b) here.newest;
        }
    by_test false t =
        let same = others path t in
        record {
          next = λ x. ap (λ s. track_value s (front + 1) x) same ∙ slot_past front (front + 1) (at_key es path) x (omega arith) (up path) ∙ sym (ap (λ v. cond v (step_here e.change x (track_value (at_key es path) front x)) (track_value (at_key es path) front x)) (flip path e.path ∙ t));
          earlier = λ p x l. ap (λ s. track_value s p x) same;
          newest = let P : Option Track → Type 0 = λ s. IsSlotUpTo (front + 1) s in subst P (sym same) (slot_more front (front + 1) (at_key es path) (omega arith) (up path));
        }

-- ---- memory that was taken

pub same_slot : (s : Option Track) → Same s s
same_slot s = record { value = λ p x. refl; newest = λ q h. h }

pub same_everywhere : (es fs : List (List ℕ × Track)) (path : List ℕ) → Same (at_key es path) (at_key fs path) → ((x : List ℕ) → eq_by_cmp key_cmp path x ≡ false → at_key fs x ≡ at_key es x) → (x : List ℕ) → Same (at_key es x) (at_key fs x)
same_everywhere es fs path here others x = spread es fs path Same here same_slot others x

pub same_roomier : (old new : Option Track) → Changed IsRoomier old new → Same old new
same_roomier None None h = same_slot None
same_roomier None (Some s) h = let no : ⊥ = cc in absurd no
same_roomier (Some r) None h = absurd h
same_roomier (Some r) (Some s) h = record { value = λ p x. roomier_value r s h p x; newest = λ q up. roomier_up q r s h up }

pub unborn_up : (q : ℕ) (s : Track) → IsUnborn s → IsTrackUpTo q s
unborn_up q s h = record {
  values = record {
    lives = let P : List (ℕ × Bool) → Type 0 = λ es. IsUpTo q es in subst P (sym h.lives) tt;
    refs = λ x. let P : List (ℕ × Option (List ℕ)) → Type 0 = λ es. IsUpTo q es in subst P (sym (h.refs x)) tt;
    current = λ x. let P : List (ℕ × Option (List ℕ)) → Type 0 = λ es. IsUpTo q es in subst P (sym (h.current x)) tt;
    newest = λ x. ap (named_at q) (h.current x) ∙ sym (ap (λ es. value_since (start s q) (last_at es q None)) (h.refs x));
  };
  gone = λ x e. h.current x;
}

pub same_unborn : (old new : Option Track) → old ≡ None → IfSome new IsUnborn → Same old new
same_unborn (Some r) new e h = let no : ⊥ = cc in absurd no
same_unborn None None e h = same_slot None
same_unborn None (Some s) e h = record {
  value = λ p x. ap (λ es. value_since (start_of (last_at s.lives.0 p None)) (last_at es p None)) (h.refs x);
  newest = λ q up. unborn_up q s h;
}

pub unborn : (r s : Track) → r.lives.0 ≡ [] → r.refs ≡ map.empty → r.current ≡ map.empty → IsRoomier r s → IsUnborn s
unborn r s l m n h = record {
  lives = h.lives ∙ l;
  refs = λ x. h.refs.items x ∙ ap (λ k. items_of (map.get k x)) m ∙ ap items_of (get-empty key_cmp x);
  current = λ x. h.current.items x ∙ ap (λ k. items_of (map.get k x)) n ∙ ap items_of (get-empty key_cmp x);
}

pub after_lives : (front : ℕ) (s : Option Track) → IsSlotUpTo front s → IfSome s (λ r. IsUpTo (front + 1) r.lives.0)
after_lives front None h = tt
after_lives front (Some r) h = upto_more front (front + 1) r.lives.0 (omega arith) h.values.lives

pub after_slot : (front : ℕ) (s : Option Track) → IsSlotUpTo front s → IfSome s (IsTrackUpTo (front + 1))
after_slot front None h = tt
after_slot front (Some r) h = up_more front (front + 1) r (omega arith) h

pub write_room : {T E : Type 0} (res : Result T E) (q : ℕ) (refs us : List RefUpdate) (needed : List (List ℕ)) (records : List Added) (ch : Change) (s : Option Track) → ch ≡ Write refs needed records → us ≡ refs → OnOk res (HasRoomHere us s) → OnOk res (RoomHere q ch s)
write_room (Err e) q refs us needed records ch s a b h = tt
write_room (Ok x) q refs us needed records ch s a b h = let P : Change → Type 0 = λ c. RoomHere q c s in subst P (sym a) (here s h)
  where
    here : (s : Option Track) → HasRoomHere us s → RoomHere q (Write refs needed records) s
    here None h = absurd h
    here (Some r) h = let Q : List RefUpdate → Type 0 = λ vs. HasRoom q r vs in subst Q b (h q)

-- ---- from the tree to the map

pub none_up : (q : ℕ) (es : List (List ℕ × Track)) → es ≡ [] → AllUpTo q (from_entries es)
none_up q es e path = let P : Option Track → Type 0 = λ s. IsSlotUpTo q s in subst P (sym (get_key es path ∙ ap (λ fs. at_key fs path) e)) tt

pub up_in_tree : (q : ℕ) (es : List (List ℕ × Track)) → AllUpTo q (from_entries es) → (path : List ℕ) → IsSlotUpTo q (at_key es path)
up_in_tree q es h path = let P : Option Track → Type 0 = λ s. IsSlotUpTo q s in subst P (get_key es path) (h path)

pub up_of_tree : (q : ℕ) (es : List (List ℕ × Track)) → ((path : List ℕ) → IsSlotUpTo q (at_key es path)) → AllUpTo q (from_entries es)
up_of_tree q es h path = let P : Option Track → Type 0 = λ s. IsSlotUpTo q s in subst P (sym (get_key es path)) (h path)

pub same_up : (q : ℕ) (es fs : List (List ℕ × Track)) → ((path : List ℕ) → Same (at_key es path) (at_key fs path)) → AllUpTo q (from_entries es) → AllUpTo q (from_entries fs)
same_up q es fs h up = up_of_tree q fs (λ path. (h path).newest q (up_in_tree q es up path))

pub prepared : {T E : Type 0} (res : Result T E) (q : ℕ) (ch : Change) (es : List (List ℕ × Track)) (path : List ℕ) → OnOk res (RoomHere q ch (at_key es path)) → OnOk res (RoomHere q ch (map.get (from_entries {R = key_cmp} es) path))
prepared (Err e) q ch es path h = tt
prepared (Ok x) q ch es path h = let P : Option Track → Type 0 = λ s. RoomHere q ch s in subst P (sym (get_key es path)) h

pub room_in_tree : (q : ℕ) (ch : Change) (es : List (List ℕ × Track)) (path : List ℕ) → RoomHere q ch (map.get (from_entries {R = key_cmp} es) path) → RoomHere q ch (at_key es path)
room_in_tree q ch es path h = let P : Option Track → Type 0 = λ s. RoomHere q ch s in subst P (get_key es path) h

pub added_up : (front : ℕ) (e : Entry) (es fs : List (List ℕ × Track)) → ((path : List ℕ) → Steps front (step_entry e path) (at_key es path) (at_key fs path)) → AllUpTo (front + 1) (from_entries fs)
added_up front e es fs h = up_of_tree (front + 1) fs (λ path. (h path).newest)
