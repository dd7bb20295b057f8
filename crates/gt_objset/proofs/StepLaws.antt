-- Laws of all repositories through a change of one.
use Rattle.std.proofs.Common.{◌≡◌, ℕ, ◌+◌, Bool, true, false, cond, List, [], Option, Some, None, IfSome, refl, sym, ap, ◌∙◌, subst, arith}
use Rattle.std.specs.Option.{option_map, unwrap_or}
use Rattle.std.specs.Ordering.{eq_by_cmp}
use Rattle.std.specs.FinMap as map
use Rattle.std.specs.FinMap.{get-empty}
use Rattle.gt_model.specs.Contents.{key_cmp}
use Rattle.gt_model.specs.declared.change.Change.{Change}
use Rattle.gt_model.specs.declared.change.Change.TheVariants.{Create, Delete, Link, Write, Repack, Prune, PackRefs, Unlink}
use Rattle.gt_model.specs.declared.entry.Entry.{Entry}
use Rattle.gt_versions.specs.Versions.{last_at, IsUpTo}
use Rattle.gt_versions.specs.Lives.{since}
use Rattle.gt_versions.proofs.Keys.{flip, at_key, spread}
use Rattle.gt_objset.specs.declared.place.Place.{Place}
use Rattle.gt_objset.specs.declared.head.HeadChange.{HeadChange}
use Rattle.gt_objset.specs.Places.{Head, last_put, head_here, own_here, own_if, head_after, own_after}
use Rattle.gt_objset.specs.Track.{Track, items_of, head_of, own_of, life_at, head_in_track, own_in_track, IsTrackUpTo, Puts, IsRoomier, IsUnborn}
use Rattle.gt_objset.specs.Table.{head_in_slot, own_in_slot, IsSlotUpTo, head_change, Makes, IsPlanned, RoomHere, Changed, Steps, SameSlot}
use Rattle.gt_objset.proofs.TrackLaws.{slot_more, head_past, own_past, put_head_before, put_own_before, put_newest, head_stays, own_stays, head_begins, own_begins, head_ends, own_ends}

-- ---- nothing differs

pub same_slot : (s : Option Track) → SameSlot s s
same_slot s = record { head = λ p. refl; own = λ p x. refl; newest = λ q h. h }

pub same_twice : (a b c : Option Track) → SameSlot a b → SameSlot b c → SameSlot a c
same_twice a b c g h = record { head = λ p. h.head p ∙ g.head p; own = λ p x. h.own p x ∙ g.own p x; newest = λ q u. h.newest q (g.newest q u) }

roomier : (r s : Track) → IsRoomier r s → SameSlot (Some r) (Some s)
roomier r s h = record {
  head = λ p.
      ap (λ es. head_of (since (last_at es p None)) (last_at s.kinds.0 p None) (last_at s.pools.0 p None)) h.lives
      ∙ ap (λ es. head_of (life_at r p) (last_at es p None) (last_at s.pools.0 p None)) h.kinds
      ∙ ap (λ es. head_of (life_at r p) (last_at r.kinds.0 p None) (last_at es p None)) h.pools;
  own = λ p x.
      ap (λ es. own_of (since (last_at es p None)) (last_at (items_of (map.get s.objects x)) p None)) h.lives
      ∙ ap (λ es. own_of (life_at r p) (last_at es p None)) (h.objects x);
  newest = λ q u.
      let L : List (ℕ × Bool) → Type 0 = λ es. IsUpTo q es in
      let K : List (ℕ × Option Bool) → Type 0 = λ es. IsUpTo q es in
      let P : List (ℕ × Option (List ℕ)) → Type 0 = λ es. IsUpTo q es in
      let O : List (ℕ × Option Place) → Type 0 = λ es. IsUpTo q es in
      record { lives = subst L (sym h.lives) u.lives; kinds = subst K (sym h.kinds) u.kinds; pools = subst P (sym h.pools) u.pools; objects = λ x. subst O (sym (h.objects x)) (u.objects x) };
}

same_roomier : (old new : Option Track) → Changed IsRoomier old new → SameSlot old new
same_roomier None None h = same_slot None
same_roomier None (Some s) h = let no : ⊥ = cc in absurd no
same_roomier (Some r) None h = absurd h
same_roomier (Some r) (Some s) h = roomier r s h

unborn : (s : Track) → IsUnborn s → SameSlot None (Some s)
unborn s h = record {
  head = λ p. ap (λ es. head_of (since (last_at es p None)) (last_at s.kinds.0 p None) (last_at s.pools.0 p None)) h.lives;
  own = λ p x. ap (λ es. own_of (since (last_at es p None)) (last_at (items_of (map.get s.objects x)) p None)) h.lives;
  newest = λ q u.
      let L : List (ℕ × Bool) → Type 0 = λ es. IsUpTo q es in
      let K : List (ℕ × Option Bool) → Type 0 = λ es. IsUpTo q es in
      let P : List (ℕ × Option (List ℕ)) → Type 0 = λ es. IsUpTo q es in
      let O : List (ℕ × Option Place) → Type 0 = λ es. IsUpTo q es in
      record { lives = subst L (sym h.lives) tt; kinds = subst K (sym h.kinds) tt; pools = subst P (sym h.pools) tt; objects = λ x. subst O (sym (h.objects x)) tt };
}

same_unborn : (old new : Option Track) → old ≡ None → IfSome new IsUnborn → SameSlot old new
same_unborn (Some r) new e h = let no : ⊥ = cc in absurd no
same_unborn None None e h = same_slot None
same_unborn None (Some s) e h = unborn s h

module _ (es fs : List (List ℕ × Track)) (path : List ℕ) (others : (x : List ℕ) → eq_by_cmp key_cmp path x ≡ false → at_key fs x ≡ at_key es x) where
  pub grown_everywhere : Changed IsRoomier (at_key es path) (at_key fs path) → (x : List ℕ) → SameSlot (at_key es x) (at_key fs x)
  grown_everywhere h = spread es fs path (λ a b. SameSlot a b) (same_roomier (at_key es path) (at_key fs path) h) same_slot others

  pub added_everywhere : at_key es path ≡ None → IfSome (at_key fs path) IsUnborn → (x : List ℕ) → SameSlot (at_key es x) (at_key fs x)
  added_everywhere e h = spread es fs path (λ a b. SameSlot a b) (same_unborn (at_key es path) (at_key fs path) e h) same_slot others

pub new_unborn : (s : Track) → s.lives.0 ≡ [] → s.kinds.0 ≡ [] → s.pools.0 ≡ [] → s.objects ≡ map.empty → IsUnborn s
new_unborn s l k p o = record { lives = l; kinds = k; pools = p; objects = λ x. ap (λ m. items_of (map.get m x)) o ∙ ap items_of (get-empty key_cmp x) }

-- ---- a change of one repository

same_moved : (o : Option Head) → option_map (λ (h : Head). record { is_pool = h.is_pool; pool = h.pool }) o ≡ o
same_moved None = refl
same_moved (Some h) = refl

none_of : (head : Option Head) → None ≡ own_if head None
none_of None = refl
none_of (Some h) = refl

module _ (front : ℕ) (puts : List (List ℕ × Option Place)) (r s : Track) (up : IsTrackUpTo front r) where
  head_through : (ch : Change) → Puts (front + 1) (head_change ch) puts r s → head_in_track s (front + 1) ≡ head_here ch (head_in_track r front)
  head_through (Create pool) h = head_begins front (head_change (Create pool)) puts r s h up refl
  head_through Delete h = head_ends front (head_change Delete) puts r s h up refl
  head_through (Link pool) h = head_stays front (head_change (Link pool)) puts r s h up refl refl
  head_through (Write refs needed added) h = head_stays front (head_change (Write refs needed added)) puts r s h up refl refl ∙ same_moved (head_in_track r front)
  head_through (Repack file dropped) h = head_stays front (head_change (Repack file dropped)) puts r s h up refl refl ∙ same_moved (head_in_track r front)
  head_through (Prune file dropped) h = head_stays front (head_change (Prune file dropped)) puts r s h up refl refl ∙ same_moved (head_in_track r front)
  head_through (PackRefs file) h = head_stays front (head_change (PackRefs file)) puts r s h up refl refl ∙ same_moved (head_in_track r front)
  head_through (Unlink file) h = head_stays front (head_change (Unlink file)) puts r s h up refl refl

  module _ (n : ℕ) (path : List ℕ) (own : List ℕ → List ℕ → Option Place) (tie : (x : List ℕ) → own path x ≡ own_in_track r front x) where
    made : (ch : Change) → Makes ch n path (head_in_track r front) own puts → (x : List ℕ) → own_in_track s (front + 1) x ≡ own_if (head_in_track r front) (unwrap_or (last_put puts x None) (own_in_track r front x)) → own_in_track s (front + 1) x ≡ own_if (head_in_track r front) (own_here ch n path (head_in_track r front) own x)
    made ch m x e = e ∙ ap (λ o. own_if (head_in_track r front) (unwrap_or (last_put puts x None) o)) (sym (tie x)) ∙ m x

    own_through : (ch : Change) → Puts (front + 1) (head_change ch) puts r s → IsPlanned ch n path (head_in_track r front) own puts → (x : List ℕ) → own_in_track s (front + 1) x ≡ own_if (head_in_track r front) (own_here ch n path (head_in_track r front) own x)
    own_through (Create pool) h m x = own_begins front (head_change (Create pool)) puts r s h up refl m x ∙ none_of (head_in_track r front)
    own_through Delete h m x = own_ends front (head_change Delete) puts r s h up refl x ∙ none_of (head_in_track r front)
    own_through (Link pool) h m x = made (Link pool) m x (own_stays front (head_change (Link pool)) puts r s h up refl x)
    own_through (Write refs needed added) h m x = made (Write refs needed added) m x (own_stays front (head_change (Write refs needed added)) puts r s h up refl x)
    own_through (Repack file dropped) h m x = made (Repack file dropped) m x (own_stays front (head_change (Repack file dropped)) puts r s h up refl x)
    own_through (Prune file dropped) h m x = made (Prune file dropped) m x (own_stays front (head_change (Prune file dropped)) puts r s h up refl x)
    own_through (PackRefs file) h m x = made (PackRefs file) m x (own_stays front (head_change (PackRefs file)) puts r s h up refl x)
    own_through (Unlink file) h m x = made (Unlink file) m x (own_stays front (head_change (Unlink file)) puts r s h up refl x)

pub through : (front : ℕ) (ch : Change) (head : HeadChange) (puts : List (List ℕ × Option Place)) (n : ℕ) (path : List ℕ) (own : List ℕ → List ℕ → Option Place) (old new : Option Track)
    → ((x : List ℕ) → own path x ≡ own_in_slot old front x) → head ≡ head_change ch → IsPlanned ch n path (head_in_slot old front) own puts → RoomHere (front + 1) puts old → IsSlotUpTo front old → Changed (Puts (front + 1) head puts) old new
    → Steps front (head_here ch (head_in_slot old front)) (λ x. own_if (head_in_slot old front) (own_here ch n path (head_in_slot old front) own x)) old new
through front ch head puts n path own None new tie e m room up h = absurd room
through front ch head puts n path own (Some r) None tie e m room up h = absurd h
through front ch head puts n path own (Some r) (Some s) tie e m room up h =
    let P : HeadChange → Type 0 = λ w. Puts (front + 1) w puts r s in
    let g : Puts (front + 1) (head_change ch) puts r s = subst P e h in
    record {
      head_next = head_through front puts r s up ch g;
      own_next = own_through front puts r s up n path own tie ch g m;
      head_before = put_head_before front head puts r s h up;
      own_before = put_own_before front head puts r s h up;
      newest = put_newest front head puts r s h up;
    }

-- ---- all repositories

module _ (f g : List ℕ → Option Track) (same_f : (a b : List ℕ) → eq_by_cmp key_cmp a b ≡ true → f b ≡ f a) (same_g : (a b : List ℕ) → eq_by_cmp key_cmp a b ≡ true → g b ≡ g a) (front : ℕ) (e : Entry) where
  abbrev pub own_now : List ℕ → List ℕ → Option Place
  own_now path x = own_in_slot (f path) front x

  abbrev pub head_now : Option Head
  head_now = head_in_slot (f e.path) front

  pub everywhere : ((path : List ℕ) → IsSlotUpTo front (f path))
      → Steps front (head_here e.change head_now) (λ x. own_if head_now (own_here e.change e.position e.path head_now own_now x)) (f e.path) (g e.path)
      → ((x : List ℕ) → eq_by_cmp key_cmp e.path x ≡ false → g x ≡ f x)
      → (path : List ℕ) → Steps front (head_after e path (head_in_slot (f path) front)) (λ x. own_after e head_now own_now path x) (f path) (g path)
  everywhere up here others path = by_test (eq_by_cmp key_cmp e.path path) refl
    where
      by_test : (b : Bool) → eq_by_cmp key_cmp e.path path ≡ b → Steps front (head_after e path (head_in_slot (f path) front)) (λ x. own_after e head_now own_now path x) (f path) (g path)
      by_test true t =
          let a : f path ≡ f e.path = same_f e.path path t in
          let b : g path ≡ g e.path = same_g e.path path t in
          record {
            head_next = ap (λ s. head_in_slot s (front + 1)) b ∙ here.head_next ∙ ap (λ s. head_here e.change (head_in_slot s front)) (sym a)
                ∙ sym (ap (λ v. cond v (head_here e.change (head_in_slot (f path) front)) (head_in_slot (f path) front)) (flip path e.path ∙ t));
            own_next = λ x. ap (λ s. own_in_slot s (front + 1) x) b ∙ here.own_next x
                ∙ sym (ap (λ v. cond v (own_if head_now (own_here e.change e.position e.path head_now own_now x)) (own_now path x)) (flip path e.path ∙ t));
            head_before = λ p l. ap (λ s. head_in_slot s p) b ∙ here.head_before p l ∙ ap (λ s. head_in_slot s p) (sym a);
            own_before = λ p x l. ap (λ s. own_in_slot s p x) b ∙ here.own_before p x l ∙ ap (λ s. own_in_slot s p x) (sym a);
            newest = let P : Option Track → Type 0 = λ s. IsSlotUpTo (front + 1) s in subst P (sym b) here.newest;
          }
      by_test false t =
          let same : g path ≡ f path = others path t in
          record {
            head_next = ap (λ s. head_in_slot s (front + 1)) same ∙ head_past front (front + 1) (f path) (omega arith) (up path)
                ∙ sym (ap (λ v. cond v (head_here e.change (head_in_slot (f path) front)) (head_in_slot (f path) front)) (flip path e.path ∙ t));
            own_next = λ x. ap (λ s. own_in_slot s (front + 1) x) same ∙ own_past front (front + 1) (f path) x (omega arith) (up path)
                ∙ sym (ap (λ v. cond v (own_if head_now (own_here e.change e.position e.path head_now own_now x)) (own_now path x)) (flip path e.path ∙ t));
            head_before = λ p l. ap (λ s. head_in_slot s p) same;
            own_before = λ p x l. ap (λ s. own_in_slot s p x) same;
            newest = let P : Option Track → Type 0 = λ s. IsSlotUpTo (front + 1) s in subst P (sym same) (slot_more front (front + 1) (f path) (omega arith) (up path));
          }
