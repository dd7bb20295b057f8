-- Laws of an own object whose record stands elsewhere.
use Rattle.std.proofs.Common.{◌≡◌, ◌≢◌, ◌⊎◌, ⊎_elim, inl, inr, ℕ, ◌+◌, ◌-◌, ◌<◌, ◌≤◌, Bool, true, false, ◌&&◌, is_some, length, List, Option, Some, None, IsSome, refl, sym, ap, ◌∙◌, subst, arith}
use Rattle.std.specs.Ordering.{eq_by_cmp}
use Rattle.std.specs.FinMap as map
use Rattle.std.specs.FinMap.{from_entries}
use Rattle.gt_model.specs.declared.entry.Entry.{Entry}
use Rattle.gt_model.specs.Contents.{key_cmp, is_this, Content, at, own}
use Rattle.gt_versions.specs.Versions.{last_at, IsUpTo}
use Rattle.gt_versions.specs.Lives.{since}
use Rattle.gt_versions.specs.Runs.{value_at, IsRun, SetsRun}
use Rattle.gt_versions.proofs.Keys.{flip, at_key, get_key, get-same}
use Rattle.gt_objset.specs.declared.place.Place.{Place}
use Rattle.gt_objset.specs.declared.head.HeadChange.{HeadChange}
use Rattle.gt_objset.specs.Places.{head_in}
use Rattle.gt_objset.specs.Track.{Track, items_of, head_of, own_of, life_at}
use Rattle.gt_objset.specs.Table.{Table, head_in_slot, own_in_slot, own_at, IsSlotUpTo, Changed}
use Rattle.gt_objset.specs.Moved.{IsOwnBetween, Repoints, Moves}
use Rattle.gt_objset.specs.Agree.{Agrees}
use Rattle.gt_objset.specs.Kept.{IsKept}
use Rattle.gt_objset.specs.Places.{pool_in}
use Rattle.gt_objset.proofs.TableLaws.{PoolSets, table}
use Rattle.gt_objset.proofs.MemberLaws.{same_key}

-- ---- one repository

-- what differs of a repository, where it is in the table
record MovesSlot (floor at : ℕ) (x : List ℕ) (place : Place) (old new : Option Track) : Type 0 where
  pub heads : (p : ℕ) → head_in_slot new p ≡ head_in_slot old p
  pub set : (floor < at → own_in_slot old (at - 1) x ≢ own_in_slot old at x) → (p : ℕ) → at ≤ p → ((q : ℕ) → at ≤ q → q ≤ p → IsSome (own_in_slot old q x)) → own_in_slot new p x ≡ Some place
  pub either : (p : ℕ) → floor ≤ p → (own_in_slot new p x ≡ own_in_slot old p x) ⊎ (at ≤ p) × ((q : ℕ) → at ≤ q → q ≤ p → IsSome (own_in_slot old q x)) × (own_in_slot new p x ≡ Some place)
  pub others : (p : ℕ) (y : List ℕ) → eq_by_cmp key_cmp x y ≡ false → own_in_slot new p y ≡ own_in_slot old p y
  pub newest : (q : ℕ) → IsSlotUpTo q old → IsSlotUpTo q new

module _ (floor at : ℕ) (x : List ℕ) (place : Place) where
  track_moves : (r s : Track) → Moves floor at x place r s → MovesSlot floor at x place (Some r) (Some s)
  track_moves r s h = record {
    heads = λ p.
        ap (λ es. head_of (since (last_at es p None)) (last_at s.kinds.0 p None) (last_at s.pools.0 p None)) h.lives
        ∙ ap (λ es. head_of (life_at r p) (last_at es p None) (last_at s.pools.0 p None)) h.kinds
        ∙ ap (λ es. head_of (life_at r p) (last_at r.kinds.0 p None) (last_at es p None)) h.pools;
    set = λ begins p l run. lives_same p x ∙ h.here.set begins p l run;
    either = λ p l. ⊎_elim (λ (e : value_at r.lives.0 (items_of (map.get s.objects x)) p ≡ value_at r.lives.0 (items_of (map.get r.objects x)) p). inl (lives_same p x ∙ e))
        (λ (e : (at ≤ p) × IsRun r.lives.0 (items_of (map.get r.objects x)) at p × (value_at r.lives.0 (items_of (map.get s.objects x)) p ≡ Some place)). inr (e.0, e.1, lives_same p x ∙ e.2)) (h.here.either p l);
    others = λ p y t. lives_same p y ∙ ap (λ es. own_of (life_at r p) (last_at es p None)) (h.others y t);
    newest = λ q u.
        let L : List (ℕ × Bool) → Type 0 = λ es. IsUpTo q es in
        let K : List (ℕ × Option Bool) → Type 0 = λ es. IsUpTo q es in
        let P : List (ℕ × Option (List ℕ)) → Type 0 = λ es. IsUpTo q es in
        record { lives = subst L (sym h.lives) u.lives; kinds = subst K (sym h.kinds) u.kinds; pools = subst P (sym h.pools) u.pools; objects = λ y. by q y (u.objects y) (u.objects x) (eq_by_cmp key_cmp x y) refl };
  }
    where
      lives_same : (p : ℕ) (y : List ℕ) → own_of (life_at s p) (last_at (items_of (map.get s.objects y)) p None) ≡ own_of (life_at r p) (last_at (items_of (map.get s.objects y)) p None)
      lives_same p y = ap (λ es. own_of (since (last_at es p None)) (last_at (items_of (map.get s.objects y)) p None)) h.lives

      by : (q : ℕ) (y : List ℕ) → IsUpTo q (items_of (map.get r.objects y)) → IsUpTo q (items_of (map.get r.objects x)) → (b : Bool) → eq_by_cmp key_cmp x y ≡ b → IsUpTo q (items_of (map.get s.objects y))
      by q y u v true t = let O : Option (List (ℕ × Option Place) × ℕ) → Type 0 = λ o. IsUpTo q (items_of o) in subst O (sym (get-same s.objects x y t)) (h.here.newest q v)
      by q y u v false t = let O : List (ℕ × Option Place) → Type 0 = λ es. IsUpTo q es in subst O (sym (h.others y t)) u

  slot_moves : (old new : Option Track) → Changed (Moves floor at x place) old new → MovesSlot floor at x place old new
  slot_moves None None h = record {
    heads = λ p. refl;
    set = λ begins p l run. let on : false ≡ true = run at (omega arith) l in let no : ⊥ = cc in absurd no;
    either = λ p l. inl refl;
    others = λ p y t. refl;
    newest = λ q u. u;
  }
  slot_moves None (Some s) h = let no : ⊥ = cc in absurd no
  slot_moves (Some r) None h = absurd h
  slot_moves (Some r) (Some s) h = track_moves r s h

-- ---- one repository's representation

pub tree_moves : (lives : List (ℕ × Bool) × ℕ) (kinds : List (ℕ × Option Bool) × ℕ) (pools : List (ℕ × Option (List ℕ)) × ℕ) (es fs : List (List ℕ × (List (ℕ × Option Place) × ℕ))) (floor at : ℕ) (x : List ℕ) (place : Place)
    → SetsRun floor at place lives.0 (items_of (at_key es x)) (items_of (at_key fs x)) → ((y : List ℕ) → eq_by_cmp key_cmp x y ≡ false → at_key fs y ≡ at_key es y)
    → Moves floor at x place (record { lives = lives; kinds = kinds; pools = pools; objects = from_entries es }) (record { lives = lives; kinds = kinds; pools = pools; objects = from_entries fs })
tree_moves lives kinds pools es fs floor at x place here others = record {
  lives = refl;
  kinds = refl;
  pools = refl;
  here =
      let P : Option (List (ℕ × Option Place) × ℕ) → Type 0 = λ o. SetsRun floor at place lives.0 (items_of o) (items_of (map.get (from_entries {R = key_cmp} fs) x)) in
      let Q : Option (List (ℕ × Option Place) × ℕ) → Type 0 = λ o. SetsRun floor at place lives.0 (items_of (at_key es x)) (items_of o) in
      subst P (sym (get_key es x)) (subst Q (sym (get_key fs x)) here);
  others = λ y t. ap items_of (get_key fs y ∙ others y t ∙ sym (get_key es y));
}

-- ---- the table

module _ (floor at : ℕ) (path x : List ℕ) (place : Place) (es fs : List (List ℕ × Track))
    (here : Changed (Moves floor at x place) (at_key es path) (at_key fs path)) (others : (q : List ℕ) → eq_by_cmp key_cmp path q ≡ false → at_key fs q ≡ at_key es q) where
  abbrev old_slot : List ℕ → Option Track
  old_slot q = map.get (from_entries {R = key_cmp} es) q

  abbrev new_slot : List ℕ → Option Track
  new_slot q = map.get (from_entries {R = key_cmp} fs) q

  moves : MovesSlot floor at x place (old_slot path) (new_slot path)
  moves =
      let P : Option Track → Type 0 = λ s. MovesSlot floor at x place s (new_slot path) in
      let Q : Option Track → Type 0 = λ s. MovesSlot floor at x place (at_key es path) s in
      subst P (sym (get_key es path)) (subst Q (sym (get_key fs path)) (slot_moves floor at x place (at_key es path) (at_key fs path) here))

  moves_at : (q : List ℕ) → eq_by_cmp key_cmp path q ≡ true → MovesSlot floor at x place (old_slot q) (new_slot q)
  moves_at q t =
      let P : Option Track → Type 0 = λ s. MovesSlot floor at x place s (new_slot q) in
      let Q : Option Track → Type 0 = λ s. MovesSlot floor at x place (old_slot path) s in
      subst P (sym (get-same (from_entries es) path q t)) (subst Q (sym (get-same (from_entries fs) path q t)) moves)

  same_at : (q : List ℕ) → eq_by_cmp key_cmp path q ≡ false → new_slot q ≡ old_slot q
  same_at q t = get_key fs q ∙ others q t ∙ sym (get_key es q)

  heads : (p : ℕ) (q : List ℕ) → head_in_slot (new_slot q) p ≡ head_in_slot (old_slot q) p
  heads p q = by (eq_by_cmp key_cmp path q) refl
    where
      by : (b : Bool) → eq_by_cmp key_cmp path q ≡ b → head_in_slot (new_slot q) p ≡ head_in_slot (old_slot q) p
      by true t = (moves_at q t).heads p
      by false t = ap (λ s. head_in_slot s p) (same_at q t)

  pub moved_kept : (front : ℕ) (sets : PoolSets) → IsKept floor front (from_entries sets) (from_entries es) → IsKept floor front (from_entries sets) (from_entries fs)
  moved_kept front sets k = record {
    order = k.order;
    newest = λ q. by q (k.newest q) (eq_by_cmp key_cmp path q) refl;
    covers = λ p low pool q is. k.covers p low pool q (ap (λ o. is_this (pool_in o) pool) (sym (heads p q)) ∙ is);
  }
    where
      by : (q : List ℕ) → IsSlotUpTo front (old_slot q) → (b : Bool) → eq_by_cmp key_cmp path q ≡ b → IsSlotUpTo front (new_slot q)
      by q u true t = (moves_at q t).newest front u
      by q u false t = let P : Option Track → Type 0 = λ s. IsSlotUpTo front s in subst P (sym (same_at q t)) u

  module _ (front : ℕ) (sets : PoolSets) (head : HeadChange) (puts : List (List ℕ × Option Place)) (low : floor ≤ at) where
    abbrev old : Table
    old = table floor front es sets head puts

    abbrev new : Table
    new = table floor front fs sets head puts

    abbrev Turns : ℕ → Type 0
    Turns p = (at ≤ p) × IsOwnBetween old path x at p × (own_at new p path x ≡ Some place)

    same_gone : (p r : ℕ) → at ≤ r → r ≤ p → own_at old r path x ≡ None → own_at new p path x ≡ own_at old p path x
    same_gone p r l m none = ⊎_elim (λ (e : own_at new p path x ≡ own_at old p path x). e)
        (λ (e : Turns p). let on : is_some (own_at old r path x) ≡ true = e.1 r l m in let no : ⊥ = cc in absurd no) (moves.either p (omega arith))

    other_own : (p : ℕ) (q y : List ℕ) (b c : Bool) → eq_by_cmp key_cmp q path ≡ b → eq_by_cmp key_cmp y x ≡ c → (b && c) ≡ false → own_at new p q y ≡ own_at old p q y
    other_own p q y true true s t e = let no : ⊥ = cc in absurd no
    other_own p q y true false s t e = (moves_at q (flip path q ∙ s)).others p y (flip x y ∙ t)
    other_own p q y false c s t e = ap (λ o. own_in_slot o p y) (same_at q (flip path q ∙ s))

    pub repoints : Repoints at path x place old new
    repoints = record {
      floor = refl;
      front = refl;
      heads = heads;
      moved = λ begins p l run. moves.set begins p l run;
      either = λ p l. ⊎_elim (λ (e : own_at new p path x ≡ own_at old p path x). inl e) (λ (e : Turns p). inr (e.1 p e.0 (omega arith), e.2)) (moves.either p l);
      gone = same_gone;
      before = λ p l m. ⊎_elim (λ (e : own_at new p path x ≡ own_at old p path x). e) (λ (e : Turns p). let no : ⊥ = let n : at ≤ p = e.0 in omega arith in absurd no) (moves.either p l);
      others = λ p q y e. other_own p q y (eq_by_cmp key_cmp q path) (eq_by_cmp key_cmp y x) refl refl e;
    }

-- ---- what it has of a content

module _ (old new : Table) (base : Content) (log : List Entry) (at_q : ℕ) (path x : List ℕ) (place : Place) (h : Agrees old base log) (r : Repoints at_q path x place old new) where
  same_some : (p : ℕ) → old.floor ≤ p → is_some (own_at new p path x) ≡ is_some (own_at old p path x)
  same_some p l = ⊎_elim (λ (e : own_at new p path x ≡ own_at old p path x). ap is_some e) (λ (e : IsSome (own_at old p path x) × (own_at new p path x ≡ Some place)). ap is_some e.1 ∙ sym e.0) (r.either p l)

  same_own : (p : ℕ) (q y : List ℕ) → old.floor ≤ p → (b c : Bool) → eq_by_cmp key_cmp q path ≡ b → eq_by_cmp key_cmp y x ≡ c → is_some (own_at new p q y) ≡ is_some (own_at old p q y)
  same_own p q y l true true s t =
      ap (λ w. is_some (own_at new p w y)) (same_key q path s) ∙ ap (λ w. is_some (own_at new p path w)) (same_key y x t)
      ∙ same_some p l
      ∙ sym (ap (λ w. is_some (own_at old p w y)) (same_key q path s) ∙ ap (λ w. is_some (own_at old p path w)) (same_key y x t))
  same_own p q y l true false s t = ap is_some (r.others p q y (ap (λ b. b && eq_by_cmp key_cmp y x) s ∙ t))
  same_own p q y l false c s t = ap is_some (r.others p q y (ap (λ b. b && eq_by_cmp key_cmp y x) s))

  pub repointed_agrees : Agrees new base log
  repointed_agrees = record {
    front = let f : new.front ≡ old.front = r.front in let g : new.floor ≡ old.floor = r.floor in let i : old.front ≡ old.floor + length log = h.front in omega arith;
    heads = λ p q l m.
        let f : new.front ≡ old.front = r.front in
        let g : new.floor ≡ old.floor = r.floor in
        r.heads p q ∙ h.heads p q (omega arith) (omega arith) ∙ ap (λ n. head_in (at n base log p) q) (sym g);
    own = λ p q y l m.
        let f : new.front ≡ old.front = r.front in
        let g : new.floor ≡ old.floor = r.floor in
        same_own p q y (omega arith) (eq_by_cmp key_cmp q path) (eq_by_cmp key_cmp y x) refl refl ∙ h.own p q y (omega arith) (omega arith) ∙ ap (λ n. is_some (own (at n base log p) q y)) (sym g);
  }
