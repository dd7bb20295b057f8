-- Laws of a content that is put in at the floor.
use Rattle.std.proofs.Common.{◌≡◌, ℕ, ◌≤◌, Bool, true, false, cond, ◌&&◌, List, [], ◌∷◌, Option, Some, None, Result, Ok, Err, OnOk, OnErr, IfSome, IsSome, refl, sym, ap, ◌∙◌, subst, arith}
use Rattle.std.specs.Option.{unwrap_or}
use Rattle.std.specs.Ordering.{eq_by_cmp}
use Rattle.std.specs.FinMap as map
use Rattle.std.specs.FinMap.{from_entries}
use Rattle.gt_model.specs.Contents.{key_cmp}
use Rattle.gt_versions.specs.Versions.{last_at, IsUpTo}
use Rattle.gt_versions.specs.Lives.{since, lives_since, value_since}
use Rattle.gt_versions.proofs.Keys.{flip, at_key, at_key-same, get_key, get-same}
use Rattle.gt_versions.proofs.VersionLaws.{put_later}
use Rattle.gt_versions.proofs.LifeLaws.{lives_since-le, value_since-put}
use Rattle.gt_objset.specs.declared.place.Place.{Place}
use Rattle.gt_objset.specs.declared.head.HeadChange.{HeadChange}
use Rattle.gt_objset.specs.Places.{Head, last_put, own_if}
use Rattle.gt_objset.specs.Track.{Track, items_of, head_of, own_of, life_at, head_in_track, own_in_track, put_if, IsTrackUpTo, HasRoom, Puts, IsRoomier, IsUnborn}
use Rattle.gt_objset.specs.Table.{head_in_slot, own_in_slot, head_at, IsSlotUpTo, AllUpTo, RoomHere, Changed, SameSlot, IsSameTable}
use Rattle.gt_objset.specs.Seeds.{SeedsRepo, SeedsObject, IsSeeded, SeedsPuts}
use Rattle.gt_objset.proofs.TrackLaws.{if_upto}
use Rattle.gt_objset.proofs.StepLaws.{new_unborn}
use Rattle.gt_objset.proofs.TableLaws.{PoolSets, table, same_up, same_table}

-- nothing but objects changes
abbrev pub no_change : HeadChange
no_change = record { life = None; kind = None; pool = None }

value_at : {V : Type 0} (q c : ℕ) (w : Option (Option V)) (es : List (ℕ × Option V)) → c ≤ q → value_since c (last_at (put_if q w es) q None) ≡ unwrap_or w (value_since c (last_at es q None))
value_at q c None es l = refl
value_at q c (Some v) es l = value_since-put c q q v es l (omega arith)

put_upto : (q : ℕ) (head : HeadChange) (puts : List (List ℕ × Option Place)) (r s : Track) → Puts q head puts r s → IsTrackUpTo q r → IsTrackUpTo q s
put_upto q head puts r s h up =
    let L : List (ℕ × Bool) → Type 0 = λ es. IsUpTo q es in
    let K : List (ℕ × Option Bool) → Type 0 = λ es. IsUpTo q es in
    let P : List (ℕ × Option (List ℕ)) → Type 0 = λ es. IsUpTo q es in
    let O : List (ℕ × Option Place) → Type 0 = λ es. IsUpTo q es in
    record {
      lives = subst L (sym h.lives) (if_upto q head.life r.lives.0 up.lives);
      kinds = subst K (sym h.kinds) (if_upto q head.kind r.kinds.0 up.kinds);
      pools = subst P (sym h.pools) (if_upto q head.pool r.pools.0 up.pools);
      objects = λ x. subst O (sym (h.objects x)) (if_upto q (last_put puts x None) (items_of (map.get r.objects x)) (up.objects x));
    }

-- ---- own objects

module _ (q : ℕ) (puts : List (List ℕ × Option Place)) (r s : Track) (h : Puts q no_change puts r s) (up : IsTrackUpTo q r) where
  own_put : (x : List ℕ) → own_in_track s q x ≡ own_if (head_in_track r q) (unwrap_or (last_put puts x None) (own_in_track r q x))
  own_put x = ap (λ es. own_of (since (last_at es q None)) (last_at (items_of (map.get s.objects x)) q None)) h.lives ∙ by (life_at r q) refl
    where
      by : (life : Option ℕ) → life_at r q ≡ life → own_of life (last_at (items_of (map.get s.objects x)) q None)
          ≡ own_if (head_of life (last_at r.kinds.0 q None) (last_at r.pools.0 q None)) (unwrap_or (last_put puts x None) (own_of life (last_at (items_of (map.get r.objects x)) q None)))
      by None i = refl
      by (Some c) i = ap (λ es. value_since c (last_at es q None)) (h.objects x) ∙ value_at q c (last_put puts x None) (items_of (map.get r.objects x)) (lives_since-le q q r.lives.0 up.lives c i)

  track_seeds : SeedsPuts q true puts (Some r) (Some s)
  track_seeds = record {
    head = ap (λ es. head_of (since (last_at es q None)) (last_at s.kinds.0 q None) (last_at s.pools.0 q None)) h.lives
        ∙ ap (λ es. head_of (life_at r q) (last_at es q None) (last_at s.pools.0 q None)) h.kinds
        ∙ ap (λ es. head_of (life_at r q) (last_at r.kinds.0 q None) (last_at es q None)) h.pools;
    own = own_put;
    newest = put_upto q no_change puts r s h up;
  }

slot_seeds : (q : ℕ) (head : HeadChange) (puts : List (List ℕ × Option Place)) (old new : Option Track) → head ≡ no_change → Changed (Puts q head puts) old new → IsSlotUpTo q old → SeedsPuts q true puts old new
slot_seeds q head puts None None e h up = record { head = refl; own = λ x. refl; newest = tt }
slot_seeds q head puts None (Some s) e h up = let no : ⊥ = cc in absurd no
slot_seeds q head puts (Some r) None e h up = absurd h
slot_seeds q head puts (Some r) (Some s) e h up = let P : HeadChange → Type 0 = λ w. Puts q w puts r s in track_seeds q puts r s (subst P e h) up

-- what is there stays through taking memory
seeds_after : (q : ℕ) (here : Bool) (puts : List (List ℕ × Option Place)) (old mid new : Option Track) → SameSlot old mid → SeedsPuts q here puts mid new → SeedsPuts q here puts old new
seeds_after q here puts old mid new g h = record {
  head = h.head ∙ g.head q;
  own = λ x. h.own x ∙ ap (λ o. cond here (own_if o (unwrap_or (last_put puts x None) (own_in_slot mid q x))) (own_in_slot mid q x)) (g.head q)
      ∙ ap (λ o. cond here (own_if (head_in_slot old q) (unwrap_or (last_put puts x None) o)) o) (g.own q x);
  newest = h.newest;
}

module _ (q : ℕ) (head : HeadChange) (puts : List (List ℕ × Option Place)) (es ms fs : List (List ℕ × Track)) (path : List ℕ)
    (up : (x : List ℕ) → IsSlotUpTo q (at_key es x)) (same : (x : List ℕ) → SameSlot (at_key es x) (at_key ms x)) where
  pub mid_up : IfSome (at_key ms path) (IsTrackUpTo q)
  mid_up = by (at_key ms path) ((same path).newest q (up path))
    where
      by : (s : Option Track) → IsSlotUpTo q s → IfSome s (IsTrackUpTo q)
      by None h = tt
      by (Some t) h = h

  pub mid_room : RoomHere q puts (at_key ms path) → IfSome (at_key ms path) (HasRoom q puts)
  mid_room h = by (at_key ms path) h
    where
      by : (s : Option Track) → RoomHere q puts s → IfSome s (HasRoom q puts)
      by None h = absurd h
      by (Some t) h = h

  pub all_seeds : head ≡ no_change → Changed (Puts q head puts) (at_key ms path) (at_key fs path) → ((x : List ℕ) → eq_by_cmp key_cmp path x ≡ false → at_key fs x ≡ at_key ms x)
      → (x : List ℕ) → SeedsPuts q (eq_by_cmp key_cmp x path) puts (at_key es x) (at_key fs x)
  all_seeds e here others x = seeds_after q (eq_by_cmp key_cmp x path) puts (at_key es x) (at_key ms x) (at_key fs x) (same x) (by (eq_by_cmp key_cmp x path) refl)
    where
      by : (b : Bool) → eq_by_cmp key_cmp x path ≡ b → SeedsPuts q b puts (at_key ms x) (at_key fs x)
      by true t =
          let P : Option Track → Type 0 = λ s. SeedsPuts q true puts s (at_key fs x) in
          let Q : Option Track → Type 0 = λ s. SeedsPuts q true puts (at_key ms path) s in
          subst P (sym (at_key-same ms path x (flip path x ∙ t))) (subst Q (sym (at_key-same fs path x (flip path x ∙ t))) (slot_seeds q head puts (at_key ms path) (at_key fs path) e here ((same path).newest q (up path))))
      by false t =
          let is : at_key fs x ≡ at_key ms x = others x (flip path x ∙ t) in
          let P : Option Track → Type 0 = λ s. SeedsPuts q false puts (at_key ms x) s in
          subst P (sym is) (record { head = refl; own = λ x. refl; newest = (same x).newest q (up x) })

-- ---- a repository

no_upto : (q : ℕ) (t : Track) → IsUnborn t → IsTrackUpTo q t
no_upto q t h =
    let L : List (ℕ × Bool) → Type 0 = λ es. IsUpTo q es in
    let K : List (ℕ × Option Bool) → Type 0 = λ es. IsUpTo q es in
    let P : List (ℕ × Option (List ℕ)) → Type 0 = λ es. IsUpTo q es in
    let O : List (ℕ × Option Place) → Type 0 = λ es. IsUpTo q es in
    record { lives = subst L (sym h.lives) tt; kinds = subst K (sym h.kinds) tt; pools = subst P (sym h.pools) tt; objects = λ x. subst O (sym (h.objects x)) tt }

still_unborn : (r s : Track) → IsUnborn r → IsRoomier r s → IsUnborn s
still_unborn r s h g = record { lives = g.lives ∙ h.lives; kinds = g.kinds ∙ h.kinds; pools = g.pools ∙ h.pools; objects = λ x. g.objects x ∙ h.objects x }

module _ (q : ℕ) (is_pool : Bool) (pool : Option (List ℕ)) (head : HeadChange) (said : List (List ℕ × Option Place)) (r m s : Track)
    (lives : r.lives.0 ≡ []) (kinds : r.kinds.0 ≡ []) (pools : r.pools.0 ≡ []) (objects : r.objects ≡ map.empty) (more : IsRoomier r m) where
  unborn : IsUnborn m
  unborn = still_unborn r m (new_unborn r lives kinds pools objects) more

  pub seed_up : IsTrackUpTo q m
  seed_up = no_upto q m unborn

  pub seeded : head ≡ record { life = Some true; kind = Some (Some is_pool); pool = Some pool } → said ≡ [] → Puts q head said m s → IsSeeded q (record { is_pool = is_pool; pool = pool }) s
  seeded e n h =
      let P : HeadChange → Type 0 = λ w. Puts q w said m s in
      let g : Puts q (record { life = Some true; kind = Some (Some is_pool); pool = Some pool }) said m s = subst P e h in
      let life : lives_since s.lives.0 q ≡ Some q = ap (λ es. lives_since es q) g.lives ∙ ap since (put_later q q true m.lives.0 (omega arith)) in
      record {
        head = ap (λ l. head_of l (last_at s.kinds.0 q None) (last_at s.pools.0 q None)) life
            ∙ ap (λ k. Some (record { is_pool = unwrap_or k false; pool = value_since q (last_at s.pools.0 q None) })) (ap (λ es. value_since q (last_at es q None)) g.kinds ∙ value_since-put q q q (Some is_pool) m.kinds.0 (omega arith) (omega arith))
            ∙ ap (λ k. Some (record { is_pool = is_pool; pool = k })) (ap (λ es. value_since q (last_at es q None)) g.pools ∙ value_since-put q q q pool m.pools.0 (omega arith) (omega arith));
        own = λ x. ap (λ l. own_of l (last_at (items_of (map.get s.objects x)) q None)) life
            ∙ ap (λ es. value_since q (last_at es q None)) (g.objects x ∙ ap (λ ps. put_if q (last_put ps x None) (items_of (map.get m.objects x))) n ∙ unborn.objects x);
        newest = put_upto q head said m s h (no_upto q m unborn);
      }

-- ---- the whole table

module _ (floor : ℕ) (es fs : List (List ℕ × Track)) (sets more : PoolSets) (head : HeadChange) (puts : List (List ℕ × Option Place)) where
  pub floor_up : (front : ℕ) → front ≡ floor → AllUpTo front (from_entries es) → (x : List ℕ) → IsSlotUpTo floor (at_key es x)
  floor_up front e up x =
      let P : Option Track → Type 0 = λ s. IsSlotUpTo front s in
      let Q : ℕ → Type 0 = λ n. IsSlotUpTo n (at_key es x) in
      subst Q e (subst P (get_key es x) (up x))

  module _ (said : List (List ℕ × Option Place)) (name path : List ℕ) (place : Place) (is : said ≡ (name, Some place) ∷ []) (h : (q : List ℕ) → SeedsPuts floor (eq_by_cmp key_cmp q path) said (at_key es q) (at_key fs q)) where
    pub puts_up : (front : ℕ) → front ≡ floor → AllUpTo front (from_entries fs)
    puts_up front e q =
        let P : Option Track → Type 0 = λ s. IsSlotUpTo front s in
        let Q : ℕ → Type 0 = λ n. IsSlotUpTo n (at_key fs q) in
        subst P (sym (get_key fs q)) (subst Q (sym e) (h q).newest)

    pub object_seeded : (front : ℕ) → IsSome (head_at (table floor front es sets head puts) floor path) → SeedsObject path name place (table floor front es sets head puts) (table floor front fs more head puts)
    object_seeded front there = record {
      floor = refl;
      front = refl;
      heads = λ q. ap (λ s. head_in_slot s floor) (get_key fs q) ∙ (h q).head ∙ sym (ap (λ s. head_in_slot s floor) (get_key es q));
      own = λ q x.
          ap (λ s. own_in_slot s floor x) (get_key fs q) ∙ (h q).own x
          ∙ ap (λ ps. cond (eq_by_cmp key_cmp q path) (own_if (head_in_slot (at_key es q) floor) (unwrap_or (last_put ps x None) (own_in_slot (at_key es q) floor x))) (own_in_slot (at_key es q) floor x)) is
          ∙ here q x (eq_by_cmp key_cmp q path) refl (eq_by_cmp key_cmp x name)
          ∙ ap (λ s. cond (eq_by_cmp key_cmp q path && eq_by_cmp key_cmp x name) (Some place) (own_in_slot s floor x)) (sym (get_key es q));
    }
      where
        kept : (o : Option Head) (p : Option Place) → IsSome o → own_if o p ≡ p
        kept None p i = let no : ⊥ = grind arith in absurd no
        kept (Some w) p i = refl

        there_at : (q : List ℕ) → eq_by_cmp key_cmp q path ≡ true → IsSome (head_in_slot (at_key es q) floor)
        there_at q t = let P : Option Track → Type 0 = λ s. IsSome (head_in_slot s floor) in subst P (get-same (from_entries es) q path t ∙ get_key es q) there

        chosen : (c : Bool) (o : Option Place) → unwrap_or (cond c (Some (Some place)) None) o ≡ cond c (Some place) o
        chosen true o = refl
        chosen false o = refl

        here : (q x : List ℕ) (b : Bool) → eq_by_cmp key_cmp q path ≡ b → (c : Bool)
            → cond b (own_if (head_in_slot (at_key es q) floor) (unwrap_or (cond c (Some (Some place)) None) (own_in_slot (at_key es q) floor x))) (own_in_slot (at_key es q) floor x) ≡ cond (b && c) (Some place) (own_in_slot (at_key es q) floor x)
        here q x true t c = kept (head_in_slot (at_key es q) floor) _ (there_at q t) ∙ chosen c (own_in_slot (at_key es q) floor x)
        here q x false t c = refl

  module _ (path : List ℕ) (what : Head) (some : IsSome (at_key fs path)) (seed : IfSome (at_key fs path) (IsSeeded floor what)) (others : (x : List ℕ) → eq_by_cmp key_cmp path x ≡ false → at_key fs x ≡ at_key es x) where
    at_path : (s : Option Track) → IsSome s → IfSome s (IsSeeded floor what) → (head_in_slot s floor ≡ Some what) × ((x : List ℕ) → own_in_slot s floor x ≡ None) × IsSlotUpTo floor s
    at_path None i h = let no : ⊥ = grind arith in absurd no
    at_path (Some t) i h = (h.head, h.own, h.newest)

    pub repo_up : (front : ℕ) → front ≡ floor → AllUpTo front (from_entries es) → AllUpTo front (from_entries fs)
    repo_up front e up q =
        let P : Option Track → Type 0 = λ s. IsSlotUpTo front s in
        let Q : ℕ → Type 0 = λ n. IsSlotUpTo n (at_key fs q) in
        subst P (sym (get_key fs q)) (subst Q (sym e) (by (eq_by_cmp key_cmp path q) refl))
      where
        by : (b : Bool) → eq_by_cmp key_cmp path q ≡ b → IsSlotUpTo floor (at_key fs q)
        by true t = let R : Option Track → Type 0 = λ s. IsSlotUpTo floor s in subst R (sym (at_key-same fs path q t)) (at_path (at_key fs path) some seed).2
        by false t = let R : Option Track → Type 0 = λ s. IsSlotUpTo floor s in subst R (sym (others q t)) (floor_up front e up q)

    pub repo_seeded : (front : ℕ) → SeedsRepo path what (table floor front es sets head puts) (table floor front fs more head puts)
    repo_seeded front = record {
      floor = refl;
      front = refl;
      heads = λ q. ap (λ s. head_in_slot s floor) (get_key fs q) ∙ of_head q (eq_by_cmp key_cmp q path) refl ∙ ap (λ s. cond (eq_by_cmp key_cmp q path) (Some what) (head_in_slot s floor)) (sym (get_key es q));
      own = λ q x. ap (λ s. own_in_slot s floor x) (get_key fs q) ∙ of_own q x (eq_by_cmp key_cmp q path) refl ∙ ap (λ s. cond (eq_by_cmp key_cmp q path) None (own_in_slot s floor x)) (sym (get_key es q));
    }
      where
        of_head : (q : List ℕ) (b : Bool) → eq_by_cmp key_cmp q path ≡ b → head_in_slot (at_key fs q) floor ≡ cond b (Some what) (head_in_slot (at_key es q) floor)
        of_head q true t = ap (λ s. head_in_slot s floor) (at_key-same fs path q (flip path q ∙ t)) ∙ (at_path (at_key fs path) some seed).0
        of_head q false t = ap (λ s. head_in_slot s floor) (others q (flip path q ∙ t))

        of_own : (q x : List ℕ) (b : Bool) → eq_by_cmp key_cmp q path ≡ b → own_in_slot (at_key fs q) floor x ≡ cond b None (own_in_slot (at_key es q) floor x)
        of_own q x true t = ap (λ s. own_in_slot s floor x) (at_key-same fs path q (flip path q ∙ t)) ∙ (at_path (at_key fs path) some seed).1 x
        of_own q x false t = ap (λ s. own_in_slot s floor x) (others q (flip path q ∙ t))

pub same_all : (es fs : List (List ℕ × Track)) → ((x : List ℕ) → at_key fs x ≡ at_key es x) → (x : List ℕ) → SameSlot (at_key es x) (at_key fs x)
same_all es fs h x = record {
  head = λ p. ap (λ s. head_in_slot s p) (h x);
  own = λ p y. ap (λ s. own_in_slot s p y) (h x);
  newest = λ q u. let P : Option Track → Type 0 = λ s. IsSlotUpTo q s in subst P (sym (h x)) u;
}

-- ---- whichever the answer

module _ {T E : Type 0} (res : Result T E) (floor front : ℕ) (es fs : List (List ℕ × Track)) (sets more : PoolSets) (head : HeadChange) (puts : List (List ℕ × Option Place)) (at_floor : front ≡ floor) (up : AllUpTo front (from_entries es)) where
  module _ (name path : List ℕ) (place : Place) where
    pub any_puts_up : OnOk res ((q : List ℕ) → SeedsPuts floor (eq_by_cmp key_cmp q path) ((name, Some place) ∷ []) (at_key es q) (at_key fs q)) → OnErr res ((q : List ℕ) → SameSlot (at_key es q) (at_key fs q)) → AllUpTo front (from_entries fs)
    any_puts_up ok err = by res ok err
      where
        by : (res : Result T E) → OnOk res ((q : List ℕ) → SeedsPuts floor (eq_by_cmp key_cmp q path) ((name, Some place) ∷ []) (at_key es q) (at_key fs q)) → OnErr res ((q : List ℕ) → SameSlot (at_key es q) (at_key fs q)) → AllUpTo front (from_entries fs)
        by (Ok r) ok err = puts_up floor es fs sets more head puts ((name, Some place) ∷ []) name path place refl ok front at_floor
        by (Err r) ok err = same_up floor front es fs err up

    pub any_object_seeded : IsSome (head_at (table floor front es sets head puts) floor path) → OnOk res ((q : List ℕ) → SeedsPuts floor (eq_by_cmp key_cmp q path) ((name, Some place) ∷ []) (at_key es q) (at_key fs q)) → OnOk res (SeedsObject path name place (table floor front es sets head puts) (table floor front fs more head puts))
    any_object_seeded there ok = by res ok
      where
        by : (res : Result T E) → OnOk res ((q : List ℕ) → SeedsPuts floor (eq_by_cmp key_cmp q path) ((name, Some place) ∷ []) (at_key es q) (at_key fs q)) → OnOk res (SeedsObject path name place (table floor front es sets head puts) (table floor front fs more head puts))
        by (Ok r) ok = object_seeded floor es fs sets more head puts ((name, Some place) ∷ []) name path place refl ok front there
        by (Err r) ok = tt

  pub any_same : OnErr res ((q : List ℕ) → SameSlot (at_key es q) (at_key fs q)) → OnErr res (IsSameTable (table floor front es sets head puts) (table floor front fs more head puts))
  any_same err = by res err
    where
      by : (res : Result T E) → OnErr res ((q : List ℕ) → SameSlot (at_key es q) (at_key fs q)) → OnErr res (IsSameTable (table floor front es sets head puts) (table floor front fs more head puts))
      by (Ok r) err = tt
      by (Err r) err = same_table floor front es fs err sets more head head puts puts

  pub any_kept : OnErr res ((x : List ℕ) → at_key fs x ≡ at_key es x) → OnErr res ((q : List ℕ) → SameSlot (at_key es q) (at_key fs q))
  any_kept err = by res err
    where
      by : (res : Result T E) → OnErr res ((x : List ℕ) → at_key fs x ≡ at_key es x) → OnErr res ((q : List ℕ) → SameSlot (at_key es q) (at_key fs q))
      by (Ok r) err = tt
      by (Err r) err = same_all es fs err

  module _ (path : List ℕ) (what : Head) (some : OnOk res (IsSome (at_key fs path))) (seed : OnOk res (IfSome (at_key fs path) (IsSeeded floor what))) (others : OnOk res ((x : List ℕ) → eq_by_cmp key_cmp path x ≡ false → at_key fs x ≡ at_key es x)) where
    pub any_repo_up : OnErr res ((x : List ℕ) → at_key fs x ≡ at_key es x) → AllUpTo front (from_entries fs)
    any_repo_up err = by res some seed others err
      where
        by : (res : Result T E) → OnOk res (IsSome (at_key fs path)) → OnOk res (IfSome (at_key fs path) (IsSeeded floor what)) → OnOk res ((x : List ℕ) → eq_by_cmp key_cmp path x ≡ false → at_key fs x ≡ at_key es x) → OnErr res ((x : List ℕ) → at_key fs x ≡ at_key es x) → AllUpTo front (from_entries fs)
        by (Ok r) some seed others err = repo_up floor es fs sets more head puts path what some seed others front at_floor up
        by (Err r) some seed others err = same_up floor front es fs (same_all es fs err) up

    pub any_repo_seeded : OnOk res (SeedsRepo path what (table floor front es sets head puts) (table floor front fs more head puts))
    any_repo_seeded = by res some seed others
      where
        by : (res : Result T E) → OnOk res (IsSome (at_key fs path)) → OnOk res (IfSome (at_key fs path) (IsSeeded floor what)) → OnOk res ((x : List ℕ) → eq_by_cmp key_cmp path x ≡ false → at_key fs x ≡ at_key es x) → OnOk res (SeedsRepo path what (table floor front es sets head puts) (table floor front fs more head puts))
        by (Ok r) some seed others = repo_seeded floor es fs sets more head puts path what some seed others front
        by (Err r) some seed others = tt
