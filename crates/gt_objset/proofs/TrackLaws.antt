-- Laws of one repository at each position.
use Rattle.std.proofs.Common.{◌≡◌, ℕ, ◌+◌, ◌<◌, ◌≤◌, Bool, true, false, List, [], Option, Some, None, refl, sym, ap, ◌∙◌, subst, arith}
use Rattle.std.specs.Option.{option_map, unwrap_or}
use Rattle.std.specs.FinMap as map
use Rattle.gt_versions.specs.Versions.{last_at, IsUpTo}
use Rattle.gt_versions.specs.Lives.{since, lives_since, value_since}
use Rattle.gt_versions.proofs.VersionLaws.{put_later, put_earlier, upto-put, upto_more, last_at-past}
use Rattle.gt_versions.proofs.LifeLaws.{lives_since-le, value_since-put, value_since-new}
use Rattle.gt_objset.specs.declared.place.Place.{Place}
use Rattle.gt_objset.specs.declared.head.HeadChange.{HeadChange}
use Rattle.gt_objset.specs.Places.{Head, last_put, own_if}
use Rattle.gt_objset.specs.Track.{Track, items_of, head_of, own_of, life_at, head_in_track, own_in_track, put_if, IsTrackUpTo, Puts}
use Rattle.gt_objset.specs.Table.{head_in_slot, own_in_slot, IsSlotUpTo}

-- ---- one key

module _ {V : Type 0} where
  if_earlier : (q p : ℕ) (w : Option V) (es : List (ℕ × V)) → p < q → last_at (put_if q w es) p None ≡ last_at es p None
  if_earlier q p None es l = refl
  if_earlier q p (Some v) es l = put_earlier q p v es l

  pub if_upto : (q : ℕ) (w : Option V) (es : List (ℕ × V)) → IsUpTo q es → IsUpTo q (put_if q w es)
  if_upto q None es u = u
  if_upto q (Some v) es u = upto-put q v es u

  -- within a life the value is what was put, or else as before
  value_next : (front c : ℕ) (w : Option (Option V)) (es : List (ℕ × Option V)) → c ≤ front → IsUpTo front es → value_since c (last_at (put_if (front + 1) w es) (front + 1) None) ≡ unwrap_or w (value_since c (last_at es front None))
  value_next front c None es l u = ap (value_since c) (last_at-past front (front + 1) es None (omega arith) u)
  value_next front c (Some v) es l u = value_since-put c (front + 1) (front + 1) v es (omega arith) (omega arith)

  -- in a new life it is what was put, or else none
  value_new : (front : ℕ) (w : Option (Option V)) (es : List (ℕ × Option V)) → IsUpTo front es → value_since (front + 1) (last_at (put_if (front + 1) w es) (front + 1) None) ≡ unwrap_or w None
  value_new front None es u = value_since-new (front + 1) front (front + 1) es (omega arith) u
  value_new front (Some v) es u = value_since-put (front + 1) (front + 1) (front + 1) v es (omega arith) (omega arith)

-- ---- past the newest nothing changes

pub up_more : (q r : ℕ) (t : Track) → q ≤ r → IsTrackUpTo q t → IsTrackUpTo r t
up_more q r t l h = record {
  lives = upto_more q r t.lives.0 l h.lives;
  kinds = upto_more q r t.kinds.0 l h.kinds;
  pools = upto_more q r t.pools.0 l h.pools;
  objects = λ x. upto_more q r (items_of (map.get t.objects x)) l (h.objects x);
}

pub slot_more : (q r : ℕ) (s : Option Track) → q ≤ r → IsSlotUpTo q s → IsSlotUpTo r s
slot_more q r None l h = tt
slot_more q r (Some t) l h = up_more q r t l h

life_past : (q p : ℕ) (t : Track) → q ≤ p → IsTrackUpTo q t → life_at t p ≡ life_at t q
life_past q p t l h = ap since (last_at-past q p t.lives.0 None l h.lives)

pub head_past : (q p : ℕ) (s : Option Track) → q ≤ p → IsSlotUpTo q s → head_in_slot s p ≡ head_in_slot s q
head_past q p None l h = refl
head_past q p (Some t) l h =
    ap (λ v. head_of v (last_at t.kinds.0 p None) (last_at t.pools.0 p None)) (life_past q p t l h)
    ∙ ap (λ v. head_of (life_at t q) v (last_at t.pools.0 p None)) (last_at-past q p t.kinds.0 None l h.kinds)
    ∙ ap (head_of (life_at t q) (last_at t.kinds.0 q None)) (last_at-past q p t.pools.0 None l h.pools)

pub own_past : (q p : ℕ) (s : Option Track) (x : List ℕ) → q ≤ p → IsSlotUpTo q s → own_in_slot s p x ≡ own_in_slot s q x
own_past q p None x l h = refl
own_past q p (Some t) x l h =
    ap (λ v. own_of v (last_at (items_of (map.get t.objects x)) p None)) (life_past q p t l h)
    ∙ ap (own_of (life_at t q)) (last_at-past q p (items_of (map.get t.objects x)) None l (h.objects x))

-- ---- a change

module _ (front : ℕ) (head : HeadChange) (puts : List (List ℕ × Option Place)) (r s : Track) (h : Puts (front + 1) head puts r s) (up : IsTrackUpTo front r) where
  pub put_head_before : (p : ℕ) → p ≤ front → head_in_track s p ≡ head_in_track r p
  put_head_before p l =
      ap (λ v. head_of (since v) (last_at s.kinds.0 p None) (last_at s.pools.0 p None)) (ap (λ es. last_at es p None) h.lives ∙ if_earlier (front + 1) p head.life r.lives.0 (omega arith))
      ∙ ap (λ v. head_of (life_at r p) v (last_at s.pools.0 p None)) (ap (λ es. last_at es p None) h.kinds ∙ if_earlier (front + 1) p head.kind r.kinds.0 (omega arith))
      ∙ ap (head_of (life_at r p) (last_at r.kinds.0 p None)) (ap (λ es. last_at es p None) h.pools ∙ if_earlier (front + 1) p head.pool r.pools.0 (omega arith))

  pub put_own_before : (p : ℕ) (x : List ℕ) → p ≤ front → own_in_track s p x ≡ own_in_track r p x
  put_own_before p x l =
      ap (λ v. own_of (since v) (last_at (items_of (map.get s.objects x)) p None)) (ap (λ es. last_at es p None) h.lives ∙ if_earlier (front + 1) p head.life r.lives.0 (omega arith))
      ∙ ap (own_of (life_at r p)) (ap (λ es. last_at es p None) (h.objects x) ∙ if_earlier (front + 1) p (last_put puts x None) (items_of (map.get r.objects x)) (omega arith))

  pub put_newest : IsTrackUpTo (front + 1) s
  put_newest =
      let up1 : IsTrackUpTo (front + 1) r = up_more front (front + 1) r (omega arith) up in
      let L : List (ℕ × Bool) → Type 0 = λ es. IsUpTo (front + 1) es in
      let K : List (ℕ × Option Bool) → Type 0 = λ es. IsUpTo (front + 1) es in
      let P : List (ℕ × Option (List ℕ)) → Type 0 = λ es. IsUpTo (front + 1) es in
      let O : List (ℕ × Option Place) → Type 0 = λ es. IsUpTo (front + 1) es in
      record {
        lives = subst L (sym h.lives) (if_upto (front + 1) head.life r.lives.0 up1.lives);
        kinds = subst K (sym h.kinds) (if_upto (front + 1) head.kind r.kinds.0 up1.kinds);
        pools = subst P (sym h.pools) (if_upto (front + 1) head.pool r.pools.0 up1.pools);
        objects = λ x. subst O (sym (h.objects x)) (if_upto (front + 1) (last_put puts x None) (items_of (map.get r.objects x)) (up1.objects x));
      }

  -- what was given, at a life that is there
  head_of_life : (c : ℕ) → c ≤ front → head_of (Some c) (last_at s.kinds.0 (front + 1) None) (last_at s.pools.0 (front + 1) None)
      ≡ Some (record { is_pool = unwrap_or (unwrap_or head.kind (value_since c (last_at r.kinds.0 front None))) false; pool = unwrap_or head.pool (value_since c (last_at r.pools.0 front None)) })
  head_of_life c l =
      ap (λ k. Some (record { is_pool = unwrap_or k false; pool = value_since c (last_at s.pools.0 (front + 1) None) }))
      (ap (λ es. value_since c (last_at es (front + 1) None)) h.kinds ∙ value_next front c head.kind r.kinds.0 l up.kinds)
      ∙ ap (λ k. Some (record { is_pool = unwrap_or (unwrap_or head.kind (value_since c (last_at r.kinds.0 front None))) false; pool = k }))
      (ap (λ es. value_since c (last_at es (front + 1) None)) h.pools ∙ value_next front c head.pool r.pools.0 l up.pools)

  own_of_life : (c : ℕ) (x : List ℕ) → c ≤ front → own_of (Some c) (last_at (items_of (map.get s.objects x)) (front + 1) None) ≡ unwrap_or (last_put puts x None) (value_since c (last_at (items_of (map.get r.objects x)) front None))
  own_of_life c x l = ap (λ es. value_since c (last_at es (front + 1) None)) (h.objects x) ∙ value_next front c (last_put puts x None) (items_of (map.get r.objects x)) l (up.objects x)

  life_stays : head.life ≡ None → life_at s (front + 1) ≡ life_at r front
  life_stays e = ap (λ es. lives_since es (front + 1)) (h.lives ∙ ap (λ w. put_if (front + 1) w r.lives.0) e) ∙ life_past front (front + 1) r (omega arith) up

  life_turns : (b : Bool) → head.life ≡ Some b → life_at s (front + 1) ≡ since (Some (front + 1, b))
  life_turns b e = ap (λ es. lives_since es (front + 1)) (h.lives ∙ ap (λ w. put_if (front + 1) w r.lives.0) e) ∙ ap since (put_later (front + 1) (front + 1) b r.lives.0 (omega arith))

  abbrev pub moved : Head → Head
  moved o = record { is_pool = o.is_pool; pool = unwrap_or head.pool o.pool }

  pub head_stays : head.life ≡ None → head.kind ≡ None → head_in_track s (front + 1) ≡ option_map moved (head_in_track r front)
  head_stays e k = ap (λ v. head_of v (last_at s.kinds.0 (front + 1) None) (last_at s.pools.0 (front + 1) None)) (life_stays e) ∙ by (life_at r front) refl
    where
      by : (life : Option ℕ) → life_at r front ≡ life → head_of life (last_at s.kinds.0 (front + 1) None) (last_at s.pools.0 (front + 1) None) ≡ option_map moved (head_of life (last_at r.kinds.0 front None) (last_at r.pools.0 front None))
      by None i = refl
      by (Some c) i = head_of_life c (lives_since-le front front r.lives.0 up.lives c i)
          ∙ ap (λ w. Some (record { is_pool = unwrap_or (unwrap_or w (value_since c (last_at r.kinds.0 front None))) false; pool = unwrap_or head.pool (value_since c (last_at r.pools.0 front None)) })) k

  pub own_stays : head.life ≡ None → (x : List ℕ) → own_in_track s (front + 1) x ≡ own_if (head_in_track r front) (unwrap_or (last_put puts x None) (own_in_track r front x))
  own_stays e x = ap (λ v. own_of v (last_at (items_of (map.get s.objects x)) (front + 1) None)) (life_stays e) ∙ by (life_at r front) refl
    where
      by : (life : Option ℕ) → life_at r front ≡ life → own_of life (last_at (items_of (map.get s.objects x)) (front + 1) None)
          ≡ own_if (head_of life (last_at r.kinds.0 front None) (last_at r.pools.0 front None)) (unwrap_or (last_put puts x None) (own_of life (last_at (items_of (map.get r.objects x)) front None)))
      by None i = refl
      by (Some c) i = own_of_life c x (lives_since-le front front r.lives.0 up.lives c i)

  pub head_begins : head.life ≡ Some true → head_in_track s (front + 1) ≡ Some (record { is_pool = unwrap_or (unwrap_or head.kind None) false; pool = unwrap_or head.pool None })
  head_begins e =
      ap (λ v. head_of v (last_at s.kinds.0 (front + 1) None) (last_at s.pools.0 (front + 1) None)) (life_turns true e)
      ∙ ap (λ k. Some (record { is_pool = unwrap_or k false; pool = value_since (front + 1) (last_at s.pools.0 (front + 1) None) }))
      (ap (λ es. value_since (front + 1) (last_at es (front + 1) None)) h.kinds ∙ value_new front head.kind r.kinds.0 up.kinds)
      ∙ ap (λ k. Some (record { is_pool = unwrap_or (unwrap_or head.kind None) false; pool = k }))
      (ap (λ es. value_since (front + 1) (last_at es (front + 1) None)) h.pools ∙ value_new front head.pool r.pools.0 up.pools)

  pub own_begins : head.life ≡ Some true → puts ≡ [] → (x : List ℕ) → own_in_track s (front + 1) x ≡ None
  own_begins e n x =
      ap (λ v. own_of v (last_at (items_of (map.get s.objects x)) (front + 1) None)) (life_turns true e)
      ∙ ap (λ es. value_since (front + 1) (last_at es (front + 1) None)) (h.objects x)
      ∙ value_new front (last_put puts x None) (items_of (map.get r.objects x)) (up.objects x)
      ∙ ap (λ ps. unwrap_or (last_put ps x None) None) n

  pub head_ends : head.life ≡ Some false → head_in_track s (front + 1) ≡ None
  head_ends e = ap (λ v. head_of v (last_at s.kinds.0 (front + 1) None) (last_at s.pools.0 (front + 1) None)) (life_turns false e)

  pub own_ends : head.life ≡ Some false → (x : List ℕ) → own_in_track s (front + 1) x ≡ None
  own_ends e x = ap (λ v. own_of v (last_at (items_of (map.get s.objects x)) (front + 1) None)) (life_turns false e)
