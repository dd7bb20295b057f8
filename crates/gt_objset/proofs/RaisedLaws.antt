-- Laws of a table whose floor is raised.
use Rattle.std.proofs.Common.{◌≡◌, ◌⊎◌, ⊎_elim, inl, inr, ℕ, ◌+◌, ◌-◌, ◌<◌, ◌≤◌, Bool, true, false, cond, ◌&&◌, not, nat_le, nat_eq, is_some, length, take, drop, List, [], ◌∷◌, ◌++◌, Option, Some, None, IfSome, refl, sym, ap, ◌∙◌, subst, arith, length-drop}
use Rattle.std.proofs.lemmas.Bool.Decides.{nat_tests}
use Rattle.std.proofs.Math.Seq.{take-add}
use Rattle.std.specs.Option.{unwrap_or}
use Rattle.std.specs.BTreeSet as set
use Rattle.std.specs.BTreeSet.{BTreeSet}
use Rattle.std.specs.List.{list_any}
use Rattle.std.specs.Ordering.{eq_by_cmp}
use Rattle.std.specs.FinMap as map
use Rattle.std.specs.FinMap.{from_entries}
use Rattle.gt_model.specs.declared.entry.Entry.{Entry}
use Rattle.gt_model.specs.Contents.{key_cmp, is_this, Content, at, after_all, own}
use Rattle.gt_model.proofs.Logs.{after_all-append}
use Rattle.gt_versions.specs.Ascending.{IsFrom, IsUpTo, IsAscending}
use Rattle.gt_versions.specs.Versions.{last_at}
use Rattle.gt_versions.specs.Lives.{since, lives_since, value_since}
use Rattle.gt_versions.specs.Raised.{past, kept_life, kept_value, raised_lives}
use Rattle.gt_versions.proofs.Keys.{at_key, get_key}
use Rattle.gt_versions.proofs.SetLaws.{at_or_before}
use Rattle.gt_versions.proofs.LifeLaws.{older}
use Rattle.gt_versions.proofs.RunLaws.{below, life_settled}
use Rattle.gt_objset.specs.declared.place.Place.{Place}
use Rattle.gt_objset.specs.declared.head.HeadChange.{HeadChange}
use Rattle.gt_objset.specs.Places.{pool_in, head_in}
use Rattle.gt_objset.specs.Members.{has_path}
use Rattle.gt_objset.specs.Track.{Track, items_of, head_of, own_of, life_at, head_in_track, own_in_track, IsTrackUpTo}
use Rattle.gt_objset.specs.Table.{Table, head_in_slot, own_in_slot, IsSlotUpTo}
use Rattle.gt_objset.specs.Kept.{IsKept}
use Rattle.gt_objset.specs.Agree.{Agrees}
use Rattle.gt_objset.specs.Raised.{Raises, IsLeanList, counts, has_versions, IsLeanTrack, IsLean, raised_since, RaisesValues, Retained, RaisesSlots, RaisesTrack, RaisesRepos, has_paths, KeepsPaths, KeepsSets}
use Rattle.gt_objset.proofs.TableLaws.{PoolSets, table}
use Rattle.gt_objset.proofs.MemberLaws.{true_some}

-- ---- lists of versions

module _ {V : Type 0} where
  -- what is found last is so whatever was found before, as far as a function tells
  found_alike : {B : Type 0} (F : Option (ℕ × V) → B) (es : List (ℕ × V)) (p : ℕ) (f g : Option (ℕ × V)) → F f ≡ F g → F (last_at es p f) ≡ F (last_at es p g)
  found_alike F [] p f g h = h
  found_alike F (e ∷ es) p f g h = by (nat_le e.0 p) (found_alike F es p f g h)
    where
      by : (b : Bool) → F (last_at es p f) ≡ F (last_at es p g) → F (last_at es p (cond b (Some e) f)) ≡ F (last_at es p (cond b (Some e) g))
      by true k = refl
      by false k = k

  none_past : (es : List (ℕ × V)) (n p : ℕ) (found : Option (ℕ × V)) → IsFrom n es → p < n → last_at es p found ≡ found
  none_past [] n p found h l = refl
  none_past (e ∷ es) n p found h l =
      let a : n ≤ e.0 = h.0 in
      let off : nat_le e.0 p ≡ false = grind (arith, nat_tests) in
      ap (λ b. last_at es p (cond b (Some e) found)) off ∙ none_past es n p found h.1 l

  joined : (xs ys : List (ℕ × V)) (p : ℕ) (found : Option (ℕ × V)) → last_at (xs ++ ys) p found ≡ last_at ys p (last_at xs p found)
  joined [] ys p found = refl
  joined (x ∷ xs) ys p found = joined xs ys p (cond (nat_le x.0 p) (Some x) found)

  -- first those up to a position, then those past it
  parted : (es : List (ℕ × V)) (to p : ℕ) (found : Option (ℕ × V)) → IsAscending es → to ≤ p → last_at es p found ≡ last_at (past to es) p (last_at es to found)
  parted [] to p found a l = refl
  parted (e ∷ es) to p found a l = by (nat_le e.0 to) refl (λ f. parted es to p f a.1 l)
    where
      by : (b : Bool) → nat_le e.0 to ≡ b → ((f : Option (ℕ × V)) → last_at es p f ≡ last_at (past to es) p (last_at es to f))
          → last_at es p (cond (nat_le e.0 p) (Some e) found) ≡ last_at (cond b (past to es) (e ∷ past to es)) p (last_at es to (cond b (Some e) found))
      by true t k =
          let on : nat_le e.0 p ≡ true = grind (arith, nat_tests) in
          ap (λ b. last_at es p (cond b (Some e) found)) on ∙ k (Some e)
      by false t k =
          let m : to < e.0 = grind (arith, nat_tests) in
          k (cond (nat_le e.0 p) (Some e) found)
          ∙ ap (last_at (past to es) p) (none_past es e.0 to (cond (nat_le e.0 p) (Some e) found) a.0 m)
          ∙ ap (λ o. last_at (past to es) p (cond (nat_le e.0 p) (Some e) o)) (sym (none_past es e.0 to found a.0 m))

  -- where what is kept of those up to the position tells what the last of them told
  raised_alike : {B : Type 0} (F : Option (ℕ × V) → B) (kept es : List (ℕ × V)) (to p : ℕ) → IsAscending es → to ≤ p → F (last_at kept p None) ≡ F (last_at es to None) → F (last_at (kept ++ past to es) p None) ≡ F (last_at es p None)
  raised_alike F kept es to p a l h =
      ap F (joined kept (past to es) p None)
      ∙ found_alike F (past to es) p (last_at kept p None) (last_at es to None) h
      ∙ sym (ap F (parted es to p None a l))

  past_from : (es : List (ℕ × V)) (to : ℕ) → IsFrom (to + 1) (past to es)
  past_from [] to = tt
  past_from (e ∷ es) to = by (nat_le e.0 to) refl (past_from es to)
    where
      by : (b : Bool) → nat_le e.0 to ≡ b → IsFrom (to + 1) (past to es) → IsFrom (to + 1) (cond b (past to es) (e ∷ past to es))
      by true t f = f
      by false t f = let m : to + 1 ≤ e.0 = grind (arith, nat_tests) in (m, f)

  past_upto : (es : List (ℕ × V)) (q to : ℕ) → IsUpTo q es → IsUpTo q (past to es)
  past_upto [] q to u = tt
  past_upto (e ∷ es) q to u = by (nat_le e.0 to) (past_upto es q to u.1)
    where
      by : (b : Bool) → IsUpTo q (past to es) → IsUpTo q (cond b (past to es) (e ∷ past to es))
      by true f = f
      by false f = (u.0, f)

  -- what was found is among them
  found_upto : (es : List (ℕ × V)) (p q : ℕ) (found : Option (ℕ × V)) → IsUpTo q es → IfSome found (λ e. e.0 ≤ q) → IfSome (last_at es p found) (λ e. e.0 ≤ q)
  found_upto [] p q found u h = h
  found_upto (e ∷ es) p q found u h = found_upto es p q (cond (nat_le e.0 p) (Some e) found) u.1 (by (nat_le e.0 p))
    where
      by : (b : Bool) → IfSome (cond b (Some e) found) (λ e'. e'.0 ≤ q)
      by true = u.0
      by false = h

  lean_past : (es : List (ℕ × V)) (to : ℕ) (test : ℕ × V → Bool) → IsFrom (to + 1) es → IsLeanList to test es
  lean_past [] to test h = tt
  lean_past (e ∷ es) to test h = (λ l. let a : to + 1 ≤ e.0 = h.0 in let no : ⊥ = omega arith in absurd no, h.1)

  found_at : (es : List (ℕ × V)) (to p : ℕ) → to ≤ p → IfSome (last_at es to None) (λ e. e.0 ≤ p)
  found_at es to p l = by (last_at es to None) refl
    where
      by : (o : Option (ℕ × V)) → last_at es to None ≡ o → IfSome o (λ e. e.0 ≤ p)
      by None i = tt
      by (Some e) i = let a : e.0 ≤ to = at_or_before es to e i in let b : e.0 ≤ p = omega arith in b

-- ---- lives

life_kept : (o : Option (ℕ × Bool)) (p : ℕ) → IfSome o (λ e. e.0 ≤ p) → since (last_at (kept_life o) p None) ≡ since o
life_kept None p h = refl
life_kept (Some (q, false)) p h = refl
life_kept (Some (q, true)) p h = let l : q ≤ p = h in let on : nat_le q p ≡ true = grind (arith, nat_tests) in ap (λ b. since (cond b (Some (q, true)) None)) on

pub lives_raised : (es : List (ℕ × Bool)) (to p : ℕ) → IsAscending es → to ≤ p → lives_since (raised_lives to es) p ≡ lives_since es p
lives_raised es to p a l = raised_alike since (kept_life (last_at es to None)) es to p a l (life_kept (last_at es to None) p (found_at es to p l))

-- ---- values

module _ {V : Type 0} where
  not_both : (b : Bool) (o : Option V) → (b && is_some o) ≡ false → b ≡ true → o ≡ None
  not_both true None h t = refl
  not_both true (Some v) h t = let no : ⊥ = cc in absurd no
  not_both false o h t = let no : ⊥ = cc in absurd no

  value_kept : (c start to p : ℕ) (o : Option (ℕ × Option V)) → IfSome o (λ e. e.0 ≤ to) → to ≤ p → (c ≡ start) ⊎ (to < c) → value_since c (last_at (kept_value start o) p None) ≡ value_since c o
  value_kept c start to p None h l d = refl
  value_kept c start to p (Some e) h l d = by (nat_le start e.0 && is_some e.1) refl
    where
      none : (nat_le start e.0 && is_some e.1) ≡ false → (b : Bool) → nat_le c e.0 ≡ b → cond b e.1 None ≡ None
      none off true t = ⊎_elim (λ (same : c ≡ start). let on : nat_le start e.0 ≡ true = ap (λ n. nat_le n e.0) (sym same) ∙ t in not_both (nat_le start e.0) e.1 off on)
          (λ (past : to < c). let m : e.0 ≤ to = h in let no : ⊥ = grind (arith, nat_tests) in absurd no) d
      none off false t = refl

      by : (b : Bool) → (nat_le start e.0 && is_some e.1) ≡ b → value_since c (last_at (cond b (e ∷ []) []) p None) ≡ cond (nat_le c e.0) e.1 None
      by true t = let m : e.0 ≤ to = h in let on : nat_le e.0 p ≡ true = grind (arith, nat_tests) in ap (λ b. value_since c (cond b (Some e) None)) on
      by false t = sym (none t (nat_le c e.0) refl)

  -- what counts at a position from the new floor on is what counted
  values_raised : (lives : List (ℕ × Bool)) (es : List (ℕ × Option V)) (to p c : ℕ) → IsAscending lives → IsAscending es → to ≤ p → lives_since lives p ≡ Some c
      → value_since c (last_at (raised_since (lives_since lives to) to es) p None) ≡ value_since c (last_at es p None)
  values_raised lives es to p c la a l e = by (lives_since lives to) refl
    where
      earlier : c ≤ to → lives_since lives to ≡ Some c
      earlier m = life_settled lives p to c la l e m

      by : (life : Option ℕ) → lives_since lives to ≡ life → value_since c (last_at (raised_since life to es) p None) ≡ value_since c (last_at es p None)
      by None i = raised_alike (value_since c) [] es to p a l (sym (older c to (last_at es to None) (⊎_elim (λ (m : to < c). m) (λ (m : c ≤ to). let there : lives_since lives to ≡ Some c = earlier m in let no : ⊥ = cc in absurd no) (below to c)) (found_at es to to (omega arith))))
      by (Some start) i = raised_alike (value_since c) (kept_value start (last_at es to None)) es to p a l
          (value_kept c start to p (last_at es to None) (found_at es to to (omega arith)) l (⊎_elim (λ (m : to < c). inr m) (λ (m : c ≤ to). let there : lives_since lives to ≡ Some c = earlier m in let same : c ≡ start = cc in inl same) (below to c)))

  lean_kept : (start to : ℕ) (o : Option (ℕ × Option V)) (es : List (ℕ × Option V)) → IsFrom (to + 1) es → IsLeanList to (counts (Some start)) (kept_value start o ++ es)
  lean_kept start to None es h = lean_past es to (counts (Some start)) h
  lean_kept start to (Some e) es h = by (nat_le start e.0) e.1 refl refl
    where
      by : (b : Bool) (o : Option V) → nat_le start e.0 ≡ b → e.1 ≡ o → IsLeanList to (counts (Some start)) (cond (b && is_some o) (e ∷ []) [] ++ es)
      by true None t i = lean_past es to (counts (Some start)) h
      by true (Some v) t i = (λ l. ap (λ b. is_some (cond b e.1 None)) t ∙ ap is_some i, h)
      by false o t i = lean_past es to (counts (Some start)) h

  lean_since : (life : Option ℕ) (to : ℕ) (es : List (ℕ × Option V)) → IsLeanList to (counts life) (raised_since life to es)
  lean_since None to es = lean_past (past to es) to (counts None) (past_from es to)
  lean_since (Some start) to es = lean_kept start to (last_at es to None) (past to es) (past_from es to)

  kept_upto : (start q : ℕ) (o : Option (ℕ × Option V)) (es : List (ℕ × Option V)) → IfSome o (λ e. e.0 ≤ q) → IsUpTo q es → IsUpTo q (kept_value start o ++ es)
  kept_upto start q None es h u = u
  kept_upto start q (Some e) es h u = by (nat_le start e.0 && is_some e.1)
    where
      by : (b : Bool) → IsUpTo q (cond b (e ∷ []) [] ++ es)
      by true = (h, u)
      by false = u

  since_upto : (life : Option ℕ) (to q : ℕ) (es : List (ℕ × Option V)) → IsUpTo q es → IsUpTo q (raised_since life to es)
  since_upto None to q es u = past_upto es q to u
  since_upto (Some start) to q es u = kept_upto start q (last_at es to None) (past to es) (found_upto es to q None u tt) (past_upto es q to u)

  no_versions : (es : List (ℕ × V)) → has_versions es ≡ false → es ≡ []
  no_versions [] h = refl
  no_versions (e ∷ es) h = let some : nat_eq (length (e ∷ es)) 0 ≡ false = grind (arith, nat_tests) in let no : ⊥ = cc in absurd no

lean_lives : (to : ℕ) (o : Option (ℕ × Bool)) (es : List (ℕ × Bool)) → IsFrom (to + 1) es → IsLeanList to (λ e. e.1) (kept_life o ++ es)
lean_lives to None es h = lean_past es to (λ e. e.1) h
lean_lives to (Some (q, false)) es h = lean_past es to (λ e. e.1) h
lean_lives to (Some (q, true)) es h = (λ l. refl, h)

lives_upto : (q : ℕ) (o : Option (ℕ × Bool)) (es : List (ℕ × Bool)) → IfSome o (λ e. e.0 ≤ q) → IsUpTo q es → IsUpTo q (kept_life o ++ es)
lives_upto q None es h u = u
lives_upto q (Some (n, false)) es h u = u
lives_upto q (Some (n, true)) es h u = (h, u)

-- ---- an object

module _ (life : Option ℕ) (to : ℕ) where
  none_raised : (life : Option ℕ) → [] ≡ raised_since {V = Place} life to []
  none_raised None = refl
  none_raised (Some start) = refl

  slot_items : (a b : Option (List (ℕ × Option Place) × ℕ)) → Retained (RaisesValues life to) (λ s. has_versions s.0) a b → (items_of b ≡ raised_since life to (items_of a)) × IsAscending (items_of a)
  slot_items None b h = (ap items_of h ∙ none_raised life, tt)
  slot_items (Some v) b h = (ap items_of h.2 ∙ by (has_versions h.0.0) refl ∙ h.1.items, h.1.order)
    where
      by : (c : Bool) → has_versions h.0.0 ≡ c → items_of (cond c (Some h.0) None) ≡ h.0.0
      by true t = refl
      by false t = sym (no_versions h.0.0 t)

  slot_lean : (a b : Option (List (ℕ × Option Place) × ℕ)) → Retained (RaisesValues life to) (λ s. has_versions s.0) a b → IfSome b (λ s. IsLeanList to (counts life) s.0) × IfSome b (λ s. has_versions s.0 ≡ true)
  slot_lean None b h = let P : Option (List (ℕ × Option Place) × ℕ) → Type 0 = λ b. IfSome b (λ s. IsLeanList to (counts life) s.0) × IfSome b (λ s. has_versions s.0 ≡ true) in subst P (sym h) (tt, tt)
  slot_lean (Some v) b h =
      let P : Option (List (ℕ × Option Place) × ℕ) → Type 0 = λ b. IfSome b (λ s. IsLeanList to (counts life) s.0) × IfSome b (λ s. has_versions s.0 ≡ true) in
      subst P (sym h.2) (by (has_versions h.0.0) refl)
    where
      by : (c : Bool) → has_versions h.0.0 ≡ c → IfSome (cond c (Some h.0) None) (λ s. IsLeanList to (counts life) s.0) × IfSome (cond c (Some h.0) None) (λ s. has_versions s.0 ≡ true)
      by true t = let L : List (ℕ × Option Place) → Type 0 = λ es. IsLeanList to (counts life) es in (subst L (sym h.1.items) (lean_since life to v.0), t)
      by false t = (tt, tt)

-- ---- a repository

module _ (to : ℕ) (r s : Track) (h : RaisesTrack to r s) where
  items_raised : (x : List ℕ) → items_of (map.get s.objects x) ≡ raised_since (life_at r to) to (items_of (map.get r.objects x))
  items_raised x = (slot_items (life_at r to) to (map.get r.objects x) (map.get s.objects x) (h.objects x)).0

  life_raised : (p : ℕ) → to ≤ p → life_at s p ≡ life_at r p
  life_raised p l = ap (λ es. lives_since es p) h.lives ∙ lives_raised r.lives.0 to p h.order l

  head_raised : (p : ℕ) → to ≤ p → head_in_track s p ≡ head_in_track r p
  head_raised p l = ap (λ life. head_of life (last_at s.kinds.0 p None) (last_at s.pools.0 p None)) (life_raised p l) ∙ by (life_at r p) refl
    where
      by : (life : Option ℕ) → life_at r p ≡ life → head_of life (last_at s.kinds.0 p None) (last_at s.pools.0 p None) ≡ head_of life (last_at r.kinds.0 p None) (last_at r.pools.0 p None)
      by None i = refl
      by (Some c) i =
          ap (λ k. Some (record { is_pool = unwrap_or k false; pool = value_since c (last_at s.pools.0 p None) })) (ap (λ es. value_since c (last_at es p None)) h.kinds.items ∙ values_raised r.lives.0 r.kinds.0 to p c h.order h.kinds.order l i)
          ∙ ap (λ k. Some (record { is_pool = unwrap_or (value_since c (last_at r.kinds.0 p None)) false; pool = k })) (ap (λ es. value_since c (last_at es p None)) h.pools.items ∙ values_raised r.lives.0 r.pools.0 to p c h.order h.pools.order l i)

  own_raised : (p : ℕ) (x : List ℕ) → to ≤ p → own_in_track s p x ≡ own_in_track r p x
  own_raised p x l = ap (λ life. own_of life (last_at (items_of (map.get s.objects x)) p None)) (life_raised p l) ∙ by (life_at r p) refl
    where
      by : (life : Option ℕ) → life_at r p ≡ life → own_of life (last_at (items_of (map.get s.objects x)) p None) ≡ own_of life (last_at (items_of (map.get r.objects x)) p None)
      by None i = refl
      by (Some c) i = ap (λ es. value_since c (last_at es p None)) (items_raised x)
          ∙ values_raised r.lives.0 (items_of (map.get r.objects x)) to p c h.order (slot_items (life_at r to) to (map.get r.objects x) (map.get s.objects x) (h.objects x)).1 l i

  track_upto : (q : ℕ) → IsTrackUpTo q r → IsTrackUpTo q s
  track_upto q u =
      let L : List (ℕ × Bool) → Type 0 = λ es. IsUpTo q es in
      let K : List (ℕ × Option Bool) → Type 0 = λ es. IsUpTo q es in
      let P : List (ℕ × Option (List ℕ)) → Type 0 = λ es. IsUpTo q es in
      let O : List (ℕ × Option Place) → Type 0 = λ es. IsUpTo q es in
      record {
        lives = subst L (sym h.lives) (lives_upto q (last_at r.lives.0 to None) (past to r.lives.0) (found_upto r.lives.0 to q None u.lives tt) (past_upto r.lives.0 q to u.lives));
        kinds = subst K (sym h.kinds.items) (since_upto (life_at r to) to q r.kinds.0 u.kinds);
        pools = subst P (sym h.pools.items) (since_upto (life_at r to) to q r.pools.0 u.pools);
        objects = λ x. subst O (sym (items_raised x)) (since_upto (life_at r to) to q (items_of (map.get r.objects x)) (u.objects x));
      }

  track_lean : has_versions s.lives.0 ≡ true → IsLeanTrack to s
  track_lean some =
      let same : life_at s to ≡ life_at r to = life_raised to (omega arith) in
      let L : List (ℕ × Bool) → Type 0 = λ es. IsLeanList to (λ e. e.1) es in
      let K : List (ℕ × Option Bool) → Type 0 = λ es. IsLeanList to (counts (life_at r to)) es in
      let P : List (ℕ × Option (List ℕ)) → Type 0 = λ es. IsLeanList to (counts (life_at r to)) es in
      let K' : Option ℕ → Type 0 = λ life. IsLeanList to (counts life) s.kinds.0 in
      let P' : Option ℕ → Type 0 = λ life. IsLeanList to (counts life) s.pools.0 in
      record {
        there = some;
        lives = subst L (sym h.lives) (lean_lives to (last_at r.lives.0 to None) (past to r.lives.0) (past_from r.lives.0 to));
        kinds = subst K' (sym same) (subst K (sym h.kinds.items) (lean_since (life_at r to) to r.kinds.0));
        pools = subst P' (sym same) (subst P (sym h.pools.items) (lean_since (life_at r to) to r.pools.0));
        objects = λ x. let O : Option ℕ → Type 0 = λ life. IfSome (map.get s.objects x) (λ v. IsLeanList to (counts life) v.0) in subst O (sym same) (slot_lean (life_at r to) to (map.get r.objects x) (map.get s.objects x) (h.objects x)).0;
        placed = λ x. (slot_lean (life_at r to) to (map.get r.objects x) (map.get s.objects x) (h.objects x)).1;
      }

  -- a repository that was dropped isn't there from the new floor on
  head_gone : has_versions s.lives.0 ≡ false → (p : ℕ) → to ≤ p → None ≡ head_in_track r p
  head_gone none p l = sym (ap (λ es. head_of (lives_since es p) (last_at s.kinds.0 p None) (last_at s.pools.0 p None)) (no_versions s.lives.0 none)) ∙ head_raised p l

  own_gone : has_versions s.lives.0 ≡ false → (p : ℕ) (x : List ℕ) → to ≤ p → None ≡ own_in_track r p x
  own_gone none p x l = sym (ap (λ es. own_of (lives_since es p) (last_at (items_of (map.get s.objects x)) p None)) (no_versions s.lives.0 none)) ∙ own_raised p x l

-- ---- a repository that may be dropped

module _ (to : ℕ) where
  slot_head : (a b : Option Track) → Retained (RaisesTrack to) (λ t. has_versions t.lives.0) a b → (p : ℕ) → to ≤ p → head_in_slot b p ≡ head_in_slot a p
  slot_head None b h p l = ap (λ s. head_in_slot s p) h
  slot_head (Some r) b h p l = ap (λ s. head_in_slot s p) h.2 ∙ by (has_versions h.0.lives.0) refl
    where
      by : (c : Bool) → has_versions h.0.lives.0 ≡ c → head_in_slot (cond c (Some h.0) None) p ≡ head_in_track r p
      by true t = head_raised to r h.0 h.1 p l
      by false t = head_gone to r h.0 h.1 t p l

  slot_own : (a b : Option Track) → Retained (RaisesTrack to) (λ t. has_versions t.lives.0) a b → (p : ℕ) (x : List ℕ) → to ≤ p → own_in_slot b p x ≡ own_in_slot a p x
  slot_own None b h p x l = ap (λ s. own_in_slot s p x) h
  slot_own (Some r) b h p x l = ap (λ s. own_in_slot s p x) h.2 ∙ by (has_versions h.0.lives.0) refl
    where
      by : (c : Bool) → has_versions h.0.lives.0 ≡ c → own_in_slot (cond c (Some h.0) None) p x ≡ own_in_track r p x
      by true t = own_raised to r h.0 h.1 p x l
      by false t = own_gone to r h.0 h.1 t p x l

  slot_upto : (q : ℕ) (a b : Option Track) → Retained (RaisesTrack to) (λ t. has_versions t.lives.0) a b → IsSlotUpTo q a → IsSlotUpTo q b
  slot_upto q None b h u = let P : Option Track → Type 0 = λ s. IsSlotUpTo q s in subst P (sym h) tt
  slot_upto q (Some r) b h u = let P : Option Track → Type 0 = λ s. IsSlotUpTo q s in subst P (sym h.2) (by (has_versions h.0.lives.0))
    where
      by : (c : Bool) → IsSlotUpTo q (cond c (Some h.0) None)
      by true = track_upto to r h.0 h.1 q u
      by false = tt

  slot_leaner : (a b : Option Track) → Retained (RaisesTrack to) (λ t. has_versions t.lives.0) a b → IfSome b (IsLeanTrack to)
  slot_leaner None b h = let P : Option Track → Type 0 = λ s. IfSome s (IsLeanTrack to) in subst P (sym h) tt
  slot_leaner (Some r) b h = let P : Option Track → Type 0 = λ s. IfSome s (IsLeanTrack to) in subst P (sym h.2) (by (has_versions h.0.lives.0) refl)
    where
      by : (c : Bool) → has_versions h.0.lives.0 ≡ c → IfSome (cond c (Some h.0) None) (IsLeanTrack to)
      by true t = track_lean to r h.0 h.1 t
      by false t = tt

-- ---- trees

module _ {X : Type 0} (P : X → X → Type 0) (test : X → Bool) (es fs : List (List ℕ × X)) where
  in_trees : ((x : List ℕ) → Retained P test (at_key es x) (at_key fs x)) → (x : List ℕ) → Retained P test (map.get (from_entries {R = key_cmp} es) x) (map.get (from_entries {R = key_cmp} fs) x)
  in_trees h x =
      let A : Option X → Type 0 = λ o. Retained P test o (map.get (from_entries {R = key_cmp} fs) x) in
      let B : Option X → Type 0 = λ o. Retained P test (at_key es x) o in
      subst A (sym (get_key es x)) (subst B (sym (get_key fs x)) (h x))

pub tree_raised : (to : ℕ) (lives newer : List (ℕ × Bool) × ℕ) (kinds newer_kinds : List (ℕ × Option Bool) × ℕ) (pools newer_pools : List (ℕ × Option (List ℕ)) × ℕ) (es fs : List (List ℕ × (List (ℕ × Option Place) × ℕ))) (life : Option ℕ)
    → life ≡ lives_since lives.0 to → IsAscending lives.0 → newer.0 ≡ raised_lives to lives.0 → RaisesValues life to kinds newer_kinds → RaisesValues life to pools newer_pools → RaisesSlots life to (λ x. at_key es x) (λ x. at_key fs x)
    → RaisesTrack to (record { lives = lives; kinds = kinds; pools = pools; objects = from_entries es }) (record { lives = newer; kinds = newer_kinds; pools = newer_pools; objects = from_entries fs })
tree_raised to lives newer kinds newer_kinds pools newer_pools es fs life is order l k p o =
    let K : Option ℕ → Type 0 = λ life. RaisesValues life to kinds newer_kinds in
    let P : Option ℕ → Type 0 = λ life. RaisesValues life to pools newer_pools in
    let O : Option ℕ → Type 0 = λ life. RaisesSlots life to (λ x. map.get (from_entries {R = key_cmp} es) x) (λ x. map.get (from_entries {R = key_cmp} fs) x) in
    record { order = order; lives = l; kinds = subst K is k; pools = subst P is p; objects = subst O is (in_trees (RaisesValues life to) (λ s. has_versions s.0) es fs o) }

-- ---- the sets of candidates

module _ (repos : List ℕ → Option Track) where
  set_kept : (a b : Option (BTreeSet (List ℕ))) → Retained (KeepsPaths repos) has_paths a b → (q : List ℕ) → has_path b q ≡ (has_path a q && is_some (repos q))
  set_kept None b h q = ap (λ o. has_path o q) h
  set_kept (Some v) b h q = ap (λ o. has_path o q) h.2 ∙ by (has_paths h.0) refl ∙ h.1 q
    where
      by : (c : Bool) → has_paths h.0 ≡ c → has_path (cond c (Some h.0) None) q ≡ set.contains key_cmp h.0 q
      by true t = refl
      by false t = sym (ap (list_any (λ n. eq_by_cmp key_cmp q n)) (no_paths h.0.keys t))
        where
          no_paths : (ks : List (List ℕ)) → not (nat_eq (length ks) 0) ≡ false → ks ≡ []
          no_paths [] t = refl
          no_paths (k ∷ ks) t = let some : nat_eq (length (k ∷ ks)) 0 ≡ false = grind (arith, nat_tests) in let no : ⊥ = cc in absurd no

  set_lean : (a b : Option (BTreeSet (List ℕ))) → Retained (KeepsPaths repos) has_paths a b → IfSome b (λ s. has_paths s ≡ true)
  set_lean None b h = let P : Option (BTreeSet (List ℕ)) → Type 0 = λ o. IfSome o (λ s. has_paths s ≡ true) in subst P (sym h) tt
  set_lean (Some v) b h = let P : Option (BTreeSet (List ℕ)) → Type 0 = λ o. IfSome o (λ s. has_paths s ≡ true) in subst P (sym h.2) (by (has_paths h.0) refl)
    where
      by : (c : Bool) → has_paths h.0 ≡ c → IfSome (cond c (Some h.0) None) (λ s. has_paths s ≡ true)
      by true t = t
      by false t = tt

both_true : (a b : Bool) → a ≡ true → b ≡ true → (a && b) ≡ true
both_true true b s t = t
both_true false b s t = let no : ⊥ = cc in absurd no

second_true : (a b : Bool) → (a && b) ≡ true → b ≡ true
second_true true b h = h
second_true false b h = let no : ⊥ = cc in absurd no

-- ---- the table

module _ (floor front to : ℕ) (es fs : List (List ℕ × Track)) (h : RaisesRepos to (λ x. at_key es x) (λ x. at_key fs x)) (sets more : PoolSets) (k : KeepsSets (λ x. at_key fs x) (λ w. at_key sets w) (λ w. at_key more w)) where
  slots : (path : List ℕ) → Retained (RaisesTrack to) (λ t. has_versions t.lives.0) (map.get (from_entries {R = key_cmp} es) path) (map.get (from_entries {R = key_cmp} fs) path)
  slots = in_trees (RaisesTrack to) (λ t. has_versions t.lives.0) es fs h

  heads : (p : ℕ) (path : List ℕ) → to ≤ p → head_in_slot (map.get (from_entries {R = key_cmp} fs) path) p ≡ head_in_slot (map.get (from_entries {R = key_cmp} es) path) p
  heads p path l = slot_head to (map.get (from_entries {R = key_cmp} es) path) (map.get (from_entries {R = key_cmp} fs) path) (slots path) p l

  sets_at : (pool : List ℕ) → Retained (KeepsPaths (λ x. at_key fs x)) has_paths (map.get (from_entries {R = key_cmp} sets) pool) (map.get (from_entries {R = key_cmp} more) pool)
  sets_at = in_trees (KeepsPaths (λ x. at_key fs x)) has_paths sets more k

  noted : (pool path : List ℕ) → has_path (map.get (from_entries {R = key_cmp} more) pool) path ≡ (has_path (map.get (from_entries {R = key_cmp} sets) pool) path && is_some (map.get (from_entries {R = key_cmp} fs) path))
  noted pool path =
      set_kept (λ x. at_key fs x) (map.get (from_entries {R = key_cmp} sets) pool) (map.get (from_entries {R = key_cmp} more) pool) (sets_at pool) path
      ∙ ap (λ o. has_path (map.get (from_entries {R = key_cmp} sets) pool) path && is_some o) (sym (get_key fs path))

  pub raised_kept : floor ≤ to → to ≤ front → IsKept floor front (from_entries sets) (from_entries es) → IsKept to front (from_entries more) (from_entries fs)
  raised_kept low high kept = record {
    order = high;
    newest = λ path. slot_upto to front (map.get (from_entries {R = key_cmp} es) path) (map.get (from_entries {R = key_cmp} fs) path) (slots path) (kept.newest path);
    covers = λ p l pool path is. noted pool path ∙ both_true (has_path (map.get (from_entries {R = key_cmp} sets) pool) path) (is_some (map.get (from_entries {R = key_cmp} fs) path))
        (kept.covers p (omega arith) pool path (ap (λ o. is_this (pool_in o) pool) (sym (heads p path l)) ∙ is)) (true_some (map.get (from_entries {R = key_cmp} fs) path) p pool is);
  }

  pub raised : (head : HeadChange) (puts : List (List ℕ × Option Place)) → Raises to (table floor front es sets head puts) (table to front fs more head puts)
  raised head puts = record {
    floor = refl;
    front = refl;
    heads = heads;
    own = λ p path x l. slot_own to (map.get (from_entries {R = key_cmp} es) path) (map.get (from_entries {R = key_cmp} fs) path) (slots path) p x l;
  }

  pub lean : (head : HeadChange) (puts : List (List ℕ × Option Place)) → IsLean (table to front fs more head puts)
  lean head puts = record {
    repos = λ path. slot_leaner to (map.get (from_entries {R = key_cmp} es) path) (map.get (from_entries {R = key_cmp} fs) path) (slots path);
    noted = λ pool path is. second_true (has_path (map.get (from_entries {R = key_cmp} sets) pool) path) (is_some (map.get (from_entries {R = key_cmp} fs) path)) (sym (noted pool path) ∙ is);
    sets = λ pool. set_lean (λ x. at_key fs x) (map.get (from_entries {R = key_cmp} sets) pool) (map.get (from_entries {R = key_cmp} more) pool) (sets_at pool);
  }

-- ---- what it has of a content

module _ (old new : Table) (base : Content) (log : List Entry) (to : ℕ) (h : Agrees old base log) (low : old.floor ≤ to) (high : to ≤ old.front) (r : Raises to old new) where
  now_at : (p : ℕ) → to ≤ p → at old.floor base log p ≡ at new.floor (at old.floor base log to) (drop (to - old.floor) log) p
  now_at p l =
      let f : new.floor ≡ to = r.floor in
      let n : p - old.floor ≡ (to - old.floor) + (p - to) = omega arith in
      ap (λ n. after_all base (take n log)) n
      ∙ ap (after_all base) (take-add (to - old.floor) (p - to) log)
      ∙ after_all-append base (take (to - old.floor) log) (take (p - to) (drop (to - old.floor) log))
      ∙ ap (λ n. after_all (at old.floor base log to) (take (p - n) (drop (to - old.floor) log))) (sym f)

  pub raised_agrees : Agrees new (at old.floor base log to) (drop (to - old.floor) log)
  raised_agrees = record {
    front = let f : new.front ≡ old.front = r.front in let g : new.floor ≡ to = r.floor in let i : old.front ≡ old.floor + length log = h.front in omega (arith, length-drop (to - old.floor) log);
    heads = λ p path l m.
        let f : new.front ≡ old.front = r.front in
        let g : new.floor ≡ to = r.floor in
        r.heads p path (omega arith) ∙ h.heads p path (omega arith) (omega arith) ∙ ap (λ c. head_in c path) (now_at p (omega arith));
    own = λ p path x l m.
        let f : new.front ≡ old.front = r.front in
        let g : new.floor ≡ to = r.floor in
        ap is_some (r.own p path x (omega arith)) ∙ h.own p path x (omega arith) (omega arith) ∙ ap (λ c. is_some (own c path x)) (now_at p (omega arith));
  }
