-- A reference that is there at the floor besides.
use Rattle.std.proofs.Common.{◌≡◌, ℕ, Bool, true, false, cond, List, [], Option, Some, None, Result, Ok, Err, OnOk, OnErr, refl, sym, ap, ◌∙◌, subst, arith}
use Rattle.std.specs.Ordering.{eq_by_cmp}
use Rattle.std.specs.Cmp.Lexicographic.{nat_list_cmp_total}
use Rattle.std.specs.FinMap as map
use Rattle.std.specs.FinMap.{FinMap, from_entries, get-insert, get-empty}
use Rattle.gt_model.specs.Contents.{key_cmp}
use Rattle.gt_versions.specs.Versions.{last_at, IsUpTo}
use Rattle.gt_versions.specs.Lives.{start_of, value_since}
use Rattle.gt_versions.proofs.Keys.{at_key, at_key-same, get_key, flip}
use Rattle.gt_versions.proofs.LifeLaws.{start_of-le}
use Rattle.gt_slots.specs.Slots as slots
use Rattle.gt_slots.specs.Slots.{items_of, PutsRef}
use Rattle.gt_reftable.specs.Tracks.{Track, start, value_in, named_at, IsTrackUpTo}
use Rattle.gt_reftable.specs.Tracks as tracks
use Rattle.gt_reftable.specs.Table.{track_refs, AllUpTo, IsSlotUpTo, Changed, Same, SeedsHere, SeedsAt, Seeds, IsSameTable}
use Rattle.gt_reftable.proofs.TrackLaws.{roomier_same, upto_put}
use Rattle.gt_reftable.proofs.UpdateLaws.{put_since}
use Rattle.gt_reftable.proofs.RefsLaws.{same_refs, get-track_refs, same_table}
use Rattle.gt_reftable.proofs.TableLaws.{same_slot, same_everywhere, same_roomier, unborn, unborn_up, up_of_tree}

-- room is taken, and the value put in it
module _ (lives : List (ℕ × Bool) × ℕ) (q : ℕ) (name v : List ℕ) (old mid new old1 mid1 new1 : FinMap key_cmp (List (ℕ × Option (List ℕ)) × ℕ))
    (up : IsTrackUpTo q (record { lives = lives; refs = old; current = old1 }))
    (r : slots.IsRoomier old mid) (h : PutsRef q name (Some v) mid new) (r1 : slots.IsRoomier old1 mid1) (h1 : PutsRef q name (Some v) mid1 new1) where
  seeded_value : (x : List ℕ) → value_in (record { lives = lives; refs = new; current = new1 }) q x ≡ cond (eq_by_cmp key_cmp x name) (Some v) (value_in (record { lives = lives; refs = old; current = old1 }) q x)
  seeded_value x =
      put_since q q (start_of (last_at lives.0 q None)) name x (Some v) mid new h (start_of-le q q lives.0 up.values.lives) (omega arith)
      ∙ ap (λ es. cond (eq_by_cmp key_cmp x name) (Some v) (value_since (start_of (last_at lives.0 q None)) (last_at es q None))) (r.items x)

  seeded_gone : (x : List ℕ) → value_in (record { lives = lives; refs = new; current = new1 }) q x ≡ None → items_of (map.get new1 x) ≡ []
  seeded_gone x e = by (eq_by_cmp key_cmp x name) refl
    where
      by : (b : Bool) → eq_by_cmp key_cmp x name ≡ b → items_of (map.get new1 x) ≡ []
      by true t =
          let no : Some v ≡ None = sym (ap (λ b. cond b (Some v) (value_in (record { lives = lives; refs = old; current = old1 }) q x)) t) ∙ sym (seeded_value x) ∙ e in
          let bad : ⊥ = cc in
          absurd bad
      by false t =
          ap items_of (h1.others x (flip name x ∙ t)) ∙ r1.items x
          ∙ up.gone x (sym (ap (λ b. cond b (Some v) (value_in (record { lives = lives; refs = old; current = old1 }) q x)) t) ∙ sym (seeded_value x) ∙ e)

  pub seeded : tracks.Seeds q name v (record { lives = lives; refs = old; current = old1 }) (record { lives = lives; refs = new; current = new1 })
  seeded = record {
    value = seeded_value;
    newest = record {
      values = record {
        lives = up.values.lives;
        refs = upto_put q name (Some v) mid new h (λ x. let P : List (ℕ × Option (List ℕ)) → Type 0 = λ es. IsUpTo q es in subst P (sym (r.items x)) (up.values.refs x));
        current = upto_put q name (Some v) mid1 new1 h1 (λ x. let P : List (ℕ × Option (List ℕ)) → Type 0 = λ es. IsUpTo q es in subst P (sym (r1.items x)) (up.values.current x));
        newest = λ x.
            put_since q q 0 name x (Some v) mid1 new1 h1 (omega arith) (omega arith)
            ∙ ap (λ es. cond (eq_by_cmp key_cmp x name) (Some v) (named_at q es)) (r1.items x)
            ∙ ap (cond (eq_by_cmp key_cmp x name) (Some v)) (up.values.newest x)
            ∙ sym (seeded_value x);
      };
      gone = seeded_gone;
    };
  }

pub mid_up : (q : ℕ) (name : List ℕ) (old mid : FinMap key_cmp (List (ℕ × Option (List ℕ)) × ℕ)) → IsUpTo q (items_of (map.get old name)) → slots.IsRoomier old mid → IsUpTo q (items_of (map.get mid name))
mid_up q name old mid up r = let P : List (ℕ × Option (List ℕ)) → Type 0 = λ es. IsUpTo q es in subst P (sym (r.items name)) up

-- a repository that wasn't known had no reference
pub empty_up : (q : ℕ) (t : Track) → t.lives.0 ≡ [] → t.refs ≡ map.empty → t.current ≡ map.empty → IsTrackUpTo q t
empty_up q t l m n = unborn_up q t (unborn t t l m n (roomier_same t))

empty_value : (q : ℕ) (x : List ℕ) (t : Track) → t.refs ≡ map.empty → value_in t q x ≡ None
empty_value q x t m = ap (λ s. value_since (start t q) (last_at (items_of s) q None)) (ap (λ n. map.get n x) m ∙ get-empty key_cmp x)

pub seeds_known : (q : ℕ) (name v : List ℕ) (r s : Track) (old new : Option Track) → old ≡ Some r → new ≡ Some s → tracks.Seeds q name v r s → SeedsHere q name v old new
seeds_known q name v r s old new a b h =
    let P : Option Track → Type 0 = λ o. SeedsHere q name v o new in
    let Q : Option Track → Type 0 = λ o. SeedsHere q name v (Some r) o in
    subst P (sym a) (subst Q (sym b) (record { value = h.value; newest = h.newest }))

pub seeds_new : (q : ℕ) (name v : List ℕ) (r s : Track) (old new : Option Track) → old ≡ None → new ≡ Some s → r.refs ≡ map.empty → tracks.Seeds q name v r s → SeedsHere q name v old new
seeds_new q name v r s old new a b m h =
    let P : Option Track → Type 0 = λ o. SeedsHere q name v o new in
    let Q : Option Track → Type 0 = λ o. SeedsHere q name v None o in
    subst P (sym a) (subst Q (sym b) (record { value = λ x. h.value x ∙ ap (cond (eq_by_cmp key_cmp x name) (Some v)) (empty_value q x r m); newest = h.newest }))

pub seeds_everywhere : (es fs : List (List ℕ × Track)) (q : ℕ) (path name v : List ℕ) → SeedsHere q name v (at_key es path) (at_key fs path) → ((x : List ℕ) → eq_by_cmp key_cmp path x ≡ false → at_key fs x ≡ at_key es x)
    → (x : List ℕ) → SeedsAt (eq_by_cmp key_cmp x path) q name v (at_key es x) (at_key fs x)
seeds_everywhere es fs q path name v here others x = by_test (eq_by_cmp key_cmp path x) refl
  where
    by_test : (b : Bool) → eq_by_cmp key_cmp path x ≡ b → SeedsAt (eq_by_cmp key_cmp x path) q name v (at_key es x) (at_key fs x)
    by_test true t =
        let B : Bool → Type 0 = λ b. SeedsAt b q name v (at_key es x) (at_key fs x) in
        let P : Option Track → Type 0 = λ s. SeedsHere q name v s (at_key fs x) in
        let Q : Option Track → Type 0 = λ s. SeedsHere q name v (at_key es path) s in
        subst B (sym (flip x path ∙ t)) (subst P (sym (at_key-same es path x t)) (subst Q (sym (at_key-same fs path x t)) here))
    by_test false t = let B : Bool → Type 0 = λ b. SeedsAt b q name v (at_key es x) (at_key fs x) in subst B (sym (flip x path ∙ t)) (others x t)

seeds_refs : (b : Bool) (q : ℕ) (name v : List ℕ) (old new : Option Track) → SeedsAt b q name v old new → track_refs new q ≡ cond b (map.insert (track_refs old q) name v) (track_refs old q)
seeds_refs true q name v old new h = same_refs _ _ (λ x. get-track_refs new q x ∙ h.value x ∙ ap (cond (eq_by_cmp key_cmp x name) (Some v)) (sym (get-track_refs old q x)) ∙ sym (get-insert nat_list_cmp_total (track_refs old q) name v x))
seeds_refs false q name v old new h = ap (λ s. track_refs s q) h

seeds_up : (b : Bool) (q : ℕ) (name v : List ℕ) (old new : Option Track) → SeedsAt b q name v old new → IsSlotUpTo q old → IsSlotUpTo q new
seeds_up true q name v old new h up = h.newest
seeds_up false q name v old new h up = let P : Option Track → Type 0 = λ s. IsSlotUpTo q s in subst P (sym h) up

pub seeded_table : {T E : Type 0} (res : Result T E) (floor front : ℕ) (path name v : List ℕ) (es fs : List (List ℕ × Track)) → front ≡ floor
    → OnOk res ((x : List ℕ) → SeedsAt (eq_by_cmp key_cmp x path) front name v (at_key es x) (at_key fs x))
    → OnOk res (Seeds path name v (record { floor = floor; front = front; repos = from_entries es }) (record { floor = floor; front = front; repos = from_entries fs }))
seeded_table (Err e) floor front path name v es fs s h = tt
seeded_table (Ok r) floor front path name v es fs s h = record {
  floor = refl;
  front = refl;
  refs = λ x.
      ap (track_refs (map.get (from_entries fs) x)) (sym s)
      ∙ ap (λ o. track_refs o front) (get_key fs x)
      ∙ seeds_refs (eq_by_cmp key_cmp x path) front name v (at_key es x) (at_key fs x) (h x)
      ∙ ap (λ m. cond (eq_by_cmp key_cmp x path) (map.insert m name v) m) (ap (λ o. track_refs o front) (sym (get_key es x)) ∙ ap (track_refs (map.get (from_entries es) x)) s);
}

pub seeded_up : {T E : Type 0} (res : Result T E) (q : ℕ) (path name v : List ℕ) (es fs : List (List ℕ × Track)) → ((x : List ℕ) → IsSlotUpTo q (at_key es x))
    → OnOk res ((x : List ℕ) → SeedsAt (eq_by_cmp key_cmp x path) q name v (at_key es x) (at_key fs x))
    → OnErr res ((x : List ℕ) → Same (at_key es x) (at_key fs x))
    → AllUpTo q (from_entries fs)
seeded_up (Ok r) q path name v es fs up ok err = up_of_tree q fs (λ x. seeds_up (eq_by_cmp key_cmp x path) q name v (at_key es x) (at_key fs x) (ok x) (up x))
seeded_up (Err e) q path name v es fs up ok err = up_of_tree q fs (λ x. (err x).newest q (up x))

pub same_kept : (es fs : List (List ℕ × Track)) (path : List ℕ) → at_key fs path ≡ at_key es path → Same (at_key es path) (at_key fs path)
same_kept es fs path e = let P : Option Track → Type 0 = λ s. Same (at_key es path) s in subst P (sym e) (same_slot (at_key es path))

module _ {T E : Type 0} (res : Result T E) (es fs : List (List ℕ × Track)) (path : List ℕ) (others : (x : List ℕ) → eq_by_cmp key_cmp path x ≡ false → at_key fs x ≡ at_key es x) where
  pub seed_ok : (q : ℕ) (name v : List ℕ) → OnOk res (SeedsHere q name v (at_key es path) (at_key fs path)) → OnOk res ((x : List ℕ) → SeedsAt (eq_by_cmp key_cmp x path) q name v (at_key es x) (at_key fs x))
  seed_ok q name v h = by res h
    where
      by : (r : Result T E) → OnOk r (SeedsHere q name v (at_key es path) (at_key fs path)) → OnOk r ((x : List ℕ) → SeedsAt (eq_by_cmp key_cmp x path) q name v (at_key es x) (at_key fs x))
      by (Ok r) h = seeds_everywhere es fs q path name v h others
      by (Err e) h = tt

  pub seed_err : OnErr res (Same (at_key es path) (at_key fs path)) → OnErr res ((x : List ℕ) → Same (at_key es x) (at_key fs x))
  seed_err h = by res h
    where
      by : (r : Result T E) → OnErr r (Same (at_key es path) (at_key fs path)) → OnErr r ((x : List ℕ) → Same (at_key es x) (at_key fs x))
      by (Ok r) h = tt
      by (Err e) h = same_everywhere es fs path h others

  pub known_err : OnErr res (Changed tracks.IsRoomier (at_key es path) (at_key fs path)) → OnErr res (Same (at_key es path) (at_key fs path))
  known_err h = by res h
    where
      by : (r : Result T E) → OnErr r (Changed tracks.IsRoomier (at_key es path) (at_key fs path)) → OnErr r (Same (at_key es path) (at_key fs path))
      by (Ok r) h = tt
      by (Err e) h = same_roomier (at_key es path) (at_key fs path) h

  pub new_err : OnErr res (at_key fs path ≡ at_key es path) → OnErr res (Same (at_key es path) (at_key fs path))
  new_err h = by res h
    where
      by : (r : Result T E) → OnErr r (at_key fs path ≡ at_key es path) → OnErr r (Same (at_key es path) (at_key fs path))
      by (Ok r) h = tt
      by (Err e) h = same_kept es fs path h

pub unseeded_table : {T E : Type 0} (res : Result T E) (floor front : ℕ) (es fs : List (List ℕ × Track)) → OnErr res ((x : List ℕ) → Same (at_key es x) (at_key fs x))
    → OnErr res (IsSameTable (record { floor = floor; front = front; repos = from_entries es }) (record { floor = floor; front = front; repos = from_entries fs }))
unseeded_table (Ok r) floor front es fs h = tt
unseeded_table (Err e) floor front es fs h = same_table floor front es fs h
