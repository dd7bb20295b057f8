-- Laws of the room and of the newest positions of one repository.
use Rattle.std.proofs.Common.{◌≡◌, ℕ, ◌+◌, ◌<◌, ◌≤◌, Bool, true, false, List, [], ◌∷◌, Option, Some, None, Result, Ok, Err, OnOk, IsTrue, length, slice_index_or, drop, suc, zero, add-one, drop-cons, refl, sym, ap, ◌∙◌, subst, arith}
use Rattle.std.specs.Ordering.{eq_by_cmp}
use Rattle.std.specs.FinMap as map
use Rattle.std.specs.FinMap.{FinMap}
use Rattle.gt_model.specs.Contents.{key_cmp}
use Rattle.gt_model.specs.declared.update.RefUpdate.{RefUpdate}
use Rattle.gt_versions.specs.Versions.{last_at, IsUpTo}
use Rattle.gt_versions.specs.Lives.{start_of, value_since}
use Rattle.gt_versions.proofs.Keys.{get-same}
use Rattle.gt_versions.proofs.VersionLaws.{last_at-past, upto-put, upto_more}
use Rattle.gt_slots.specs.Slots as slots
use Rattle.gt_slots.specs.Slots.{items_of, slot_ready, PutsRef}
use Rattle.gt_reftable.specs.Tracks.{Track, start, value_in, named_at, IsInStep, IsTrackUpTo, HasPlace, HasRoom, IsRoomier, given, PutsNew, PutsUpdate}

-- past the newest nothing changes
pub value_past : (q p : ℕ) (t : Track) (x : List ℕ) → q ≤ p → IsInStep q t → value_in t p x ≡ value_in t q x
value_past q p t x l h =
    ap (λ v. value_since (start_of v) (last_at (items_of (map.get t.refs x)) p None)) (last_at-past q p t.lives.0 None l h.lives)
    ∙ ap (value_since (start t q)) (last_at-past q p (items_of (map.get t.refs x)) None l (h.refs x))

pub step_more : (q r : ℕ) (t : Track) → q ≤ r → IsInStep q t → IsInStep r t
step_more q r t l h = record {
  lives = upto_more q r t.lives.0 l h.lives;
  refs = λ x. upto_more q r (items_of (map.get t.refs x)) l (h.refs x);
  current = λ x. upto_more q r (items_of (map.get t.current x)) l (h.current x);
  newest = λ x. ap (value_since 0) (last_at-past q r (items_of (map.get t.current x)) None l (h.current x)) ∙ h.newest x ∙ sym (value_past q r t x l h);
}

pub up_more : (q r : ℕ) (t : Track) → q ≤ r → IsTrackUpTo q t → IsTrackUpTo r t
up_more q r t l h = record { values = step_more q r t l h.values; gone = λ x e. h.gone x (sym (value_past q r t x l h.values) ∙ e) }

-- ---- room that is only more

pub roomier_value : (r s : Track) → IsRoomier r s → (p : ℕ) (x : List ℕ) → value_in s p x ≡ value_in r p x
roomier_value r s h p x =
    ap (λ es. value_since (start_of (last_at es p None)) (last_at (items_of (map.get s.refs x)) p None)) h.lives
    ∙ ap (λ es. value_since (start_of (last_at r.lives.0 p None)) (last_at es p None)) (h.refs.items x)

pub roomier_up : (q : ℕ) (r s : Track) → IsRoomier r s → IsTrackUpTo q r → IsTrackUpTo q s
roomier_up q r s h up = record {
  values = record {
    lives = let P : List (ℕ × Bool) → Type 0 = λ es. IsUpTo q es in subst P (sym h.lives) up.values.lives;
    refs = λ x. let P : List (ℕ × Option (List ℕ)) → Type 0 = λ es. IsUpTo q es in subst P (sym (h.refs.items x)) (up.values.refs x);
    current = λ x. let P : List (ℕ × Option (List ℕ)) → Type 0 = λ es. IsUpTo q es in subst P (sym (h.current.items x)) (up.values.current x);
    newest = λ x. ap (named_at q) (h.current.items x) ∙ up.values.newest x ∙ sym (roomier_value r s h q x);
  };
  gone = λ x e. h.current.items x ∙ up.gone x (sym (roomier_value r s h q x) ∙ e);
}

pub roomier_more : (a b c : Track) → IsRoomier a b → IsRoomier b c → IsRoomier a c
roomier_more a b c g h = record {
  lives = h.lives ∙ g.lives;
  refs = record { items = λ x. h.refs.items x ∙ g.refs.items x; kept = λ q x t. h.refs.kept q x (g.refs.kept q x t) };
  current = record { items = λ x. h.current.items x ∙ g.current.items x; kept = λ q x t. h.current.kept q x (g.current.kept q x t) };
  life_kept = λ q t. h.life_kept q (g.life_kept q t);
}

pub slots_same : (m : FinMap key_cmp (List (ℕ × Option (List ℕ)) × ℕ)) → slots.IsRoomier m m
slots_same m = record { items = λ x. refl; kept = λ q x t. t }

pub roomier_same : (a : Track) → IsRoomier a a
roomier_same a = record { lives = refl; refs = slots_same a.refs; current = slots_same a.current; life_kept = λ q t. t }

pub item_of : (us : List RefUpdate) (i : ℕ) (u : RefUpdate) → i < length us → u ≡ slice_index_or us i u → drop i us ≡ u ∷ drop (i + 1) us
item_of us i u l e = rw (add-one, drop-cons us i u l) (ap (λ w. w ∷ drop (suc i) us) (sym e))

-- ---- room for updates

place_kept : (q : ℕ) (s t : Track) (name : List ℕ) (new : Option (List ℕ)) → IsRoomier s t → HasPlace q s name new → HasPlace q t name new
place_kept q s t name None r h = tt
place_kept q s t name (Some v) r h = (r.refs.kept q name h.0, r.current.kept q name h.1)

pub room_with : (q : ℕ) (s t : Track) (us rest : List RefUpdate) (u : RefUpdate) → us ≡ u ∷ rest → IsRoomier s t → HasPlace q s u.name u.new → HasRoom q t rest → HasRoom q t us
room_with q s t us rest u e k h r = let P : List RefUpdate → Type 0 = λ vs. HasRoom q t vs in subst P (sym e) (place_kept q s t u.name u.new k h, r)

pub room_of_rest : (q : ℕ) (t : Track) (us rest : List RefUpdate) (u : RefUpdate) → us ≡ u ∷ rest → HasRoom q t us → HasRoom q t rest
room_of_rest q t us rest u e h = let P : List RefUpdate → Type 0 = λ vs. HasRoom q t vs in let both : HasRoom q t (u ∷ rest) = subst P e h in both.1

pub place_of_first : (q : ℕ) (t : Track) (us rest : List RefUpdate) (u : RefUpdate) → us ≡ u ∷ rest → HasRoom q t us → HasPlace q t u.name u.new
place_of_first q t us rest u e h = let P : List RefUpdate → Type 0 = λ vs. HasRoom q t vs in let both : HasRoom q t (u ∷ rest) = subst P e h in both.0

pub room_end : (q : ℕ) (t : Track) (us : List RefUpdate) (i : ℕ) → length us ≤ i → HasRoom q t (drop i us)
room_end q t [] zero l = tt
room_end q t [] (suc i) l = tt
room_end q t (u ∷ us) zero l = let no : ⊥ = omega arith in absurd no
room_end q t (u ∷ us) (suc i) l = room_end q t us i (omega arith)

-- ---- an update

ready_after : (q : ℕ) (name : List ℕ) (v : Option (List ℕ)) (old new : FinMap key_cmp (List (ℕ × Option (List ℕ)) × ℕ)) → PutsRef q name v old new → (x : List ℕ) → IsTrue (slot_ready q (map.get old x)) → IsTrue (slot_ready q (map.get new x))
ready_after q name v old new h x r = one (eq_by_cmp key_cmp name x) refl
  where
    one : (b : Bool) → eq_by_cmp key_cmp name x ≡ b → IsTrue (slot_ready q (map.get new x))
    one true t = let S : Option (List (ℕ × Option (List ℕ)) × ℕ) → Type 0 = λ s. IsTrue (slot_ready q s) in subst S (sym (get-same new name x t)) h.ready_again
    one false t = let S : Option (List (ℕ × Option (List ℕ)) × ℕ) → Type 0 = λ s. IsTrue (slot_ready q s) in subst S (sym (h.others x t)) r

refs_ready : (q : ℕ) (name : List ℕ) (v : Option (List ℕ)) (old new : FinMap key_cmp (List (ℕ × Option (List ℕ)) × ℕ)) → PutsNew q name v old new → (x : List ℕ) → IsTrue (slot_ready q (map.get old x)) → IsTrue (slot_ready q (map.get new x))
refs_ready q name None old new h x r = let S : FinMap key_cmp (List (ℕ × Option (List ℕ)) × ℕ) → Type 0 = λ m. IsTrue (slot_ready q (map.get m x)) in subst S (sym h) r
refs_ready q name (Some v) old new h x r = ready_after q name (given v) old new h x r

place_after : (q : ℕ) (u : RefUpdate) (old new : Track) → PutsUpdate q u old new → (name : List ℕ) (v : Option (List ℕ)) → HasPlace q old name v → HasPlace q new name v
place_after q u old new h name None r = tt
place_after q u old new h name (Some v) r = (refs_ready q u.name u.new old.refs new.refs h.refs name r.0, refs_ready q u.name u.new old.current new.current h.current name r.1)

-- room for later updates stays
pub room_after : (q : ℕ) (u : RefUpdate) (old new : Track) → PutsUpdate q u old new → (us : List RefUpdate) → HasRoom q old us → HasRoom q new us
room_after q u old new h [] r = tt
room_after q u old new h (w ∷ ws) r = (place_after q u old new h w.name w.new r.0, room_after q u old new h ws r.1)

pub upto_put : (q : ℕ) (name : List ℕ) (v : Option (List ℕ)) (old new : FinMap key_cmp (List (ℕ × Option (List ℕ)) × ℕ)) → PutsRef q name v old new → ((x : List ℕ) → IsUpTo q (items_of (map.get old x))) → (x : List ℕ) → IsUpTo q (items_of (map.get new x))
upto_put q name v old new h u x = one (eq_by_cmp key_cmp name x) refl
  where
    one : (b : Bool) → eq_by_cmp key_cmp name x ≡ b → IsUpTo q (items_of (map.get new x))
    one true t = let S : List (ℕ × Option (List ℕ)) → Type 0 = λ s. IsUpTo q s in subst S (sym (ap items_of (get-same new name x t) ∙ h.here)) (upto-put q v (items_of (map.get old name)) (u name))
    one false t = let S : Option (List (ℕ × Option (List ℕ)) × ℕ) → Type 0 = λ s. IsUpTo q (items_of s) in subst S (sym (h.others x t)) (u x)

pub upto_new : (q : ℕ) (name : List ℕ) (v : Option (List ℕ)) (old new : FinMap key_cmp (List (ℕ × Option (List ℕ)) × ℕ)) → PutsNew q name v old new → ((x : List ℕ) → IsUpTo q (items_of (map.get old x))) → (x : List ℕ) → IsUpTo q (items_of (map.get new x))
upto_new q name None old new h u x = let S : FinMap key_cmp (List (ℕ × Option (List ℕ)) × ℕ) → Type 0 = λ m. IsUpTo q (items_of (map.get m x)) in subst S (sym h) (u x)
upto_new q name (Some v) old new h u x = upto_put q name (given v) old new h u x

pub place_ok : {T E : Type 0} (res : Result T E) (t : Track) (name : List ℕ) (new : Option (List ℕ)) → ((q : ℕ) → IsTrue (slot_ready q (map.get t.refs name))) → OnOk res ((q : ℕ) → IsTrue (slot_ready q (map.get t.current name))) → OnOk res ((q : ℕ) → HasPlace q t name new)
place_ok (Err e) t name new r h = tt
place_ok (Ok x) t name None r h = λ q. tt
place_ok (Ok x) t name (Some v) r h = λ q. (r q, h q)
