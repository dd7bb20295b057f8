-- Laws of one repository's representation.
use Rattle.std.proofs.Common.{◌≡◌, ℕ, Bool, List, [], ◌∷◌, Option, Some, None, Result, Ok, Err, OnOk, IsTrue, sym, ap, ◌∙◌, subst}
use Rattle.std.specs.FinMap as map
use Rattle.std.specs.FinMap.{from_entries}
use Rattle.gt_model.specs.Contents.{key_cmp}
use Rattle.gt_versions.specs.Versions.{last_at, ready, IsUpTo}
use Rattle.gt_versions.specs.Lives.{lives_since, value_since}
use Rattle.gt_versions.proofs.Keys.{at_key, get_key}
use Rattle.gt_objset.specs.declared.place.Place.{Place}
use Rattle.gt_objset.specs.Track.{Track, items_of, slot_ready, own_of, own_in_track, HasSlots, HasRoom, PutsSlots, put_if, AreRoomier, IsTrackUpTo}
use Rattle.gt_objset.specs.Places.{last_put}

pub slots_same : (q : ℕ) (f g : List ℕ → Option (List (ℕ × Option Place) × ℕ)) → ((x : List ℕ) → f x ≡ g x) → (ps : List (List ℕ × Option Place)) → HasSlots q f ps → HasSlots q g ps
slots_same q f g e [] h = tt
slots_same q f g e (p ∷ ps) h = (let P : Option (List (ℕ × Option Place) × ℕ) → Type 0 = λ s. IsTrue (slot_ready q s) in subst P (e p.0) h.0, slots_same q f g e ps h.1)

module _ (lives : List (ℕ × Bool) × ℕ) (kinds : List (ℕ × Option Bool) × ℕ) (pools : List (ℕ × Option (List ℕ)) × ℕ) (es : List (List ℕ × (List (ℕ × Option Place) × ℕ))) where
  abbrev pub track : Track
  track = record { lives = lives; kinds = kinds; pools = pools; objects = from_entries es }

  pub own_found : (p : ℕ) (x : List ℕ) (start : ℕ) (r : Option Place) → Some start ≡ lives_since lives.0 p → r ≡ value_since start (last_at (items_of (at_key es x)) p None) → r ≡ own_in_track track p x
  own_found p x start r a b =
      b ∙ ap (λ s. value_since start (last_at (items_of s) p None)) (sym (get_key es x))
      ∙ ap (λ l. own_of l (last_at (items_of (map.get track.objects x)) p None)) a

  pub upto_in_tree : (q : ℕ) → IsTrackUpTo q track → (x : List ℕ) → IsUpTo q (items_of (at_key es x))
  upto_in_tree q u x = let S : Option (List (ℕ × Option Place) × ℕ) → Type 0 = λ s. IsUpTo q (items_of s) in subst S (get_key es x) (u.objects x)

  pub room_in_tree : (q : ℕ) (ps : List (List ℕ × Option Place)) → HasRoom q ps track → HasSlots q (λ x. at_key es x) ps
  room_in_tree q ps h = slots_same q (λ x. map.get track.objects x) (λ x. at_key es x) (get_key es) ps h.slots

  pub room_of_tree : {T E : Type 0} (res : Result T E) (ps : List (List ℕ × Option Place)) → ((q : ℕ) → IsTrue (ready q lives)) → ((q : ℕ) → IsTrue (ready q kinds)) → ((q : ℕ) → IsTrue (ready q pools))
      → OnOk res ((q : ℕ) → HasSlots q (λ x. at_key es x) ps) → OnOk res ((q : ℕ) → HasRoom q ps track)
  room_of_tree (Ok r) ps l k p h = λ q. record { lives = l q; kinds = k q; pools = p q; slots = slots_same q (λ x. at_key es x) (λ x. map.get track.objects x) (λ x. sym (get_key es x)) ps (h q) }
  room_of_tree (Err e) ps l k p h = tt

pub puts_of_tree : (q : ℕ) (es fs : List (List ℕ × (List (ℕ × Option Place) × ℕ))) (ps : List (List ℕ × Option Place)) → PutsSlots q ps (λ x. at_key es x) (λ x. at_key fs x) → PutsSlots q ps (λ x. map.get (from_entries {R = key_cmp} es) x) (λ x. map.get (from_entries {R = key_cmp} fs) x)
puts_of_tree q es fs ps h x = ap items_of (get_key fs x) ∙ h x ∙ sym (ap (λ s. put_if q (last_put ps x None) (items_of s)) (get_key es x))

pub items_of_tree : (es fs : List (List ℕ × (List (ℕ × Option Place) × ℕ))) → AreRoomier (λ x. at_key es x) (λ x. at_key fs x) → (x : List ℕ) → items_of (map.get (from_entries {R = key_cmp} fs) x) ≡ items_of (map.get (from_entries {R = key_cmp} es) x)
items_of_tree es fs h x = ap items_of (get_key fs x) ∙ h.items x ∙ sym (ap items_of (get_key es x))
