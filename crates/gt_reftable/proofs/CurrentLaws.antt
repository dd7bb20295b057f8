-- The newest references, none where those that stand there are of an earlier life.
use Rattle.std.proofs.Common.{◌≡◌, ℕ, ◌≤◌, Bool, true, false, cond, not, is_some, List, [], ◌∷◌, length, drop, Option, Some, None, Result, OnOk, IsTrue, refl, sym, ap, ◌∙◌, subst}
use Rattle.std.specs.Ordering.{eq_by_cmp}
use Rattle.std.specs.Cmp.Lexicographic.{nat_list_cmp_total}
use Rattle.std.specs.FinMap as map
use Rattle.std.specs.FinMap.{FinMap, get-empty, get-remove}
use Rattle.gt_model.specs.Contents.{key_cmp}
use Rattle.gt_model.specs.declared.update.RefUpdate.{RefUpdate}
use Rattle.gt_versions.specs.Versions.{IsUpTo}
use Rattle.gt_versions.proofs.Keys.{flip, get-same}
use Rattle.gt_slots.specs.Slots.{items_of, slot_ready, PutsRef, IsRoomier}
use Rattle.gt_slots.proofs.ListLaws.{drop_end}
use Rattle.gt_reftable.specs.Tracks.{named_at, step_trim, trimmed}
use Rattle.gt_reftable.proofs.TrackLaws.{slots_same}

abbrev Map : Type 0
Map = FinMap key_cmp (List (ℕ × Option (List ℕ)) × ℕ)

no_room : (q : ℕ) (name : List ℕ) → IsTrue (slot_ready q (map.get {R = key_cmp} map.empty name)) → ⊥
no_room q name h =
    let P : Option (List (ℕ × Option (List ℕ)) × ℕ) → Type 0 = λ s. IsTrue (slot_ready q s) in
    let no : false ≡ true = subst P (get-empty key_cmp name) h in
    cc

module _ (q : ℕ) (name : List ℕ) (m : Map) where
  pub room_of : (b : Bool) → IsTrue (slot_ready q (map.get (cond b map.empty m) name)) → IsTrue (slot_ready q (map.get m name))
  room_of true h = absurd (no_room q name h)
  room_of false h = h

  pub upto_of : (b : Bool) → IsTrue (slot_ready q (map.get (cond b map.empty m) name)) → IsUpTo q (items_of (map.get (cond b map.empty m) name)) → IsUpTo q (items_of (map.get m name))
  upto_of true r h = absurd (no_room q name r)
  upto_of false r h = h

  pub put_of : (b : Bool) (v : Option (List ℕ)) (n : Map) → IsTrue (slot_ready q (map.get (cond b map.empty m) name)) → PutsRef q name v m n → PutsRef q name v (cond b map.empty m) (cond b map.empty n)
  put_of true v n r h = absurd (no_room q name r)
  put_of false v n r h = h

-- room is taken among those that count
module _ {T E : Type 0} (res : Result T E) (b c : Bool) (old mid new : Map) where
  pub begun : c ≡ false → mid ≡ cond b map.empty old → IsRoomier mid new → IsRoomier (cond b map.empty old) (cond c map.empty new)
  begun e is h =
      let P : Bool → Type 0 = λ a. IsRoomier (cond b map.empty old) (cond a map.empty new) in
      let Q : Map → Type 0 = λ m. IsRoomier m new in
      subst P (sym e) (subst Q is h)

  pub begun_ok : (name : List ℕ) → c ≡ false → OnOk res ((q : ℕ) → IsTrue (slot_ready q (map.get new name))) → OnOk res ((q : ℕ) → IsTrue (slot_ready q (map.get (cond c map.empty new) name)))
  begun_ok name e h = let P : Bool → Type 0 = λ a. OnOk res ((q : ℕ) → IsTrue (slot_ready q (map.get (cond a map.empty new) name))) in subst P (sym e) h

pub not_begun : (b c : Bool) (old new : Map) → c ≡ b → new ≡ old → IsRoomier (cond b map.empty old) (cond c map.empty new)
not_begun b c old new e is =
    let P : Map → Type 0 = λ m. IsRoomier (cond b map.empty old) m in
    subst P (sym (ap (λ a. cond a map.empty new) e ∙ ap (cond b map.empty) is)) (slots_same (cond b map.empty old))

-- what names nothing is taken out
trim_nothing : (q : ℕ) (b : Bool) → [] ≡ step_trim q b []
trim_nothing q true = refl
trim_nothing q false = refl

trim_empty : (q : ℕ) (name x : List ℕ) → items_of (map.get {R = key_cmp} map.empty x) ≡ step_trim q (eq_by_cmp key_cmp x name) (items_of (map.get {R = key_cmp} map.empty x))
trim_empty q name x =
    let e : items_of (map.get {R = key_cmp} map.empty x) ≡ [] = ap items_of (get-empty key_cmp x) in
    e ∙ trim_nothing q (eq_by_cmp key_cmp x name) ∙ sym (ap (step_trim q (eq_by_cmp key_cmp x name)) e)

pub trim_of : (q : ℕ) (name : List ℕ) (b : Bool) (m n : Map) → ((x : List ℕ) → items_of (map.get n x) ≡ step_trim q (eq_by_cmp key_cmp x name) (items_of (map.get m x)))
    → (x : List ℕ) → items_of (map.get (cond b map.empty n) x) ≡ step_trim q (eq_by_cmp key_cmp x name) (items_of (map.get (cond b map.empty m) x))
trim_of q name true m n h x = trim_empty q name x
trim_of q name false m n h x = h x

module _ (q : ℕ) (name : List ℕ) (m : Map) where
  pub trim_removed : (n : Map) → n ≡ map.remove m name → named_at q (items_of (map.get m name)) ≡ None → (x : List ℕ) → items_of (map.get n x) ≡ step_trim q (eq_by_cmp key_cmp x name) (items_of (map.get m x))
  trim_removed n is none x = ap (λ k. items_of (map.get k x)) is ∙ ap items_of (get-remove nat_list_cmp_total m name x) ∙ by (eq_by_cmp key_cmp x name) refl
    where
      by : (b : Bool) → eq_by_cmp key_cmp x name ≡ b → items_of (cond b None (map.get m x)) ≡ step_trim q b (items_of (map.get m x))
      by true t =
          let same = ap (λ s. named_at q (items_of s)) (get-same m name x (flip name x ∙ t)) ∙ none in
          sym (ap (λ o. cond (not (is_some o)) [] (items_of (map.get m x))) same)
      by false t = refl

  pub trim_kept : is_some (named_at q (items_of (map.get m name))) ≡ true → (x : List ℕ) → items_of (map.get m x) ≡ step_trim q (eq_by_cmp key_cmp x name) (items_of (map.get m x))
  trim_kept some x = by (eq_by_cmp key_cmp x name) refl
    where
      by : (b : Bool) → eq_by_cmp key_cmp x name ≡ b → items_of (map.get m x) ≡ step_trim q b (items_of (map.get m x))
      by true t =
          let same = ap (λ s. is_some (named_at q (items_of s))) (get-same m name x (flip name x ∙ t)) ∙ some in
          sym (ap (λ b. cond (not b) [] (items_of (map.get m x))) same)
      by false t = refl

pub none_of : (o : Option (List ℕ)) (b : Bool) → is_some o ≡ not b → b ≡ true → o ≡ None
none_of None b h t = refl
none_of (Some v) b h t = let no : true ≡ false = h ∙ ap not t in let bad : ⊥ = cc in absurd bad

pub some_of : (o : Option (List ℕ)) (b : Bool) → is_some o ≡ not b → b ≡ false → is_some o ≡ true
some_of o b h t = h ∙ ap not t

-- one update more is gone through
pub trim_more : (q : ℕ) (x : List ℕ) (us rest : List RefUpdate) (u : RefUpdate) (m n : Map) (whole : List (ℕ × Option (List ℕ))) → us ≡ u ∷ rest → items_of (map.get n x) ≡ step_trim q (eq_by_cmp key_cmp x u.name) (items_of (map.get m x))
    → trimmed q us x (items_of (map.get m x)) ≡ whole → trimmed q rest x (items_of (map.get n x)) ≡ whole
trim_more q x us rest u m n whole e h inv = ap (trimmed q rest x) h ∙ sym (ap (λ vs. trimmed q vs x (items_of (map.get m x))) e) ∙ inv

pub trim_end : (q : ℕ) (x : List ℕ) (us : List RefUpdate) (i : ℕ) (es : List (ℕ × Option (List ℕ))) → length us ≤ i → trimmed q (drop i us) x es ≡ es
trim_end q x us i es l = ap (λ vs. trimmed q vs x es) (drop_end us i l)
