-- Laws of the versions of one repository's objects.
use Rattle.std.proofs.Common.{◌≡◌, ℕ, ◌+◌, ◌<◌, ◌≤◌, Bool, true, false, cond, nat_eq, nat_lt, List, [], ◌∷◌, ◌++◌, ◌||◌, length, slice_index_or, drop, suc, zero, add-one, drop-cons, Option, Some, None, IsSome, IsTrue, refl, sym, ap, ◌∙◌, subst, arith}
use Rattle.std.proofs.lemmas.Bool.Decides.{nat_tests}
use Rattle.std.specs.Option.{option_or}
use Rattle.std.specs.Ordering.{eq_by_cmp}
use Rattle.gt_model.specs.Contents.{key_cmp}
use Rattle.gt_versions.specs.Versions.{IsUpTo, put_at, before, is_last}
use Rattle.gt_versions.proofs.Keys.{flip, at_key, at_key-same}
use Rattle.gt_versions.proofs.VersionLaws.{before-append, is_last-put, upto-put}
use Rattle.gt_objset.specs.declared.place.Place.{Place}
use Rattle.gt_objset.specs.Places.{last_put}
use Rattle.gt_objset.specs.Track.{items_of, slot_ready, HasSlots, put_if, AreRoomier}

pub item_of : {A : Type 0} (us : List A) (i : ℕ) (u : A) → i < length us → u ≡ slice_index_or us i u → drop i us ≡ u ∷ drop (i + 1) us
item_of us i u l e = rw (add-one, drop-cons us i u l) (ap (λ w. w ∷ drop (suc i) us) (sym e))

-- of two versions at one position the second counts
pub put_put : {V : Type 0} (q : ℕ) (v w : V) (es : List (ℕ × V)) → put_at q w (put_at q v es) ≡ put_at q w es
put_put q v w es =
    let on : nat_eq q q ≡ true = grind (arith, nat_tests) in
    ap (λ l. l ++ (q, w) ∷ []) (before-append q (before q es) (q, v) ∙ ap (λ b. cond b (before q es) (before q es ++ (q, v) ∷ [])) on)

pub last_put-found : (ps : List (List ℕ × Option Place)) (x : List ℕ) (found : Option (Option Place)) → last_put ps x found ≡ option_or (last_put ps x None) found
last_put-found [] x found = refl
last_put-found (p ∷ ps) x found = by (eq_by_cmp key_cmp x p.0) (last_put-found ps x (Some p.1)) (last_put-found ps x found)
  where
    some_or : (o : Option (Option Place)) → option_or o (Some p.1) ≡ option_or (option_or o (Some p.1)) found
    some_or None = refl
    some_or (Some y) = refl

    by : (b : Bool) → last_put ps x (Some p.1) ≡ option_or (last_put ps x None) (Some p.1) → last_put ps x found ≡ option_or (last_put ps x None) found
        → last_put ps x (cond b (Some p.1) found) ≡ option_or (last_put ps x (cond b (Some p.1) None)) found
    by true h k = h ∙ some_or (last_put ps x None) ∙ ap (λ o. option_or o found) (sym h)
    by false h k = k

put_more : (q : ℕ) (v : Option Place) (ps : List (List ℕ × Option Place)) (x : List ℕ) (es : List (ℕ × Option Place)) → put_if q (last_put ps x None) (put_at q v es) ≡ put_if q (last_put ps x (Some v)) es
put_more q v ps x es = by (last_put ps x None) ∙ ap (λ o. put_if q o es) (sym (last_put-found ps x (Some v)))
  where
    by : (o : Option (Option Place)) → put_if q o (put_at q v es) ≡ put_if q (option_or o (Some v)) es
    by None = refl
    by (Some w) = put_put q v w es

or_right : (b c : Bool) → c ≡ true → (b || c) ≡ true
or_right true c h = refl
or_right false c h = h

ready_put : (q : ℕ) (v : Option Place) (es : List (ℕ × Option Place)) (s : Option (List (ℕ × Option Place) × ℕ)) → IsSome s → items_of s ≡ put_at q v es → IsTrue (slot_ready q s)
ready_put q v es None i h = let no : ⊥ = grind arith in absurd no
ready_put q v es (Some s) i h = or_right (nat_lt 0 s.1) (is_last q s.0) (ap (is_last q) h ∙ is_last-put q v es)

module _ (q : ℕ) (n : List ℕ) (v : Option Place) (es fs : List (List ℕ × (List (ℕ × Option Place) × ℕ)))
    (here : items_of (at_key fs n) ≡ put_at q v (items_of (at_key es n))) (some : IsSome (at_key fs n))
    (others : (x : List ℕ) → eq_by_cmp key_cmp n x ≡ false → at_key fs x ≡ at_key es x) where
  slot_here : (x : List ℕ) → eq_by_cmp key_cmp n x ≡ true → items_of (at_key fs x) ≡ put_at q v (items_of (at_key es x))
  slot_here x t = ap items_of (at_key-same fs n x t) ∙ here ∙ ap (λ s. put_at q v (items_of s)) (sym (at_key-same es n x t))

  pub put_upto : ((x : List ℕ) → IsUpTo q (items_of (at_key es x))) → (x : List ℕ) → IsUpTo q (items_of (at_key fs x))
  put_upto u x = one (eq_by_cmp key_cmp n x) refl
    where
      one : (b : Bool) → eq_by_cmp key_cmp n x ≡ b → IsUpTo q (items_of (at_key fs x))
      one true t = let S : List (ℕ × Option Place) → Type 0 = λ s. IsUpTo q s in subst S (sym (slot_here x t)) (upto-put q v (items_of (at_key es x)) (u x))
      one false t = let S : Option (List (ℕ × Option Place) × ℕ) → Type 0 = λ s. IsUpTo q (items_of s) in subst S (sym (others x t)) (u x)

  pub put_room : (ps : List (List ℕ × Option Place)) → HasSlots q (λ x. at_key es x) ps → HasSlots q (λ x. at_key fs x) ps
  put_room [] r = tt
  put_room (p ∷ ps) r = (one (eq_by_cmp key_cmp n p.0) refl, put_room ps r.1)
    where
      one : (b : Bool) → eq_by_cmp key_cmp n p.0 ≡ b → IsTrue (slot_ready q (at_key fs p.0))
      one true t = let S : Option (List (ℕ × Option Place) × ℕ) → Type 0 = λ s. IsTrue (slot_ready q s) in subst S (sym (at_key-same fs n p.0 t)) (ready_put q v (items_of (at_key es n)) (at_key fs n) some here)
      one false t = let S : Option (List (ℕ × Option Place) × ℕ) → Type 0 = λ s. IsTrue (slot_ready q s) in subst S (sym (others p.0 t)) r.0

  pub put_done : (ps : List (List ℕ × Option Place)) (x : List ℕ) → put_if q (last_put ps x None) (items_of (at_key fs x)) ≡ put_if q (last_put ((n, v) ∷ ps) x None) (items_of (at_key es x))
  put_done ps x = by (eq_by_cmp key_cmp x n) refl
    where
      by : (b : Bool) → eq_by_cmp key_cmp x n ≡ b → put_if q (last_put ps x None) (items_of (at_key fs x)) ≡ put_if q (last_put ps x (cond b (Some v) None)) (items_of (at_key es x))
      by true t = ap (put_if q (last_put ps x None)) (slot_here x (flip n x ∙ t)) ∙ put_more q v ps x (items_of (at_key es x))
      by false t = ap (λ s. put_if q (last_put ps x None) (items_of s)) (others x (flip n x ∙ t))

pub rest_room : (q : ℕ) (slots : List ℕ → Option (List (ℕ × Option Place) × ℕ)) (ps rest : List (List ℕ × Option Place)) (p : List ℕ × Option Place) → ps ≡ p ∷ rest → HasSlots q slots ps → IsTrue (slot_ready q (slots p.0)) × HasSlots q slots rest
rest_room q slots ps rest p e h = let P : List (List ℕ × Option Place) → Type 0 = λ vs. HasSlots q slots vs in let both : HasSlots q slots (p ∷ rest) = subst P e h in both

pub with_room : (q : ℕ) (slots : List ℕ → Option (List (ℕ × Option Place) × ℕ)) (ps rest : List (List ℕ × Option Place)) (p : List ℕ × Option Place) → ps ≡ p ∷ rest → IsTrue (slot_ready q (slots p.0)) → HasSlots q slots rest → HasSlots q slots ps
with_room q slots ps rest p e h r = let P : List (List ℕ × Option Place) → Type 0 = λ vs. HasSlots q slots vs in subst P (sym e) (h, r)

pub room_end : (q : ℕ) (slots : List ℕ → Option (List (ℕ × Option Place) × ℕ)) (ps : List (List ℕ × Option Place)) (i : ℕ) → length ps ≤ i → HasSlots q slots (drop i ps)
room_end q slots [] zero l = tt
room_end q slots [] (suc i) l = tt
room_end q slots (p ∷ ps) zero l = let no : ⊥ = omega arith in absurd no
room_end q slots (p ∷ ps) (suc i) l = room_end q slots ps i (omega arith)

-- nothing is left of a list that was gone through
pub put_end : (q : ℕ) (ps : List (List ℕ × Option Place)) (i : ℕ) (x : List ℕ) (es : List (ℕ × Option Place)) → length ps ≤ i → put_if q (last_put (drop i ps) x None) es ≡ es
put_end q [] zero x es l = refl
put_end q [] (suc i) x es l = refl
put_end q (p ∷ ps) zero x es l = let no : ⊥ = omega arith in absurd no
put_end q (p ∷ ps) (suc i) x es l = put_end q ps i x es (omega arith)

-- ---- room

pub same_room : (f : List ℕ → Option (List (ℕ × Option Place) × ℕ)) → AreRoomier f f
same_room f = record { items = λ x. refl; kept = λ q x t. t }

pub more_room : (f g h : List ℕ → Option (List (ℕ × Option Place) × ℕ)) → AreRoomier f g → AreRoomier g h → AreRoomier f h
more_room f g h a b = record { items = λ x. b.items x ∙ a.items x; kept = λ q x t. b.kept q x (a.kept q x t) }

module _ (es fs : List (List ℕ × (List (ℕ × Option Place) × ℕ))) (n : List ℕ) (others : (x : List ℕ) → eq_by_cmp key_cmp n x ≡ false → at_key fs x ≡ at_key es x) where
  pub roomier : items_of (at_key fs n) ≡ items_of (at_key es n) → ((q : ℕ) → IsTrue (slot_ready q (at_key es n)) → IsTrue (slot_ready q (at_key fs n))) → AreRoomier (λ x. at_key es x) (λ x. at_key fs x)
  roomier here kept = record { items = λ x. same x (eq_by_cmp key_cmp n x) refl; kept = λ q x t. stays q x (eq_by_cmp key_cmp n x) refl t }
    where
      same : (x : List ℕ) (b : Bool) → eq_by_cmp key_cmp n x ≡ b → items_of (at_key fs x) ≡ items_of (at_key es x)
      same x true t = ap items_of (at_key-same fs n x t) ∙ here ∙ sym (ap items_of (at_key-same es n x t))
      same x false t = ap items_of (others x t)

      stays : (q : ℕ) (x : List ℕ) (b : Bool) → eq_by_cmp key_cmp n x ≡ b → IsTrue (slot_ready q (at_key es x)) → IsTrue (slot_ready q (at_key fs x))
      stays q x true t h = let P : Option (List (ℕ × Option Place) × ℕ) → Type 0 = λ s. IsTrue (slot_ready q s) in subst P (sym (at_key-same fs n x t)) (kept q (subst P (at_key-same es n x t) h))
      stays q x false t h = let P : Option (List (ℕ × Option Place) × ℕ) → Type 0 = λ s. IsTrue (slot_ready q s) in subst P (sym (others x t)) h

  pub roomier_new : at_key es n ≡ None → items_of (at_key fs n) ≡ [] → AreRoomier (λ x. at_key es x) (λ x. at_key fs x)
  roomier_new none here = roomier (here ∙ sym (ap items_of none)) (λ q t. let P : Option (List (ℕ × Option Place) × ℕ) → Type 0 = λ s. IsTrue (slot_ready q s) in let no : false ≡ true = subst P none t in let bad : ⊥ = cc in absurd bad)
