-- The page that an entry goes into, and its room.
use Rattle.std.proofs.Common.{◌≡◌, ℕ, zero, suc, ◌<◌, ◌≤◌, List, [], ◌∷◌, ◌++◌, length, drop, slice_set, insert, Result, Ok, Err, OnOk, refl, sym, ap, ◌∙◌, subst, arith, length-append}
use Rattle.gt_slots.specs.Pages.{page_limit, all, AllBefore, NoneBefore, IsWell, page, front, rest, IsPlace, HasRoom, IsSplit}
use Rattle.gt_slots.proofs.EditLaws.{all_before_end, page_short}

module _ {X : Type 0} where
  -- no entry is both before a text and not
  not_both : (t : List ℕ) (p : List (List ℕ × X)) (j : ℕ) (xs ys : List (List ℕ × X)) → j < length p → AllBefore t (p ++ xs) → NoneBefore t (drop j p ++ ys) → ⊥
  not_both t [] j xs ys l a n = omega arith
  not_both t (e ∷ es) zero xs ys l a n = let yes = a.0 in let no = n.0 in cc
  not_both t (e ∷ es) (suc j) xs ys l a n = not_both t es j xs ys (omega arith) a.1 n

  right_before : (t : List ℕ) (p xs : List (List ℕ × X)) → AllBefore t (p ++ xs) → AllBefore t xs
  right_before t [] xs a = a
  right_before t (e ∷ es) xs a = right_before t es xs a.1

  not_all : (t : List ℕ) (ps : List (List (List ℕ × X))) (i j : ℕ) → i < length ps → j < length (page ps i) → AllBefore t (all ps) → NoneBefore t (rest ps i j) → ⊥
  not_all t [] i j l m a n = omega arith
  not_all t (p ∷ ps) zero j l m a n = not_both t p j (all ps) (all ps) m a n
  not_all t (p ∷ ps) (suc i) j l m a n = not_all t ps i j (omega arith) m (right_before t p (all ps) a) n

  -- a text has one page
  same_page : (t : List ℕ) (ps : List (List (List ℕ × X))) (i j k l : ℕ) → i < length ps → j < length (page ps i) → AllBefore t (front ps i j) → NoneBefore t (rest ps i j)
      → k < length ps → l < length (page ps k) → AllBefore t (front ps k l) → NoneBefore t (rest ps k l) → i ≡ k
  same_page t [] i j k l a b c d e f g h = absurd (omega arith)
  same_page t (p ∷ ps) zero j zero l a b c d e f g h = refl
  same_page t (p ∷ ps) zero j (suc k) l a b c d e f g h = absurd (not_both t p j (front ps k l) (all ps) b g d)
  same_page t (p ∷ ps) (suc i) j zero l a b c d e f g h = absurd (not_both t p l (front ps i j) (all ps) f c h)
  same_page t (p ∷ ps) (suc i) j (suc k) l a b c d e f g h = ap suc (same_page t ps i j k l (omega arith) b (right_before t p (front ps i j) c) d (omega arith) f (right_before t p (front ps k l) g) h)

  -- in a split page that is one of the two
  split_page : (t : List ℕ) (n : ℕ) (ps : List (List (List ℕ × X))) (i j k l : ℕ) (lower upper : List (List ℕ × X)) → lower ++ upper ≡ page ps i → length lower < n → length upper < n
      → i < length ps → j < length (page ps i) → AllBefore t (front ps i j) → NoneBefore t (rest ps i j)
      → l < length (page (insert (slice_set ps i lower) (suc i) upper) k) → AllBefore t (front (insert (slice_set ps i lower) (suc i) upper) k l) → NoneBefore t (rest (insert (slice_set ps i lower) (suc i) upper) k l)
      → length (page (insert (slice_set ps i lower) (suc i) upper) k) < n
  split_page t n [] i j k l lower upper is x y a b c d f g h = absurd (omega arith)
  split_page t n (p ∷ ps) zero j zero l lower upper is x y a b c d f g h = x
  split_page t n (p ∷ ps) zero j (suc zero) l lower upper is x y a b c d f g h = y
  split_page t n (p ∷ ps) zero j (suc (suc k)) l lower upper is x y a b c d f g h =
      let P : List (List ℕ × X) → Type 0 = λ q. AllBefore t (q ++ front ps k l) in
      absurd (not_both t p j (front ps k l) (all ps) b (subst P is (joined lower upper (front ps k l) g)) d)
    where
      joined : (xs ys zs : List (List ℕ × X)) → AllBefore t (xs ++ (ys ++ zs)) → AllBefore t ((xs ++ ys) ++ zs)
      joined [] ys zs r = r
      joined (z ∷ xs) ys zs r = (r.0, joined xs ys zs r.1)
  split_page t n (p ∷ ps) (suc i) j zero l lower upper is x y a b c d f g h = absurd (not_both t p l (front ps i j) (all (insert (slice_set ps i lower) (suc i) upper)) f c h)
  split_page t n (p ∷ ps) (suc i) j (suc k) l lower upper is x y a b c d f g h =
      split_page t n ps i j k l lower upper is x y (omega arith) b (right_before t p (front ps i j) c) d f (right_before t p (front (insert (slice_set ps i lower) (suc i) upper) k l) g) h

  pub room_behind : (t : List ℕ) (ps : List (List (List ℕ × X))) (i j : ℕ) → IsPlace t ps i j → length ps ≤ i → HasRoom t ps
  room_behind t ps i j p l = λ k m q n. absurd (not_all t ps k m n (q.lands n) (all_before_end t ps i j p l) q.after)

  pub room_in : (t : List ℕ) (ps : List (List (List ℕ × X))) (i j : ℕ) → IsPlace t ps i j → i < length ps → length (page ps i) < page_limit → HasRoom t ps
  room_in t ps i j p l room = λ k m q n.
      let P : ℕ → Type 0 = λ o. length (page ps o) < page_limit in
      subst P (same_page t ps i j k m l (p.lands l) p.before p.after n (q.lands n) q.before q.after) room

  pub room_split : (t : List ℕ) (ps qs : List (List (List ℕ × X))) (i j : ℕ) → IsWell ps → IsPlace t ps i j → i < length ps → IsSplit i ps qs → HasRoom t qs
  room_split t ps qs i j w p l s =
      let P : List (List (List ℕ × X)) → Type 0 = λ rs. HasRoom t rs in
      let lower = page s.lowered i in
      let whole : length (lower ++ s.upper) ≡ length (page ps i) = ap length s.halved.whole in
      let parts = length-append lower s.upper in
      let most = page_short page_limit ps i w.short in
      let low = s.halved.lower_some in
      let high = s.halved.upper_some in
      subst P (sym (s.set ∙ ap (λ rs. insert rs (suc i) s.upper) s.halved.set)) (λ k m q n. split_page t page_limit ps i j k m lower s.upper s.halved.whole (omega (arith, whole, parts, most, high)) (omega (arith, whole, parts, most, low)) l (p.lands l) p.before p.after (q.lands n) q.before q.after)

  pub room_after : {R E : Type 0} (res : Result R E) (t : List ℕ) (ps qs : List (List (List ℕ × X))) (i j : ℕ) → IsWell ps → IsPlace t ps i j → i < length ps → OnOk res (IsSplit i ps qs) → OnOk res (HasRoom t qs)
  room_after (Ok r) t ps qs i j w p l s = room_split t ps qs i j w p l s
  room_after (Err e) t ps qs i j w p l s = tt
