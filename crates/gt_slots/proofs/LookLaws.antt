-- Look-ups at a place.
use Rattle.std.proofs.Common.{◌≡◌, ℕ, zero, suc, ◌<◌, ◌≤◌, nat_le, Bool, true, false, cond, T, List, [], ◌∷◌, ◌++◌, length, drop, drop-cons, slice_index_or, slice_get, Option, Some, None, refl, sym, ap, ◌∙◌, subst, arith}
use Rattle.std.specs.declared.cmp.Ordering.{Ordering}
use Rattle.std.specs.declared.cmp.Ordering.TheVariants.{Less, Equal, Greater}
use Rattle.std.specs.Ordering.{is_lt, is_eq, eq_by_cmp, ordering_reverse}
use Rattle.std.specs.Cmp.{eq_by_cmp_equiv}
use Rattle.std.specs.Cmp.Lexicographic.{nat_list_cmp_total}
use Rattle.std.proofs.lemmas.Bool.Decides.{nat_tests}
use Rattle.std.specs.FinMap.{is_sorted}
use Rattle.std.specs.FinMap.Entries.{below_all}
use Rattle.gt_model.specs.Contents.{key_cmp}
use Rattle.gt_versions.proofs.Keys.{at_key, flip}
use Rattle.gt_slots.specs.Pages.{is_before, all, NoneBefore, IsWell, page, front, rest, IsPlace, IsAt}
use Rattle.gt_slots.proofs.SortLaws.{front_of, sorted_right, look_past, none_above, below_less}
use Rattle.gt_slots.proofs.PlaceLaws.{front_rest}

not_before : (o : Ordering) → is_lt o ≡ false → is_eq o ≡ false → ordering_reverse o ≡ Less
not_before Less a b = let no : ⊥ = cc in absurd no
not_before Equal a b = let no : ⊥ = cc in absurd no
not_before Greater a b = refl

pub is_eq-of : (o : Ordering) → is_eq o ≡ true → o ≡ Equal
is_eq-of Less e = let no : ⊥ = cc in absurd no
is_eq-of Equal e = refl
is_eq-of Greater e = let no : ⊥ = cc in absurd no

-- neither before nor at it is behind it
pub behind : (q k : List ℕ) → is_before k q ≡ false → eq_by_cmp key_cmp q k ≡ false → key_cmp q k ≡ Less
behind q k a b = nat_list_cmp_total.antisymm q k ∙ not_before (key_cmp k q) a (flip k q ∙ b)

module _ {X : Type 0} where
  pub first_of : List (List ℕ × X) → Option (List ℕ × X)
  first_of [] = None
  first_of (e ∷ es) = Some e

  pub sorted_rest_of : (ps : List (List (List ℕ × X))) (i j : ℕ) → T (is_sorted key_cmp (all ps)) → T (is_sorted key_cmp (rest ps i j))
  sorted_rest_of ps i j s = let P : List (List ℕ × X) → Type 0 = λ q. T (is_sorted key_cmp q) in sorted_right (front ps i j) (rest ps i j) (subst P (sym (front_rest ps i j)) s)

  -- what a list that begins at a text has at it
  abbrev pub at_first : List ℕ → List (List ℕ × X) → Option X
  at_first q [] = None
  at_first q (e ∷ es) = cond (eq_by_cmp key_cmp q e.0) (Some e.1) None

  look_first : (q : List ℕ) (es : List (List ℕ × X)) → T (is_sorted key_cmp es) → NoneBefore q es → at_key es q ≡ at_first q es
  look_first q [] s h = refl
  look_first q (e ∷ es) s h = by (eq_by_cmp key_cmp q e.0) refl
    where
      by : (b : Bool) → eq_by_cmp key_cmp q e.0 ≡ b → cond b (Some e.1) (at_key es q) ≡ cond b (Some e.1) None
      by true t = refl
      by false t = none_above q es (below_less q e.0 es (behind q e.0 h.0 t) (front_of (below_all key_cmp e.0 es) (is_sorted key_cmp es) s))

  pub look_at : (q : List ℕ) (ps : List (List (List ℕ × X))) (i j : ℕ) → IsWell ps → IsPlace q ps i j → at_key (all ps) q ≡ at_first q (rest ps i j)
  look_at q ps i j w p =
      sym (ap (λ es. at_key es q) (front_rest ps i j))
      ∙ look_past q (front ps i j) (rest ps i j) p.before
      ∙ look_first q (rest ps i j) (sorted_rest_of ps i j w.sorted) p.after

  -- ---- the entry at a place

  pub rest_in : (ps : List (List (List ℕ × X))) (i j : ℕ) (d : List ℕ × X) → i < length ps → j < length (page ps i) → (tail : List (List ℕ × X)) × (rest ps i j ≡ slice_index_or (page ps i) j d ∷ tail)
  rest_in [] i j d a b = absurd (omega arith)
  rest_in (p ∷ ps) zero j d a b = (drop (suc j) p ++ all ps, ap (λ q. q ++ all ps) (drop-cons p j d b))
  rest_in (p ∷ ps) (suc i) j d a b = rest_in ps i j d (omega arith) b

  pub get_at : (p : List (List ℕ × X)) (j : ℕ) (d : List ℕ × X) → j < length p → slice_get p j ≡ Some (slice_index_or p j d)
  get_at [] j d l = absurd (omega arith)
  get_at (e ∷ es) zero d l = refl
  get_at (e ∷ es) (suc j) d l = get_at es j d (omega arith)

  pub got_at : (p : List (List ℕ × X)) (j : ℕ) (e : List ℕ × X) → Some e ≡ slice_get p j → j < length p
  got_at [] j e h = let no : ⊥ = cc in absurd no
  got_at (x ∷ xs) zero e h = omega arith
  got_at (x ∷ xs) (suc j) e h = let more : j < length xs = got_at xs j e h in omega arith

  pub got_is : (p : List (List ℕ × X)) (j : ℕ) (e d : List ℕ × X) → Some e ≡ slice_get p j → slice_index_or p j d ≡ e
  got_is [] j e d h = let no : ⊥ = cc in absurd no
  got_is (x ∷ xs) zero e d h = let same : x ≡ e = cc in same
  got_is (x ∷ xs) (suc j) e d h = got_is xs j e d h

  pub got_out : (p : List (List ℕ × X)) (j : ℕ) → None ≡ slice_get p j → length p ≤ j
  got_out [] j h = omega arith
  got_out (x ∷ xs) zero h = let no : ⊥ = cc in absurd no
  got_out (x ∷ xs) (suc j) h = let more : length xs ≤ j = got_out xs j h in omega arith

  pub page_of_some : (ps : List (List (List ℕ × X))) (i j : ℕ) → j < length (page ps i) → i < length ps
  page_of_some [] i j l = absurd (omega arith)
  page_of_some (p ∷ ps) zero j l = omega arith
  page_of_some (p ∷ ps) (suc i) j l = let more : i < length ps = page_of_some ps i j l in omega arith

  rest_out : (ps : List (List (List ℕ × X))) (i j : ℕ) → length ps ≤ i → rest ps i j ≡ []
  rest_out [] i j l = refl
  rest_out (p ∷ ps) zero j l = absurd (omega arith)
  rest_out (p ∷ ps) (suc i) j l = rest_out ps i j (omega arith)

  -- the entry there is what the rest begins with
  pub found_here : (q : List ℕ) (ps : List (List (List ℕ × X))) (i j : ℕ) (e : List ℕ × X) → IsWell ps → IsPlace q ps i j → Some e ≡ slice_get (page ps i) j → at_key (all ps) q ≡ cond (eq_by_cmp key_cmp q e.0) (Some e.1) None
  found_here q ps i j e w p h =
      let l : j < length (page ps i) = got_at (page ps i) j e h in
      let r = rest_in ps i j e (page_of_some ps i j l) l in
      look_at q ps i j w p ∙ ap (at_first q) (r.1 ∙ ap (λ x. x ∷ r.0) (got_is (page ps i) j e e h))

  pub found_none : (q : List ℕ) (ps : List (List (List ℕ × X))) (i j : ℕ) → IsWell ps → IsPlace q ps i j → None ≡ slice_get (page ps i) j → at_key (all ps) q ≡ None
  found_none q ps i j w p h = look_at q ps i j w p ∙ ap (at_first q) (rest_out ps i j (outside (nat_le (length ps) i) refl))
    where
      outside : (b : Bool) → nat_le (length ps) i ≡ b → length ps ≤ i
      outside true t = grind (arith, nat_tests)
      outside false t =
          let l : i < length ps = grind (arith, nat_tests) in
          let m : j < length (page ps i) = p.lands l in
          let n : length (page ps i) ≤ j = got_out (page ps i) j h in
          absurd (omega arith)

  pub is_at : (q : List ℕ) (ps : List (List (List ℕ × X))) (i j : ℕ) (e : List ℕ × X) → IsPlace q ps i j → Some e ≡ slice_get (page ps i) j → e.0 ≡ q → IsAt q ps i j
  is_at q ps i j e p h k =
      let l : j < length (page ps i) = got_at (page ps i) j e h in
      record { place = p; page_fits = page_of_some ps i j l; slot_fits = l; key = λ d. ap (λ (x : List ℕ × X). x.0) (got_is (page ps i) j e d h) ∙ k }

  -- what stands at a found key
  pub value_at : (q : List ℕ) (ps : List (List (List ℕ × X))) (i j : ℕ) (d : List ℕ × X) → IsWell ps → IsAt q ps i j → at_key (all ps) q ≡ Some (slice_index_or (page ps i) j d).1
  value_at q ps i j d w a =
      let r = rest_in ps i j d a.page_fits a.slot_fits in
      look_at q ps i j w a.place ∙ ap (at_first q) r.1
      ∙ ap (λ b. cond b (Some (slice_index_or (page ps i) j d).1) None) (ap (eq_by_cmp key_cmp q) (a.key d) ∙ same q)
    where
      same : (k : List ℕ) → eq_by_cmp key_cmp k k ≡ true
      same k = (eq_by_cmp_equiv nat_list_cmp_total).refl k
