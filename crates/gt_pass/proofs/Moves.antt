-- Each step keeps the rule.
use Rattle.std.proofs.Common.{◌≡◌, ◌≢◌, inl, ℕ, zero, suc, ◌+◌, ◌≤◌, List, [], ◌∷◌, ◌++◌, length, set, true, false, true≢false, refl, sym, ap, ◌∙◌, subst, ⊎_elim, arith}
use Rattle.std.specs.Prelude.{slice_index, slice_set}
use mathlib.Core.Option.{none, some, some-ne-none, some-injective}
use mathlib.Core.Logic.{dite}
use native.Mathlib.Decide.{ℕ_discrete}
use lib.ListN.{get_elem?}
use Rattle.atomic_table.specs.Table.{State, Me, Step, keeps, Allows, Splits, Joins, opening}
use Rattle.atomic_table.proofs.Lists.{at_set, at_snoc, set_again, set_else, at_longer}
use Rattle.gt_pass.specs.declared.hand.Hand.{Hand}
use Rattle.gt_pass.specs.Hands.{total, has, times, IsIn, keeping, bearing, first_of, rest_of, live_after, Fits, IsKeeper, Kept, dealt, taken, both, Opens, Checks, Ends}
use Rattle.gt_pass.proofs.Totals.{set_at, total_set, total_append, total_at, total_parts, first_short, same, in_weighs, weighs_in, has_at_most, without_total, without_less}

off : false ≡ true → ⊥
off e = true≢false (sym e)

abbrev Each : List (ℕ × ℕ) → ℕ → List Hand → Type 0
Each live seat views = (by : ℕ) (v : Hand) → get_elem? views by ≡ some v → Fits live seat by v

-- what the hands hold, weighed
abbrev held : (ℕ × ℕ → ℕ) → List Hand → ℕ
held h views = total (λ (v : Hand). total h v.hand) views

each_moved : (now : List (ℕ × ℕ)) (seat : ℕ) (views : List Hand) (by : ℕ) (w : Hand) → ((j : ℕ) (u : Hand) → j ≢ by → get_elem? views j ≡ some u → Fits now seat j u) → Fits now seat by w → Each now seat (set views by w)
each_moved now seat views by w others mine j u e =
    ⊎_elim
    (λ (x : (j ≡ by) × (w ≡ u)). subst (λ (y : ℕ × Hand). Fits now seat y.0 y.1) (λ i. (sym x.0 i, x.1 i)) mine)
    (λ (x : (j ≢ by) × (get_elem? views j ≡ some u)). others j u x.0 x.1)
    (at_set views by j w u e)

each_snoc : (live : List (ℕ × ℕ)) (seat : ℕ) (views : List Hand) (w : Hand) → Each live seat views → ((j : ℕ) → Fits live seat j w) → Each live seat (views ++ w ∷ [])
each_snoc live seat views w h mine j u e = ⊎_elim (λ was. h j u was) (λ (is : w ≡ u). subst (Fits live seat j) is (mine j)) (at_snoc views w u j e)

keeper_set : (views : List Hand) (seat by : ℕ) (v w : Hand) → IsKeeper views seat → get_elem? views by ≡ some v → (v.keeps ≡ true → w.keeps ≡ true) → IsKeeper (set views by w) seat
keeper_set views seat by v w o at stays =
    dite (ℕ_discrete seat by)
    (λ (e : seat ≡ by).
    let is : o.0 ≡ v = some-injective _ _ (sym o.1 ∙ (ap (λ k. get_elem? views k) e ∙ at)) in
    (w, ap (λ k. get_elem? (set views by w) k) e ∙ set_at views by v w at, stays (ap (λ u. u.keeps) (sym is) ∙ o.2)))
    (λ (ne : seat ≢ by). (o.0, set_else views by seat w ne ∙ o.1, o.2))

bearing_fits : (live : List (ℕ × ℕ)) (seat j : ℕ) (hand : List (ℕ × ℕ)) → length hand ≤ 1 → Fits live seat j (bearing hand)
bearing_fits live seat j hand le = ((λ e. absurd (off e)), (λ _. le))

abbrev looked : State ℕ Hand → ℕ → Hand → State ℕ Hand
looked s id w = record { words = slice_set s.words 0 (slice_index s.words 0); homes = s.homes; views = slice_set s.views id w }

-- a look by the keeper, after which this is its hand and these are the live passes
keeper_moves : (s : State ℕ Hand) (id : ℕ) (v : Hand) (live hand : List (ℕ × ℕ)) → Kept s → get_elem? s.views id ≡ some v → v.keeps ≡ true → ((h : ℕ × ℕ → ℕ) → total h hand + total h v.live ≡ total h v.hand + total h live) → ((n : ℕ) → times n live ≤ 1) → Kept (looked s id (record { keeps = v.keeps; live = live; hand = hand }))
keeper_moves s id v live hand h at is weighs once =
    let f = (h.6 id v at).0 is in
    let w : Hand = record { keeps = v.keeps; live = live; hand = hand } in (
      h.0,
      live,
      ap (λ ws. slice_set ws 0 (slice_index ws 0)) h.2,
      keeper_set s.views h.0 id v w h.3 at (λ k. k),
      (λ g. omega (arith, total_set (λ (u : Hand). total g u.hand) s.views id v w at, h.4 g, ap (total g) f.1, weighs g)),
      once,
      each_moved live h.0 s.views id w (λ j u apart e. ((λ k. absurd (apart (((h.6 j u e).0 k).0 ∙ sym f.0))), (h.6 j u e).1)) ((λ _. (f.0, refl)), (λ e. absurd (off (sym e ∙ is)))),
    )

abbrev unread : Step ℕ
unread = record { slots = 0; word = 0; first = 0; second = 0; said = none }

pub begins : Kept (opening (0 ∷ []) [] (keeping [] []))
begins = (0, [], refl, (keeping [] [], refl, refl), (λ h. refl), (λ n. omega arith), one)
  where
    one : Each [] 0 (keeping [] [] ∷ [])
    one zero v e = subst (Fits [] 0 0) (some-injective _ _ e) ((λ _. (refl, refl)), (λ k. absurd (true≢false k)))
    one (suc by) v e = absurd (some-ne-none v (sym e))

pub opens : (slots id : ℕ) (m : Me ℕ Hand) (p : ℕ × ℕ) → m.0.keeps ≡ true → times p.0 m.0.live ≡ 0 → Allows Kept slots id m 0 (λ n. n) (Opens p unread m)
opens slots id m p is free s h sized at small =
    let v = m.0 in
    let f = (h.6 id v at).0 is in (
      record { keeps = v.keeps; live = v.live ++ p ∷ []; hand = p ∷ v.hand },
      keeps,
      tt,
      keeper_moves s id v (v.live ++ p ∷ []) (p ∷ v.hand) h at is (λ g. let r = total_append g v.live (p ∷ []) in omega (arith, r))
          (λ n. let r = total_append (has n) v.live (p ∷ []) in
          let le : times n v.live ≤ 1 = subst (λ (l : List (ℕ × ℕ)). times n l ≤ 1) (sym f.1) (h.5 n) in
          let both : times n v.live + has n p ≤ 1 = has_at_most n p (times n v.live) (λ (e : p.0 ≡ n). subst (λ (k : ℕ). times k v.live ≡ 0) e free) le in
          omega (arith, r, both)),
      refl,
    )

in_live : (s : State ℕ Hand) (id : ℕ) (v : Hand) → Kept s → get_elem? s.views id ≡ some v → v.keeps ≡ true → (p : ℕ × ℕ) → IsIn p v.hand → IsIn p v.live
in_live s id v h at is p i =
    let f = (h.6 id v at).0 is in
    let a = in_weighs p v.hand i in
    let b = total_at (λ (u : Hand). total (same p) u.hand) s.views id v at in
    weighs_in p v.live (omega (arith, a, b, h.4 (same p), ap (total (same p)) f.1))

once_in : (s : State ℕ Hand) (id : ℕ) (v : Hand) → Kept s → get_elem? s.views id ≡ some v → (n : ℕ) → times n v.hand ≤ 1
once_in s id v h at n = let b = total_at (λ (u : Hand). total (has n) u.hand) s.views id v at in omega (arith, b, h.4 (has n), h.5 n)

pub checks : (slots id : ℕ) (m : Me ℕ Hand) → m.0.keeps ≡ true → Allows Kept slots id m 0 (λ n. n) (Checks unread m)
checks slots id m is s h sized at small =
    let v = m.0 in
    let f = (h.6 id v at).0 is in (
      v,
      keeps,
      tt,
      keeper_moves s id v v.live v.hand h at is (λ g. refl) (λ n. subst (λ (l : List (ℕ × ℕ)). times n l ≤ 1) (sym f.1) (h.5 n)),
      (refl, in_live s id v h at is, once_in s id v h at),
    )

pub ends : (slots id : ℕ) (m : Me ℕ Hand) → m.0.keeps ≡ true → Allows Kept slots id m 0 (λ n. n) (Ends unread m)
ends slots id m is s h sized at small =
    let v = m.0 in
    let f = (h.6 id v at).0 is in
    let once : (n : ℕ) → times n v.live ≤ 1 = λ n. subst (λ (l : List (ℕ × ℕ)). times n l ≤ 1) (sym f.1) (h.5 n) in (
      record { keeps = v.keeps; live = live_after v.hand v.live; hand = rest_of v.hand },
      keeps,
      tt,
      keeper_moves s id v (live_after v.hand v.live) (rest_of v.hand) h at is (λ g. weighs g v.hand v.live (in_live s id v h at is) once) (less v.hand v.live once),
      refl,
    )
  where
    weighs : (g : ℕ × ℕ → ℕ) (hand live : List (ℕ × ℕ)) → ((p : ℕ × ℕ) → IsIn p hand → IsIn p live) → ((n : ℕ) → times n live ≤ 1) → total g (rest_of hand) + total g live ≡ total g hand + total g (live_after hand live)
    weighs g [] live i once = refl
    weighs g (p ∷ ps) live i once = let r = without_total g p live (i p (inl refl)) (once p.0) in omega (arith, r)

    less : (hand live : List (ℕ × ℕ)) → ((n : ℕ) → times n live ≤ 1) → (n : ℕ) → times n (live_after hand live) ≤ 1
    less [] live once n = once n
    less (p ∷ ps) live once n = let r = without_less n p.0 live in let o = once n in omega (arith, r, o)

pub deals : (id : ℕ) (v : Hand) → v.keeps ≡ true → Splits Kept id v (dealt v) (taken v)
deals id v is s h at =
    let f = h.6 id v at in
    let views = set s.views id (dealt v) in
    let k = keeper_set s.views h.0 id v (dealt v) h.3 at (λ x. x) in (
      h.0,
      h.1,
      h.2,
      (k.0, at_longer views (taken v ∷ []) h.0 k.0 k.1, k.2),
      (λ g. omega (arith, total_append (λ (u : Hand). total g u.hand) views (taken v ∷ []), total_set (λ (u : Hand). total g u.hand) s.views id v (dealt v) at, total_parts g v.hand, h.4 g)),
      h.5,
      each_snoc h.1 h.0 views (taken v) (each_moved h.1 h.0 s.views id (dealt v) (λ j u _ e. h.6 j u e) (f.0, (λ e. absurd (off (sym e ∙ is)))))
          (λ j. bearing_fits h.1 h.0 j (first_of v.hand) (first_short v.hand)),
    )

pub empties : (id : ℕ) (v : Hand) → Splits Kept id v v (bearing [])
empties id v s h at =
    let is = sym (set_again s.views id v at) in (
      h.0,
      h.1,
      h.2,
      subst (λ (l : List Hand). IsKeeper (l ++ bearing [] ∷ []) h.0) is (h.3.0, at_longer s.views (bearing [] ∷ []) h.0 h.3.0 h.3.1, h.3.2),
      (λ g. subst (λ (l : List Hand). held g (l ++ bearing [] ∷ []) ≡ total g h.1) is (let r = total_append (λ (u : Hand). total g u.hand) s.views (bearing [] ∷ []) in let q = h.4 g in omega (arith, r, q))),
      h.5,
      subst (λ (l : List Hand). Each h.1 h.0 (l ++ bearing [] ∷ [])) is (each_snoc h.1 h.0 s.views (bearing []) h.6 (λ j. bearing_fits h.1 h.0 j [] (omega arith))),
    )

pub joins : (id : ℕ) (v : Hand) (other : ℕ) (u : Hand) → v.keeps ≡ true → u.keeps ≡ false → Joins Kept id v other u (both v u) (bearing [])
joins id v other u is plain s h at apart there =
    let w = both v u in
    let views = set s.views id w in
    let f = h.6 id v at in (
      h.0,
      h.1,
      h.2,
      keeper_set views h.0 other u (bearing []) (keeper_set s.views h.0 id v w h.3 at (λ x. x)) there (λ o. absurd (off (sym plain ∙ o))),
      (λ g. omega (arith, total_set (λ (x : Hand). total g x.hand) views other u (bearing []) there, total_set (λ (x : Hand). total g x.hand) s.views id v w at, total_append g u.hand v.hand, h.4 g)),
      h.5,
      each_moved h.1 h.0 views other (bearing []) (λ j x _ e. each_moved h.1 h.0 s.views id w (λ i y _ e'. h.6 i y e') (f.0, (λ e'. absurd (off (sym e' ∙ is)))) j x e) (bearing_fits h.1 h.0 other [] (omega arith)),
    )
