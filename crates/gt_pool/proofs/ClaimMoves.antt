-- Each step on the claim word keeps its rule.
use Rattle.std.proofs.Common.{◌≡◌, ◌≢◌, ℕ, zero, suc, ◌+◌, ◌≤◌, ◌<◌, ◌%◌, ◌^◌, min, nat_lt, nat_eq, eq-eqb, ne_eqb, ltb-true, ltb-false, lt-ltb, le-ltb, List, [], ◌∷◌, ◌++◌, set, Bool, true, false, refl, sym, ap, ◌∙◌, subst, ⊎_elim, arith}
use Rattle.std.specs.Prelude.{slice_index, slice_set}
use mathlib.Core.Option.{none, some, some-ne-none, some-injective}
use mathlib.Core.Logic.{dite}
use native.Mathlib.Decide.{ℕ_discrete, dec_le}
use lib.ListN.{get_elem?}
use Rattle.atomic_table.specs.Table.{State, Me, Step, keeps, Allows, Splits, Joins, opening}
use Rattle.atomic_table.proofs.Lists.{at_set, at_snoc, set_again}
use Rattle.gt_pool.specs.declared.claim_view.ClaimView.{ClaimView}
use Rattle.gt_pool.specs.Counting.{pick, total, times, below}
use Rattle.gt_pool.specs.Claimed.{Fits, Kept, view, claimed, Claims, lent, started, both, Looks}
use Rattle.gt_pool.proofs.Totals.{total_set, total_append, total_less, total_none, total_at}

abbrev unread : ℕ → Step ℕ
unread k = record { slots = 0; word = 0; first = k; second = 0; said = none }

min_is : (a b : ℕ) → a ≤ b → min a b ≡ a
min_is a b le = omega (arith, le)

min_not : (a b : ℕ) → b ≤ a → min a b ≡ b
min_not a b le = omega (arith, le)

pub begins : (count : ℕ) → count < 2 ^ 32 → Kept count (opening (0 ∷ []) [] (view 1024 count 0 []))
begins count small = (0, refl, small, refl, omega arith, (λ x. sym (ap (below x) (min_is 0 count (omega arith)) ∙ ap {B = ℕ} (λ b. pick b 1 0) (le-ltb x 0 (omega arith)))), one)
  where
    one : (by : ℕ) (v : ClaimView) → get_elem? (view 1024 count 0 [] ∷ []) by ≡ some v → Fits count 0 v
    one zero v e = subst (Fits count 0) (some-injective _ _ e) ((λ z. refl), (λ _. refl), omega arith, (λ le. absurd (omega (arith, le))))
    one (suc by) v e = absurd (some-ne-none v (sym e))

-- the next number is below the next word
below_next : (x n : ℕ) → below x (n + 1) ≡ below x n + pick (nat_eq n x) 1 0
below_next x n =
    dite (ℕ_discrete n x)
    (λ (e : n ≡ x). let a = ap {B = ℕ} (λ b. pick b 1 0) (lt-ltb x (n + 1) (omega (arith, e))) in let b = ap {B = ℕ} (λ b. pick b 1 0) (le-ltb x n (omega (arith, e))) in let c = ap {B = ℕ} (λ b. pick b 1 0) (eq-eqb n x e) in omega (arith, a, b, c))
    (λ (ne : n ≢ x).
    let c = ap {B = ℕ} (λ b. pick b 1 0) (ne_eqb n x ne) in
    dite (dec_le (x + 1) n)
    (λ (le : x + 1 ≤ n). let a = ap {B = ℕ} (λ b. pick b 1 0) (lt-ltb x (n + 1) (omega (arith, le))) in let b = ap {B = ℕ} (λ b. pick b 1 0) (lt-ltb x n (omega (arith, le))) in omega (arith, a, b, c))
    (λ more. let a = ap {B = ℕ} (λ b. pick b 1 0) (le-ltb x (n + 1) (omega (arith, more, ne))) in let b = ap {B = ℕ} (λ b. pick b 1 0) (le-ltb x n (omega (arith, more))) in omega (arith, a, b, c)))

-- what the claims of all gain
gains : (count n x : ℕ) (c : Bool) → (c ≡ true → n < count) → (c ≡ false → count ≤ n) → below x (min (n + 1) count) ≡ below x (min n count) + times x (pick c (n ∷ []) [])
gains count n x true low high = let l = low refl in
    let a = ap (below x) (min_is (n + 1) count (omega (arith, l))) in let b = ap (below x) (min_is n count (omega (arith, l))) in omega (arith, a, b, below_next x n)
gains count n x false low high = let l = high refl in
    let a = ap (below x) (min_not (n + 1) count (omega (arith, l))) in let b = ap (below x) (min_not n count l) in omega (arith, a, b)

abbrev after : ClaimView → ℕ → Bool → ClaimView
after v n c = view v.parts v.count (v.over + pick c 0 1) (v.claims ++ pick c (n ∷ []) [])

moves : (count n : ℕ) (s : State ℕ ClaimView) (id : ℕ) (v : ClaimView) (c : Bool) → (h : Kept count s) → n ≡ h.0 → get_elem? s.views id ≡ some v → 1 ≤ v.parts → v.over ≡ 0 → (c ≡ true → n < count) → (c ≡ false → count ≤ n)
    → Kept count (record { words = slice_set s.words 0 ((slice_index s.words 0 + 1) % 2 ^ 64); homes = s.homes; views = set s.views id (after v n c) })
moves count n s id v c h is at some_part none_over low high =
    let w = after v n c in
    let f = h.6 id v at in
    let overs = total_less (λ (u : ClaimView). u.over) (λ (u : ClaimView). u.parts) s.views (λ i a e. (h.6 i a e).2) in
    let parts = total_set (λ (u : ClaimView). u.parts) s.views id v w at in
    let over = total_set (λ (u : ClaimView). u.over) s.views id v w at in (
      h.0 + 1,
      ap (λ ws. slice_set ws 0 ((slice_index ws 0 + 1) % 2 ^ 64)) h.1 ∙ ap (λ (k : ℕ). k ∷ []) (omega (arith, h.2, h.3, h.4, overs)),
      h.2,
      omega (arith, parts, h.3),
      bound c over low high,
      (λ x.
          let t = total_set (λ (u : ClaimView). times x u.claims) s.views id v w at in
          let a = total_append (λ y. pick (nat_eq y x) 1 0) v.claims (pick c (n ∷ []) []) in
          let g = subst (λ (k : ℕ). below x (min (k + 1) count) ≡ below x (min k count) + times x (pick c (n ∷ []) [])) is (gains count n x c low high) in
          let q = h.5 x in omega (arith, t, a, g, q)),
      (λ j u e.
          ⊎_elim
          (λ (t : (j ≡ id) × (w ≡ u)). subst (Fits count (h.0 + 1)) t.1 ((λ z. absurd (omega (arith, z, some_part))), f.1, fits c, past c high))
          (λ (t : (j ≢ id) × (get_elem? s.views j ≡ some u)). let r = h.6 j u t.1 in (r.0, r.1, r.2, (λ le. let q = r.3 le in omega (arith, q))))
          (at_set s.views id j w u e)),
    )
  where
    bound : (c : Bool) → total (λ (u : ClaimView). u.over) (set s.views id (after v n c)) + v.over ≡ total (λ (u : ClaimView). u.over) s.views + (v.over + pick c 0 1) → (c ≡ true → n < count) → (c ≡ false → count ≤ n) → h.0 + 1 ≤ count + total (λ (u : ClaimView). u.over) (set s.views id (after v n c))
    bound true over low high = omega (arith, over, low refl, is)
    bound false over low high = omega (arith, over, h.4)

    fits : (c : Bool) → v.over + pick c 0 1 ≤ v.parts
    fits true = omega (arith, none_over)
    fits false = omega (arith, none_over, some_part)

    past : (c : Bool) → (c ≡ false → count ≤ n) → 1 ≤ v.over + pick c 0 1 → count ≤ h.0 + 1
    past true high le = absurd (omega (arith, none_over, le))
    past false high le = omega (arith, high refl, is)

pub claims : (count slots id : ℕ) (m : Me ℕ ClaimView) → 1 ≤ m.0.parts → m.0.over ≡ 0 → Allows (Kept count) slots id m 0 (λ n. (n + 1) % 2 ^ 64) (Claims (unread 1) m)
claims count slots id m some_part none_over s h sized at small =
    let v = m.0 in
    let n = slice_index s.words 0 in
    let same : v.count ≡ count = (h.6 id v at).1 some_part in (
      claimed v n,
      keeps,
      tt,
      moves count n s id v (nat_lt n v.count) h (ap (λ ws. slice_index ws 0) h.1) at some_part none_over
          (λ e. let l = ltb-true n v.count e in omega (arith, l, same))
          (λ e. let l = ltb-false n v.count e in omega (arith, l, same)),
      refl,
    )

each_set : (count n : ℕ) (views : List ClaimView) (id : ℕ) (w : ClaimView) → ((j : ℕ) (u : ClaimView) → get_elem? views j ≡ some u → Fits count n u) → Fits count n w → (j : ℕ) (u : ClaimView) → get_elem? (set views id w) j ≡ some u → Fits count n u
each_set count n views id w h mine j u e = ⊎_elim (λ (t : (j ≡ id) × (w ≡ u)). subst (Fits count n) t.1 mine) (λ (t : (j ≢ id) × (get_elem? views j ≡ some u)). h j u t.1) (at_set views id j w u e)

abbrev pub nobody : ClaimView
nobody = view 0 0 0 []

nobody_fits : (count n : ℕ) → Fits count n nobody
nobody_fits count n = ((λ _. refl), (λ le. absurd (omega (arith, le))), omega arith, (λ le. absurd (omega (arith, le))))

pub splits : (count id : ℕ) (v : ClaimView) → 2 ≤ v.parts → v.over ≡ 0 → Splits (Kept count) id v (lent v) (started v)
splits count id v parts none_over s h at =
    let f = h.6 id v at in
    let w = lent v in
    let views = set s.views id w in (
      h.0,
      h.1,
      h.2,
      (let t = total_set (λ (u : ClaimView). u.parts) s.views id v w at in let a = total_append (λ (u : ClaimView). u.parts) views (started v ∷ []) in omega (arith, t, a, h.3, parts)),
      (let t = total_set (λ (u : ClaimView). u.over) s.views id v w at in let a = total_append (λ (u : ClaimView). u.over) views (started v ∷ []) in omega (arith, t, a, h.4)),
      (λ x. let t = total_set (λ (u : ClaimView). times x u.claims) s.views id v w at in let a = total_append (λ (u : ClaimView). times x u.claims) views (started v ∷ []) in let q = h.5 x in omega (arith, t, a, q)),
      (λ j u e.
          ⊎_elim
          (λ (was : get_elem? views j ≡ some u). each_set count h.0 s.views id w h.6 ((λ z. absurd (omega (arith, z, parts))), (λ _. f.1 (omega (arith, parts))), omega (arith, none_over), f.3) j u was)
          (λ (is : started v ≡ u). subst (Fits count h.0) is ((λ z. absurd (omega (arith, z))), (λ _. f.1 (omega (arith, parts))), omega arith, (λ le. absurd (omega (arith, le)))))
          (at_snoc views (started v) u j e)),
    )

pub joins : (count id : ℕ) (v : ClaimView) (other : ℕ) (u : ClaimView) → 1 ≤ v.parts → Joins (Kept count) id v other u (both v u) nobody
joins count id v other u parts s h at apart there =
    let w = both v u in
    let views = set s.views id w in
    let at' : get_elem? s.views other ≡ some u = ⊎_elim (λ (t : (other ≡ id) × (w ≡ u)). absurd (apart t.0)) (λ (t : (other ≢ id) × (get_elem? s.views other ≡ some u)). t.1) (at_set s.views id other w u there) in
    let f = h.6 id v at in
    let k = h.6 other u at' in (
      h.0,
      h.1,
      h.2,
      (let t = total_set (λ (x : ClaimView). x.parts) s.views id v w at in let r = total_set (λ (x : ClaimView). x.parts) views other u nobody there in omega (arith, t, r, h.3)),
      (let t = total_set (λ (x : ClaimView). x.over) s.views id v w at in let r = total_set (λ (x : ClaimView). x.over) views other u nobody there in omega (arith, t, r, h.4)),
      (λ y.
          let t = total_set (λ (x : ClaimView). times y x.claims) s.views id v w at in
          let r = total_set (λ (x : ClaimView). times y x.claims) views other u nobody there in
          let a = total_append (λ z. pick (nat_eq z y) 1 0) v.claims u.claims in
          let q = h.5 y in omega (arith, t, r, a, q)),
      each_set count h.0 views other nobody
          (each_set count h.0 s.views id w h.6 ((λ z. absurd (omega (arith, z, parts))), (λ _. f.1 parts), omega (arith, f.2, k.2), (λ le. dite (dec_le 1 v.over) f.3 (λ no. k.3 (omega (arith, le, no))))))
          (nobody_fits count h.0),
    )

-- who has all parts has all claims
alone : (count : ℕ) (s : State ℕ ClaimView) (id : ℕ) (v : ClaimView) → Kept count s → get_elem? s.views id ≡ some v → v.parts ≡ 1024 → 1 ≤ v.over → (x : ℕ) → times x v.claims ≡ below x v.count
alone count s id v h at all over x =
    let f = h.6 id v at in
    let rest = set s.views id nobody in
    let parts = total_set (λ (u : ClaimView). u.parts) s.views id v nobody at in
    let t = total_set (λ (u : ClaimView). times x u.claims) s.views id v nobody at in
    let empty : total (λ (u : ClaimView). u.parts) rest ≡ 0 = omega (arith, parts, h.3, all) in
    let idle : total (λ (u : ClaimView). times x u.claims) rest ≡ 0 = total_none (λ (u : ClaimView). times x u.claims) rest (λ j u e.
    let le = total_at (λ (y : ClaimView). y.parts) rest j u e in
    let fits = each_set count h.0 s.views id nobody h.6 (nobody_fits count h.0) j u e in
    ap (times x) (fits.0 (omega (arith, le, empty)))) in
    let top : below x (min h.0 count) ≡ below x count = ap (below x) (min_not h.0 count (f.3 over)) in
    let mine : below x v.count ≡ below x count = ap (below x) (f.1 (omega (arith, all))) in
    let q = h.5 x in omega (arith, t, idle, top, mine, q)

pub looks : (count slots id : ℕ) (m : Me ℕ ClaimView) → Allows (Kept count) slots id m 0 (λ n. n) (Looks (unread 0) m)
looks count slots id m s h sized at small =
    let v = m.0 in
    let same = set_again s.views id v at in (
      v,
      keeps,
      tt,
      subst (λ (l : List ClaimView). Kept count (record { words = slice_set s.words 0 (slice_index s.words 0); homes = s.homes; views = l })) (sym same)
          (h.0, ap (λ ws. slice_set ws 0 (slice_index ws 0)) h.1, h.2, h.3, h.4, h.5, h.6),
      (refl, alone count s id v h at),
    )
