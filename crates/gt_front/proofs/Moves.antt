-- Each step keeps the rule.
use Rattle.std.proofs.Common.{◌≡◌, ◌≢◌, ℕ, zero, suc, ◌+◌, ◌≤◌, max, List, [], ◌∷◌, ◌++◌, length, set, Bool, true, false, true≢false, refl, sym, ap, ◌∙◌, subst, ⊎_elim, arith, append-nil}
use Rattle.std.specs.Prelude.{slice_index, slice_set}
use mathlib.Core.Option.{none, some, some-ne-none, some-injective}
use mathlib.Core.List.{IsPrefix}
use mathlib.Core.Logic.{dite}
use native.Mathlib.Decide.{ℕ_discrete}
use lib.ListN.{get_elem?}
use Rattle.atomic_table.specs.Table.{Me, Step, keeps, Allows, Splits, Joins, opening}
use Rattle.atomic_table.proofs.Lists.{at_set, at_snoc, set_again, set_else, at_longer}
use Rattle.gt_model.specs.declared.entry.Entry.{Entry}
use Rattle.gt_front.specs.declared.view.View.{View}
use Rattle.gt_front.specs.Views.{owning, reading, nobody, reach, Fits, IsOwned, Kept, pick, is_shorter, longer, shorter, copy, both, Sees, seen, Loads, Checks, Publishes}
use Rattle.gt_front.proofs.Prefixes.{prefix_none, prefix_trans, prefix_length, merged, longer_of, shorter_is_not}

off : false ≡ true → ⊥
off e = true≢false (sym e)

set_at : {A : Type 0} (l : List A) (i : ℕ) (a b : A) → get_elem? l i ≡ some a → get_elem? (set l i b) i ≡ some b
set_at [] i a b e = absurd (some-ne-none a (sym e))
set_at (x ∷ xs) zero a b e = refl
set_at (x ∷ xs) (suc i) a b e = set_at xs i a b e

abbrev Each : ℕ → List Entry → ℕ → List View → Type 0
Each first log seat views = (by : ℕ) (v : View) → get_elem? views by ≡ some v → Fits first log seat by v

-- the views where that at `by` became w, and the owner's list became `now`
each_moved : (first : ℕ) (now : List Entry) (seat : ℕ) (views : List View) (by : ℕ) (w : View) → ((j : ℕ) (u : View) → j ≢ by → get_elem? views j ≡ some u → Fits first now seat j u) → Fits first now seat by w → Each first now seat (set views by w)
each_moved first now seat views by w others mine j u e =
    ⊎_elim
    (λ (x : (j ≡ by) × (w ≡ u)). subst (λ (y : ℕ × View). Fits first now seat y.0 y.1) (λ i. (sym x.0 i, x.1 i)) mine)
    (λ (x : (j ≢ by) × (get_elem? views j ≡ some u)). others j u x.0 x.1)
    (at_set views by j w u e)

each_set : (first : ℕ) (log : List Entry) (seat : ℕ) (views : List View) (by : ℕ) (w : View) → Each first log seat views → Fits first log seat by w → Each first log seat (set views by w)
each_set first log seat views by w h mine = each_moved first log seat views by w (λ j u _ e. h j u e) mine

each_snoc : (first : ℕ) (log : List Entry) (seat : ℕ) (views : List View) (w : View) → Each first log seat views → ((j : ℕ) → Fits first log seat j w) → Each first log seat (views ++ w ∷ [])
each_snoc first log seat views w h mine j u e = ⊎_elim (λ was. h j u was) (λ (same : w ≡ u). subst (Fits first log seat j) same (mine j)) (at_snoc views w u j e)

owned_set : (views : List View) (seat by : ℕ) (v w : View) → IsOwned views seat → get_elem? views by ≡ some v → (v.owns ≡ true → (w.owns ≡ true) × (w.spent ≡ false)) → IsOwned (set views by w) seat
owned_set views seat by v w o at stays =
    dite (ℕ_discrete seat by)
    (λ (e : seat ≡ by).
    let same : o.0 ≡ v = some-injective _ _ (sym o.1 ∙ (ap (λ k. get_elem? views k) e ∙ at)) in
    let k = stays (ap (λ u. u.owns) (sym same) ∙ o.2) in
    (w, ap (λ k. get_elem? (set views by w) k) e ∙ set_at views by v w at, k.0, k.1))
    (λ (ne : seat ≢ by). (o.0, set_else views by seat w ne ∙ o.1, o.2, o.3))

nobody_fits : (first : ℕ) (log : List Entry) (seat j : ℕ) → Fits first log seat j nobody
nobody_fits first log seat j = ((λ e. absurd (off e)), (λ e. absurd (true≢false e)))

pub begins : (first : ℕ) → Kept first (opening (first ∷ []) [] (owning first [] [] 0))
begins first = (0, [], ap (λ (n : ℕ). n ∷ []) (omega arith), (owning first [] [] 0, refl, refl, refl), one)
  where
    one : Each first [] 0 (owning first [] [] 0 ∷ [])
    one zero v e = subst (Fits first [] 0 0) (some-injective _ _ e) ((λ _. (refl, refl)), (λ _. (refl, prefix_none [], prefix_none [], omega arith)))
    one (suc by) v e = absurd (some-ne-none v (sym e))

looks : (first slots id : ℕ) (m : Me ℕ View) (number : ℕ → ℕ) → m.0.spent ≡ false → ((n : ℕ) → m.0.number ≤ n → number n ≤ n) → Allows (Kept first) slots id m 0 (λ n. n) (λ n w. (w ≡ (seen m.0 (number n), m.1)) × Sees m.0 n)
looks first slots id m number live low s h sized at small =
    let v = m.0 in
    let f = h.4 id v at in
    let g = f.1 live in
    let n = slice_index s.words 0 in
    let word : n ≡ first + length h.1 = ap (λ ws. slice_index ws 0) h.2 in
    let short : length v.list ≤ length h.1 = prefix_length v.list h.1 g.1 in
    let far : reach v ≤ n = omega (arith, g.0) in
    let known : v.number ≤ n = omega (arith, g.3) in
    let w = seen v (number n) in
    let fits : Fits first h.1 h.0 id w = (f.0, (λ _. (g.0, g.1, prefix_none v.list, subst (λ (k : ℕ). number n ≤ k) word (low n known)))) in (
      w,
      keeps,
      tt,
      (
        h.0,
        h.1,
        ap (λ ws. slice_set ws 0 (slice_index ws 0)) h.2,
        owned_set s.views h.0 id v w h.3 at (λ o. (o, live)),
        each_set first h.1 h.0 s.views id w h.4 fits,
      ),
      (refl, (g.2, far, known, (λ owns. word ∙ ap (λ (k : ℕ). k + length h.1) (sym g.0) ∙ ap (λ (l : List Entry). v.first + length l) (sym (f.0 owns).1)))),
    )

-- what each step tells does not read the step
abbrev unread : Step ℕ
unread = record { slots = 0; word = 0; first = 0; second = 0; said = none }

pub loads : (first slots id : ℕ) (m : Me ℕ View) → m.0.spent ≡ false → Allows (Kept first) slots id m 0 (λ n. n) (Loads unread m)
loads first slots id m live = looks first slots id m (λ n. n) live (λ n _. omega arith)

pub checks : (first slots id : ℕ) (m : Me ℕ View) → m.0.spent ≡ false → Allows (Kept first) slots id m 0 (λ n. n) (Checks unread m)
checks first slots id m live = looks first slots id m (λ _. m.0.number) live (λ n le. le)

pub publishes : (first slots id : ℕ) (m : Me ℕ View) (list : List Entry) (last : ℕ) → m.0.owns ≡ true → m.0.spent ≡ false → IsPrefix m.0.list list → last ≡ first + length list → Allows (Kept first) slots id m 0 (λ _. last) (Publishes list unread m)
publishes first slots id m list last owns live more is s h sized at small =
    let v = m.0 in
    let f = h.4 id v at in
    let g = f.1 live in
    let o = f.0 owns in
    let grown : IsPrefix h.1 list = subst (λ (l : List Entry). IsPrefix l list) o.1 more in
    let longer : length h.1 ≤ length list = prefix_length h.1 list grown in
    let w = owning v.first list [] v.number in
    let others : (j : ℕ) (u : View) → j ≢ id → get_elem? s.views j ≡ some u → Fits first list h.0 j u = λ j u apart e. let t = h.4 j u e in (
      (λ k. absurd (apart ((t.0 k).0 ∙ sym o.0))),
      (λ k. let r = t.1 k in (r.0, prefix_trans u.list h.1 list r.1 grown, r.2, omega (arith, r.3))),
    ) in (
      w,
      keeps,
      tt,
      (
        h.0,
        list,
        ap (λ ws. slice_set ws 0 last) h.2 ∙ ap (λ (n : ℕ). n ∷ []) is,
        owned_set s.views h.0 id v w h.3 at (λ _. (refl, refl)),
        each_moved first list h.0 s.views id w others ((λ _. (o.0, refl)), (λ _. (g.0, ([], append-nil list), prefix_none list, omega (arith, g.3)))),
      ),
      refl,
    )

pub splits : (first id : ℕ) (v : View) → v.spent ≡ false → Splits (Kept first) id v v (copy v)
splits first id v live s h at =
    let g = (h.4 id v at).1 live in
    let same = sym (set_again s.views id v at) in (
      h.0,
      h.1,
      h.2,
      subst (λ (l : List View). IsOwned (l ++ copy v ∷ []) h.0) same (h.3.0, at_longer s.views (copy v ∷ []) h.0 h.3.0 h.3.1, h.3.2, h.3.3),
      subst (λ (l : List View). Each first h.1 h.0 (l ++ copy v ∷ [])) same
          (each_snoc first h.1 h.0 s.views (copy v) h.4 (λ j. ((λ e. absurd (off e)), (λ _. (g.0, g.1, prefix_none v.list, g.3))))),
    )

pub joins : (first id : ℕ) (v : View) (other : ℕ) (u : View) → v.spent ≡ false → u.spent ≡ false → u.owns ≡ false → Joins (Kept first) id v other u (both v u) nobody
joins first id v other u live alive plain s h at apart there =
    let w = both v u in
    let at' : get_elem? s.views other ≡ some u = ⊎_elim (λ (t : (other ≡ id) × (w ≡ u)). absurd (apart t.0)) (λ (t : (other ≢ id) × (get_elem? s.views other ≡ some u)). t.1) (at_set s.views id other w u there) in
    let f = h.4 id v at in
    let g = f.1 live in
    let k = (h.4 other u at').1 alive in
    let m = merged v.owns v.list u.list h.1 (λ o. (f.0 o).1) g.1 k.1 in
    let fits : Fits first h.1 h.0 id w = ((λ o. ((f.0 o).0, m.2 o)), (λ _. (g.0, m.0, m.1, omega (arith, g.3, k.3)))) in (
      h.0,
      h.1,
      h.2,
      owned_set (set s.views id w) h.0 other u nobody (owned_set s.views h.0 id v w h.3 at (λ o. (o, live))) there (λ o. absurd (off (sym plain ∙ o))),
      each_set first h.1 h.0 (set s.views id w) other nobody (each_set first h.1 h.0 s.views id w h.4 fits) (nobody_fits first h.1 h.0 other),
    )

-- a view whose marks are known
pub is_reading : (m : Me ℕ View) → m.0.owns ≡ false → m.0.spent ≡ false → m.1 ≡ [] → m ≡ (reading m.0.first m.0.list m.0.told m.0.number, [])
is_reading m o s e i = (record { owns = o i; spent = s i; first = m.0.first; list = m.0.list; told = m.0.told; number = m.0.number }, e i)

pub is_owning : (m : Me ℕ View) → m.0.owns ≡ true → m.0.spent ≡ false → m.1 ≡ [] → m ≡ (owning m.0.first m.0.list m.0.told m.0.number, [])
is_owning m o s e i = (record { owns = o i; spent = s i; first = m.0.first; list = m.0.list; told = m.0.told; number = m.0.number }, e i)

-- what a reader and the owner know after they met
pub met : (v o copied joined loaded known after : View) (n : ℕ) → v.owns ≡ false → o.owns ≡ true → copied ≡ copy v → joined ≡ both o copied → loaded ≡ seen joined n → Sees joined n → known ≡ copy loaded → after ≡ both v known → (after.list ≡ o.list) × IsPrefix v.list o.list × (v.number ≤ reach o)
met v o copied joined loaded known after n vo oo ec ej el sees ek ea =
    let list : joined.list ≡ o.list = ap (λ (u : View). u.list) ej ∙ ap (λ (b : Bool). pick b o.list (longer o.list copied.list)) oo in
    let told : joined.told ≡ v.list = ap (λ (u : View). u.told) ej ∙ ap (λ (b : Bool). pick b copied.list (shorter o.list copied.list)) oo ∙ ap (λ (u : View). u.list) ec in
    let found : known.list ≡ o.list = ap (λ (u : View). u.list) ek ∙ ap (λ (u : View). u.list) el ∙ list in
    let before : IsPrefix v.list o.list = subst (λ (p : List Entry × List Entry). IsPrefix p.0 p.1) (λ i. (told i, list i)) sees.0 in
    let word : n ≡ reach joined = sees.3 (ap (λ (u : View). u.owns) ej ∙ oo) in
    let a : joined.number ≡ max o.number copied.number = ap (λ (u : View). u.number) ej in
    let b : copied.number ≡ v.number = ap (λ (u : View). u.number) ec in
    let d : joined.first ≡ o.first = ap (λ (u : View). u.first) ej in
    let e : length joined.list ≡ length o.list = ap length list in (
      ap (λ (u : View). u.list) ea ∙ ap (λ (b : Bool). pick b v.list (longer v.list known.list)) vo ∙ ap (λ (l : List Entry). longer v.list l) found ∙ longer_of (is_shorter v.list o.list) v.list o.list (shorter_is_not v.list o.list) before,
      before,
      omega (arith, sees.2, word, a, b, d, e),
    )
