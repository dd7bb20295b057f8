-- Each step on the ticket queue keeps its rule.
use Rattle.std.proofs.Common.{◌≡◌, ◌≢◌, ℕ, zero, suc, ◌≤◌, nat_eq, List, [], ◌∷◌, ◌++◌, set, refl, sym, ap, subst, ⊎_elim, arith}
use mathlib.Core.Option.{some, some-ne-none, some-injective}
use lib.ListN.{get_elem?}
use Rattle.atomic_table.proofs.Lists.{at_set, at_snoc}
use Rattle.crossbeam_queue.specs.Fifo.{Pushes, Pops, Forks, Merges, Learns}
use Rattle.gt_pool.specs.declared.ticket_view.TicketView.{TicketView}
use Rattle.gt_pool.specs.Counting.{pick, total, times}
use Rattle.gt_pool.specs.Ticketed.{IsTicket, AreTickets, view, IsIdle, Kept, Puts, Takes, Held, lent, both}
use Rattle.gt_pool.proofs.Totals.{total_set, total_append, total_none, total_at}

abbrev Idles : List TicketView → Type 0
Idles views = (by : ℕ) (v : TicketView) → get_elem? views by ≡ some v → IsIdle v

idle_set : (views : List TicketView) (id : ℕ) (w : TicketView) → IsIdle w → Idles views → Idles (set views id w)
idle_set views id w mine h j u e = ⊎_elim (λ (t : (j ≡ id) × (w ≡ u)). subst IsIdle t.1 mine) (λ (t : (j ≢ id) × (get_elem? views j ≡ some u)). h j u t.1) (at_set views id j w u e)

idle_more : (views : List TicketView) (w : TicketView) → IsIdle w → Idles views → Idles (views ++ w ∷ [])
idle_more views w mine h j u e = ⊎_elim (λ (was : get_elem? views j ≡ some u). h j u was) (λ (is : w ≡ u). subst IsIdle is mine) (at_snoc views w u j e)

at_work : (v : TicketView) → 1 ≤ v.parts → IsIdle v
at_work v some_part z = absurd (omega (arith, z, some_part))

tickets_more : (items : List ℕ) (p : ℕ) → AreTickets items → IsTicket p → AreTickets (items ++ p ∷ [])
tickets_more [] p h t = (t, tt)
tickets_more (x ∷ xs) p h t = (h.0, tickets_more xs p h.1 t)

is_one : ℕ → ℕ → ℕ
is_one p x = pick (nat_eq x p) 1 0

pub begins : Kept [] (view 1024 [] [] ∷ [])
begins = (tt, refl, (λ p. refl), idle)
  where
    idle : Idles (view 1024 [] [] ∷ [])
    idle zero v e = subst IsIdle (some-injective _ _ e) (λ z. (refl, refl))
    idle (suc by) v e = absurd (some-ne-none v (sym e))

pub puts : (n id : ℕ) (v : TicketView) (p : ℕ) → 1 ≤ v.parts → IsTicket p → Pushes Kept n id v p (Puts v p)
puts n id v p some_part is items views room h at =
    let w = view v.parts (v.put ++ p ∷ []) v.taken in (
      w,
      (
        tickets_more items p h.0 is,
        (let s = total_set (λ (u : TicketView). u.parts) views id v w at in let q = h.1 in omega (arith, s, q)),
        (λ x.
            let s = total_set (λ (u : TicketView). times x u.put) views id v w at in
            let t = total_set (λ (u : TicketView). times x u.taken) views id v w at in
            let a = total_append (λ y. pick (nat_eq y x) 1 0) v.put (p ∷ []) in
            let b = total_append (λ y. pick (nat_eq y x) 1 0) items (p ∷ []) in
            let q = h.2 x in omega (arith, s, t, a, b, q)),
        idle_set views id w (at_work w some_part) h.3,
      ),
      refl,
    )

pub takes : (id : ℕ) (v : TicketView) → 1 ≤ v.parts → Pops Kept id v (Takes v)
takes id v some_part p items views h at =
    let w = view v.parts v.put (v.taken ++ p ∷ []) in (
      w,
      (
        h.0.1,
        (let s = total_set (λ (u : TicketView). u.parts) views id v w at in let q = h.1 in omega (arith, s, q)),
        (λ x.
            let s = total_set (λ (u : TicketView). times x u.put) views id v w at in
            let t = total_set (λ (u : TicketView). times x u.taken) views id v w at in
            let a = total_append (λ y. pick (nat_eq y x) 1 0) v.taken (p ∷ []) in
            let q = h.2 x in omega (arith, s, t, a, q)),
        idle_set views id w (at_work w some_part) h.3,
      ),
      (h.0.0, refl),
    )

pub learns : (id : ℕ) (v : TicketView) → Learns Kept id v (Held v)
learns id v items views h at = record { views = views; by = id; kept = h; mine = at }

pub splits : (id : ℕ) (v : TicketView) → 2 ≤ v.parts → Forks Kept id v (lent v) (view 1 [] [])
splits id v parts items views h at =
    let w = lent v in
    let one = view 1 [] [] in
    let left = set views id w in (
      h.0,
      (let t = total_set (λ (u : TicketView). u.parts) views id v w at in let a = total_append (λ (u : TicketView). u.parts) left (one ∷ []) in let q = h.1 in omega (arith, t, a, q, parts)),
      (λ x.
          let s = total_set (λ (u : TicketView). times x u.put) views id v w at in
          let t = total_set (λ (u : TicketView). times x u.taken) views id v w at in
          let a = total_append (λ (u : TicketView). times x u.put) left (one ∷ []) in
          let b = total_append (λ (u : TicketView). times x u.taken) left (one ∷ []) in
          let q = h.2 x in omega (arith, s, t, a, b, q)),
      idle_more left one (at_work one (omega arith)) (idle_set views id w (at_work w (omega (arith, parts))) h.3),
    )

pub joins : (id : ℕ) (v : TicketView) (other : ℕ) (u : TicketView) → 1 ≤ v.parts → Merges Kept id v other u (both v u) (view 0 [] [])
joins id v other u parts items views h at apart there =
    let w = both v u in
    let nobody = view 0 [] [] in
    let left = set views id w in (
      h.0,
      (let t = total_set (λ (x : TicketView). x.parts) views id v w at in let r = total_set (λ (x : TicketView). x.parts) left other u nobody there in let q = h.1 in omega (arith, t, r, q)),
      (λ x.
          let s = total_set (λ (y : TicketView). times x y.put) views id v w at in
          let t = total_set (λ (y : TicketView). times x y.put) left other u nobody there in
          let k = total_set (λ (y : TicketView). times x y.taken) views id v w at in
          let l = total_set (λ (y : TicketView). times x y.taken) left other u nobody there in
          let a = total_append (λ y. pick (nat_eq y x) 1 0) v.put u.put in
          let b = total_append (λ y. pick (nat_eq y x) 1 0) v.taken u.taken in
          let q = h.2 x in omega (arith, s, t, k, l, a, b, q)),
      idle_set left other nobody (λ z. (refl, refl)) (idle_set views id w (at_work w (omega (arith, parts))) h.3),
    )

-- Whoever has all parts and finds the queue empty has taken what it put.
pub settled : (v : TicketView) → Held v [] → v.parts ≡ 1024 → (p : ℕ) → times p v.put ≡ times p v.taken
settled v held all p =
    let nobody = view 0 [] [] in
    let rest = set held.views held.by nobody in
    let parts = total_set (λ (u : TicketView). u.parts) held.views held.by v nobody held.mine in
    let empty : total (λ (u : TicketView). u.parts) rest ≡ 0 = (let q = held.kept.1 in omega (arith, parts, q, all)) in
    let idle = idle_set held.views held.by nobody (λ z. (refl, refl)) held.kept.3 in
    let none_there : (j : ℕ) (u : TicketView) → get_elem? rest j ≡ some u → u.parts ≡ 0 = λ j u e. (let le = total_at (λ (y : TicketView). y.parts) rest j u e in omega (arith, le, empty)) in
    let s = total_set (λ (u : TicketView). times p u.put) held.views held.by v nobody held.mine in
    let t = total_set (λ (u : TicketView). times p u.taken) held.views held.by v nobody held.mine in
    let a = total_none (λ (u : TicketView). times p u.put) rest (λ j u e. ap (times p) (idle j u e (none_there j u e)).0) in
    let b = total_none (λ (u : TicketView). times p u.taken) rest (λ j u e. ap (times p) (idle j u e (none_there j u e)).1) in
    let q = held.kept.2 p in omega (arith, s, t, a, b, q)
