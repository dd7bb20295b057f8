-- The ticket queue: what each pass knows, the rule, and what each step tells.
use Rattle.std.specs.Prelude.{◌≡◌, ℕ, ◌+◌, ◌-◌, ◌≤◌, List, [], ◌∷◌, ◌++◌}
use mathlib.Core.Option.{some}
use lib.ListN.{get_elem?}
use Rattle.gt_pool.specs.declared.ticket_view.TicketView.{TicketView}
use Rattle.gt_pool.specs.Counting.{total, times}

-- A ticket is the number of a partition.
abbrev pub IsTicket : ℕ → Type 0
IsTicket p = (1 ≤ p) × (p ≤ 8)

abbrev pub AreTickets : List ℕ → Type 0
AreTickets [] = Unit {0}
AreTickets (p ∷ ps) = IsTicket p × AreTickets ps

abbrev pub view : ℕ → List ℕ → List ℕ → TicketView
view parts put taken = record { parts = parts; put = put; taken = taken }

-- A pass without a part has put and taken nothing.
abbrev pub IsIdle : TicketView → Type 0
IsIdle v = v.parts ≡ 0 → (v.put ≡ []) × (v.taken ≡ [])

-- The queue holds tickets. What was put is what was taken and what it holds, and there are 1,024 parts.
abbrev pub Kept : List ℕ → List TicketView → Type 0
Kept items views =
    AreTickets items
    × (total (λ v. v.parts) views ≡ 1024)
    × ((p : ℕ) → total (λ v. times p v.put) views ≡ total (λ v. times p v.taken) views + times p items)
    × ((by : ℕ) (v : TicketView) → get_elem? views by ≡ some v → IsIdle v)

abbrev pub Puts : TicketView → ℕ → TicketView → Type 0
Puts v p w = w ≡ view v.parts (v.put ++ p ∷ []) v.taken

abbrev pub Takes : TicketView → ℕ → TicketView → Type 0
Takes v p w = IsTicket p × (w ≡ view v.parts v.put (v.taken ++ p ∷ []))

-- At some moment the queue held these tickets, and this was what a pass knew then.
pub record Held (v : TicketView) (items : List ℕ) : Type 0 where
  pub views : List TicketView
  pub by : ℕ
  pub kept : Kept items views
  pub mine : get_elem? views by ≡ some v

-- one part goes to another pass
abbrev pub lent : TicketView → TicketView
lent v = view (v.parts - 1) v.put v.taken

abbrev pub both : TicketView → TicketView → TicketView
both v w = view (v.parts + w.parts) (v.put ++ w.put) (v.taken ++ w.taken)
