-- The claim word: what each claimer knows, the rule, and what each step tells.
use Rattle.std.specs.Prelude.{◌≡◌, ℕ, ◌+◌, ◌-◌, ◌^◌, ◌≤◌, ◌<◌, nat_lt, min, List, [], ◌∷◌, ◌++◌}
use mathlib.Core.Option.{some}
use lib.ListN.{get_elem?}
use Rattle.atomic_table.specs.Table.{State, Me, Step}
use Rattle.gt_pool.specs.declared.claim_view.ClaimView.{ClaimView}
use Rattle.gt_pool.specs.Counting.{pick, total, times, below}

abbrev pub view : ℕ → ℕ → ℕ → List ℕ → ClaimView
view parts count over claims = record { parts = parts; count = count; over = over; claims = claims }

-- A claimer without a part has claimed nothing. The others know the count, and whoever found the word past the count shows that it is.
abbrev pub Fits : ℕ → ℕ → ClaimView → Type 0
Fits count n v = (v.parts ≡ 0 → v.claims ≡ []) × (1 ≤ v.parts → v.count ≡ count) × (v.over ≤ v.parts) × (1 ≤ v.over → count ≤ n)

-- The claims of all are the numbers below the word and the count, each once. There are 1,024 parts, and the word passes the count
-- by no more than the claimers that found it there.
abbrev pub Kept : ℕ → State ℕ ClaimView → Type 0
Kept count s =
    (n : ℕ) × (s.words ≡ n ∷ []) × (count < 2 ^ 32)
    × (total (λ v. v.parts) s.views ≡ 1024) × (n ≤ count + total (λ v. v.over) s.views)
    × ((x : ℕ) → total (λ v. times x v.claims) s.views ≡ below x (min n count))
    × ((by : ℕ) (v : ClaimView) → get_elem? s.views by ≡ some v → Fits count n v)

-- one claim: the number that the word had, if it is below the count
abbrev pub claimed : ClaimView → ℕ → ClaimView
claimed v n = view v.parts v.count (v.over + pick (nat_lt n v.count) 0 1) (v.claims ++ pick (nat_lt n v.count) (n ∷ []) [])

abbrev pub Claims : Step ℕ → Me ℕ ClaimView → ℕ → Me ℕ ClaimView → Type 0
Claims s m n w = w ≡ (claimed m.0 n, m.1)

-- one part goes to another claimer
abbrev pub lent : ClaimView → ClaimView
lent v = view (v.parts - 1) v.count v.over v.claims

abbrev pub started : ClaimView → ClaimView
started v = view 1 v.count 0 []

abbrev pub both : ClaimView → ClaimView → ClaimView
both v w = view (v.parts + w.parts) v.count (v.over + w.over) (v.claims ++ w.claims)

-- Whoever has all parts, and found the word past the count, has each number below the count once.
abbrev pub Looks : Step ℕ → Me ℕ ClaimView → ℕ → Me ℕ ClaimView → Type 0
Looks s m n w = (w ≡ m) × (m.0.parts ≡ 1024 → 1 ≤ m.0.over → (x : ℕ) → times x m.0.claims ≡ below x m.0.count)
