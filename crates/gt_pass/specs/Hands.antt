-- The views of a table of passes, its rule, and what each step tells.
use Rattle.std.specs.Prelude.{◌≡◌, ◌⊎◌, ℕ, ◌+◌, ◌≤◌, ◌==◌, List, [], ◌∷◌, ◌++◌, length, Bool, true, false}
use mathlib.Core.Option.{some}
use lib.ListN.{get_elem?}
use Rattle.atomic_table.specs.Table.{State, Me, Step}
use Rattle.gt_pass.specs.declared.hand.Hand.{Hand}

abbrev pub pick : {A : Type 0} → Bool → A → A → A
pick true x y = x
pick false x y = y

abbrev pub total : {A : Type 0} → (A → ℕ) → List A → ℕ
total f [] = 0
total f (x ∷ xs) = f x + total f xs

-- 1 where the pass has this number
abbrev pub has : ℕ → ℕ × ℕ → ℕ
has n p = pick (p.0 == n) 1 0

-- how often the number stands in the list
abbrev pub times : ℕ → List (ℕ × ℕ) → ℕ
times n ps = total (has n) ps

abbrev pub without : ℕ → List (ℕ × ℕ) → List (ℕ × ℕ)
without n [] = []
without n (p ∷ ps) = pick (p.0 == n) (without n ps) (p ∷ without n ps)

abbrev pub IsIn : ℕ × ℕ → List (ℕ × ℕ) → Type 0
IsIn p [] = ⊥
IsIn p (q ∷ qs) = (p ≡ q) ⊎ IsIn p qs

abbrev pub keeping : List (ℕ × ℕ) → List (ℕ × ℕ) → Hand
keeping live hand = record { keeps = true; live = live; hand = hand }

abbrev pub bearing : List (ℕ × ℕ) → Hand
bearing hand = record { keeps = false; live = []; hand = hand }

abbrev pub first_of : List (ℕ × ℕ) → List (ℕ × ℕ)
first_of [] = []
first_of (p ∷ ps) = p ∷ []

abbrev pub rest_of : List (ℕ × ℕ) → List (ℕ × ℕ)
rest_of [] = []
rest_of (p ∷ ps) = ps

abbrev pub live_after : List (ℕ × ℕ) → List (ℕ × ℕ) → List (ℕ × ℕ)
live_after [] live = live
live_after (p ∷ ps) live = without p.0 live

abbrev pub Fits : List (ℕ × ℕ) → ℕ → ℕ → Hand → Type 0
Fits live seat by v = (v.keeps ≡ true → (by ≡ seat) × (v.live ≡ live)) × (v.keeps ≡ false → length v.hand ≤ 1)

abbrev pub IsKeeper : List Hand → ℕ → Type 0
IsKeeper views seat = (v : Hand) × (get_elem? views seat ≡ some v) × (v.keeps ≡ true)

-- One view is the keeper's, and each other has one number at most. The passes in all hands are the live ones, however they are weighed, and no number is live twice
abbrev pub Kept : State ℕ Hand → Type 0
Kept s =
    (seat : ℕ) × (live : List (ℕ × ℕ))
    × (s.words ≡ 0 ∷ []) × IsKeeper s.views seat
    × ((h : ℕ × ℕ → ℕ) → total (λ v. total h v.hand) s.views ≡ total h live)
    × ((n : ℕ) → times n live ≤ 1)
    × ((by : ℕ) (v : Hand) → get_elem? s.views by ≡ some v → Fits live seat by v)

abbrev pub dealt : Hand → Hand
dealt v = record { keeps = v.keeps; live = v.live; hand = rest_of v.hand }

abbrev pub taken : Hand → Hand
taken v = bearing (first_of v.hand)

abbrev pub both : Hand → Hand → Hand
both v w = record { keeps = v.keeps; live = v.live; hand = w.hand ++ v.hand }

-- the pass is live, and in the hand
abbrev pub Opens : ℕ × ℕ → Step ℕ → Me ℕ Hand → ℕ → Me ℕ Hand → Type 0
Opens p s m n w = w ≡ (record { keeps = m.0.keeps; live = m.0.live ++ p ∷ []; hand = p ∷ m.0.hand }, m.1)

-- what is in the hand is live, and no number is there twice
abbrev pub Checks : Step ℕ → Me ℕ Hand → ℕ → Me ℕ Hand → Type 0
Checks s m n w = (w ≡ m) × ((p : ℕ × ℕ) → IsIn p m.0.hand → IsIn p m.0.live) × ((n : ℕ) → times n m.0.hand ≤ 1)

-- the first of the hand leaves it, and its number is no longer live
abbrev pub Ends : Step ℕ → Me ℕ Hand → ℕ → Me ℕ Hand → Type 0
Ends s m n w = w ≡ (record { keeps = m.0.keeps; live = live_after m.0.hand m.0.live; hand = rest_of m.0.hand }, m.1)
