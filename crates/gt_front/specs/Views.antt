-- The views of a history, its rule, and what each step tells.
use Rattle.std.specs.Prelude.{◌≡◌, ℕ, ◌+◌, ◌≤◌, max, List, [], ◌∷◌, length, Bool, true, false}
use mathlib.Core.Option.{some}
use mathlib.Core.List.{IsPrefix}
use lib.ListN.{get_elem?}
use Rattle.atomic_table.specs.Table.{State, Me, Step}
use Rattle.gt_model.specs.declared.entry.Entry.{Entry}
use Rattle.gt_front.specs.declared.view.View.{View}

abbrev pub owning : ℕ → List Entry → List Entry → ℕ → View
owning first list told number = record { owns = true; spent = false; first = first; list = list; told = told; number = number }

abbrev pub reading : ℕ → List Entry → List Entry → ℕ → View
reading first list told number = record { owns = false; spent = false; first = first; list = list; told = told; number = number }

-- the view that a join leaves behind
abbrev pub nobody : View
nobody = record { owns = false; spent = true; first = 0; list = []; told = []; number = 0 }

-- the list's last position
abbrev pub reach : View → ℕ
reach v = v.first + length v.list

-- what the rule says of the view at `by`, where the owner's is at `seat` and has the list `log`
abbrev pub Fits : ℕ → List Entry → ℕ → ℕ → View → Type 0
Fits first log seat by v =
    (v.owns ≡ true → (by ≡ seat) × (v.list ≡ log))
    × (v.spent ≡ false → (v.first ≡ first) × IsPrefix v.list log × IsPrefix v.told v.list × (v.number ≤ first + length log))

abbrev pub IsOwned : List View → ℕ → Type 0
IsOwned views seat = (v : View) × (get_elem? views seat ≡ some v) × (v.owns ≡ true) × (v.spent ≡ false)

-- One view that is not spent is the owner's, and its list reaches to the word. Each list in a view that is not spent is a prefix of it, and each number there is at most the word
abbrev pub Kept : ℕ → State ℕ View → Type 0
Kept first s =
    (seat : ℕ) × (log : List Entry)
    × (s.words ≡ (first + length log) ∷ []) × IsOwned s.views seat
    × ((by : ℕ) (v : View) → get_elem? s.views by ≡ some v → Fits first log seat by v)

abbrev pub pick : {A : Type 0} → Bool → A → A → A
pick true x y = x
pick false x y = y

abbrev pub is_shorter : {A : Type 0} → List A → List A → Bool
is_shorter [] [] = false
is_shorter [] (y ∷ ys) = true
is_shorter (x ∷ xs) [] = false
is_shorter (x ∷ xs) (y ∷ ys) = is_shorter xs ys

abbrev pub longer : {A : Type 0} → List A → List A → List A
longer xs ys = pick (is_shorter xs ys) ys xs

abbrev pub shorter : {A : Type 0} → List A → List A → List A
shorter xs ys = pick (is_shorter xs ys) xs ys

-- a view that knows as much and does not own
abbrev pub copy : View → View
copy v = reading v.first v.list [] v.number

-- a view that takes in another: the owner keeps its list and a reader the longer one, and the other list is kept to be compared
abbrev pub both : View → View → View
both v w = record {
  owns = v.owns;
  spent = v.spent;
  first = v.first;
  list = pick v.owns v.list (longer v.list w.list);
  told = pick v.owns w.list (shorter v.list w.list);
  number = max v.number w.number;
}

-- what any look tells: the word, and that the list that was taken in is a prefix
abbrev pub Sees : View → ℕ → Type 0
Sees v n = IsPrefix v.told v.list × (reach v ≤ n) × (v.number ≤ n) × (v.owns ≡ true → n ≡ reach v)

-- the view after a look
abbrev pub seen : View → ℕ → View
seen v n = record { owns = v.owns; spent = v.spent; first = v.first; list = v.list; told = []; number = n }

-- a look that keeps the word as the view's number
abbrev pub Loads : Step ℕ → Me ℕ View → ℕ → Me ℕ View → Type 0
Loads s m n w = (w ≡ (seen m.0 n, m.1)) × Sees m.0 n

-- a look that keeps the view's number
abbrev pub Checks : Step ℕ → Me ℕ View → ℕ → Me ℕ View → Type 0
Checks s m n w = (w ≡ (seen m.0 m.0.number, m.1)) × Sees m.0 n

-- the owner's list becomes this one
abbrev pub Publishes : List Entry → Step ℕ → Me ℕ View → ℕ → Me ℕ View → Type 0
Publishes list s m n w = w ≡ (owning m.0.first list [] m.0.number, m.1)
