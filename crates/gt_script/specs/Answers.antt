-- What the code's answers say of the definitions.
use Rattle.std.specs.Prelude.{◌≡◌, ℕ, ◌≤◌, ◌+◌, Vec, List, [], ◌∷◌, length, drop, Option, Result, Ok, Err, IsOk}
use Rattle.std.specs.Borrow.{Bor}
use Rattle.std.specs.declared.alloc.Global.{Global}
use Rattle.gt_script.specs.declared.error.LineError.{LineError}
use Rattle.gt_script.specs.declared.error.LineError.TheVariants.{BadLine, Memory}
use Rattle.gt_script.specs.Words.{Placed, split, placed, value_first}

-- The error is the bad place; memory runs out only where there is none.
abbrev pub Fails : {A : Type 0} → Result A ℕ → LineError → Type 0
Fails read (BadLine at) = read ≡ Err at
Fails read Memory = IsOk read

-- What was answered is what is read, or why nothing is.
abbrev pub Gives : {A : Type 0} → Result A ℕ → Result A LineError → Type 0
Gives read (Ok a) = read ≡ Ok a
Gives read (Err e) = Fails read e

-- ---- the words behind a place: none where the text ends there, else those behind the space that stands there

abbrev pub behind : List ℕ → List (List ℕ)
behind [] = []
behind (b ∷ text) = split text

abbrev pub left : List ℕ → ℕ → List Placed
left text at = placed (at + 1) (behind (drop at text))

-- The error is this bad place.
abbrev pub FailsAt : {A : Type 0} → Result A ℕ → LineError → Type 0
FailsAt read (BadLine at) = read ≡ Err at
FailsAt read Memory = ⊥

-- A value was read behind this place, up to the place that is given.
abbrev pub Reads : {A : Type 0} → (List ℕ → Option A) → List ℕ → ℕ → Result (A × ℕ) LineError → Type 0
Reads value text at (Ok x) = (value_first value (length text) (left text at) ≡ Ok (x.0, left text x.1)) × (x.1 ≤ length text)
Reads value text at (Err e) = FailsAt (value_first value (length text) (left text at)) e

-- A word of the text was read as it stands.
abbrev pub ReadsText : (List ℕ → Option (List ℕ)) → List ℕ → ℕ → Result (Bor (List ℕ) × ℕ) LineError → Type 0
ReadsText value text at (Ok x) = (value_first value (length text) (left text at) ≡ Ok (x.0.now, left text x.1)) × (x.1 ≤ length text)
ReadsText value text at (Err e) = FailsAt (value_first value (length text) (left text at)) e

-- ---- printing

-- This text was written, or memory ran out.
abbrev pub Writes : List ℕ → Result (Vec ℕ Global) LineError → Type 0
Writes text (Ok out) = out.items ≡ text
Writes text (Err e) = e ≡ Memory
