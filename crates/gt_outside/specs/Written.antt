-- What a write does to the bytes that a sink tells. A sink may stop telling them, and then says nothing ever after.
use Rattle.std.specs.Prelude.{◌≡◌, ℕ, List, ◌++◌, take, Result, MatchResult, Option, Some, None}

-- the bytes that are told grow by bs
abbrev pub AppendsAll : Option (List ℕ) → Option (List ℕ) → List ℕ → Type 0
AppendsAll old None bs = Unit {0}
AppendsAll None (Some ys) bs = ⊥
AppendsAll (Some xs) (Some ys) bs = ys ≡ xs ++ bs

-- the bytes that are told grow by a front of bs
pub record AppendsFront (old new : Option (List ℕ)) (bs : List ℕ) : Type 0 where
  pub front : List ℕ
  pub back : List ℕ
  pub split : bs ≡ front ++ back
  pub grown : AppendsAll old new front

-- a write appended the bytes that it took, and a failed one a front of the piece
abbrev pub WriteAppends : {E : Type 0} → Option (List ℕ) → Option (List ℕ) → Result ℕ E → List ℕ → Type 0
WriteAppends old new result piece = MatchResult result (λ n. AppendsAll old new (take n piece)) (λ _. AppendsFront old new piece)
