-- Marking in pieces: pairs are found one after the other, and what each mentions is looked up in that order.
use Rattle.std.specs.Prelude.{◌≡◌, ◌≢◌, ℕ, ◌<◌, ◌≤◌, List, ◌++◌, length}
use Rattle.std.specs.List.{All, AllPairs, AllWithin, HoldsAt, IsAmong}
use Rattle.gt_mark.specs.Reach.{Pair, Mentions, IsReached}

-- the pairs that were found, and of how many of them what they mention was looked up
pub record Found : Type 0 where
  pub pairs : List Pair
  pub looked : ℕ

-- No pair is found twice.
abbrev pub IsOnce : List Pair → Type 0
IsOnce pairs = AllPairs (λ a b. a ≢ b) pairs

-- What a pair mentions is found.
abbrev pub IsLookedUp : Mentions → List Pair → Pair → Type 0
IsLookedUp mentions pairs pair = (name : List ℕ) → IsAmong (mentions pair.0 pair.1) name → IsAmong pairs (pair.0, name)

-- The roots are found, what was found is reached, and what the first pairs mention, which were looked up, is found.
pub record IsUnderway (roots : List Pair) (mentions : Mentions) (f : Found) : Type 0 where
  pub within : f.looked ≤ length f.pairs
  pub roots_found : All (IsAmong f.pairs) roots
  pub reached : All (IsReached roots mentions) f.pairs
  pub looked_up : AllWithin (IsLookedUp mentions f.pairs) f.pairs 0 f.looked

-- just the pairs that are reached, each once
pub record IsLeast (roots : List Pair) (mentions : Mentions) (pairs : List Pair) : Type 0 where
  pub once : IsOnce pairs
  pub only : All (IsReached roots mentions) pairs
  pub whole : (pair : Pair) → IsReached roots mentions pair → IsAmong pairs pair

-- new has further pairs behind those of old
abbrev pub Extends : List Pair → List Pair → Type 0
Extends old new = (rest : List Pair) × (new ≡ old ++ rest)

-- new has further pairs behind those of old, each by this rule
pub record Finds (rule : Pair → Type 0) (old new : List Pair) : Type 0 where
  pub rest : List Pair
  pub grows : new ≡ old ++ rest
  pub each : All rule rest

-- a name of these in the repository
abbrev pub IsNamed : List ℕ → List (List ℕ) → Pair → Type 0
IsNamed path names pair = (pair.0 ≡ path) × IsAmong names pair.1

-- One of the pairs from the index low on and below high mentions it.
abbrev pub IsMentioned : Mentions → List Pair → ℕ → ℕ → Pair → Type 0
IsMentioned mentions pairs low high pair = (i : ℕ) × (low ≤ i) × (i < high) × HoldsAt (λ q. IsNamed q.0 (mentions q.0 q.1) pair) pairs i
