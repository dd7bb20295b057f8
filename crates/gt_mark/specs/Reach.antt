-- What is reached from some pairs of a repository and a name, by what each pair mentions: names of its own repository.
use Rattle.std.specs.Prelude.{ℕ, List, [], ◌∷◌}
use Rattle.std.specs.List.{IsAmong}

-- a repository's path, and a name in it
abbrev pub Pair : Type 0
Pair = List ℕ × List ℕ

-- the names that each pair mentions, none where no record is found
abbrev pub Mentions : Type 0
Mentions = List ℕ → List ℕ → List (List ℕ)

-- A root is the last of these, and each is mentioned by the one behind it.
abbrev pub IsWay : List Pair → Mentions → List ℕ → List ℕ → List (List ℕ) → Type 0
IsWay roots mentions path name [] = IsAmong roots (path, name)
IsWay roots mentions path name (needer ∷ way) = IsAmong (mentions path needer) name × IsWay roots mentions path needer way

-- A pair is reached where a way leads to it from a root: the least set that has the roots and what its members mention.
abbrev pub IsReached : List Pair → Mentions → Pair → Type 0
IsReached roots mentions pair = (way : List (List ℕ)) × IsWay roots mentions pair.0 pair.1 way
