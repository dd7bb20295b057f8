-- The one spelling of each text and list. A byte is spelled as itself, a number as its `to_be_bytes`, a name as its 20 bytes.
use Rattle.std.specs.Prelude.{◌≡◌, ℕ, List, [], ◌∷◌, ◌++◌, length, take}
use Rattle.std.specs.List.{flat_map}
use Rattle.std.specs.Int.{w16, w32, to_be_bytes}

-- its length in 2 bytes, and its bytes
abbrev pub text : List ℕ → List ℕ
text bytes = to_be_bytes w16 (length bytes) ++ bytes

-- the number of the items in 4 bytes, and the items
abbrev pub counted : {A : Type 0} → (A → List ℕ) → List A → List ℕ
counted spell xs = to_be_bytes w32 (length xs) ++ flat_map spell xs

-- The second begins with the first.
abbrev pub IsFront : List ℕ → List ℕ → Type 0
IsFront front whole = take (length front) whole ≡ front

-- Each item is allowed after those before it, which are those of `front` first.
abbrev pub Follows : {A : Type 0} → (List A → A → Type 0) → List A → List A → Type 0
Follows Allowed front [] = Unit {0}
Follows Allowed front (x ∷ xs) = Allowed front x × Follows Allowed (front ++ x ∷ []) xs
