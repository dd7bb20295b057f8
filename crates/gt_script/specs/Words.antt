-- The words of a line.
use Rattle.std.specs.Prelude.{ℕ, ◌+◌, Bool, List, [], ◌∷◌, length, Option, Some, None, Result, Ok, Err, ◌==◌, ◌&&◌, not, nat_lt, if◌then◌else◌}
use Rattle.std.specs.List.{list_all, slice_split}

-- a word, and the place where it begins
pub record Placed : Type 0 where
  pub at : ℕ
  pub word : List ℕ

-- words that stand from this place on, with one space between each two
abbrev pub placed : ℕ → List (List ℕ) → List Placed
placed at [] = []
placed at (w ∷ ws) = record { at = at; word = w } ∷ placed (at + length w + 1) ws

abbrev pub is_space : ℕ → Bool
is_space b = b == 32

-- what stands before the first space of a text, between each two, and behind the last one
abbrev pub split : List ℕ → List (List ℕ)
split text = slice_split is_space text

-- the words of a text, each with its place
abbrev pub words_of : List ℕ → List Placed
words_of text = placed 0 (split text)

-- A word has one byte or more, and no line feed.
abbrev pub is_word : List ℕ → Bool
is_word w = nat_lt 0 (length w) && list_all (λ b. not (b == 10)) w

-- ---- reading words, in order: to a value, or to the place that is bad

abbrev pub if_good : {A B : Type 0} → Result A ℕ → (A → Result B ℕ) → Result B ℕ
if_good (Ok a) go_on = go_on a
if_good (Err at) go_on = Err at

abbrev pub or_bad : {A B : Type 0} → ℕ → Option A → (A → Result B ℕ) → Result B ℕ
or_bad at None go_on = Err at
or_bad at (Some a) go_on = go_on a

-- the first of these words with those behind it; its place if it is none, and the text's length where it is missing
abbrev pub first : ℕ → List Placed → Result (Placed × List Placed) ℕ
first end [] = Err end
first end (w ∷ ws) = if is_word w.word then Ok (w, ws) else Err w.at

-- the value of the first of these words, with the words behind it
abbrev pub value_first : {A : Type 0} → (List ℕ → Option A) → ℕ → List Placed → Result (A × List Placed) ℕ
value_first value end ws = if_good (first end ws) (λ x. or_bad x.0.at (value x.0.word) (λ a. Ok (a, x.1)))
