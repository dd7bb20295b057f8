-- Readers: from the whole bytes and a place in them to a value and the place after it, or to the place where the first field begins that can't be read.
use Rattle.std.specs.Prelude.{ℕ, zero, suc, ◌+◌, Bool, List, [], ◌∷◌, ◌++◌, length, take, drop, Result, Ok, Err, nat_lt, nat_eq, ◌==◌, if◌then◌else◌, slice_range}
use Rattle.std.specs.List.{starts_with}
use Rattle.std.specs.Int.{Width, w16, w32, byte_len, from_be_bytes}

-- ---- one reader after another

-- one step, and then the next with what it read; the first fault ends both
infixl 10 ◌>>=◌
abbrev pub ◌>>=◌ : {A B : Type 0} → Result A ℕ → (A → Result B ℕ) → Result B ℕ
(Ok x) >>= f = f x
(Err e) >>= f = Err e

-- a field, and then another
abbrev pub pair_at : {A B : Type 0} → (ℕ → Result (A × ℕ) ℕ) → (ℕ → Result (B × ℕ) ℕ) → ℕ → Result ((A × B) × ℕ) ℕ
pair_at {A} {B} r q at = let f : A × ℕ → Result ((A × B) × ℕ) ℕ = λ x. (let g : B × ℕ → Result ((A × B) × ℕ) ℕ = λ y. Ok ((x.0, y.0), y.1) in q x.1 >>= g) in r at >>= f

-- the same field, seen as another type
abbrev pub seen_at : {A B : Type 0} → (A → B) → (ℕ → Result (A × ℕ) ℕ) → ℕ → Result (B × ℕ) ℕ
seen_at {A} {B} to r at = let f : A × ℕ → Result (B × ℕ) ℕ = λ x. Ok (to x.0, x.1) in r at >>= f

-- a field that has to pass a test, else the fault is where it begins
abbrev pub kept : {A : Type 0} → (A → Bool) → ℕ → Result (A × ℕ) ℕ → Result (A × ℕ) ℕ
kept test at read = read >>= λ x. if test x.0 then Ok x else Err at

-- this many items one after the other, behind those of `front`; what may stand next depends on all that stand before it
abbrev pub many_at : {A : Type 0} → (List A → ℕ → Result (A × ℕ) ℕ) → ℕ → List A → ℕ → Result (List A × ℕ) ℕ
many_at item zero front at = Ok (front, at)
many_at item (suc n) front at = item front at >>= λ x. many_at item n (front ++ x.0 ∷ []) x.1

-- items one after the other as long as there are more, at most this many
abbrev pub while_at : {A : Type 0} → (ℕ → Bool) → (ℕ → Result (A × ℕ) ℕ) → ℕ → ℕ → Result (List A) ℕ
while_at more item zero at = if more at then Err at else Ok []
while_at more item (suc n) at = if more at then (item at >>= λ x. while_at more item n x.1 >>= λ xs. Ok (x.0 ∷ xs)) else Ok []

-- ---- the fields

-- the first byte of what is left
abbrev pub byte_from : List ℕ → ℕ → Result (ℕ × ℕ) ℕ
byte_from [] at = Err at
byte_from (b ∷ rest) at = Ok (b, at + 1)

-- a byte
abbrev pub byte_at : List ℕ → ℕ → Result (ℕ × ℕ) ℕ
byte_at bytes at = byte_from (drop at bytes) at

-- a number of this width, the highest byte first
abbrev pub number_at : Width → List ℕ → ℕ → Result (ℕ × ℕ) ℕ
number_at w bytes at = if nat_lt (length (drop at bytes)) (byte_len w) then Err at else Ok (from_be_bytes w (take (byte_len w) (drop at bytes)), at + byte_len w)

-- a name of 20 bytes
abbrev pub name_at : List ℕ → ℕ → Result (List ℕ × ℕ) ℕ
name_at bytes at = if nat_lt (length (drop at bytes)) 20 then Err at else Ok (take 20 (drop at bytes), at + 20)

-- a text: a number of 2 bytes, and as many bytes as it says
unfoldable pub text_at : List ℕ → ℕ → Result (List ℕ × ℕ) ℕ
text_at bytes at = do
  n ← number_at w16 bytes at
  if nat_lt (length (drop n.1 bytes)) n.0 then Err at else Ok (slice_range bytes n.1 (n.1 + n.0), n.1 + n.0)

-- a list: a number of 4 bytes, and as many items as it says
abbrev pub counted_at : {A : Type 0} → (List A → ℕ → Result (A × ℕ) ℕ) → List ℕ → ℕ → Result (List A × ℕ) ℕ
counted_at item bytes at = number_at w32 bytes at >>= λ n. many_at item n.0 [] n.1

-- the first item of such a list, which has to have one
abbrev pub first_at : {A : Type 0} → (List A → ℕ → Result (A × ℕ) ℕ) → List ℕ → ℕ → Result (A × ℕ) ℕ
first_at item bytes at = number_at w32 bytes at >>= λ n. if n.0 == 0 then Err n.1 else item [] n.1

-- these very bytes, as the word that a file begins with
abbrev pub word_at : List ℕ → List ℕ → ℕ → Result (Unit {0} × ℕ) ℕ
word_at word bytes at = if starts_with nat_eq (drop at bytes) word then Ok (tt, at + length word) else Err at

-- all of the bytes: what is read at their begin, if it ends where they end, else the place after it
abbrev pub all_of : {A : Type 0} → (ℕ → Result (A × ℕ) ℕ) → List ℕ → Result A ℕ
all_of read bytes = read 0 >>= λ x. if x.1 == length bytes then Ok x.0 else Err x.1
