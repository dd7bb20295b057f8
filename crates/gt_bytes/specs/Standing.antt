-- What stands where in the bytes, and when a reader reads exactly what stands there.
use Rattle.std.specs.Prelude.{◌≡◌, ℕ, ◌+◌, ◌<◌, ◌≤◌, List, ◌++◌, length, drop, Result, Ok, slice_index}

-- Each is a byte.
abbrev pub IsBytes : List ℕ → Type 0
IsBytes bytes = (i : ℕ) → slice_index bytes i < 256

-- From a place up to the next the bytes are this part.
pub record Stands (bytes : List ℕ) (at : ℕ) (part : List ℕ) (next : ℕ) : Type 0 where
  pub parts : drop at bytes ≡ part ++ drop next bytes
  pub after : next ≡ at + length part
  pub within : next ≤ length bytes

-- What is read at a place stands there as it is spelled, and fits; and what fits and stands there as it is spelled is read.
pub record IsField {A : Type 0} (bytes : List ℕ) (read : ℕ → Result (A × ℕ) ℕ) (spell : A → List ℕ) (Fits : A → Type 0) : Type 0 where
  pub takes : IsBytes bytes → (at : ℕ) (x : A × ℕ) → at ≤ length bytes → read at ≡ Ok x → Stands bytes at (spell x.0) x.1 × Fits x.0
  pub again : (at : ℕ) (x : A) (next : ℕ) → at ≤ length bytes → Stands bytes at (spell x) next → Fits x → read at ≡ Ok (x, next)

-- What fits is read again from its spelling, whatever stands before and after it.
abbrev pub IsReadAgain : {A : Type 0} → (List ℕ → ℕ → Result (A × ℕ) ℕ) → (A → List ℕ) → (A → Type 0) → Type 0
IsReadAgain {A} read spell Fits = (front : List ℕ) (x : A) (rest : List ℕ) → Fits x → read (front ++ (spell x ++ rest)) (length front) ≡ Ok (x, length front + length (spell x))
