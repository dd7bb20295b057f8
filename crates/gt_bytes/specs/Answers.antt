-- What the code's answer says of a reader of specs/Reading.antt.
use Rattle.std.specs.Prelude.{◌≡◌, ℕ, ◌≤◌, List, Result, Ok, Err, IsOk, slice_range}
use Rattle.gt_bytes.specs.declared.short.Short.{Short}
use Rattle.gt_bytes.specs.declared.error.FieldError.{FieldError}
use Rattle.gt_bytes.specs.declared.error.FieldError.TheVariants.{BadField, Memory}

-- ---- readers that take no memory

-- What was answered is what is read.
abbrev pub Reads : {A : Type 0} → Result (A × ℕ) Short → Result (A × ℕ) ℕ → Type 0
Reads (Ok x) read = read ≡ Ok x
Reads (Err e) read = read ≡ Err e.at

-- The place after the field is no further than the end of the bytes.
abbrev pub EndsWithin : {A : Type 0} → Result (A × ℕ) Short → ℕ → Type 0
EndsWithin (Ok x) len = x.1 ≤ len
EndsWithin (Err e) len = Unit {0}

-- The text that is read stands at the places that were answered.
abbrev pub ReadsText : List ℕ → Result ((ℕ × ℕ) × ℕ) Short → Result (List ℕ × ℕ) ℕ → Type 0
ReadsText bytes (Ok x) read = read ≡ Ok (slice_range bytes x.0.0 x.0.1, x.1)
ReadsText bytes (Err e) read = read ≡ Err e.at

-- A text begins before it ends, and ends no further than the bytes.
abbrev pub TextWithin : Result ((ℕ × ℕ) × ℕ) Short → ℕ → Type 0
TextWithin (Ok x) len = (x.0.0 ≤ x.0.1) × (x.0.1 ≤ len) × (x.1 ≤ len)
TextWithin (Err e) len = Unit {0}

-- ---- readers that take memory

-- The error is the fault of what is read, or memory ran out.
abbrev pub Fails : {A : Type 0} → FieldError → Result A ℕ → Type 0
Fails Memory read = Unit {0}
Fails (BadField at) read = read ≡ Err at

-- What was answered is what is read, or memory ran out.
abbrev pub Gives : {A : Type 0} → Result A FieldError → Result A ℕ → Type 0
Gives (Ok x) read = read ≡ Ok x
Gives (Err e) read = Fails e read

-- Memory ran out only where this is read.
abbrev pub MemoryAfter : {A B : Type 0} → Result A FieldError → Result B ℕ → Type 0
MemoryAfter (Ok x) read = Unit {0}
MemoryAfter (Err e) read = e ≡ Memory → IsOk read

-- The place after the field is no further than the end of the bytes.
abbrev pub Within : {A : Type 0} → Result (A × ℕ) FieldError → ℕ → Type 0
Within (Ok x) len = x.1 ≤ len
Within (Err e) len = Unit {0}
