-- What the code's answers say of the definitions.
use Rattle.std.specs.Prelude.{◌≡◌, ℕ, Result, Ok, Err, IsOk}
use Rattle.gt_bytes.specs.declared.short.Short.{Short}
use Rattle.gt_bytes.specs.declared.error.FieldError.{FieldError}
use Rattle.gt_bytes.specs.declared.error.FieldError.TheVariants.{BadField, Memory}
use Rattle.gt_entry.specs.declared.error.EntryError.{EntryError}
use Rattle.gt_entry.specs.declared.error.EntryError.TheVariants as here

-- An error of a field is one of the entry, at the same place.
abbrev pub Turns : FieldError → EntryError → Type 0
Turns (BadField at) e = e ≡ here.BadEntry at
Turns Memory e = e ≡ here.Memory

-- The error is the fault of what is read, or memory ran out.
abbrev pub Fails : {A : Type 0} → EntryError → Result A ℕ → Type 0
Fails here.Memory read = Unit {0}
Fails (here.BadEntry at) read = read ≡ Err at

-- What was answered is what is read, or memory ran out.
abbrev pub Reads : {A : Type 0} → Result A EntryError → Result A ℕ → Type 0
Reads (Ok x) read = read ≡ Ok x
Reads (Err e) read = Fails e read

-- What was answered is what is read. It takes no memory.
abbrev pub Checks : {A : Type 0} → Result A Short → Result A ℕ → Type 0
Checks (Ok x) read = read ≡ Ok x
Checks (Err e) read = read ≡ Err e.at

-- Memory ran out only where this is read.
abbrev pub MemoryAfter : {A B : Type 0} → Result A EntryError → Result B ℕ → Type 0
MemoryAfter (Ok x) read = Unit {0}
MemoryAfter (Err e) read = e ≡ here.Memory → IsOk read
