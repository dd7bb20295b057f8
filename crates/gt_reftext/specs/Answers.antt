-- What the code's answers say of the definitions.
use Rattle.std.specs.Prelude.{◌≡◌, ℕ, [], Result, Ok, Err, Option, Some, None}
use Rattle.gt_reftext.specs.declared.error.RefTextError.{RefTextError}
use Rattle.gt_reftext.specs.declared.error.RefTextError.TheVariants.{BadLine, Memory}
use Rattle.gt_reftext.specs.declared.so_far.PackedSoFar.{PackedSoFar}
use Rattle.gt_reftext.specs.Packed as packed

-- The error is the number of the first bad line, or memory ran out.
abbrev pub Fails : {A : Type 0} → RefTextError → Result A ℕ → Type 0
Fails Memory read = Unit {0}
Fails (BadLine line) read = read ≡ Err line

-- What was answered is what is read, or memory ran out.
abbrev pub Gives : {A : Type 0} → Result A RefTextError → Result A ℕ → Type 0
Gives (Ok x) read = read ≡ Ok x
Gives (Err e) read = Fails e read

-- the references so far as the definitions see them
abbrev pub seen : PackedSoFar → packed.PackedSoFar
seen s = (s.done.entries, s.last)

-- What was answered is what the line makes of those so far, or memory ran out.
abbrev pub Moves : ℕ → Result PackedSoFar RefTextError → Option packed.PackedSoFar → Type 0
Moves number (Ok s) after = after ≡ Some (seen s)
Moves number (Err Memory) after = Unit {0}
Moves number (Err (BadLine line)) after = (after ≡ None) × (line ≡ number)

abbrev pub GivesProgress : Result PackedSoFar RefTextError → Result packed.PackedSoFar ℕ → Type 0
GivesProgress (Ok s) read = read ≡ Ok (seen s)
GivesProgress (Err e) read = Fails e read

-- What was answered is this.
abbrev pub Is : Option PackedSoFar → Option packed.PackedSoFar → Type 0
Is None after = after ≡ None
Is (Some s) after = after ≡ Some (seen s)

-- Before the first reference.
abbrev pub IsNothing : packed.PackedSoFar → Type 0
IsNothing s = (s.0 ≡ []) × (s.1 ≡ None)

-- This holds where memory ran out.
abbrev pub OnMemory : {A : Type 0} → Result A RefTextError → Type 0 → Type 0
OnMemory (Ok x) P = Unit {0}
OnMemory (Err e) P = e ≡ Memory → P

-- What has a reference has one from its first line on, but for a header.
abbrev pub IsBegunBy : Result PackedSoFar RefTextError → Type 0 → Type 0
IsBegunBy (Ok s) P = ¬ IsNothing (seen s) → P
IsBegunBy (Err e) P = Unit {0}
