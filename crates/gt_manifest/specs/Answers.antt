-- What the code's answers say of the definitions.
use Rattle.std.specs.Prelude.{◌≡◌, ℕ, Result, Ok, Err, IsOk}
use Rattle.gt_bytes.specs.declared.error.FieldError.{FieldError}
use Rattle.gt_bytes.specs.declared.error.FieldError.TheVariants.{BadField, Memory}
use Rattle.gt_manifest.specs.declared.error.ManifestError.{ManifestError}
use Rattle.gt_manifest.specs.declared.error.ManifestError.TheVariants as here

-- An error of a field is one of the manifest, at the same place.
abbrev pub Turns : FieldError → ManifestError → Type 0
Turns (BadField at) e = e ≡ here.BadManifest at
Turns Memory e = e ≡ here.Memory

-- The error is the fault of what is read, or memory ran out.
abbrev pub Fails : {A : Type 0} → ManifestError → Result A ℕ → Type 0
Fails here.Memory read = Unit {0}
Fails (here.BadManifest at) read = read ≡ Err at

-- What was answered is what is read, or memory ran out.
abbrev pub Reads : {A : Type 0} → Result A ManifestError → Result A ℕ → Type 0
Reads (Ok x) read = read ≡ Ok x
Reads (Err e) read = Fails e read

-- Memory ran out only where this is read.
abbrev pub MemoryAfter : {A B : Type 0} → Result A ManifestError → Result B ℕ → Type 0
MemoryAfter (Ok x) read = Unit {0}
MemoryAfter (Err e) read = e ≡ here.Memory → IsOk read
