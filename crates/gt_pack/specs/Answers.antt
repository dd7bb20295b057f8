-- What the code's answers say.
use Rattle.std.specs.Prelude.{◌≡◌, ℕ, List, Result, Ok, Err, IsOk}
use Rattle.gt_pack.specs.declared.placed.Placed.{Placed}
use Rattle.gt_pack.specs.declared.error.PackError.{PackError}
use Rattle.gt_pack.specs.declared.error.PackError.TheVariants.{BadPack, Memory}
use Rattle.gt_pack.specs.Spelling.{Packed, IsPack, pack, places}

-- the fault of what is read, or memory ran out
abbrev pub FailsPack : {A : Type 0} → PackError → Result A ℕ → Type 0
FailsPack Memory read = Unit {0}
FailsPack (BadPack at) read = read ≡ Err at

-- What was answered is what is read, or memory ran out.
abbrev pub GivesPack : Result (List Placed) PackError → Result (List Placed) ℕ → Type 0
GivesPack (Ok x) read = read ≡ Ok x
GivesPack (Err e) read = FailsPack e read

-- Memory ran out only where this is read.
abbrev pub MemoryAfter : {A B : Type 0} → Result A PackError → Result B ℕ → Type 0
MemoryAfter (Ok x) read = Unit {0}
MemoryAfter (Err e) read = e ≡ Memory → IsOk read

-- The bytes are the pack of some records, and these are their places.
pub record IsIndexOf (bytes : List ℕ) (es : List Placed) : Type 0 where
  pub records : List Packed
  pub good : IsPack records
  pub spelled : bytes ≡ pack records
  pub placed : es ≡ places 8 records
