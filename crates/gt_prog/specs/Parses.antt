-- How reading a script ends.
use Rattle.std.specs.Prelude.{◌≡◌, ℕ, List, [], ◌∷◌, ◌++◌, Result, Ok, Err, Vec}
use Rattle.std.specs.declared.alloc.Global.{Global}
use Rattle.gt_script.specs.declared.request.Request.{Request}
use Rattle.gt_prog.specs.declared.script.ScriptError.{ScriptError}
use Rattle.gt_prog.specs.declared.script.ScriptError.TheVariants.{BadInput, NotYet, Memory}
use Rattle.gt_prog.specs.Script.{ScriptFault, bad_at, not_yet_at}

-- the fault is this; want of memory says nothing
abbrev pub Fails : Result (List Request) ScriptFault → ScriptError → Type 0
Fails script (BadInput line at) = script ≡ Err (bad_at line at)
Fails script (NotYet line) = script ≡ Err (not_yet_at line)
Fails script Memory = Unit {0}

-- the requests, or the fault
abbrev pub Parses : Result (List Request) ScriptFault → Result (Vec Request Global) ScriptError → Type 0
Parses script (Ok requests) = script ≡ Ok requests.items
Parses script (Err e) = Fails script e

-- the first bad line is this, at this place; want of memory says nothing
abbrev pub IsBadLine : Result (List Request) (ℕ × ℕ) → ScriptError → Type 0
IsBadLine read (BadInput line at) = read ≡ Err (line, at)
IsBadLine read (NotYet line) = ⊥
IsBadLine read Memory = Unit {0}

-- the request of a line stands behind the others
abbrev pub IsPushed : Result Request ℕ → List Request → List Request → Type 0
IsPushed (Ok r) old new = new ≡ old ++ r ∷ []
IsPushed (Err at) old new = ⊥

-- the line of this number is bad; want of memory says nothing
abbrev pub IsBad : Result Request ℕ → ℕ → ScriptError → Type 0
IsBad request number (BadInput line at) = (request ≡ Err at) × (line ≡ number)
IsBad request number (NotYet line) = ⊥
IsBad request number Memory = Unit {0}
