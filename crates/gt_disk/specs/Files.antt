-- Files, what a stop may leave of them, and what the calls of a disk do to them.
use Rattle.std.specs.Prelude.{◌≡◌, ◌≢◌, ◌⊎◌, ℕ, ◌+◌, ◌-◌, ◌^◌, ◌<◌, ◌≤◌, min, List, [], ◌++◌, length, take, drop, Option, Some, None, Result, Ok, Err, OnOk, OnErr, IsErrOf, IsSome, Vec}
use Rattle.std.specs.declared.alloc.Global.{Global}
use Rattle.std.specs.Option.{unwrap_or, option_map}
use Rattle.std.specs.Ordering.{nat_cmp, ordering_then}
use Rattle.std.specs.BTreeMap.Range.{IsLtBy, IsLeBy}
use Rattle.std.specs.declared.cmp.Ordering.{Ordering}
use Rattle.gt_disk.specs.declared.file_id.FileId.{FileId}
use Rattle.gt_disk.specs.declared.errors.DiskError.{DiskError}
use Rattle.gt_disk.specs.declared.errors.DiskError.TheVariants.{Failed, Memory}

-- a file: absent or its bytes
abbrev pub Content : Type 0
Content = Option (List ℕ)

-- a file as a program holds it
abbrev pub content : Option (Vec ℕ Global) → Content
content v = option_map (λ w. w.items) v

-- absent or bytes that a stop leaves; synced bytes and how many may stand behind them; anything
pub data FileState : Type 0 where
  still : Content → FileState
  grown : Content → ℕ → FileState
  loose : FileState

-- what a stop may leave of a file
abbrev pub Leaves : FileState → Content → Type 0
Leaves (still x) y = y ≡ x
Leaves (grown x k) y = ((x ≡ None) × (y ≡ None)) ⊎ ((more : List ℕ) × (length more ≤ k) × (y ≡ Some (unwrap_or x [] ++ more)))
Leaves loose y = Unit {0}

abbrev pub Files : Type 0
Files = FileId → Content

abbrev pub States : Type 0
States = FileId → FileState

-- a choice for each file by itself
abbrev pub IsImage : States → Files → Type 0
IsImage states image = (file : FileId) → Leaves (states file) (image file)

-- a disk: what a read shows, the clock, and the state of each file at each moment up to now
pub record View : Type 0 where
  pub reads : Files
  pub clock : ℕ
  pub at : ℕ → States

-- the states at this moment
abbrev pub now : View → States
now v = v.at v.clock

-- nothing that clauses see has changed
pub record Quiet (old new : View) : Type 0 where
  pub reads : new.reads ≡ old.reads
  pub clock : new.clock ≡ old.clock
  pub at : new.at ≡ old.at

-- time may go on, and nothing else has changed
pub record Unchanged (old new : View) : Type 0 where
  pub reads : new.reads ≡ old.reads
  pub later : old.clock ≤ new.clock
  pub past : (m : ℕ) → m ≤ old.clock → new.at m ≡ old.at m
  pub since : (m : ℕ) → old.clock < m → m ≤ new.clock → new.at m ≡ old.at old.clock

-- From now on one file has this state, and the rest is as it was.
pub record Becomes (file : FileId) (state : FileState) (old new : View) : Type 0 where
  pub moves : old.clock < new.clock
  pub past : (m : ℕ) → m ≤ old.clock → new.at m ≡ old.at m
  pub this : (m : ℕ) → old.clock < m → m ≤ new.clock → new.at m file ≡ state
  pub others : (m : ℕ) → old.clock < m → m ≤ new.clock → (g : FileId) → g ≢ file → new.at m g ≡ old.at old.clock g
  pub reads_others : (g : FileId) → g ≢ file → new.reads g ≡ old.reads g

-- At the end of the call the file is still, and until then nothing changes.
pub record Synced (file : FileId) (old new : View) : Type 0 where
  pub reads : new.reads ≡ old.reads
  pub later : old.clock ≤ new.clock
  pub past : (m : ℕ) → m ≤ old.clock → new.at m ≡ old.at m
  pub during : (m : ℕ) → old.clock < m → m < new.clock → new.at m ≡ old.at old.clock
  pub this : now new file ≡ still (old.reads file)
  pub others : (g : FileId) → g ≢ file → now new g ≡ now old g

-- the state after an append of k bytes, whole or in part
abbrev pub grow : ℕ → FileState → FileState
grow k (still x) = grown x k
grow k (grown x j) = grown x (j + k)
grow k loose = loose

-- the content with this piece behind it
abbrev pub appended : Content → List ℕ → Content
appended x piece = Some (unwrap_or x [] ++ piece)

-- P unless the call gave up for want of memory, and then Q
abbrev pub Touched : {T : Type 0} → Result T DiskError → Type 0 → Type 0 → Type 0
Touched (Ok x) P Q = P
Touched (Err Failed) P Q = P
Touched (Err Memory) P Q = Q

-- the piece stands behind the old bytes, or where the call failed a part of it
abbrev pub Appends : {T : Type 0} → List ℕ → Result T DiskError → Content → Content → Type 0
Appends piece (Ok x) old new = new ≡ appended old piece
Appends piece (Err Failed) old new = (new ≡ old) ⊎ ((n : ℕ) × (new ≡ Some (unwrap_or old [] ++ take n piece)))
Appends piece (Err Memory) old new = new ≡ old

-- the file is absent, or where the call failed it may still be there
abbrev pub Removes : {T E : Type 0} → Result T E → Content → Content → Type 0
Removes (Ok x) old new = new ≡ None
Removes (Err e) old new = (new ≡ None) ⊎ (new ≡ old)

abbrev pub length_of : Content → Option ℕ
length_of x = option_map length x

-- n bytes from this place stand at the front of the buffer, as many as there are and it takes
pub record ReadGives (content : Content) (at : ℕ) (old new : List ℕ) (n : ℕ) : Type 0 where
  pub count : n ≡ min (length old) (length (unwrap_or content []) - at)
  pub bytes : new ≡ take n (drop at (unwrap_or content [])) ++ drop n old

-- the count rose, or stands at its end
abbrev pub Rose : ℕ → ℕ → Type 0
Rose before after = min (before + 1) (2 ^ 64 - 1) ≤ after

-- A call fails only where the count of faults rose, and one that is Ok leaves it.
pub record HasCause {T E : Type 0} (before after : ℕ) (result : Result T E) : Type 0 where
  pub later : before ≤ after
  pub ok : OnOk result (after ≡ before)
  pub failed : OnErr result (Rose before after)

-- The same, and a call that gives up for want of memory leaves the count too: no fault hides as want of memory.
pub record HasDiskCause {T : Type 0} (before after : ℕ) (result : Result T DiskError) : Type 0 where
  pub later : before ≤ after
  pub ok : OnOk result (after ≡ before)
  pub failed : IsErrOf result Failed → Rose before after
  pub memory : IsErrOf result Memory → after ≡ before

-- by kind, then by number
abbrev pub file_cmp : FileId → FileId → Ordering
file_cmp f g = ordering_then (nat_cmp f.kind g.kind) (nat_cmp f.number g.number)

-- f comes after this file, where there is one
abbrev pub IsPast : Option FileId → FileId → Type 0
IsPast None f = Unit {0}
IsPast (Some a) f = IsLtBy file_cmp a f

-- the least file after this one, or none
abbrev pub IsNext : Files → Option FileId → Option FileId → Type 0
IsNext files after None = (g : FileId) → IsPast after g → files g ≡ None
IsNext files after (Some f) = IsPast after f × IsSome (files f) × ((g : FileId) → IsPast after g → IsSome (files g) → IsLeBy file_cmp f g)
