-- What each status says.
use Rattle.std.specs.Prelude.{◌≡◌, ◌⊎◌, ℕ, Bool, true, IsTrue, List, Option, Some, Result, Ok, Err, IfSome, Vec}
use Rattle.std.specs.declared.alloc.Global.{Global}
use Rattle.gt_disk.specs.Files.{View, Rose, now}
use Rattle.gt_disk.specs.Moments.{Narrows}
use Rattle.gt_log.specs.declared.mount_cause.MountCause.{MountCause}
use Rattle.gt_log.specs.declared.mount_cause.MountCause.TheVariants.{DeviceFault, Damaged as DamagedFile, Memory as NoMemoryToMount}
use Rattle.gt_model.specs.declared.limits.Limits.{Limits}
use Rattle.gt_model.specs.Usual.{usual}
use Rattle.gt_journal.specs.Histories.{IsGood}
use Rattle.gt_prog.specs.declared.playing.PlayCause.{PlayCause}
use Rattle.gt_prog.specs.declared.playing.PlayCause.TheVariants.{Write, Device, Damaged as DamagedLater, Memory as NoMemoryToPlay}
use Rattle.gt_script.specs.declared.request.Request.{Request}
use Rattle.gt_prog.specs.declared.status.Status.{Status}
use Rattle.gt_prog.specs.declared.status.Status.TheVariants.{Done, Usage, ReadFault, WriteFault, DiskFault, Damaged, Memory, BadInput, NotYet}
use Rattle.gt_prog.specs.Replay.{Replayed, ReplayedPart}
use Rattle.gt_prog.specs.Script.{bad_at, not_yet_at, script_of}
use Rattle.gt_prog.specs.Words.{is_replay}

-- the greatest input, in bytes
abbrev pub input_limit : ℕ
input_limit = 134217728

-- the input, where it is told, asks for these requests
abbrev pub Asks : Option (List ℕ) → List Request → Type 0
Asks input requests = IfSome input (λ bytes. script_of input_limit bytes ≡ Ok requests)

-- the input, where it is told, has its first bad line and the place in it here
abbrev pub IsBadAt : Option (List ℕ) → ℕ → ℕ → Type 0
IsBadAt input line at = IfSome input (λ bytes. script_of input_limit bytes ≡ Err (bad_at line at))

-- the input, where it is told, has good lines alone, and its first line of a form that isn't built here
abbrev pub IsNotYetAt : Option (List ℕ) → ℕ → Type 0
IsNotYetAt input line = IfSome input (λ bytes. script_of input_limit bytes ≡ Err (not_yet_at line))

-- the input, where it is told, is a script that can be done
abbrev pub IsGoodInput : Option (List ℕ) → Type 0
IsGoodInput input = (requests : List Request) × Asks input requests

-- the statuses before the disk is taken
abbrev pub IsEarly : Status → Type 0
IsEarly Done = ⊥
IsEarly Usage = Unit {0}
IsEarly ReadFault = Unit {0}
IsEarly WriteFault = ⊥
IsEarly (DiskFault disk) = ⊥
IsEarly (Damaged disk file at) = ⊥
IsEarly Memory = ⊥
IsEarly (BadInput line at) = Unit {0}
IsEarly (NotYet line) = Unit {0}

-- the statuses of the work that follows the reading of the input; want of memory may come of either
abbrev pub IsUnderway : Status → Type 0
IsUnderway Done = Unit {0}
IsUnderway Usage = ⊥
IsUnderway ReadFault = ⊥
IsUnderway WriteFault = Unit {0}
IsUnderway (DiskFault disk) = Unit {0}
IsUnderway (Damaged disk file at) = Unit {0}
IsUnderway Memory = ⊥
IsUnderway (BadInput line at) = ⊥
IsUnderway (NotYet line) = ⊥

-- Nothing was written, and where the disk tells it, it reads as before, a stop can leave nothing new, and it may be handed in again if it might before.
pub record IsUntouched (tells : Bool) (limits : Limits) (old new : View) (written out : Option (List ℕ)) : Type 0 where
  pub silent : out ≡ written
  pub reads : IsTrue tells → new.reads ≡ old.reads
  pub moments : IsTrue tells → Narrows old new
  pub good : IsTrue tells → IsGood limits (now old) → IsGood limits (now new)

-- All requests of the input were done and answered.
pub record IsDone (tells : Bool) (limits : Limits) (input : Option (List ℕ)) (old new : View) (before after : ℕ) (written out : Option (List ℕ)) : Type 0 where
  pub requests : List Request
  pub asked : Asks input requests
  pub replayed : Replayed tells limits requests old new before after written out

-- This cause ended the work among the requests of the input.
pub record IsCutShort (tells : Bool) (limits : Limits) (cause : PlayCause) (input : Option (List ℕ)) (old new : View) (before after : ℕ) (written out : Option (List ℕ)) : Type 0 where
  pub requests : List Request
  pub asked : Asks input requests
  pub replayed : ReplayedPart tells limits cause requests old new before after written out

-- The work ended before the requests, or this cause ended it among them.
abbrev pub IsBroken : Bool → Limits → PlayCause → Option (List ℕ) → View → View → ℕ → ℕ → Option (List ℕ) → Option (List ℕ) → Type 0
IsBroken tells limits cause input old new before after written out = IsUntouched tells limits old new written out ⊎ IsCutShort tells limits cause input old new before after written out

-- how the work over known requests ends
abbrev pub WorkEnds : Bool → Limits → List Request → View → View → ℕ → ℕ → Option (List ℕ) → Option (List ℕ) → Status → Type 0
WorkEnds tells limits requests old new before after written out Done = Replayed tells limits requests old new before after written out
WorkEnds tells limits requests old new before after written out Usage = ⊥
WorkEnds tells limits requests old new before after written out ReadFault = ⊥
WorkEnds tells limits requests old new before after written out WriteFault = ReplayedPart tells limits Write requests old new before after written out
WorkEnds tells limits requests old new before after written out (DiskFault disk) = IsUntouched tells limits old new written out ⊎ ReplayedPart tells limits Device requests old new before after written out
WorkEnds tells limits requests old new before after written out (Damaged disk file at) = IsUntouched tells limits old new written out ⊎ ReplayedPart tells limits (DamagedLater file at) requests old new before after written out
WorkEnds tells limits requests old new before after written out Memory = IsUntouched tells limits old new written out ⊎ ReplayedPart tells limits NoMemoryToPlay requests old new before after written out
WorkEnds tells limits requests old new before after written out (BadInput line at) = ⊥
WorkEnds tells limits requests old new before after written out (NotYet line) = ⊥

-- what reading the input gives: its requests, or the status with its cause
abbrev pub ReadsInput : Result (Vec Request Global) Status → Option (List ℕ) → Type 0
ReadsInput (Ok requests) input = Asks input requests.items
ReadsInput (Err Done) input = ⊥
ReadsInput (Err Usage) input = ⊥
ReadsInput (Err ReadFault) input = Unit {0}
ReadsInput (Err WriteFault) input = ⊥
ReadsInput (Err (DiskFault disk)) input = ⊥
ReadsInput (Err (Damaged disk file at)) input = ⊥
ReadsInput (Err Memory) input = Unit {0}
ReadsInput (Err (BadInput line at)) input = IsBadAt input line at
ReadsInput (Err (NotYet line)) input = IsNotYetAt input line

-- The count of faults of the host or of the disk rose.
abbrev pub RoseEither : ℕ → ℕ → ℕ → ℕ → Type 0
RoseEither host_before host_now disk_before disk_now = Rose host_before host_now ⊎ Rose disk_before disk_now

-- The word is `replay`, the input is told and is a script that can be done, and the disk tells and may be handed in.
pub record AreGood (tells : Bool) (words : List (List ℕ)) (input : Option (List ℕ)) (disk : View) : Type 0 where
  pub telling : IsTrue tells
  pub replay : is_replay words ≡ true
  pub bytes : List ℕ
  pub told : input ≡ Some bytes
  pub requests : List Request
  pub script : script_of input_limit bytes ≡ Ok requests
  pub good : IsGood usual (now disk)

abbrev pub status_of_mount : MountCause → Status
status_of_mount DeviceFault = DiskFault 1
status_of_mount (DamagedFile file at) = Damaged 1 file at
status_of_mount NoMemoryToMount = Memory

abbrev pub status_of_play : PlayCause → Status
status_of_play Write = WriteFault
status_of_play Device = DiskFault 1
status_of_play (DamagedLater file at) = Damaged 1 file at
status_of_play NoMemoryToPlay = Memory
