-- Lines that were done on a partition.
use Rattle.std.specs.Prelude.{◌≡◌, ℕ, ◌≤◌, Bool, IsTrue, List, [], ◌∷◌, ◌++◌, length, map, Option, Result}
use Rattle.std.specs.List.{flat_map}
use Rattle.gt_disk.specs.Files.{View}
use Rattle.gt_log.specs.declared.mount_cause.MountCause.{MountCause}
use Rattle.gt_log.specs.declared.mount_cause.MountCause.TheVariants.{DeviceFault, Damaged as DamagedFile, Memory as NoMemoryToMount}
use Rattle.gt_model.specs.declared.done.Done.{Done}
use Rattle.gt_model.specs.declared.limits.Limits.{Limits}
use Rattle.gt_model.specs.declared.refusal.Refusal.{Refusal}
use Rattle.gt_model.specs.Machine.{State}
use Rattle.gt_model.specs.Histories.{Happening}
use Rattle.gt_outside.specs.Written.{AppendsAll, AppendsFront}
use Rattle.gt_journal.specs.Histories.{Holds}
use Rattle.gt_history.specs.Runs.{KeepsPast}
use Rattle.gt_part.specs.Shown.{memory, Shown, HasRun, Continues}
use Rattle.gt_script.specs.declared.form.Form.TheVariants.{Restart}
use Rattle.gt_script.specs.declared.request.Request.{Request}
use Rattle.gt_session.specs.Sessions.{Session}
use Rattle.gt_prog.specs.declared.playing.PlayCause.{PlayCause}
use Rattle.gt_prog.specs.declared.playing.PlayCause.TheVariants.{Write, Device, Damaged, Memory}
use Rattle.gt_session.specs.Together.{GiveUp}
use Rattle.gt_prog.specs.AnyDisk.{Footing, footing, running_of, LocalActed, AreActed}
use Rattle.gt_prog.specs.Lines.{Line, Stand, past_of, standing, from_here, new_sessions, printed, numbered, asked_by, Counted, AreLines, IsEnd}

-- These lines were done, and led from the first sessions to the others: whatever the history before, they are what came then.
abbrev pub Goes : {D : Type 0} → Bool → (D → View) → Limits → List Line → List Session → List Session → Shown D → Shown D → Type 0
Goes tells view limits lines first last old new =
    IsTrue tells → (start : State) (begin : ℕ) (history : List Happening) → HasRun view start begin history old
    → Continues view start begin history (λ later. AreLines limits lines (from_here first (memory old)) (standing last (past_of (memory new) later))) old new

-- This request of the line of this number was done, and this is its answer.
abbrev pub DidOne : {D : Type 0} → Bool → (D → View) → Limits → ℕ → Request → Result Done Refusal → List Session → List Session → Shown D → Shown D → Type 0
DidOne tells view limits number request answer first last old new = Goes tells view limits (record { number = number; request = request; answer = answer } ∷ []) first last old new

-- A whole run: these lines were done, and then each session gave up what it had open.
pub record IsWhole (limits : Limits) (lines : List Line) (old new : State) (happened : List Happening) : Type 0 where
  pub stand : Stand
  pub did : AreLines limits lines (from_here new_sessions old) stand
  pub ends : IsEnd limits stand (past_of new happened)

-- These requests were done, and their answers and nothing else were written. The sessions, which were new, are these.
pub record Played {D : Type 0} (tells : Bool) (view : D → View) (fault_count : D → ℕ) (requests : List Request) (sessions : List Session) (old new : Shown D) (written out : Option (List ℕ)) : Type 0 where
  pub lines : List Line
  pub asked : map asked_by lines ≡ numbered 1 requests
  pub bytes : AppendsAll written out (flat_map printed lines)
  pub counted : Counted 0 (fault_count old.disk) (fault_count new.disk) lines
  pub acted : AreActed lines (footing new_sessions (running_of old)) (footing sessions (running_of new))
  pub goes : Goes tells view old.limits lines new_sessions sessions old new

-- All requests were done to the end of the run, and their answers and nothing else were written.
pub record PlayedWhole {D : Type 0} (tells : Bool) (view : D → View) (fault_count : D → ℕ) (requests : List Request) (old new : Shown D) (written out : Option (List ℕ)) : Type 0 where
  pub lines : List Line
  pub asked : map asked_by lines ≡ numbered 1 requests
  pub bytes : AppendsAll written out (flat_map printed lines)
  pub counted : Counted 0 (fault_count old.disk) (fault_count new.disk) lines
  pub acted : (stand : Footing) × AreActed lines (footing new_sessions (running_of old)) stand × GiveUp LocalActed stand.sessions stand.running (running_of new)
  pub goes : IsTrue tells → (start : State) (begin : ℕ) (history : List Happening) → HasRun view start begin history old
      → Continues view start begin history (IsWhole old.limits lines (memory old) (memory new)) old new

-- what these lines made holds on this disk
pub record Went {D : Type 0} (view : D → View) (start : State) (begin : ℕ) (history : List Happening) (old : Shown D) (end : View) (lines : List Line) : Type 0 where
  pub stand : Stand
  pub did : AreLines old.limits lines (from_here new_sessions (memory old)) stand
  pub past : KeepsPast (view old.disk) end
  pub holds : Holds old.limits start begin (stand.past.happened ++ history) end

-- a restart is the next request, and nothing of it was answered
pub record IsAtRestart (part : List Line) (rest : List (ℕ × Request)) : Type 0 where
  pub none : part ≡ []
  pub number : ℕ
  pub request : Request
  pub more : List (ℕ × Request)
  pub next : rest ≡ (number, request) ∷ more
  pub restart : request.form ≡ Restart

-- Where each cause ends the work: a failing output at an answer, a failing disk and damage at a restart alone, want of memory anywhere.
abbrev pub EndsAt : PlayCause → List Line → List (ℕ × Request) → Type 0
EndsAt Write part rest = length part ≡ 1
EndsAt Device part rest = IsAtRestart part rest
EndsAt (Damaged file at) part rest = IsAtRestart part rest
EndsAt Memory part rest = Unit {0}

-- what ends the work where a restart fails
abbrev pub restart_cause : MountCause → PlayCause
restart_cause DeviceFault = Device
restart_cause (DamagedFile file at) = Damaged file at
restart_cause NoMemoryToMount = Memory

-- the faults of the disk that a cause tells of
abbrev pub own_faults : PlayCause → ℕ
own_faults Write = 0
own_faults Device = 1
own_faults (Damaged file at) = 0
own_faults Memory = 0

-- Some first requests were done, until this cause ended the work. The answers of all but at most the last were written whole, and of that one's a front; want of memory cuts no line.
pub record PlayedPart {D : Type 0} (tells : Bool) (view : D → View) (fault_count : D → ℕ) (cause : PlayCause) (requests : List Request) (old : Shown D) (end : D) (written out : Option (List ℕ)) : Type 0 where
  pub whole : List Line
  pub part : List Line
  pub at_most_one : length part ≤ 1
  pub rest : List (ℕ × Request)
  pub asked : numbered 1 requests ≡ map asked_by (whole ++ part) ++ rest
  pub between : Option (List ℕ)
  pub bytes : AppendsAll written between (flat_map printed whole)
  pub front : AppendsFront between out (flat_map printed part)
  pub uncut : cause ≡ Memory → out ≡ between
  pub ends : EndsAt cause part rest
  pub counted : Counted (own_faults cause) (fault_count old.disk) (fault_count end) (whole ++ part)
  pub acted : (stand : Footing) × AreActed (whole ++ part) (footing new_sessions (running_of old)) stand
  pub went : IsTrue tells → (start : State) (begin : ℕ) (history : List Happening) → HasRun view start begin history old → Went view start begin history old (view end) (whole ++ part)
