-- What the pieces of a line come to.
use Rattle.std.specs.Prelude.{◌≡◌, ◌⊎◌, ℕ, nat_eq, List, filter, map as map_list, Option, Some, None, Result, Ok, Err}
use Rattle.std.specs.List.{starts_with}
use Rattle.std.specs.Option.{option_map}
use Rattle.std.specs.FinMap as map
use Rattle.gt_name.specs.Paths.{bad_path}
use Rattle.gt_name.specs.References.{bad_ref}
use Rattle.gt_model.specs.declared.done.Done.{Done}
use Rattle.gt_model.specs.declared.done.Done.TheVariants.{Refs}
use Rattle.gt_model.specs.declared.event.Event.{Event}
use Rattle.gt_model.specs.declared.event.Event.TheVariants.{GetRef}
use Rattle.gt_model.specs.declared.refusal.Refusal.{Refusal}
use Rattle.gt_model.specs.declared.refusal.Refusal.TheVariants.{StageFull, BadRef, BadPath, Memory}
use Rattle.gt_model.specs.declared.reference.RefValue.{RefValue}
use Rattle.gt_model.specs.declared.update.RefUpdate.{RefUpdate}
use Rattle.gt_model.specs.Contents.{key_cmp, Names}
use Rattle.gt_stage.specs.declared.error.StageError.{StageError}
use Rattle.gt_stage.specs.declared.error.StageError.TheVariants as stage
use Rattle.gt_stage.specs.Staging.{Holding, own_ref}
use Rattle.gt_session.specs.Sessions.{Open, Session}
use Rattle.gt_session.specs.Courses.{Course, refuses, alone, finds, asks, reads, Turned, old_in, laid_over}

-- ---- the words of a line

-- A word is refused for its cause. Where it has none, memory is wanted.
abbrev pub IsCause : Option Refusal → Refusal → Type 0
IsCause None refusal = refusal ≡ Memory
IsCause (Some cause) refusal = refusal ≡ cause

abbrev pub path_cause : List ℕ → Option Refusal
path_cause text = option_map BadPath (bad_path text)

abbrev pub ref_cause : List ℕ → Option Refusal
ref_cause text = option_map (λ bad. BadRef bad.0 bad.1) (bad_ref text)

-- ---- what a session does without the partition

-- It makes this answer, or it wants memory.
abbrev pub Turns : Session → Turned → Turned → Type 0
Turns s answered turned = (turned ≡ answered) ⊎ (turned ≡ (Err Memory, s))

abbrev pub IsAlone : Session → Course → Turned → Type 0
IsAlone s (refuses refusal) turned = turned ≡ (Err refusal, s)
IsAlone s (alone answered) turned = Turns s answered turned
IsAlone s (finds path e event) turned = ⊥
IsAlone s (asks partition e) turned = ⊥
IsAlone s (reads partition e make) turned = ⊥

-- an open transaction, and a session that has it open
abbrev pub open_with : ℕ → ℕ → Holding → Open
open_with partition pin stage = record { partition = partition; pin = pin; stage = stage }

abbrev pub session_with : ℕ → List ℕ → Open → Session
session_with number seen o = record { number = number; «open» = Some o; seen = seen }

abbrev pub stage_refusal : StageError → Refusal
stage_refusal stage.StageFull = StageFull
stage_refusal stage.Memory = Memory

-- The stage of any session takes this turn.
abbrev pub TurnsStage : (Session → Open → Turned) → Holding → Result Done Refusal → Holding → Type 0
TurnsStage turn old answer new =
    (number : ℕ) (seen : List ℕ) (partition pin : ℕ)
    → Turns (session_with number seen (open_with partition pin old)) (turn (session_with number seen (open_with partition pin old)) (open_with partition pin old)) (answer, session_with number seen (open_with partition pin new))

-- ---- a list of references

-- entries by their names; at a name that stands twice the first one counts
abbrev pub names_of : List (List ℕ × List ℕ) → Names
names_of entries = map.from_entries {R = key_cmp} entries

-- the entries whose names begin so, as references
abbrev pub values_with : List ℕ → List (List ℕ × List ℕ) → List RefValue
values_with prefix entries = map_list (λ e. record { name = e.0; value = e.1 }) (filter (λ e. starts_with nat_eq e.0 prefix) entries)

-- what was read, with the staged updates laid over it
abbrev pub done_over : List RefUpdate → List ℕ → Done → Done
done_over refs prefix (Refs list) = Refs (laid_over refs prefix list)
done_over refs prefix done = done

-- ---- the old value of a reference

module _ {P : Type 0} (Did : Event → Result Done Refusal → P → P → Type 0) where
  -- the value in what was read, or why it wasn't
  abbrev pub IsOldIn : Result Done Refusal → Result (List ℕ) Refusal → Type 0
  IsOldIn (Ok done) found = found ≡ Ok (old_in done)
  IsOldIn (Err refusal) found = found ≡ Err refusal

  -- the staged value, or else the one that the partition reads
  abbrev pub FindsOwn : ℕ → List ℕ → Option (List ℕ) → Result (List ℕ) Refusal → P → P → Type 0
  FindsOwn pin name (Some own) found old new = (found ≡ Ok own) × (new ≡ old)
  FindsOwn pin name None found old new = (answer : Result Done Refusal) × Did (GetRef pin name) answer old new × IsOldIn answer found

  -- the given value, or else the one that the transaction sees
  abbrev pub FindsOld : Open → List ℕ → Option (List ℕ) → Result (List ℕ) Refusal → P → P → Type 0
  FindsOld o name (Some given) found old new = (found ≡ Ok given) × (new ≡ old)
  FindsOld o name None found old new = FindsOwn o.pin name (own_ref o.stage.staged.refs name) found old new
