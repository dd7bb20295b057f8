-- How the work ends, status by status.
use Rattle.std.proofs.Common.{◌≡◌, ◌⊎◌, inl, inr, ⊎_elim, ℕ, Bool, IsTrue, List, Option, refl, sym, subst, arith}
use Rattle.gt_disk.specs.declared.file_id.FileId.{FileId}
use Rattle.gt_disk.specs.Files.{View, now}
use Rattle.gt_disk.proofs.Steps.{since_none}
use Rattle.gt_model.specs.declared.limits.Limits.{Limits}
use Rattle.gt_prog.specs.declared.playing.PlayCause.{PlayCause}
use Rattle.gt_prog.specs.declared.playing.PlayCause.TheVariants.{Write, Device, Damaged as DamagedLater, Memory as NoMemory}
use Rattle.gt_script.specs.declared.request.Request.{Request}
use Rattle.gt_prog.specs.declared.status.Status.{Status}
use Rattle.gt_prog.specs.declared.status.Status.TheVariants.{Done, Usage, ReadFault, WriteFault, DiskFault, Damaged, Memory, BadInput, NotYet}
use Rattle.gt_journal.specs.Histories.{IsGood}
use Rattle.gt_prog.specs.Replay.{ReplayedPart}
use Rattle.gt_prog.specs.Statuses.{Asks, IsUntouched, IsDone, IsCutShort, IsBroken, WorkEnds, status_of_play}

module _ (tells : Bool) (limits : Limits) (requests : List Request) (old new : View) (before after : ℕ) (written out : Option (List ℕ)) where
  abbrev Part : PlayCause → Type 0
  Part cause = ReplayedPart tells limits cause requests old new before after written out

  part_ends : (cause : PlayCause) → Part cause → WorkEnds tells limits requests old new before after written out (status_of_play cause)
  part_ends Write part = part
  part_ends Device part = inr part
  part_ends (DamagedLater file at) part = inr part
  part_ends NoMemory part = inr part

  pub ends_in_part : (cause : PlayCause) (status : Status) → status ≡ status_of_play cause → Part cause → WorkEnds tells limits requests old new before after written out status
  ends_in_part cause status is part = subst (λ (s : Status). WorkEnds tells limits requests old new before after written out s) (sym is) (part_ends cause part)

  module _ (input : Option (List ℕ)) (asked : Asks input requests) (status : Status) (ends : WorkEnds tells limits requests old new before after written out status) where
    ended : (s : Status) → status ≡ s → WorkEnds tells limits requests old new before after written out s
    ended s is = subst (λ (s : Status). WorkEnds tells limits requests old new before after written out s) is ends

    pub is_done : status ≡ Done → IsDone tells limits input old new before after written out
    is_done is = record { requests = requests; asked = asked; replayed = ended Done is }

    cut_short : (cause : PlayCause) → Part cause → IsCutShort tells limits cause input old new before after written out
    cut_short cause part = record { requests = requests; asked = asked; replayed = part }

    pub is_cut_short : status ≡ WriteFault → IsCutShort tells limits Write input old new before after written out
    is_cut_short is = cut_short Write (ended WriteFault is)

    broken : (cause : PlayCause) → IsUntouched tells limits old new written out ⊎ Part cause → IsBroken tells limits cause input old new before after written out
    broken cause (inl u) = inl u
    broken cause (inr p) = inr (cut_short cause p)

    pub is_failed : (disk : ℕ) → status ≡ DiskFault disk → IsBroken tells limits Device input old new before after written out
    is_failed disk is = broken Device (ended (DiskFault disk) is)

    pub is_damaged : (disk : ℕ) (file : FileId) (at : ℕ) → status ≡ Damaged disk file at → IsBroken tells limits (DamagedLater file at) input old new before after written out
    is_damaged disk file at is = broken (DamagedLater file at) (ended (Damaged disk file at) is)

    pub is_without_memory : status ≡ Memory → IsBroken tells limits NoMemory input old new before after written out
    is_without_memory is = broken NoMemory (ended Memory is)

  -- ---- the disk may be handed in again

  part_good : (cause : PlayCause) → IsTrue tells → IsGood limits (now old) → Part cause → IsGood limits (now new)
  part_good cause told good part = let w = part.worked told good in w.holds.good new.clock w.opened.passed (omega arith)

  pub good_again : (status : Status) → WorkEnds tells limits requests old new before after written out status → IsTrue tells → IsGood limits (now old) → IsGood limits (now new)
  good_again Done ends told good = let w = ends.worked told good in w.holds.good new.clock w.opened.passed (omega arith)
  good_again Usage ends told good = absurd ends
  good_again ReadFault ends told good = absurd ends
  good_again WriteFault ends told good = part_good Write told good ends
  good_again (DiskFault disk) ends told good = ⊎_elim (λ u. u.good told good) (part_good Device told good) ends
  good_again (Damaged disk file at) ends told good = ⊎_elim (λ u. u.good told good) (part_good (DamagedLater file at) told good) ends
  good_again Memory ends told good = ⊎_elim (λ u. u.good told good) (part_good NoMemory told good) ends
  good_again (BadInput line at) ends told good = absurd ends
  good_again (NotYet line) ends told good = absurd ends

-- the status of work that was cut short is Damaged only by that cause
pub never_of : (cause : PlayCause) (status : Status) → status ≡ status_of_play cause → ((file : FileId) (at : ℕ) → cause ≡ DamagedLater file at → ⊥) → (disk : ℕ) (file : FileId) (at : ℕ) → status ≡ Damaged disk file at → ⊥
never_of Write status is none disk file at bad = absurd (cc (is, bad))
never_of Device status is none disk file at bad = absurd (cc (is, bad))
never_of (DamagedLater f a) status is none disk file at bad = none f a refl
never_of NoMemory status is none disk file at bad = absurd (cc (is, bad))

-- a view that is as it was
pub untouched : (tells : Bool) (limits : Limits) (old new : View) (written : Option (List ℕ)) → new ≡ old → IsUntouched tells limits old new written written
untouched tells limits old new written same = subst (λ (v : View). IsUntouched tells limits old v written written) (sym same) (record { silent = refl; reads = λ told. refl; moments = λ told. since_none _ old; good = λ told good. good })
