-- A whole run: the lines of a script over a disk, what was written, and what the disk has come to.
use Rattle.std.specs.Prelude.{◌≡◌, ℕ, ◌≤◌, Bool, false, IsTrue, List, ◌++◌, length, map, Option, Some, None, Ok}
use Rattle.std.specs.List.{flat_map, AllByRecursion}
use Rattle.gt_disk.specs.Files.{Files, View, now, IsImage}
use Rattle.gt_model.specs.declared.limits.Limits.{Limits}
use Rattle.gt_model.specs.Histories.{position}
use Rattle.gt_model.specs.Machine.{Recovered, front, opening}
use Rattle.gt_outside.specs.Written.{AppendsAll, AppendsFront}
use Rattle.gt_base.specs.Recovery.{recover}
use Rattle.gt_journal.specs.Histories.{IsGood}
use Rattle.gt_journal.specs.Histories.{Holds}
use Rattle.gt_script.specs.declared.request.Request.{Request}
use Rattle.gt_prog.specs.declared.playing.PlayCause.{PlayCause}
use Rattle.gt_prog.specs.declared.playing.PlayCause.TheVariants.{Memory}
use Rattle.gt_prog.specs.Played.{EndsAt, own_faults}
use Rattle.gt_prog.specs.Lines.{Line, Past, Stand, from_here, new_sessions, printed, numbered, asked_by, names_damage, faulty, Stays, Counted, AreLines, IsEnd}
use Rattle.gt_prog.specs.AnyDisk.{ActedLines, ActedWhole}

-- The disk was opened at this moment with what it recovers to, and until then a stop leaves nothing that it couldn't leave before.
pub record IsOpened (limits : Limits) (old new : View) (start : Recovered) (begin : ℕ) : Type 0 where
  pub opens : recover limits old.reads ≡ Ok start
  pub later : old.clock ≤ begin
  pub passed : begin ≤ new.clock
  pub moments : (m : ℕ) → old.clock ≤ m → m ≤ begin → (image : Files) → IsImage (new.at m) image → IsImage (now old) image

-- Whatever a stop leaves of a disk recovers to what has each position that these lines were answered.
abbrev pub KeepsAnswers : Limits → View → List Line → Type 0
KeepsAnswers limits new lines = (image : Files) → IsImage (now new) image → (r : Recovered) × (recover limits image ≡ Ok r) × AllByRecursion (λ line. position line.answer ≤ front (opening r)) lines

-- Where the lines are all of the input, each session gives up what it has open. A cause ends the work with the lines.
abbrev pub EndsWith : Limits → Option PlayCause → Stand → Past → Type 0
EndsWith limits None stand end = IsEnd limits stand end
EndsWith limits (Some cause) stand end = end ≡ stand.past

-- The work on a disk, to the end of the input or until a cause ended it: the disk is opened, and new sessions do the lines, none of which finds damage. It has what all that made.
pub record Worked (limits : Limits) (cause : Option PlayCause) (old new : View) (lines : List Line) : Type 0 where
  pub start : Recovered
  pub begin : ℕ
  pub opened : IsOpened limits old new start begin
  pub stand : Stand
  pub did : AreLines limits lines (from_here new_sessions (opening start)) stand
  pub undamaged : AllByRecursion (λ line. names_damage line.answer ≡ false) lines
  pub end : Past
  pub ends : EndsWith limits cause stand end
  pub holds : Holds limits (opening start) begin end.happened new
  pub keeps : KeepsAnswers limits new lines

-- The files recover: no damage is passed over.
abbrev pub Opens : Limits → View → Type 0
Opens limits old = (start : Recovered) × (recover limits old.reads ≡ Ok start)

-- These requests were done, each answered as the machine answers over any disk, and their answers and nothing else were written; the disk's count of faults rose from the one number to the other, and where it stays no line was answered by a fault. A disk that tells recovers as it was handed in. One that may be handed in has come to the end of their run.
pub record Replayed (tells : Bool) (limits : Limits) (requests : List Request) (old new : View) (before after : ℕ) (written out : Option (List ℕ)) : Type 0 where
  pub lines : List Line
  pub asked : map asked_by lines ≡ numbered 1 requests
  pub bytes : AppendsAll written out (flat_map printed lines)
  pub counted : Counted 0 before after lines
  pub sure : Stays before after → faulty lines ≡ 0
  pub acted : ActedWhole limits lines
  pub opens : IsTrue tells → Opens limits old
  pub worked : IsTrue tells → IsGood limits (now old) → Worked limits None old new lines

-- Some first requests were done, until this cause ended the work. The answers of all but at most the last were written whole, and of that one's a front; want of memory cuts no line.
pub record ReplayedPart (tells : Bool) (limits : Limits) (cause : PlayCause) (requests : List Request) (old new : View) (before after : ℕ) (written out : Option (List ℕ)) : Type 0 where
  pub whole : List Line
  pub part : List Line
  pub at_most_one : length part ≤ 1
  pub rest : List (ℕ × Request)
  pub asked : numbered 1 requests ≡ map asked_by (whole ++ part) ++ rest
  pub between : Option (List ℕ)
  pub bytes : AppendsAll written between (flat_map printed whole)
  pub front : AppendsFront between out (flat_map printed part)
  pub uncut : cause ≡ Memory → out ≡ between
  pub ends : EndsAt cause part rest
  pub counted : Counted (own_faults cause) before after (whole ++ part)
  pub sure : Stays before after → faulty (whole ++ part) ≡ 0
  pub acted : ActedLines limits (whole ++ part)
  pub opens : IsTrue tells → Opens limits old
  pub worked : IsTrue tells → IsGood limits (now old) → Worked limits (Some cause) old new (whole ++ part)
