-- Reading a log, entry by entry.
use Rattle.std.proofs.Common.{◌≡◌, ℕ, zero, suc, ◌+◌, ◌-◌, ◌<◌, max, true, List, [], ◌∷◌, ◌++◌, Result, Ok, Err, refl, sym, ap, ◌∙◌, subst, arith, append_assoc}
use Rattle.std.proofs.lemmas.List.{append-nil}
use Rattle.gt_disk.specs.Files.{Files, View, Quiet}
use Rattle.gt_disk.specs.Kinds.{entry_file}
use Rattle.gt_log.specs.declared.mount_cause.MountCause.{MountCause}
use Rattle.gt_model.specs.declared.change.Change.{Change}
use Rattle.gt_model.specs.declared.change.Change.TheVariants.{Create, Delete, Link, Write, Repack, Prune, PackRefs, Unlink}
use Rattle.gt_model.specs.declared.entry.Entry.{Entry}
use Rattle.gt_model.specs.Batches.{file_of, next_past}
use Rattle.gt_model.specs.Contents.{Content, after, after_all}
use Rattle.gt_model.proofs.Logs.{after_all-append}
use Rattle.gt_disk.specs.declared.file_id.FileId.{FileId}
use Rattle.gt_log.specs.declared.mount_cause.MountCause.TheVariants.{DeviceFault, Damaged, Memory}
use Rattle.gt_reading.specs.Reading.{Damage}
use Rattle.gt_base.specs.Answers.{Reads}
use Rattle.gt_base.specs.Built.{is_built, IsBuilt}
use Rattle.gt_base.specs.Entries.{entry_of as entry_at}
use Rattle.gt_journal.specs.Loading.{Loads, in_file}
use Rattle.gt_journal.proofs.ReadLog.{and_more, read_log, prepend}

prepend_none : (r : Result (List Entry) Damage) → r ≡ prepend [] r
prepend_none (Ok us) = refl
prepend_none (Err e) = refl

prepend_more : (log : List Entry) (u : Entry) (p : ℕ) (r : Result (List Entry) Damage) → prepend log (and_more (Ok u) p (λ x. r)) ≡ prepend (log ++ u ∷ []) r
prepend_more log u p (Ok us) = ap Ok (sym (append_assoc log (u ∷ []) us))
prepend_more log u p (Err e) = refl

-- the log past a position over a content
module _ (c : Content) where
  abbrev made : List Entry → Content
  made log = after_all c log

  pub load_start : (files : Files) (begin gate : ℕ) → read_log files c (begin + 1) (gate - begin) ≡ prepend [] (read_log files c (begin + 1) (gate - begin))
  load_start files begin gate = prepend_none (read_log files c (begin + 1) (gate - begin))

  pub load_more : (files : Files) (all : Result (List Entry) Damage) (log more : List Entry) (u : Entry) (n count : ℕ) → all ≡ prepend log (read_log files (made log) (n + 1) (count - n)) → n < count → entry_at (files (entry_file (n + 1))) (made log) (n + 1) ≡ Ok u
      → more ≡ log ++ u ∷ [] → all ≡ prepend more (read_log files (made more) (n + 1 + 1) (count - (n + 1)))
  load_more files all log more u n count is lt here more_is =
      is
      ∙ ap (λ (k : ℕ). prepend log (read_log files (made log) (n + 1) k)) (let e : count - n ≡ suc (count - (n + 1)) = omega (arith, lt) in e)
      ∙ ap (λ (o : Result Entry ℕ). prepend log (and_more o (n + 1) (λ x. read_log files (after (made log) x) (n + 1 + 1) (count - (n + 1))))) here
      ∙ prepend_more log u (n + 1) (read_log files (after (made log) u) (n + 1 + 1) (count - (n + 1)))
      ∙ ap (λ (c : Content). prepend (log ++ u ∷ []) (read_log files c (n + 1 + 1) (count - (n + 1)))) (sym (after_all-append c log (u ∷ [])))
      ∙ ap (λ (l : List Entry). prepend l (read_log files (made l) (n + 1 + 1) (count - (n + 1)))) (sym more_is)

  pub load_bad : (files : Files) (all : Result (List Entry) Damage) (log : List Entry) (n count place : ℕ) → all ≡ prepend log (read_log files (made log) (n + 1) (count - n)) → n < count → entry_at (files (entry_file (n + 1))) (made log) (n + 1) ≡ Err place → all ≡ Err (entry_file (n + 1), place)
  load_bad files all log n count place is lt here =
      is
      ∙ ap (λ (k : ℕ). prepend log (read_log files (made log) (n + 1) k)) (let e : count - n ≡ suc (count - (n + 1)) = omega (arith, lt) in e)
      ∙ ap (λ (o : Result Entry ℕ). prepend log (and_more o (n + 1) (λ x. read_log files (after (made log) x) (n + 1 + 1) (count - (n + 1))))) here

  -- an entry isn't read, and this is why
  pub load_unread : (files : Files) (all : Result (List Entry) Damage) (log : List Entry) (n count : ℕ) (cause : MountCause) → all ≡ prepend log (read_log files (made log) (n + 1) (count - n)) → n < count → Reads (in_file (entry_file (n + 1)) (entry_at (files (entry_file (n + 1))) (made log) (n + 1))) (Err cause)
      → Loads all (Err cause)
  load_unread files all log n count DeviceFault is lt here = tt
  load_unread files all log n count Memory is lt here = tt
  load_unread files all log n count (Damaged file at) is lt here = by (entry_at (files (entry_file (n + 1))) (made log) (n + 1)) refl here
    where
      by : (r : Result Entry ℕ) → entry_at (files (entry_file (n + 1))) (made log) (n + 1) ≡ r → in_file (entry_file (n + 1)) r ≡ Err (file, at) → all ≡ Err (file, at)
      by (Ok e) read bad = absurd (cc (bad))
      by (Err place) read bad = load_bad files all log n count place is lt read ∙ (let same : (entry_file (n + 1), place) ≡ (file, at) = cc (bad) in ap (λ (d : Damage). Err d) same)

  -- an entry is read
  pub read_ok : (file : FileId) (r : Result Entry ℕ) (e : Entry) → in_file file r ≡ Ok e → r ≡ Ok e
  read_ok file (Ok x) e is = let same : x ≡ e = cc (is) in ap (λ (x : Entry). Ok x) same
  read_ok file (Err at) e is = absurd (cc (is))

  pub load_end : (files : Files) (all : Result (List Entry) Damage) (log : List Entry) (n count : ℕ) → all ≡ prepend log (read_log files (made log) (n + 1) (count - n)) → n ≡ count → all ≡ Ok log
  load_end files all log n count is end =
      is ∙ ap (λ (k : ℕ). prepend log (read_log files (made log) (n + 1) k)) (let e : count - n ≡ zero = omega (arith, end) in e) ∙ ap Ok (append-nil log)

  -- what is read later was there before
  pub here_now : (v w : View) (log : List Entry) (number : ℕ) (r : Result Entry MountCause) → Quiet v w → Reads (in_file (entry_file number) (entry_at (w.reads (entry_file number)) (made log) number)) r → Reads (in_file (entry_file number) (entry_at (v.reads (entry_file number)) (made log) number)) r
  here_now v w log number r q is = subst (λ (files : Files). Reads (in_file (entry_file number) (entry_at (files (entry_file number)) (made log) number)) r) q.reads is

pub quiet_join : (u v w : View) → Quiet u v → Quiet v w → Quiet u w
quiet_join u v w q r = record { reads = r.reads ∙ q.reads; clock = r.clock ∙ q.clock; at = r.at ∙ q.at }

-- ---- numbers

no_file : (change : Change) → is_built change ≡ true → file_of change ≡ 0
no_file (Create pool) is = refl
no_file Delete is = refl
no_file (Write refs needed added) is = refl
no_file (Link pool) is = absurd (cc is)
no_file (Repack file dropped) is = absurd (cc is)
no_file (Prune file dropped) is = absurd (cc is)
no_file (PackRefs file) is = absurd (cc is)
no_file (Unlink file) is = absurd (cc is)

next_push : (next : ℕ) (log : List Entry) (e : Entry) → next_past next (log ++ e ∷ []) ≡ max (next_past next log) (file_of e.change + 1)
next_push next [] e = refl
next_push next (x ∷ xs) e = next_push (max next (file_of x.change + 1)) xs e

-- an entry of a kind that is built has no file
pub next_more : (next : ℕ) (log more : List Entry) (e : Entry) → IsBuilt e → more ≡ log ++ e ∷ [] → next_past next more ≡ max (next_past next log) 1
next_more next log more e built same = ap (next_past next) same ∙ next_push next log e ∙ ap (λ (n : ℕ). max (next_past next log) (n + 1)) (no_file e.change built)
