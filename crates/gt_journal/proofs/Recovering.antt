-- From files through their spelling to a log, and back.
use Rattle.std.proofs.Common.{◌≡◌, inl, inr, ℕ, zero, suc, ◌+◌, ◌-◌, ◌<◌, Bool, true, false, cond, nat_eq, ◌&&◌, List, [], ◌∷◌, ◌++◌, length, get_or, map, Some, None, Result, Ok, Err, refl, sym, ap, ap₂, ◌∙◌, arith, subst, IsTrue, length-append}
use Rattle.std.proofs.lemmas.List.{length-map, map-append, append-nil}
use Rattle.std.proofs.lemmas.Bool.{cases_lt}
use Rattle.std.proofs.lemmas.Bool.Decides.{nat_tests}
use Rattle.std.specs.Prelude.{bytes_eq}
use Rattle.gt_entry.specs.Reading.{entry_of}
use Rattle.gt_disk.specs.declared.file_id.FileId.{FileId}
use Rattle.gt_disk.specs.Files.{Content as FileContent, Files, States, IsImage, still}
use Rattle.gt_disk.specs.Kinds.{entry_file}
use Rattle.gt_log.specs.Log.{Recovers, KeepsEntries}
use Rattle.gt_log.proofs.Images.{image_still}
use Rattle.gt_model.specs.declared.entry.Entry.{Entry}
use Rattle.gt_model.specs.Contents.{Content, after, after_all, fits, IsLegal}
use Rattle.gt_model.proofs.Logs.{legal_front, legal_append}
use Rattle.gt_base.specs.Spelling.{encode, IsSpelled, AreSpelled, exactly, placed, decode}
use Rattle.gt_base.specs.Built.{is_built, IsBuilt}
use Rattle.gt_reading.specs.Reading.{Damage, done, run, asked, parsed, ◌>>=◌}
use Rattle.gt_reading.proofs.Programs.{split}
use Rattle.gt_reading.specs.Frames.{IsStill, AreStill}
use Rattle.gt_base.specs.Entries.{fitting, entry_of as entry_at, entry_in, entries_in}
use Rattle.gt_journal.specs.Ledger.{IsKept}
use Rattle.gt_journal.proofs.ReadLog.{and_more, read_log, entries_are}
use Rattle.gt_journal.proofs.Bytes.{pointwise-refl, pointwise-true}

bytes_same : (xs : List ℕ) → bytes_eq xs xs ≡ true
bytes_same xs = pointwise-refl xs

-- what is in a file at its position is read
decode_encode : (p : ℕ) (e : Entry) → e.position ≡ p → IsSpelled e → decode p (Some (encode e)) ≡ Ok e
decode_encode p e at (made, again) =
    let there : nat_eq e.position p ≡ true = grind (arith, nat_tests, at) in
    ap (λ r. placed p (exactly (encode e) r)) again
    ∙ ap (λ b. placed p (cond b (Ok e) (Err 0))) (bytes_same (encode e))
    ∙ ap (λ b. cond b (Ok e) (Err 4)) there

here_is : (c : Content) (p : ℕ) (e : Entry) → e.position ≡ p → IsSpelled e → IsTrue (fits c e) → entry_at (Some (encode e)) c p ≡ Ok e
here_is c p e at good fit =
    ap (fitting c) (decode_encode p e at good)
    ∙ ap (λ b. cond (b && fits c e) (Ok e) (Err 0)) good.0
    ∙ ap (λ b. cond b (Ok e) (Err 0)) fit

-- a log is read where each of its entries is in its file
reads : (files : Files) (c : Content) (p : ℕ) (log : List Entry) → ((k : ℕ) → k < length log → files (entry_file (p + k)) ≡ Some (get_or (map encode log) k [])) → IsLegal c p log → AreSpelled log → read_log files c p (length log) ≡ Ok log
reads files c p [] each legal spelled = refl
reads files c p (u ∷ us) each legal spelled =
    let here : files (entry_file p) ≡ Some (encode u) = ap (λ (n : ℕ). files (entry_file n)) (let e : p ≡ p + 0 = omega arith in e) ∙ each 0 (omega arith) in
    let is : entry_at (files (entry_file p)) c p ≡ Ok u = ap (λ x. entry_at x c p) here ∙ here_is c p u legal.0 spelled.0 legal.1 in
    let next : read_log files (after c u) (p + 1) (length us) ≡ Ok us =
    reads files (after c u) (p + 1) us (λ k lt. ap (λ (n : ℕ). files (entry_file n)) (let e : p + 1 + k ≡ p + suc k = omega arith in e) ∙ each (suc k) (omega (arith, lt))) legal.2 spelled.1 in
    ap (λ o. and_more o p (λ x. read_log files (after c x) (p + 1) (length us))) is ∙ ap (λ r. and_more (Ok u) p (λ x. r)) next

-- A log past a position is read, where its entries are in their files.
pub entries_read : (files : Files) (c : Content) (first : ℕ) (log : List Entry) → Recovers first files (map encode log) → IsKept c first log → run files (entries_in c first (length log)) ≡ Ok log
entries_read files c first log r kept =
    entries_are files c first (length log)
    ∙ reads files c first log (λ k lt. ap (λ (n : ℕ). files (entry_file n)) (let e : first + k ≡ k + first = omega arith in e) ∙ r.each k (omega (arith, lt, length-map log encode))) kept.0 kept.1

-- ---- what is read is in the files, and fits

-- a test was passed
passed : (b : Bool) (at : ℕ) (x u : Entry) → cond b (Ok x) (Err at) ≡ Ok u → (b ≡ true) × (x ≡ u)
passed true at x u is = (refl, cc (is))
passed false at x u is = absurd (cc (is))

both : (a b : Bool) → (a && b) ≡ true → (a ≡ true) × (b ≡ true)
both true b is = (refl, is)
both false b is = absurd (cc (is))

fitted : (c : Content) (r : Result Entry ℕ) (u : Entry) → fitting c r ≡ Ok u → (r ≡ Ok u) × IsBuilt u × IsTrue (fits c u)
fitted c (Err at) u is = absurd (cc (is))
fitted c (Ok x) u is =
    let h = passed (is_built x.change && fits c x) 0 x u is in
    let b = both (is_built x.change) (fits c x) h.0 in
    (ap Ok h.1, ap (λ (e : Entry). is_built e.change) (sym h.1) ∙ b.0, ap (fits c) (sym h.1) ∙ b.1)

placed_there : (p : ℕ) (r : Result Entry ℕ) (u : Entry) → placed p r ≡ Ok u → (r ≡ Ok u) × (u.position ≡ p)
placed_there p (Err at) u is = absurd (cc (is))
placed_there p (Ok x) u is =
    let h = passed (nat_eq x.position p) 4 x u is in
    let here : x.position ≡ p = grind (arith, nat_tests, h.0) in
    (ap Ok h.1, ap (λ (e : Entry). e.position) (sym h.1) ∙ here)

exactly_so : (bytes : List ℕ) (r : Result Entry ℕ) (u : Entry) → exactly bytes r ≡ Ok u → (r ≡ Ok u) × (bytes ≡ encode u)
exactly_so bytes (Err at) u is = absurd (cc (is))
exactly_so bytes (Ok x) u is =
    let h = passed (bytes_eq (encode x) bytes) 0 x u is in
    (ap Ok h.1, sym (pointwise-true (encode x) bytes h.0) ∙ ap encode h.1)

found : (file : FileContent) (p : ℕ) (u : Entry) → decode p file ≡ Ok u → IsBuilt u → (file ≡ Some (encode u)) × (u.position ≡ p) × IsSpelled u
found None p u is made = absurd (cc (is))
found (Some bytes) p u is made =
    let a = placed_there p (exactly bytes (entry_of bytes)) u is in
    let b = exactly_so bytes (entry_of bytes) u a.0 in
    (ap Some b.1, a.1, (made, ap entry_of (sym b.1) ∙ b.0))

pub record IsRead (files : Files) (c : Content) (p count : ℕ) (log : List Entry) : Type 0 where
  pub count_is : count ≡ length log
  pub each : (k : ℕ) → k < length log → files (entry_file (p + k)) ≡ Some (get_or (map encode log) k [])
  pub legal : IsLegal c p log
  pub spelled : AreSpelled log

more_is : (r : Result (List Entry) Damage) (u : Entry) (p : ℕ) (log : List Entry) → and_more (Ok u) p (λ x. r) ≡ Ok log → (us : List Entry) × (r ≡ Ok us) × (log ≡ u ∷ us)
more_is (Ok us) u p log is = (us, refl, cc (is))
more_is (Err e) u p log is = absurd (cc (is))

each_of : (files : Files) (c : Content) (p more : ℕ) (u : Entry) (us : List Entry) → files (entry_file p) ≡ Some (encode u) → IsRead files (after c u) (p + 1) more us
    → (k : ℕ) → k < length (u ∷ us) → files (entry_file (p + k)) ≡ Some (get_or (map encode (u ∷ us)) k [])
each_of files c p more u us here rest zero lt = ap (λ (n : ℕ). files (entry_file n)) (let e : p + 0 ≡ p = omega arith in e) ∙ here
each_of files c p more u us here rest (suc k) lt = ap (λ (n : ℕ). files (entry_file n)) (let e : p + suc k ≡ p + 1 + k = omega arith in e) ∙ rest.each k (omega (arith, lt))

read_one : (files : Files) (c : Content) (p more : ℕ) (log : List Entry) → ((u : Entry) (us : List Entry) → read_log files (after c u) (p + 1) more ≡ Ok us → IsRead files (after c u) (p + 1) more us)
    → (o : Result Entry ℕ) → entry_at (files (entry_file p)) c p ≡ o → and_more o p (λ u. read_log files (after c u) (p + 1) more) ≡ Ok log → IsRead files c p (suc more) log
read_one files c p more log next (Err at) e is = absurd (cc (is))
read_one files c p more log next (Ok u) e is =
    let m = more_is (read_log files (after c u) (p + 1) more) u p log is in
    let f = fitted c (decode p (files (entry_file p))) u e in
    let rest : IsRead files (after c u) (p + 1) more m.0 = next u m.0 m.1 in
    let here = found (files (entry_file p)) p u f.0 f.1 in
    subst (λ (l : List Entry). IsRead files c p (suc more) l) (sym m.2) (record {
      count_is = ap suc rest.count_is;
      each = each_of files c p more u m.0 here.0 rest;
      legal = (here.1, f.2, rest.legal);
      spelled = (here.2, rest.spelled);
    })

pub read_back : (files : Files) (c : Content) (p count : ℕ) (log : List Entry) → read_log files c p count ≡ Ok log → IsRead files c p count log
read_back files c p zero log is =
    let none : [] ≡ log = cc (is) in
    subst (λ (l : List Entry). IsRead files c p zero l) none (record { count_is = refl; each = λ k lt. absurd (omega (arith, lt)); legal = tt; spelled = tt })
read_back files c p (suc more) log is = read_one files c p more log (λ u us e. read_back files (after c u) (p + 1) more us e) (entry_at (files (entry_file p)) c p) refl is

-- what is read past a position
pub record IsLog (files : Files) (c : Content) (first count : ℕ) (log : List Entry) : Type 0 where
  pub count_is : count ≡ length log
  pub each : (k : ℕ) → k < length (map encode log) → files (entry_file (k + first)) ≡ Some (get_or (map encode log) k [])
  pub legal : IsKept c first log

pub log_back : (files : Files) (c : Content) (first count : ℕ) (log : List Entry) → run files (entries_in c first count) ≡ Ok log → IsLog files c first count log
log_back files c first count log is =
    let r = read_back files c first count log (sym (entries_are files c first count) ∙ is) in
    record {
      count_is = r.count_is;
      each = λ k lt. ap (λ (n : ℕ). files (entry_file n)) (let e : k + first ≡ first + k = omega arith in e) ∙ r.each k (omega (arith, lt, length-map log encode));
      legal = (r.legal, r.spelled);
    }

asks_parsed : (files : Files) (first : ℕ) (o : Result Entry ℕ) → asked files (parsed (entry_file first) o) ≡ []
asks_parsed files first (Ok e) = refl
asks_parsed files first (Err at) = refl

asks_entry : (files : Files) (c : Content) (first : ℕ) → asked files (entry_in c first) ≡ entry_file first ∷ []
asks_entry files c first = ap (λ (fs : List FileId). entry_file first ∷ fs) (asks_parsed files first (entry_at (files (entry_file first)) c first))

-- ---- a log in two parts

spelled_front : (one two : List Entry) → AreSpelled (one ++ two) → AreSpelled one
spelled_front [] two spelled = tt
spelled_front (e ∷ es) two spelled = (spelled.0, spelled_front es two spelled.1)

spelled_push : (log : List Entry) (e : Entry) → AreSpelled log → IsSpelled e → AreSpelled (log ++ e ∷ [])
spelled_push [] e spelled good = (good, tt)
spelled_push (x ∷ xs) e spelled good = (spelled.0, spelled_push xs e spelled.1 good)

pub kept_front : (c : Content) (first : ℕ) (one two : List Entry) → IsKept c first (one ++ two) → IsKept c first one
kept_front c first one two kept = (legal_front c first one two kept.0, spelled_front one two kept.1)

pub kept_push : (c : Content) (first : ℕ) (log : List Entry) (e : Entry) → IsKept c first log → e.position ≡ first + length log → IsSpelled e → IsTrue (fits (after_all c log) e) → IsKept c first (log ++ e ∷ [])
kept_push c first log e kept at good fit = (legal_append c first log e kept.0 at fit, spelled_push log e kept.1 good)

pub map_last : (log : List Entry) (u : Entry) → map encode (log ++ u ∷ []) ≡ map encode log ++ encode u ∷ []
map_last log u = map-append encode log (u ∷ [])

-- ---- the files that are asked for

-- each entry of a log is still
abbrev pub KeepsFiles : ℕ → List Entry → States → Type 0
KeepsFiles first log states = (k : ℕ) → k < length log → (x : FileContent) × (states (entry_file (k + first)) ≡ still x)

pub keeps : (first : ℕ) (log : List Entry) (states : States) → KeepsEntries first (map encode log) states → KeepsFiles first log states
keeps first log states each k lt = (_, each k (omega (arith, lt, length-map log encode)))

pub keeps_front : (first : ℕ) (log : List Entry) (u : Entry) (states : States) → KeepsFiles first (log ++ u ∷ []) states → KeepsFiles first log states
keeps_front first log u states each k lt = each k (omega (arith, lt, length-append log (u ∷ [])))

-- they are the entries' files
pub log_still : (files : Files) (states : States) (c : Content) (first count : ℕ) (log : List Entry) → run files (entries_in c first count) ≡ Ok log → KeepsFiles first log states → AreStill states (asked files (entries_in c first count))
log_still files states c first zero log is each = tt
log_still files states c first (suc more) log is each =
    let one = split (entry_in c first) (λ e. entries_in (after c e) (first + 1) more >>= λ es. done (e ∷ es)) files log is in
    let rest = split (entries_in (after c one.first) (first + 1) more) (λ es. done (one.first ∷ es)) files log one.then_is in
    let same : one.first ∷ rest.first ≡ log = cc (rest.then_is) in
    let here = each 0 (omega (arith, ap (λ (l : List Entry). length l) same)) in
    let at_first : IsStill (states (entry_file first)) = (here.0, ap (λ (n : ℕ). states (entry_file n)) (let e : first ≡ 0 + first = omega arith in e) ∙ here.1) in
    let later = log_still files states (after c one.first) (first + 1) more rest.first rest.first_is (λ k lt.
    let at = each (suc k) (omega (arith, lt, ap (λ (l : List Entry). length l) same)) in
    (at.0, ap (λ (n : ℕ). states (entry_file n)) (let e : k + (first + 1) ≡ suc k + first = omega arith in e) ∙ at.1)) in
    subst (AreStill states) (sym (one.asks ∙ ap₂ (λ (p q : List FileId). p ++ q) (asks_entry files c first) (rest.asks ∙ append-nil (asked files (entries_in (after c one.first) (first + 1) more))))) (at_first, later)

-- what was read of files that are still stands so
pub still_log : (states : States) (files : Files) (c : Content) (first count : ℕ) (log : List Entry) → IsImage states files → run files (entries_in c first count) ≡ Ok log → AreStill states (asked files (entries_in c first count)) → KeepsEntries first (map encode log) states
still_log states files c first count log shows is held k lt =
    let l = log_back files c first count log is in
    let x = entry_still states files c first count log is held k (omega (arith, lt, length-map log encode)) in
    x.1 ∙ ap still (sym (image_still states files (entry_file (k + first)) x.0 shows x.1) ∙ l.each k lt)
  where
    entry_still : (states : States) (files : Files) (c : Content) (first count : ℕ) (log : List Entry) → run files (entries_in c first count) ≡ Ok log → AreStill states (asked files (entries_in c first count)) → (k : ℕ) → k < length log → IsStill (states (entry_file (k + first)))
    entry_still states files c first zero log is held k lt = let none : [] ≡ log = cc (is) in absurd (omega (arith, lt, ap (λ (l : List Entry). length l) none))
    entry_still states files c first (suc more) log is held k lt =
        let one = split (entry_in c first) (λ e. entries_in (after c e) (first + 1) more >>= λ es. done (e ∷ es)) files log is in
        let rest = split (entries_in (after c one.first) (first + 1) more) (λ es. done (one.first ∷ es)) files log one.then_is in
        let same : one.first ∷ rest.first ≡ log = cc (rest.then_is) in
        let asks = one.asks ∙ ap₂ (λ (p q : List FileId). p ++ q) (asks_entry files c first) (rest.asks ∙ append-nil (asked files (entries_in (after c one.first) (first + 1) more))) in
        let all : AreStill states (entry_file first ∷ asked files (entries_in (after c one.first) (first + 1) more)) = subst (AreStill states) asks held in
        elim (cases_lt 0 k) [
          | inl later ↦
              let at : k - 1 + (first + 1) ≡ k + first = omega (arith, later) in
              subst (λ (n : ℕ). IsStill (states (entry_file n))) at (entry_still states files (after c one.first) (first + 1) more rest.first rest.first_is all.1 (k - 1) (omega (arith, lt, later, ap (λ (l : List Entry). length l) same)))
          | inr now ↦
              let at : first ≡ k + first = omega (arith, now) in
              subst (λ (n : ℕ). IsStill (states (entry_file n))) at all.0
        ]
