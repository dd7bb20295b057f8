-- What is opened of a disk that may be handed in.
use Rattle.std.proofs.Common.{◌≡◌, ◌≢◌, ℕ, ◌+◌, ◌-◌, ◌<◌, ◌≤◌, List, [], ◌∷◌, map, take, drop, None, Ok, refl, sym, ◌∙◌, ap, subst, arith}
use Rattle.std.proofs.lemmas.List.{length-map}
use Rattle.gt_disk.specs.declared.file_id.FileId.{FileId}
use Rattle.gt_disk.specs.Files.{Files, States, View, now, IsImage, still}
use Rattle.gt_disk.specs.Kinds.{gate_file, turn_file, entry_file}
use Rattle.gt_disk.specs.Moments.{Since, Narrows, Runs, Lasting}
use Rattle.gt_disk.proofs.Steps.{since_join}
use Rattle.gt_log.specs.Log.{content_length, Recovers, KeepsEntries, Stands}
use Rattle.gt_model.specs.declared.limits.Limits.{Limits}
use Rattle.gt_model.specs.declared.entry.Entry.{Entry}
use Rattle.gt_model.specs.Contents.{Content, after_all}
use Rattle.gt_model.specs.Machine.{Recovered, opening}
use Rattle.gt_reading.proofs.Framing.{since_now}
use Rattle.gt_sound.specs.Sound.{IsSoundState}
use Rattle.gt_history.proofs.Safe.{same_ok}
use Rattle.gt_history.proofs.Runs.{good_end}
use Rattle.gt_reading.specs.Reading.{run, asked}
use Rattle.gt_reading.specs.Frames.{AreStill, GoesWell}
use Rattle.gt_base.specs.Held.{content_of, HoldsPacks}
use Rattle.gt_base.specs.Recovery.{Loaded, base_in, recovery, recover, recovered, Keeps, counters}
use Rattle.gt_base.specs.Spelling.{encode}
use Rattle.gt_base.specs.Packs.{PackFile}
use Rattle.gt_base.specs.declared.held.BaseRepo.{BaseRepo}
use Rattle.gt_manifest.specs.Whole.{Fits}
use Rattle.gt_manifest.specs.declared.manifest.Manifest.{Manifest}
use Rattle.gt_manifest.specs.declared.version.Version.TheVariants.{Second}
use Rattle.std.specs.List.{AllByRecursion}
use Rattle.gt_table.specs.Table.{Past, base}
use Rattle.gt_journal.specs.Ledger.{HasManifest, HasPacksBelow, FilesHave, Stored}
use Rattle.gt_journal.specs.Histories.{IsGood}
use Rattle.gt_journal.proofs.Based.{parts_of, loaded_recovers, base_any, front_still}
use Rattle.gt_journal.proofs.Recovering.{log_back, still_log}
use Rattle.gt_journal.proofs.Good.{good_beside, good_turning, based_still, manifest_still, packs_held, packs_below}

-- ---- the moments of an opening

-- the gate is made to last, and then turn
pub good_open : (limits : Limits) (v w x : View) → Runs gate_file (Lasting (now v gate_file) (v.reads gate_file)) v w → Narrows v w → Runs turn_file (Lasting (now w turn_file) (w.reads turn_file)) w x → Narrows w x → IsGood limits (now v) → Since (IsGood limits) v x
good_open limits v w x gate narrows turn later good =
    let first = good_beside limits v w gate narrows good in
    since_join (IsGood limits) v w x first (good_turning limits w x turn later (good_end (recover limits) (Keeps limits) counters v w good first))

pub good_opened : (limits : Limits) (v w x : View) → Runs gate_file (Lasting (now v gate_file) (v.reads gate_file)) v w → Narrows v w → Runs turn_file (Lasting (now w turn_file) (w.reads turn_file)) w x → Narrows w x → IsGood limits (now v) → IsGood limits (now x)
good_opened limits v w x gate narrows turn later good = good_end (recover limits) (Keeps limits) counters v x good (good_open limits v w x gate narrows turn later good)

narrows_now : (u v : View) → Narrows u v → (image : Files) → IsImage (now v) image → IsImage (now u) image
narrows_now u v one = since_now (λ states. (image : Files) → IsImage states image → IsImage (now u) image) u v one (λ image is. is)

pub narrows_join : (u v w : View) → Narrows u v → Narrows v w → Narrows u w
narrows_join u v w one two = since_join (λ states. (image : Files) → IsImage states image → IsImage (now u) image) u v w one (record {
  later = two.later;
  past = two.past;
  each = λ m lt le image is. narrows_now u v one image (two.each m lt le image is);
})

-- ---- what is stored

-- what is opened, what holds of it, and what its files have of its base
pub record IsOpened (limits : Limits) (y : Loaded) (states : States) : Type 0 where
  pub stored : Stored limits (opening (recovered y)) states
  pub sound : IsSoundState (opening (recovered y))
  pub packs : HoldsPacks y.base.repos states
  pub below : AllByRecursion (HasPacksBelow y.base.manifest.next) y.base.repos
  pub manifest : HasManifest y.base.manifest states

-- nothing of the log has been applied
at_begin : (c : Content) (n : ℕ) (log : List Entry) → c ≡ after_all c (take (n - n) log)
at_begin c n log = let none : n - n ≡ 0 = omega arith in ap (λ (k : ℕ). after_all c (take k log)) (sym none)

all_left : (n : ℕ) (log : List Entry) → log ≡ drop (n - n) log
all_left n log = let none : n - n ≡ 0 = omega arith in ap (λ (k : ℕ). drop k log) (sym none)

entry_not_turn : (n : ℕ) → entry_file n ≢ turn_file
entry_not_turn n e = let kinds : 4 ≡ 2 = ap (λ (f : FileId). f.kind) e in absurd (omega (arith, kinds))

gate_not_turn : gate_file ≢ turn_file
gate_not_turn e = let kinds : 1 ≡ 2 = ap (λ (f : FileId). f.kind) e in absurd (omega (arith, kinds))

module _ (limits : Limits) (v w x : View) (y : Loaded) (shows : IsImage (now v) v.reads) (shows_later : IsImage (now x) v.reads) (good : IsGood limits (now v)) (later : IsGood limits (now x)) (is : run v.reads (recovery limits) ≡ Ok y)
    (stands : (first : ℕ) (entries : List (List ℕ)) → Recovers first v.reads entries → KeepsEntries first entries (now v) → Stands first entries (now w)) (others : (f : FileId) → f ≢ turn_file → now x f ≡ now w f) (turn : now x turn_file ≡ still (v.reads turn_file)) (fits : Fits Second y.base.manifest) where
  abbrev epoch : ℕ
  epoch = content_length (v.reads turn_file)

  abbrev gate : ℕ
  gate = content_length (v.reads gate_file)

  abbrev first : ℕ
  first = y.base.manifest.applied + 1

  abbrev content : Content
  content = content_of y.base.repos

  pub is_opened : IsOpened limits y (now x)
  is_opened =
      let p = parts_of limits v.reads epoch gate y is in
      let g = good.each v.reads shows in
      let same : g.0 ≡ recovered y = same_ok (recover limits v.reads) g.0 (recovered y) g.1 (loaded_recovers limits v.reads y is) in
      let before = front_still (now v) (asked v.reads (base_in epoch gate)) _ (subst (AreStill (now v)) p.asks g.2) in
      let after = front_still (now x) (asked v.reads (base_in epoch gate)) _ (subst (AreStill (now x)) p.asks (later.each v.reads shows_later).2) in
      let l = log_back v.reads content first (gate - y.base.manifest.applied) y.log p.log in
      let within = (base_within epoch gate p.base) in
      let entries = map encode y.log in
      let recovers : Recovers first v.reads entries = record { count = omega (arith, l.count_is, within, length-map y.log encode); each = l.each } in
      let keeps : KeepsEntries first entries (now v) = still_log (now v) v.reads content first (gate - y.base.manifest.applied) y.log shows p.log before.1 in
      let s = stands first entries recovers keeps in
      let epoch_is : y.base.manifest.epoch ≡ epoch = base_epoch epoch gate p.base in
      record {
        stored = record {
          files = subst (λ (log : List Entry). FilesHave first log None (now x)) (all_left y.base.manifest.applied y.log)
              (record { gate = s.gate; gate_still = others gate_file gate_not_turn ∙ s.gate_still; gate_length = s.gate_length; each = λ k lt. others (entry_file (k + first)) (entry_not_turn (k + first)) ∙ s.each k lt });
          legal = l.legal;
          within = omega (arith, p.within, l.count_is, within);
          order = record { begins = omega arith; from = omega arith; to = omega arith; turn = tt };
          base = record {
            few = omega (arith, p.few, epoch_is);
            based = y.base;
            reads = λ other le. subst (λ (n : ℕ). GoesWell (base_in n other) (λ b. b ≡ y.base) (now x)) (sym epoch_is) (based_still (now x) v.reads epoch gate y.base shows_later p.base after.0 other le);
            epoch_is = refl;
            applied_is = refl;
            next_is = refl;
            content = at_begin content y.base.manifest.applied y.log;
          };
          turn = record { turn = v.reads turn_file; turn_still = turn; length = sym epoch_is };
        };
        sound = subst (λ (r : Recovered). IsSoundState (opening r)) same g.3;
        packs = packs_held (now x) v.reads shows_later epoch gate y.base p.base after.0;
        below = packs_below v.reads epoch gate y.base fits p.base;
        manifest = manifest_still (now x) v.reads epoch gate y.base shows_later p.base after.0;
      }
    where
      base_within : (epoch gate : ℕ) → run v.reads (base_in epoch gate) ≡ Ok y.base → y.base.manifest.applied ≤ gate
      base_within epoch gate base_is = (base_any v.reads epoch gate y.base.manifest.applied y.base base_is (omega arith)).within

      base_epoch : (epoch gate : ℕ) → run v.reads (base_in epoch gate) ≡ Ok y.base → y.base.manifest.epoch ≡ epoch
      base_epoch epoch gate base_is = (base_any v.reads epoch gate y.base.manifest.applied y.base base_is (omega arith)).epoch_is

-- the same, with the position of the base as the tables have it
abbrev pub Opened : Limits → ℕ → Manifest → Past → States → Type 0
Opened limits begin m past states =
    let r : Recovered = record { epoch = m.epoch; applied = begin; next = m.next; base = base past; log = past.log } in
    Stored limits (opening r) states × IsSoundState (opening r) × HoldsPacks past.repos states

-- numbers below a next one are below a later one
packs_later : (next later : ℕ) (packs : List PackFile) → next ≤ later → AllByRecursion (λ p. p.number < next) packs → AllByRecursion (λ p. p.number < later) packs
packs_later next later [] le all = tt
packs_later next later (p ∷ packs) le all = (omega (arith, all.0, le), packs_later next later packs le all.1)

pub below_later : (next later : ℕ) (repos : List BaseRepo) → next ≤ later → AllByRecursion (HasPacksBelow next) repos → AllByRecursion (HasPacksBelow later) repos
below_later next later [] le all = tt
below_later next later (r ∷ repos) le all = (packs_later next later r.packs le all.0, below_later next later repos le all.1)
