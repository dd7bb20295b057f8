-- What an application leaves of the files that a state has.
use Rattle.std.proofs.Common.{◌≡◌, ◌≢◌, inl, inr, ℕ, zero, suc, ◌+◌, ◌<◌, ◌≤◌, List, [], ◌∷◌, ◌++◌, Option, Some, None, Ok, refl, sym, ◌∙◌, ap, subst, arith, All}
use Rattle.std.specs.List.{AllByRecursion, flat_map}
use Rattle.std.proofs.lemmas.List.Elements.{recursion_from_All}
use Rattle.gt_disk.specs.declared.file_id.FileId.{FileId}
use Rattle.gt_disk.specs.Files.{Content as FileContent, FileState, still, grown, loose, Leaves, Files, States, IsImage}
use Rattle.gt_disk.specs.Kinds.{gate_file, manifest_file, entry_file}
use Rattle.gt_log.proofs.Images.{image_still}
use Rattle.gt_ahead.specs.Files.{base_files, repo_files, manifest_files}
use Rattle.gt_ahead.proofs.Asked.{asks_base, asks_based, manifest_read}
use Rattle.gt_ahead.proofs.Lists.{all_append, all_front}
use Rattle.gt_ahead.proofs.Manifests.{manifest_there}
use Rattle.gt_ahead.proofs.Numbers.{repos_have}
use Rattle.gt_ahead.proofs.Older.{repos_kinds}
use Rattle.gt_ahead.proofs.Parts.{base_parts}
use Rattle.gt_applied.specs.Applied.{Applies, AreWritten, HaveSpellings, bytes_of}
use Rattle.gt_applied.proofs.Applications.{applied}
use Rattle.gt_apply.specs.Plan.{planned, planned_files}
use Rattle.gt_apply.specs.declared.new_file.NewFile.{NewFile}
use Rattle.gt_base.specs.Built.{IsBuilt}
use Rattle.gt_base.specs.Recovery.{Based, manifest_in, based_on, base_in}
use Rattle.gt_checkpoint.specs.Advancing.{AreKept, StandApart, IsApart}
use Rattle.gt_entry.specs.Fits.{IsEntry}
use Rattle.gt_history.proofs.Safe.{same_ok}
use Rattle.gt_manifest.specs.declared.manifest.Manifest.{Manifest}
use Rattle.gt_manifest.specs.declared.version.Version.TheVariants.{Second}
use Rattle.gt_manifest.specs.Spelling.{manifest}
use Rattle.gt_manifest.specs.Whole.{file_numbers, IsFileNumber, Fits}
use Rattle.gt_manifest.proofs.ManifestLemmas.{manifest_again}
use Rattle.gt_model.specs.declared.entry.Entry.{Entry}
use Rattle.gt_model.specs.declared.limits.Limits.{Limits}
use Rattle.gt_model.specs.Contents.{Content, after_all, IsLegal}
use Rattle.gt_reading.specs.Reading.{Reading, run, asked}
use Rattle.gt_reading.specs.Frames.{IsStill, AreStill, GoesWell}
use Rattle.gt_reading.proofs.Programs.{agree, run_then, asked_then, every_weaker}
use Rattle.gt_journal.specs.Ledger.{FilesHave, HasBase, HasManifest}
use Rattle.gt_journal.proofs.Based.{base_any, both_still}
use Rattle.gt_journal.proofs.Good.{well_still}
use Rattle.gt_journal.proofs.Known.{known_files}

-- ---- images

-- whatever the states are, a stop may leave something
some_left : (s : FileState) → (x : FileContent) × Leaves s x
some_left (still x) = (x, refl)
some_left (grown None k) = (None, inl (refl, refl))
some_left (grown (Some bytes) k) = (Some (bytes ++ []), inr ([], omega arith, refl))
some_left loose = (None, tt)

pub some_image : (states : States) → (image : Files) × IsImage states image
some_image states = ((λ f. (some_left (states f)).0), λ f. (some_left (states f)).1)

-- ---- the log's files

-- neither gate nor an entry's file is one of an application
log_apart : (epoch next kind number : ℕ) → kind < 5 → kind ≢ 2 → kind ≢ 3 → IsApart epoch next (record { kind = kind; number = number })
log_apart epoch next kind number low two three =
    ((λ e. two (ap (λ (f : FileId). f.kind) e)), (λ e. three (ap (λ (f : FileId). f.kind) e)), λ high. absurd (omega (arith, low, high)))

gate_apart : (epoch next : ℕ) → IsApart epoch next gate_file
gate_apart epoch next = log_apart epoch next 1 0 (omega arith) (λ e. omega (arith, e)) (λ e. omega (arith, e))

entry_apart : (epoch next n : ℕ) → IsApart epoch next (entry_file n)
entry_apart epoch next n = log_apart epoch next 4 n (omega arith) (λ e. omega (arith, e)) (λ e. omega (arith, e))

-- the log stays, where its files do
pub log_kept : (first : ℕ) (log : List Entry) (doubt : Option Entry) (before states : States) → states gate_file ≡ before gate_file → ((n : ℕ) → states (entry_file n) ≡ before (entry_file n)) → FilesHave first log doubt before → FilesHave first log doubt states
log_kept first log None before states gate entries files = record { gate = files.gate; gate_still = gate ∙ files.gate_still; gate_length = files.gate_length; each = λ k lt. entries (k + first) ∙ files.each k lt }
log_kept first log (Some e) before states gate entries files = record { gate = λ y leaves. files.gate y (subst (λ (s : FileState). Leaves s y) gate leaves); each = λ k lt. entries (k + first) ∙ files.each k lt }

pub log_beside : (first : ℕ) (log : List Entry) (doubt : Option Entry) (epoch next : ℕ) (before states : States) → StandApart epoch next before states → FilesHave first log doubt before → FilesHave first log doubt states
log_beside first log doubt epoch next before states apart files = log_kept first log doubt before states (apart gate_file (gate_apart epoch next)) (λ n. apart (entry_file n) (entry_apart epoch next n)) files

-- ---- the files of a base

-- none of them is one of an application from its epoch
module _ (m : Manifest) (next : ℕ) (fits : Fits Second m) (free : m.next ≤ next) where
  abbrev IsOld : FileId → Type 0
  IsOld f = 5 ≤ f.kind → f.number < next

  numbers_old : AllByRecursion IsOld (flat_map repo_files m.repos)
  numbers_old =
      repos_have (λ n. n < next) m.repos
      (every_weaker (IsFileNumber m.next) (λ n. n < next) (λ n number. let lt : n < m.next = number.1 in omega (arith, lt, free)) (flat_map file_numbers m.repos) (recursion_from_All (IsFileNumber m.next) (flat_map file_numbers m.repos) fits.1.numbers))

  kinds_high : AllByRecursion (λ f. 5 ≤ f.kind) (flat_map repo_files m.repos)
  kinds_high = repos_kinds (λ f. 5 ≤ f.kind) (λ n. omega arith) (λ n. omega arith) (λ n. omega arith) m.repos

  high_apart : (fs : List FileId) → AllByRecursion IsOld fs → AllByRecursion (λ f. 5 ≤ f.kind) fs → AllByRecursion (IsApart m.epoch next) fs
  high_apart [] old high = tt
  high_apart (f ∷ fs) old high = (
    (
      (λ e. let kinds : f.kind ≡ 2 = ap (λ (g : FileId). g.kind) e in omega (arith, high.0, kinds)),
      (λ e. let kinds : f.kind ≡ 3 = ap (λ (g : FileId). g.kind) e in omega (arith, high.0, kinds)),
      old.0,
    ),
    high_apart fs old.1 high.1,
  )

  repos_apart : AllByRecursion (IsApart m.epoch next) (flat_map repo_files m.repos)
  repos_apart = high_apart (flat_map repo_files m.repos) numbers_old kinds_high

  manifest_apart : (epoch : ℕ) → epoch ≡ m.epoch → AllByRecursion (IsApart m.epoch next) (manifest_files epoch)
  manifest_apart zero is = tt
  manifest_apart (suc n) is = (
    (
      (λ e. let kinds : 3 ≡ 2 = ap (λ (g : FileId). g.kind) e in omega (arith, kinds)),
      (λ e. let numbers : suc n ≡ m.epoch + 1 = ap (λ (g : FileId). g.number) e in omega (arith, numbers, is)),
      λ high. absurd (omega (arith, high)),
    ),
    tt,
  )

  pub base_apart : AllByRecursion (IsApart m.epoch next) (base_files m)
  base_apart = all_append (IsApart m.epoch next) (manifest_files m.epoch) (flat_map repo_files m.repos) (manifest_apart m.epoch refl) repos_apart

-- what stands still before stands still where it is as it was
still_apart : (epoch next : ℕ) (before states : States) → StandApart epoch next before states → (fs : List FileId) → AllByRecursion (IsApart epoch next) fs → AreStill before fs → AreStill states fs
still_apart epoch next before states apart [] all held = tt
still_apart epoch next before states apart (f ∷ fs) all held = ((held.0.0, apart f all.0 ∙ held.0.1), still_apart epoch next before states apart fs all.1 held.1)

-- and each image has it as it was shown
shown_apart : (epoch next : ℕ) (before states : States) (shown image : Files) → IsImage before shown → IsImage states image → StandApart epoch next before states → (fs : List FileId) → AllByRecursion (IsApart epoch next) fs → AreStill before fs → AllByRecursion (λ f. image f ≡ shown f) fs
shown_apart epoch next before states shown image shows im apart [] all held = tt
shown_apart epoch next before states shown image shows im apart (f ∷ fs) all held =
    (image_still states image f held.0.0 im (apart f all.0 ∙ held.0.1) ∙ sym (image_still before shown f held.0.0 shows held.0.1), shown_apart epoch next before states shown image shows im apart fs all.1 held.1)

-- a program that asks for such files reads the same
pub well_apart_of : {A : Type 0} (r : Reading A) (x : A) (epoch next : ℕ) (before states : States) (shown : Files) → IsImage before shown → run shown r ≡ Ok x → AreStill before (asked shown r) → AllByRecursion (IsApart epoch next) (asked shown r) → StandApart epoch next before states → GoesWell r (λ y. y ≡ x) states
well_apart_of r x epoch next before states shown shows is held all apart image im =
    let same = agree r shown image (shown_apart epoch next before states shown image shows im apart (asked shown r) all held) in
    record { what = x; is = same.0 ∙ is; has = refl; steady = subst (AreStill states) (sym same.1) (still_apart epoch next before states apart (asked shown r) all held) }

-- ---- a manifest that lasts

manifest_file_still : (to : Manifest) (states : States) (epoch : ℕ) → states (manifest_file epoch) ≡ still (Some (manifest Second to)) → AreStill states (manifest_files epoch)
manifest_file_still to states zero is = tt
manifest_file_still to states (suc n) is = ((Some (manifest Second to), is), tt)

-- it is read
pub manifest_lasts : (to : Manifest) (states : States) → Fits Second to → 0 < to.epoch → states (manifest_file to.epoch) ≡ still (Some (manifest Second to)) → HasManifest to states
manifest_lasts to states fits some there image im =
    let is : run image (manifest_in to.epoch to.applied) ≡ Ok to = manifest_there image to.epoch to.applied (manifest Second to) to some (image_still states image (manifest_file to.epoch) (Some (manifest Second to)) im there) (manifest_again Second to fits) refl (omega arith) in
    record { what = to; is = is; has = refl; steady = subst (AreStill states) (sym (manifest_read image to.epoch to.applied to is).asks) (manifest_file_still to states to.epoch there) }

-- ---- the base of a manifest that memory knows

module _ (limits : Limits) (m : Manifest) (next : ℕ) (fits : Fits Second m) (free : m.next ≤ next) (c : Content) (before : States) (shown : Files) (shows : IsImage before shown) (has : HasBase limits m.epoch m.applied m.next c before) (named : HasManifest m before) where
  -- what is shown of it
  base_shown : run shown (base_in m.epoch m.applied) ≡ Ok has.based
  base_shown = let w = has.reads m.applied (omega arith) shown shows in w.is ∙ ap Ok w.has

  base_steady : AreStill before (asked shown (base_in m.epoch m.applied))
  base_steady = (has.reads m.applied (omega arith) shown shows).steady

  manifest_same : has.based.manifest ≡ m
  manifest_same =
      let w = named shown shows in
      let p = base_parts shown m.epoch m.applied has.based base_shown in
      same_ok (run shown (manifest_in m.epoch m.applied)) has.based.manifest m p.manifest (w.is ∙ ap Ok w.has)

  -- the base with the manifest as memory has it
  abbrev pub from : Based
  from = record { manifest = m; repos = has.based.repos }

  from_is : has.based ≡ from
  from_is = λ i. record { manifest = manifest_same i; repos = has.based.repos }

  pub from_shown : run shown (based_on m) ≡ Ok from
  from_shown = subst (λ (n : Manifest). run shown (based_on n) ≡ Ok has.based) manifest_same (base_parts shown m.epoch m.applied has.based base_shown).based ∙ ap Ok from_is

  base_asks : asked shown (base_in m.epoch m.applied) ≡ base_files m
  base_asks = asks_base shown m.epoch m.applied has.based base_shown ∙ ap base_files manifest_same

  base_still : AreStill before (base_files m)
  base_still = subst (AreStill before) base_asks base_steady

  from_still : AreStill before (asked shown (based_on m))
  from_still = subst (AreStill before) (sym (asks_based shown m from from_shown)) (all_front (λ f. IsStill (before f)) (manifest_files m.epoch) (flat_map repo_files m.repos) base_still).1

  from_apart : AllByRecursion (IsApart m.epoch next) (asked shown (based_on m))
  from_apart = subst (AllByRecursion (IsApart m.epoch next)) (sym (asks_based shown m from from_shown)) (all_front (IsApart m.epoch next) (manifest_files m.epoch) (flat_map repo_files m.repos) (base_apart m next fits free)).1

  -- it stays where other files change
  pub base_beside : (states : States) → StandApart m.epoch next before states → HasBase limits m.epoch m.applied m.next c states
  base_beside states apart = record {
    few = has.few;
    based = has.based;
    reads = λ gate le.
        let any = base_any shown m.epoch m.applied gate has.based base_shown (omega (arith, le, has.applied_is)) in
        let files : asked shown (base_in m.epoch gate) ≡ base_files m = any.asks ∙ base_asks in
        well_apart_of (base_in m.epoch gate) has.based m.epoch next before states shown shows any.is (subst (AreStill before) (sym files) base_still) (subst (AllByRecursion (IsApart m.epoch next)) (sym files) (base_apart m next fits free)) apart;
    epoch_is = has.epoch_is;
    applied_is = has.applied_is;
    next_is = has.next_is;
    content = has.content;
  }

  -- and so does the manifest
  pub manifest_beside : (states : States) → StandApart m.epoch next before states → HasManifest m states
  manifest_beside states apart =
      let w = named shown shows in
      let is : run shown (manifest_in m.epoch m.applied) ≡ Ok m = w.is ∙ ap Ok w.has in
      let asks = (manifest_read shown m.epoch m.applied m is).asks in
      well_apart_of (manifest_in m.epoch m.applied) m m.epoch next before states shown shows is w.steady (subst (AllByRecursion (IsApart m.epoch next)) (sym asks) (all_front (IsApart m.epoch next) (manifest_files m.epoch) (flat_map repo_files m.repos) (base_apart m next fits free)).0) apart

  -- ---- the base of an application

  module _ (entries : List Entry) (legal : IsLegal c (m.applied + 1) entries) (typed : All IsEntry entries) (built : All IsBuilt entries) (few : m.epoch + 1 ≤ limits.epochs) (to_fits : Fits Second (planned m next entries)) where
    abbrev to : Manifest
    to = planned m next entries

    abbrev news : List NewFile
    news = planned_files next entries

    written_of : (states : States) (image : Files) → IsImage states image → (ns : List NewFile) → AreKept ns states → AreWritten image ns
    written_of states image im [] kept = tt
    written_of states image im (n ∷ ns) kept = (image_still states image n.file (Some (bytes_of n.content)) im kept.0, written_of states image im ns kept.1)

    news_still : (states : States) (ns : List NewFile) → AreKept ns states → AllByRecursion (λ n. IsStill (states n.file)) ns
    news_still states [] kept = tt
    news_still states (n ∷ ns) kept = ((Some (bytes_of n.content), kept.0), news_still states ns kept.1)

    pub new_base : (states : States) → states (manifest_file (m.epoch + 1)) ≡ still (Some (manifest Second to)) → HaveSpellings news → AreKept news states → StandApart m.epoch next before states → HasBase limits (m.epoch + 1) to.applied to.next (after_all c entries) states
    new_base states there spelled kept apart =
        let one = some_image states in
        let image = one.0 in
        let im = one.1 in
        let applies : Applies from next entries shown image = record {
          based = from_shown;
          fits = fits;
          legal = subst (λ (x : Content). IsLegal x (m.applied + 1) entries) (sym has.content) legal;
          typed = typed;
          built = built;
          spelled = spelled;
          same = shown_apart m.epoch next before states shown image shows im apart (asked shown (based_on m)) from_apart from_still;
          written = written_of states image im news kept;
        } in
        let r = applied from next entries shown image applies in
        let olds = still_apart m.epoch next before states apart (asked shown (based_on m)) from_apart from_still in
        let based_still : AreStill states (asked image (based_on to)) = known_files from next entries shown image applies (λ f. IsStill (states f)) olds (news_still states news kept) in
        record {
          few = few;
          based = r.0;
          reads = λ gate le.
              let bytes = image_still states image (manifest_file (m.epoch + 1)) (Some (manifest Second to)) im there in
              let manifest_is : run image (manifest_in (m.epoch + 1) gate) ≡ Ok to = manifest_there image (m.epoch + 1) gate (manifest Second to) to (omega arith) bytes (manifest_again Second to to_fits) refl le in
              let base_is : run image (base_in (m.epoch + 1) gate) ≡ Ok r.0 = run_then (manifest_in (m.epoch + 1) gate) based_on image to manifest_is ∙ r.1 in
              let manifest_asks : asked image (manifest_in (m.epoch + 1) gate) ≡ manifest_files (m.epoch + 1) = (manifest_read image (m.epoch + 1) gate to manifest_is).asks in
              let files = asked_then (manifest_in (m.epoch + 1) gate) based_on image to manifest_is in
              let manifest_stays : AreStill states (asked image (manifest_in (m.epoch + 1) gate)) = subst (AreStill states) (sym manifest_asks) (manifest_file_still to states (m.epoch + 1) there) in
              well_still states image (base_in (m.epoch + 1) gate) r.0 im base_is (subst (AreStill states) (sym files) (both_still states (asked image (manifest_in (m.epoch + 1) gate)) _ manifest_stays based_still));
          epoch_is = ap (λ (x : Manifest). x.epoch) r.2;
          applied_is = ap (λ (x : Manifest). x.applied) r.2;
          next_is = ap (λ (x : Manifest). x.next) r.2;
          content = r.3 ∙ ap (λ (x : Content). after_all x entries) has.content;
        }
