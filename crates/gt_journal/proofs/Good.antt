-- Disks that may be handed in, and what is opened of them.
use Rattle.std.proofs.Common.{◌≡◌, ◌≢◌, inl, inr, ℕ, ◌<◌, ◌≤◌, map, List, [], ◌∷◌, ◌++◌, Some, None, Result, Ok, Err, refl, sym, ◌∙◌, ap, subst, arith}
use Rattle.std.specs.List.{AllByRecursion, flat_map}
use Rattle.std.proofs.lemmas.List.Elements.{recursion_from_All}
use Rattle.gt_disk.specs.declared.file_id.FileId.{FileId}
use Rattle.gt_disk.specs.Files.{Content as FileContent, Files, FileState, Leaves, States, View, now, IsImage, still}
use Rattle.gt_disk.specs.Kinds.{gate_file, turn_file, pack_file}
use Rattle.gt_disk.specs.Moments.{Since, Narrows, Runs, Lasting}
use Rattle.gt_log.specs.Log.{content_length}
use Rattle.gt_model.specs.declared.limits.Limits.{Limits}
use Rattle.gt_model.specs.Machine.{State, unapplied}
use Rattle.gt_sound.proofs.Logs.{empty_sound}
use Rattle.gt_history.specs.Crash.{IsSteady}
use Rattle.gt_history.proofs.Runs as runs
use Rattle.gt_reading.specs.Reading.{Reading, done, AsksOnly, run, asked, each_in, list_in, one_more}
use Rattle.gt_reading.specs.Frames.{IsStill, AreStill, GoesWell}
use Rattle.gt_reading.proofs.Programs.{agree, asks_only, every_weaker, split, asks_file, gives_file}
use Rattle.gt_base.specs.Held.{HoldsPack, HoldsPacks}
use Rattle.gt_base.specs.Packs.{PackFile}
use Rattle.gt_base.specs.declared.held.BaseRepo.{BaseRepo}
use Rattle.gt_base.specs.Recovery.{Based, Loaded, pack_as, pack_in, packed_in, loose_in, repo_in, first_manifest, manifest_in, based_on, base_in, counted, recover, data_files, Keeps, counters}
use Rattle.gt_journal.specs.Histories.{IsGood, GivesThis}
use Rattle.gt_journal.specs.Ledger.{HasManifest, HasPacksBelow}
use Rattle.gt_log.proofs.Images.{image_still}
use Rattle.gt_manifest.specs.declared.manifest.Manifest.{Manifest}
use Rattle.gt_manifest.specs.declared.manifest.RepoFiles.{RepoFiles}
use Rattle.gt_manifest.specs.declared.version.Version.TheVariants.{Second}
use Rattle.gt_manifest.specs.Whole.{file_numbers, packed_number, file_of, IsFileNumber, Fits}
use Rattle.gt_ahead.proofs.Lists.{all_front}
use Rattle.gt_ahead.proofs.Parts.{manifest_of_base}
use Rattle.gt_pack.specs.declared.placed.Placed.{Placed}
use Rattle.gt_pack.specs.Reading.{pack_of}
use Rattle.gt_journal.proofs.Based.{only_counted, counted_is, loaded_recovers, manifest_any, base_any, front_still}

-- ---- moments at which no stop can leave anything new

-- a file that counts isn't among those that are read
not_gate : (n k : ℕ) → 3 ≤ k → (record { kind = k; number = n } ≡ gate_file → ⊥) × (record { kind = k; number = n } ≡ turn_file → ⊥)
not_gate n k le = ((λ e. let kinds : k ≡ 1 = ap (λ (f : FileId). f.kind) e in omega (arith, le, kinds)), λ e. let kinds : k ≡ 2 = ap (λ (f : FileId). f.kind) e in omega (arith, le, kinds))

abbrev IsData : FileId → Type 0
IsData f = (f ≡ gate_file → ⊥) × (f ≡ turn_file → ⊥)

data_only : (limits : Limits) (epoch gate : ℕ) → AsksOnly IsData (counted limits epoch gate)
data_only limits epoch gate = only_counted IsData (λ n. not_gate n 3 (omega arith)) (λ n. not_gate n 5 (omega arith)) (λ n. not_gate n 6 (omega arith)) (λ n. not_gate n 7 (omega arith)) (λ n. not_gate n 4 (omega arith)) limits epoch gate

still_beside : (before states : States) → ((f : FileId) → IsData f → states f ≡ before f) → (fs : List FileId) → AllByRecursion IsData fs → AreStill before fs → AreStill states fs
still_beside before states same [] only held = tt
still_beside before states same (f ∷ fs) only held = ((held.0.0, same f only.0 ∙ held.0.1), still_beside before states same fs only.1 held.1)

keeps_beside : (limits : Limits) (image : Files) (before states : States) → ((f : FileId) → IsData f → states f ≡ before f) → Keeps limits image before → Keeps limits image states
keeps_beside limits image before states same held =
    still_beside before states same (data_files limits image) (asks_only IsData (counted limits (content_length (image turn_file)) (content_length (image gate_file))) image (data_only limits (content_length (image turn_file)) (content_length (image gate_file)))) held

lasting_steady : (before : FileState) (shown : FileContent) (s : FileState) → Lasting before shown s → IsSteady before → IsSteady s
lasting_steady before shown s (inl is) steady = subst IsSteady (sym is) steady
lasting_steady before shown s (inr is) steady = subst IsSteady (sym is) tt

gate_not_turn : gate_file ≢ turn_file
gate_not_turn e = let kinds : 1 ≡ 2 = ap (λ (f : FileId). f.kind) e in absurd (omega (arith, kinds))

-- where the gate alone differs, as it was or as it was read, and leaves no more
pub good_beside : (limits : Limits) (v w : View) → Runs gate_file (Lasting (now v gate_file) (v.reads gate_file)) v w → Narrows v w → IsGood limits (now v) → Since (IsGood limits) v w
good_beside limits v w gate narrows good = record {
  later = narrows.later;
  past = narrows.past;
  each = λ m lt le. record {
    steady = (lasting_steady (now v gate_file) (v.reads gate_file) (w.at m gate_file) (gate.this m lt le) good.steady.0, (subst IsSteady (sym (gate.others m lt le turn_file (λ e. gate_not_turn (sym e)))) good.steady.1.0, tt));
    each = λ image is.
        let g = good.each image (narrows.each m lt le image is) in
        (g.0, g.1, keeps_beside limits image (now v) (w.at m) (λ f other. gate.others m lt le f other.0) g.2, g.3);
  };
}

-- where turn alone does
pub good_turning : (limits : Limits) (v w : View) → Runs turn_file (Lasting (now v turn_file) (v.reads turn_file)) v w → Narrows v w → IsGood limits (now v) → Since (IsGood limits) v w
good_turning limits v w turn narrows good = record {
  later = narrows.later;
  past = narrows.past;
  each = λ m lt le. record {
    steady = (subst IsSteady (sym (turn.others m lt le gate_file gate_not_turn)) good.steady.0, (lasting_steady (now v turn_file) (v.reads turn_file) (w.at m turn_file) (turn.this m lt le) good.steady.1.0, tt));
    each = λ image is.
        let g = good.each image (narrows.each m lt le image is) in
        (g.0, g.1, keeps_beside limits image (now v) (w.at m) (λ f other. turn.others m lt le f other.1) g.2, g.3);
  };
}

-- and what the files give of a state they give at each of them
pub gives_turning : (limits : Limits) (s : State) (v w : View) → Runs turn_file (Lasting (now v turn_file) (v.reads turn_file)) v w → Narrows v w → GivesThis limits s (now v) → Since (GivesThis limits s) v w
gives_turning limits s v w turn narrows before = record {
  later = narrows.later;
  past = narrows.past;
  each = λ m lt le. record {
    steady = (subst IsSteady (sym (turn.others m lt le gate_file gate_not_turn)) before.steady.0, (lasting_steady (now v turn_file) (v.reads turn_file) (w.at m turn_file) (turn.this m lt le) before.steady.1.0, tt));
    gives = λ image is.
        let g = before.gives image (narrows.each m lt le image is) in
        (g.0, g.1, g.2, keeps_beside limits image (now v) (w.at m) (λ f other. turn.others m lt le f other.1) g.3);
  };
}

-- ---- disks that may be handed in

-- files that are still keep what they recover by
all_still : (image : Files) (fs : List FileId) → AreStill (λ file. still (image file)) fs
all_still image [] = tt
all_still image (f ∷ fs) = ((image f, refl), all_still image fs)

pub stop_good : (limits : Limits) (states : States) (files : Files) → IsGood limits states → IsImage states files → IsGood limits (λ file. still (files file))
stop_good limits = runs.stop_good (recover limits) (Keeps limits) counters (λ image r is. all_still image (data_files limits image))

no_files : Files
no_files = λ file. None

abbrev empty_base : Based
empty_base = record { manifest = first_manifest; repos = [] }

abbrev empty_loaded : Loaded
empty_loaded = record { base = empty_base; log = [] }

pub empty_good : (limits : Limits) → IsGood limits (λ file. still None)
empty_good limits =
    let here : run (λ file. None) (counted limits 0 0) ≡ Ok empty_loaded = counted_is limits (λ file. None) 0 0 empty_base [] (omega arith) (omega arith) refl refl in
    let whole : recover limits (λ file. None) ≡ Ok (unapplied []) = loaded_recovers limits (λ file. None) empty_loaded here in
    record {
      steady = (tt, (tt, tt));
      each = λ image is. (unapplied [], ap (λ (x : Files). recover limits x) (runs.one_image (λ file. None) image is) ∙ whole, subst (λ (x : Files). Keeps limits image (λ file. still (x file))) (runs.one_image (λ file. None) image is) (all_still image (data_files limits image)), empty_sound);
    }

-- ---- openings

same_still : (states : States) (a image : Files) → IsImage states a → IsImage states image → (f : FileId) → IsStill (states f) → image f ≡ a f
same_still states a image is_a is f (x, same) =
    subst (λ (s : FileState). Leaves s (image f)) same (is f) ∙ sym (subst (λ (s : FileState). Leaves s (a f)) same (is_a f))

-- by still files each image reads the same
pub well_still : {A : Type 0} (states : States) (files : Files) (r : Reading A) (x : A) → IsImage states files → run files r ≡ Ok x → AreStill states (asked files r) → GoesWell r (λ y. y ≡ x) states
well_still states files r x shows is held image im =
    let same = agree r files image (every_weaker (λ f. IsStill (states f)) (λ f. image f ≡ files f) (same_still states files image shows im) (asked files r) held) in
    record { what = x; is = same.0 ∙ is; has = refl; steady = subst (AreStill states) (sym same.1) held }

pub based_still : (states : States) (files : Files) (epoch gate : ℕ) (b : Based) → IsImage states files → run files (base_in epoch gate) ≡ Ok b → AreStill states (asked files (base_in epoch gate))
    → (other : ℕ) → b.manifest.applied ≤ other → GoesWell (base_in epoch other) (λ y. y ≡ b) states
based_still states files epoch gate b shows is held other le =
    let any = base_any files epoch gate other b is le in
    well_still states files (base_in epoch other) b shows any.is (subst (AreStill states) (sym any.asks) held)

-- and the manifest
pub manifest_still : (states : States) (files : Files) (epoch gate : ℕ) (b : Based) → IsImage states files → run files (base_in epoch gate) ≡ Ok b → AreStill states (asked files (base_in epoch gate)) → HasManifest b.manifest states
manifest_still states files epoch gate b shows is held =
    let m = split (manifest_in epoch gate) based_on files b is in
    let same : m.first ≡ b.manifest = manifest_of_base files m.first b m.then_is in
    let here : run files (manifest_in epoch gate) ≡ Ok b.manifest = m.first_is ∙ ap Ok same in
    let any = manifest_any files epoch gate b.manifest.applied b.manifest here (omega arith) in
    let mine = (front_still states (asked files (manifest_in epoch gate)) _ (subst (AreStill states) m.asks held)).0 in
    subst (λ (n : ℕ). GoesWell (manifest_in n b.manifest.applied) (λ x. x ≡ b.manifest) states) (sym any.epoch_is)
    (well_still states files (manifest_in epoch b.manifest.applied) b.manifest shows any.is (subst (AreStill states) (sym any.asks) mine))

-- ---- packs that were read

all_push : {A : Type 0} (P : A → Type 0) (xs : List A) (x : A) → AllByRecursion P xs → P x → AllByRecursion P (xs ++ x ∷ [])
all_push P [] x all here = (here, tt)
all_push P (y ∷ ys) x all here = (all.0, all_push P ys x all.1 here)

pack_is : (n : ℕ) (bytes : List ℕ) (o : Result (List Placed) ℕ) (p : PackFile) → pack_as n bytes o ≡ Ok p → (p.number ≡ n) × (p.bytes ≡ bytes)
pack_is n bytes (Ok places) p is = let same : record { number = n; bytes = bytes } ≡ p = cc (is) in (sym (ap (λ (q : PackFile). q.number) same), sym (ap (λ (q : PackFile). q.bytes) same))
pack_is n bytes (Err at) p is = absurd (cc (is))

module _ (states : States) (files : Files) (shows : IsImage states files) where
  each_listed : {A B : Type 0} (P : B → Type 0) (read : A → Reading B) → ((x : A) (y : B) → run files (read x) ≡ Ok y → AreStill states (asked files (read x)) → P y)
      → (before : List B) (xs : List A) (ys : List B) → run files (each_in (one_more read) before xs) ≡ Ok ys → AreStill states (asked files (each_in (one_more read) before xs)) → AllByRecursion P before → AllByRecursion P ys
  each_listed P read one before [] ys is held all = let same : before ≡ ys = cc (is) in subst (AllByRecursion P) same all
  each_listed P read one before (x ∷ xs) ys is held all =
      let a = split (one_more read before x) (λ more. each_in (one_more read) more xs) files ys is in
      let b = split (read x) (λ y. done (before ++ y ∷ [])) files a.first a.first_is in
      let parts = front_still states (asked files (one_more read before x)) _ (subst (AreStill states) a.asks held) in
      let mine = (front_still states (asked files (read x)) _ (subst (AreStill states) b.asks parts.0)).0 in
      let more : before ++ b.first ∷ [] ≡ a.first = cc (b.then_is) in
      each_listed P read one a.first xs ys a.then_is parts.1 (subst (AllByRecursion P) more (all_push P before b.first all (one x b.first b.first_is mine)))

  pack_held : (n : ℕ) (p : PackFile) → run files (pack_in n) ≡ Ok p → AreStill states (asked files (pack_in n)) → HoldsPack states p
  pack_held n p is held =
      let g = gives_file (pack_file n) (λ bytes. pack_as n bytes (pack_of bytes)) files p is in
      let s = pack_is n g.0 (pack_of g.0) p g.2 in
      let x : IsStill (states (pack_file n)) = (subst (AreStill states) (asks_file (pack_file n) (λ bytes. pack_as n bytes (pack_of bytes)) files) held).0 in
      ap (λ (k : ℕ). states (pack_file k)) s.0 ∙ x.1 ∙ ap still (sym (image_still states files (pack_file n) x.0 shows x.1) ∙ g.1 ∙ ap Some (sym s.1))

  repo_held : (r : RepoFiles) (repo : BaseRepo) → run files (repo_in r) ≡ Ok repo → AreStill states (asked files (repo_in r)) → AllByRecursion (HoldsPack states) repo.packs
  repo_held r repo is held =
      let a = split (list_in pack_in r.packs) _ files repo is in
      let b = split (packed_in r.packed) _ files repo a.then_is in
      let l = split (list_in loose_in r.loose) _ files repo b.then_is in
      let same : record { path = r.path; is_pool = r.is_pool; pool = r.pool; packs = a.first; packed = b.first; loose = l.first } ≡ repo = cc (l.then_is) in
      let mine = (front_still states (asked files (list_in pack_in r.packs)) _ (subst (AreStill states) a.asks held)).0 in
      subst (λ (x : BaseRepo). AllByRecursion (HoldsPack states) x.packs) same (each_listed (HoldsPack states) pack_in pack_held [] r.packs a.first a.first_is mine tt)

  pub packs_held : (epoch gate : ℕ) (b : Based) → run files (base_in epoch gate) ≡ Ok b → AreStill states (asked files (base_in epoch gate)) → HoldsPacks b.repos states
  packs_held epoch gate b is held =
      let m = split (manifest_in epoch gate) based_on files b is in
      let l = split (list_in repo_in m.first.repos) (λ repos. done (record { manifest = m.first; repos = repos })) files b m.then_is in
      let same : record { manifest = m.first; repos = l.first } ≡ b = cc (l.then_is) in
      let rest = (front_still states (asked files (manifest_in epoch gate)) _ (subst (AreStill states) m.asks held)).1 in
      let mine = (front_still states (asked files (list_in repo_in m.first.repos)) _ (subst (AreStill states) l.asks rest)).0 in
      subst (λ (x : Based). HoldsPacks x.repos states) same (each_listed (λ r. AllByRecursion (HoldsPack states) r.packs) repo_in repo_held [] m.first.repos l.first l.first_is mine tt)

-- ---- the numbers of packs

module _ (files : Files) where
  -- what holds of each item holds of what is read for it
  each_read : {A B : Type 0} (P : B → Type 0) (Q : A → Type 0) (read : A → Reading B) → ((x : A) (y : B) → Q x → run files (read x) ≡ Ok y → P y) → (before : List B) (xs : List A) (ys : List B) → AllByRecursion Q xs → run files (each_in (one_more read) before xs) ≡ Ok ys → AllByRecursion P before → AllByRecursion P ys
  each_read P Q read one before [] ys every is all = let same : before ≡ ys = cc (is) in subst (AllByRecursion P) same all
  each_read P Q read one before (x ∷ xs) ys every is all =
      let a = split (one_more read before x) (λ more. each_in (one_more read) more xs) files ys is in
      let b = split (read x) (λ y. done (before ++ y ∷ [])) files a.first a.first_is in
      let more : before ++ b.first ∷ [] ≡ a.first = cc (b.then_is) in
      each_read P Q read one a.first xs ys every.1 a.then_is (subst (AllByRecursion P) more (all_push P before b.first all (one x b.first every.0 b.first_is)))

  pack_below : (next n : ℕ) (p : PackFile) → n < next → run files (pack_in n) ≡ Ok p → p.number < next
  pack_below next n p lt is =
      let g = gives_file (pack_file n) (λ bytes. pack_as n bytes (pack_of bytes)) files p is in
      subst (λ (k : ℕ). k < next) (sym (pack_is n g.0 (pack_of g.0) p g.2).0) lt

  repo_below : (next : ℕ) (r : RepoFiles) (repo : BaseRepo) → AllByRecursion (λ n. n < next) r.packs → run files (repo_in r) ≡ Ok repo → HasPacksBelow next repo
  repo_below next r repo below is =
      let a = split (list_in pack_in r.packs) _ files repo is in
      let b = split (packed_in r.packed) _ files repo a.then_is in
      let l = split (list_in loose_in r.loose) _ files repo b.then_is in
      let same : record { path = r.path; is_pool = r.is_pool; pool = r.pool; packs = a.first; packed = b.first; loose = l.first } ≡ repo = cc (l.then_is) in
      subst (HasPacksBelow next) same (each_read (λ p. p.number < next) (λ n. n < next) pack_in (pack_below next) [] r.packs a.first below a.first_is tt)

  -- The packs of a base have numbers below the manifest's next one.
  pub packs_below : (epoch gate : ℕ) (b : Based) → Fits Second b.manifest → run files (base_in epoch gate) ≡ Ok b → AllByRecursion (HasPacksBelow b.manifest.next) b.repos
  packs_below epoch gate b fits is =
      let m = split (manifest_in epoch gate) based_on files b is in
      let l = split (list_in repo_in m.first.repos) (λ repos. done (record { manifest = m.first; repos = repos })) files b m.then_is in
      let same : record { manifest = m.first; repos = l.first } ≡ b = cc (l.then_is) in
      let below : AllByRecursion (λ r. AllByRecursion (λ n. n < b.manifest.next) r.packs) m.first.repos =
      subst (λ (x : Manifest). AllByRecursion (λ r. AllByRecursion (λ n. n < b.manifest.next) r.packs) x.repos) (sym (ap (λ (x : Based). x.manifest) same)) (numbers_below b.manifest.next b.manifest.repos (recursion_from_All (IsFileNumber b.manifest.next) (flat_map file_numbers b.manifest.repos) fits.1.numbers)) in
      subst (λ (x : Based). AllByRecursion (HasPacksBelow b.manifest.next) x.repos) same (each_read (HasPacksBelow b.manifest.next) (λ r. AllByRecursion (λ n. n < b.manifest.next) r.packs) repo_in (repo_below b.manifest.next) [] m.first.repos l.first below l.first_is tt)
    where
      below_of : (next : ℕ) (ns : List ℕ) → AllByRecursion (IsFileNumber next) ns → AllByRecursion (λ n. n < next) ns
      below_of next [] all = tt
      below_of next (n ∷ ns) all = (all.0.1, below_of next ns all.1)

      numbers_below : (next : ℕ) (repos : List RepoFiles) → AllByRecursion (IsFileNumber next) (flat_map file_numbers repos) → AllByRecursion (λ r. AllByRecursion (λ n. n < next) r.packs) repos
      numbers_below next [] all = tt
      numbers_below next (r ∷ repos) all =
          let both = all_front (IsFileNumber next) (file_numbers r) (flat_map file_numbers repos) all in
          let packs = all_front (IsFileNumber next) r.packs (packed_number r.packed ++ map file_of r.loose) both.0 in
          (below_of next r.packs packs.0, numbers_below next repos both.1)
