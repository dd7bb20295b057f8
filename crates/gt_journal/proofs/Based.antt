-- What an image recovers to, of a base and a log past it.
use Rattle.std.proofs.Common.{◌≡◌, ℕ, zero, suc, ◌+◌, ◌-◌, ◌≤◌, ◌==◌, not, nat_lt, Bool, true, false, cond, List, [], ◌∷◌, ◌++◌, length, Result, Ok, Err, refl, sym, ◌∙◌, ap, subst, arith}
use Rattle.std.proofs.lemmas.Bool.Decides.{nat_tests}
use Rattle.std.proofs.lemmas.List.{append-nil}
use Rattle.gt_disk.specs.declared.file_id.FileId.{FileId}
use Rattle.gt_disk.specs.Files.{Content as FileContent, Files, States, IsImage}
use Rattle.gt_disk.specs.Kinds.{gate_file, turn_file, manifest_file, pack_file, packed_file, loose_file, entry_file}
use Rattle.gt_log.specs.Log.{content_length}
use Rattle.gt_log.specs.declared.mount_cause.MountCause.{MountCause}
use Rattle.gt_log.specs.declared.mount_cause.MountCause.TheVariants.{DeviceFault, Damaged, Memory}
use Rattle.gt_manifest.specs.declared.manifest.RepoFiles.{RepoFiles}
use Rattle.gt_manifest.specs.declared.manifest.Manifest.{Manifest}
use Rattle.gt_manifest.specs.Whole.{manifest_of}
use Rattle.gt_model.specs.declared.entry.Entry.{Entry}
use Rattle.gt_model.specs.declared.limits.Limits.{Limits}
use Rattle.gt_model.specs.Contents.{Content, after}
use Rattle.gt_model.specs.Machine.{Recovered}
use Rattle.gt_pack.specs.Reading.{pack_of}
use Rattle.gt_reading.specs.Reading.{Damage, Reading, done, damaged, run, asked, ◌>>=◌, AsksOnly, parsed, parsed_file, file_in, list_in, one_more}
use Rattle.gt_reading.specs.Frames.{AreStill}
use Rattle.gt_reading.proofs.Apart.{well_apart}
use Rattle.gt_reading.proofs.Programs.{run_then, run_damaged, asked_then, split, only_then, only_file, only_each, asks_file, gives_file}
use Rattle.gt_reftext.specs.Loose.{value_of}
use Rattle.gt_reftext.specs.Packed.{packed_of}
use Rattle.gt_base.specs.Answers.{Blames}
use Rattle.gt_base.specs.Held.{content_of}
use Rattle.gt_base.specs.Loading.{turn_then}
use Rattle.gt_base.specs.Entries.{entry_of as entry_at, entry_in, entries_in}
use Rattle.gt_base.specs.Recovery.{Based, Loaded, pack_as, pack_in, listed, packed_in, with_name, loose_in, repo_in, first_manifest, checked, manifest_in, based_on, base_in, log_on, counted, recovery, recover, all_recovered, recovered, Keeps}
use Rattle.gt_journal.specs.Ledger.{HasBase, is_based}

-- ---- which files recovery asks for

only_list : {A B : Type 0} (P : FileId → Type 0) (read : A → Reading B) → ((x : A) → AsksOnly P (read x)) → (xs : List A) → AsksOnly P (list_in read xs)
only_list P read only xs = only_each P (one_more read) (λ ys x. only_then P (read x) (λ y. done (ys ++ y ∷ [])) (only x) (λ y. tt)) [] xs

module _ (P : FileId → Type 0) (manifests : (n : ℕ) → P (manifest_file n)) (packs : (n : ℕ) → P (pack_file n)) (packed : (n : ℕ) → P (packed_file n)) (loose : (n : ℕ) → P (loose_file n)) where
  only_packed : (n : ℕ) → AsksOnly P (packed_in n)
  only_packed zero = tt
  only_packed (suc n) = only_file P (packed_file (suc n)) (λ bytes. listed bytes (packed_of bytes)) (packed (suc n))

  only_repo : (r : RepoFiles) → AsksOnly P (repo_in r)
  only_repo r =
      only_then P (list_in pack_in r.packs) _ (only_list P pack_in (λ n. only_file P (pack_file n) (λ bytes. pack_as n bytes (pack_of bytes)) (packs n)) r.packs) (λ some.
      only_then P (packed_in r.packed) _ (only_packed r.packed) (λ list.
      only_then P (list_in loose_in r.loose) _ (only_list P loose_in (λ l. only_file P (loose_file l.file) (λ bytes. with_name l.name (value_of bytes)) (loose l.file)) r.loose) (λ values. tt)))

  pub only_manifest : (epoch gate : ℕ) → AsksOnly P (manifest_in epoch gate)
  only_manifest zero gate = tt
  only_manifest (suc n) gate = only_file P (manifest_file (suc n)) (λ bytes. checked (suc n) gate (manifest_of bytes)) (manifests (suc n))

  pub only_base : (epoch gate : ℕ) → AsksOnly P (base_in epoch gate)
  only_base epoch gate =
      only_then P (manifest_in epoch gate) based_on (only_manifest epoch gate) (λ m.
      only_then P (list_in repo_in m.repos) _ (only_list P repo_in only_repo m.repos) (λ repos. tt))

  module _ (entries : (n : ℕ) → P (entry_file n)) where
    only_entry : (position : ℕ) (o : Result Entry ℕ) → AsksOnly P (parsed (entry_file position) o)
    only_entry position (Ok e) = tt
    only_entry position (Err at) = tt

    only_entries : (c : Content) (position count : ℕ) → AsksOnly P (entries_in c position count)
    only_entries c position zero = tt
    only_entries c position (suc more) =
        only_then P (entry_in c position) _ (entries position, λ content. only_entry position (entry_at content c position)) (λ e.
        only_then P (entries_in (after c e) (position + 1) more) (λ es. done (e ∷ es)) (only_entries (after c e) (position + 1) more) (λ es. tt))

    only_if : {A : Type 0} (b : Bool) (d : Damage) (r : Reading A) → AsksOnly P r → AsksOnly P (cond b (damaged d) r)
    only_if true d r only = tt
    only_if false d r only = only

    pub only_counted : (limits : Limits) (epoch gate : ℕ) → AsksOnly P (counted limits epoch gate)
    unfolding counted
    only_counted limits epoch gate =
        only_if (nat_lt limits.positions gate) (gate_file, limits.positions) _
        (only_if (nat_lt limits.epochs epoch) (turn_file, limits.epochs) _
        (only_then P (base_in epoch gate) (log_on gate) (only_base epoch gate) (λ b.
        only_then P (entries_in (content_of b.repos) (b.manifest.applied + 1) (gate - b.manifest.applied)) _ (only_entries (content_of b.repos) (b.manifest.applied + 1) (gate - b.manifest.applied)) (λ log. tt))))

abbrev IsBasedFile : FileId → Type 0
IsBasedFile f = is_based f ≡ true

-- ---- a gate that counts otherwise

-- what was read under the one gate is read under another that counts its position
checked_any : (epoch gate other : ℕ) (read : Result Manifest ℕ) (m : Manifest) → checked epoch gate read ≡ Ok m → m.applied ≤ other → (checked epoch other read ≡ Ok m) × (m.epoch ≡ epoch) × (m.applied ≤ gate)
checked_any epoch gate other (Err at) m is le = absurd (cc (is))
checked_any epoch gate other (Ok x) m is le = by (x.epoch == epoch) refl (nat_lt gate x.applied) refl (nat_lt other x.applied) refl is
  where
    by : (a : Bool) → (x.epoch == epoch) ≡ a → (b : Bool) → nat_lt gate x.applied ≡ b → (c : Bool) → nat_lt other x.applied ≡ c → cond {A = Result Manifest ℕ} (not a) (Err 4) (cond {A = Result Manifest ℕ} b (Err 12) (Ok x)) ≡ Ok m
        → (cond {A = Result Manifest ℕ} (not a) (Err 4) (cond {A = Result Manifest ℕ} c (Err 12) (Ok x)) ≡ Ok m) × (m.epoch ≡ epoch) × (m.applied ≤ gate)
    by false one b two c three is = absurd (cc (is))
    by true one true two c three is = absurd (cc (is))
    by true one false two c three is =
        let same : x ≡ m = cc (is) in
        let here : x.epoch ≡ epoch = grind (arith, nat_tests) in
        let within : x.applied ≤ gate = grind (arith, nat_tests) in
        let low : m.applied ≤ other = le in
        let less : x.applied ≤ other = omega (arith, low, ap (λ (y : Manifest). y.applied) same) in
        let not_past : nat_lt other x.applied ≡ false = grind (arith, nat_tests) in
        (ap (λ (b : Bool). cond {A = Result Manifest ℕ} b (Err 12) (Ok x)) (sym three ∙ not_past) ∙ is, sym (ap (λ (y : Manifest). y.epoch) same) ∙ here, subst (λ (y : Manifest). y.applied ≤ gate) same within)

pub record AnyGate (files : Files) (epoch gate other : ℕ) (m : Manifest) : Type 0 where
  pub is : run files (manifest_in epoch other) ≡ Ok m
  pub asks : asked files (manifest_in epoch other) ≡ asked files (manifest_in epoch gate)
  pub epoch_is : m.epoch ≡ epoch
  pub within : m.applied ≤ gate

file_asks : (files : Files) (f : FileId) (one two : List ℕ → Result Manifest ℕ) → asked files (file_in f one) ≡ asked files (file_in f two)
file_asks files f one two = asks_file f one files ∙ sym (asks_file f two files)

pub manifest_any : (files : Files) (epoch gate other : ℕ) (m : Manifest) → run files (manifest_in epoch gate) ≡ Ok m → m.applied ≤ other → AnyGate files epoch gate other m
manifest_any files zero gate other m is le =
    let same : first_manifest ≡ m = cc (is) in
    record { is = is; asks = refl; epoch_is = sym (ap (λ (y : Manifest). y.epoch) same); within = omega (arith, ap (λ (y : Manifest). y.applied) same) }
manifest_any files (suc n) gate other m is le =
    let g = gives_file (manifest_file (suc n)) (λ bytes. checked (suc n) gate (manifest_of bytes)) files m is in
    let c = checked_any (suc n) gate other (manifest_of g.0) m g.2 le in
    record {
      is = ap (λ (x : FileContent). run files (parsed_file (manifest_file (suc n)) (λ bytes. checked (suc n) other (manifest_of bytes)) x)) g.1 ∙ ap (λ (r : Result Manifest ℕ). run files (parsed (manifest_file (suc n)) r)) c.0;
      asks = file_asks files (manifest_file (suc n)) (λ bytes. checked (suc n) other (manifest_of bytes)) (λ bytes. checked (suc n) gate (manifest_of bytes));
      epoch_is = c.1;
      within = c.2;
    }

pub record AnyBase (files : Files) (epoch gate other : ℕ) (b : Based) : Type 0 where
  pub is : run files (base_in epoch other) ≡ Ok b
  pub asks : asked files (base_in epoch other) ≡ asked files (base_in epoch gate)
  pub epoch_is : b.manifest.epoch ≡ epoch
  pub within : b.manifest.applied ≤ gate

pub base_any : (files : Files) (epoch gate other : ℕ) (b : Based) → run files (base_in epoch gate) ≡ Ok b → b.manifest.applied ≤ other → AnyBase files epoch gate other b
base_any files epoch gate other b is le =
    let m = split (manifest_in epoch gate) based_on files b is in
    let repos = split (list_in repo_in m.first.repos) (λ repos. done (record { manifest = m.first; repos = repos })) files b m.then_is in
    let same : record { manifest = m.first; repos = repos.first } ≡ b = cc (repos.then_is) in
    let manifest_same : m.first ≡ b.manifest = ap (λ (x : Based). x.manifest) same in
    let any = manifest_any files epoch gate other m.first m.first_is (omega (arith, le, ap (λ (y : Manifest). y.applied) manifest_same)) in
    let asks_other = asked_then (manifest_in epoch other) based_on files m.first any.is in
    record {
      is = run_then (manifest_in epoch other) based_on files m.first any.is ∙ m.then_is;
      asks = asks_other ∙ ap (λ (fs : List FileId). fs ++ asked files (based_on m.first)) any.asks ∙ sym m.asks;
      epoch_is = sym (ap (λ (y : Manifest). y.epoch) manifest_same) ∙ any.epoch_is;
      within = omega (arith, any.within, ap (λ (y : Manifest). y.applied) manifest_same);
    }

-- ---- the whole

-- a test before a program wasn't passed
tested : {A : Type 0} (b : Bool) (d : Damage) (r : Reading A) (files : Files) (x : A) → run files (cond b (damaged d) r) ≡ Ok x → (b ≡ false) × (run files r ≡ Ok x) × (asked files (cond b (damaged d) r) ≡ asked files r)
tested true d r files x is = absurd (cc (is))
tested false d r files x is = (refl, is, refl)

passes : {A : Type 0} (b : Bool) (d : Damage) (r : Reading A) (files : Files) → b ≡ false → (run files (cond b (damaged d) r) ≡ run files r) × (asked files (cond b (damaged d) r) ≡ asked files r)
passes b d r files is = (ap (λ (c : Bool). run files (cond c (damaged d) r)) is, ap (λ (c : Bool). asked files (cond c (damaged d) r)) is)

-- what was recovered, in its parts
pub record Parts (limits : Limits) (files : Files) (epoch gate : ℕ) (x : Loaded) : Type 0 where
  pub within : gate ≤ limits.positions
  pub few : epoch ≤ limits.epochs
  pub base : run files (base_in epoch gate) ≡ Ok x.base
  pub log : run files (entries_in (content_of x.base.repos) (x.base.manifest.applied + 1) (gate - x.base.manifest.applied)) ≡ Ok x.log
  pub asks : asked files (counted limits epoch gate) ≡ asked files (base_in epoch gate) ++ asked files (entries_in (content_of x.base.repos) (x.base.manifest.applied + 1) (gate - x.base.manifest.applied))

pub parts_of : (limits : Limits) (files : Files) (epoch gate : ℕ) (x : Loaded) → run files (counted limits epoch gate) ≡ Ok x → Parts limits files epoch gate x
unfolding counted
parts_of limits files epoch gate x is =
    let a = tested (nat_lt limits.positions gate) (gate_file, limits.positions) (cond (nat_lt limits.epochs epoch) (damaged (turn_file, limits.epochs)) (base_in epoch gate >>= log_on gate)) files x is in
    let b = tested (nat_lt limits.epochs epoch) (turn_file, limits.epochs) (base_in epoch gate >>= log_on gate) files x a.1 in
    let m = split (base_in epoch gate) (log_on gate) files x b.1 in
    let entries = entries_in (content_of m.first.repos) (m.first.manifest.applied + 1) (gate - m.first.manifest.applied) in
    let log = split entries (λ log. done (record { base = m.first; log = log })) files x m.then_is in
    let same : record { base = m.first; log = log.first } ≡ x = cc (log.then_is) in
    let short : nat_lt limits.positions gate ≡ false = a.0 in
    let low : nat_lt limits.epochs epoch ≡ false = b.0 in
    let within : gate ≤ limits.positions = grind (arith, nat_tests) in
    let few : epoch ≤ limits.epochs = grind (arith, nat_tests) in
    subst (λ (y : Loaded). Parts limits files epoch gate y) same (record {
      within = within;
      few = few;
      base = m.first_is;
      log = log.first_is;
      asks = a.2 ∙ b.2 ∙ m.asks ∙ ap (λ (fs : List FileId). asked files (base_in epoch gate) ++ fs) (log.asks ∙ append-nil (asked files entries));
    })

-- a base and a log past it are recovered
pub counted_is : (limits : Limits) (files : Files) (epoch gate : ℕ) (b : Based) (log : List Entry) → gate ≤ limits.positions → epoch ≤ limits.epochs → run files (base_in epoch gate) ≡ Ok b
    → run files (entries_in (content_of b.repos) (b.manifest.applied + 1) (gate - b.manifest.applied)) ≡ Ok log → run files (counted limits epoch gate) ≡ Ok (record { base = b; log = log })
unfolding counted
counted_is limits files epoch gate b log within few base_is log_is =
    let short : nat_lt limits.positions gate ≡ false = grind (arith, nat_tests) in
    let low : nat_lt limits.epochs epoch ≡ false = grind (arith, nat_tests) in
    (passes (nat_lt limits.positions gate) (gate_file, limits.positions) (cond (nat_lt limits.epochs epoch) (damaged (turn_file, limits.epochs)) (base_in epoch gate >>= log_on gate)) files short).0
    ∙ (passes (nat_lt limits.epochs epoch) (turn_file, limits.epochs) (base_in epoch gate >>= log_on gate) files low).0
    ∙ run_then (base_in epoch gate) (log_on gate) files b base_is
    ∙ run_then (entries_in (content_of b.repos) (b.manifest.applied + 1) (gate - b.manifest.applied)) (λ log. done (record { base = b; log = log })) files log log_is

-- a gate that is longer than the limit is the first damage, and then a longer turn
failed : {A : Type 0} (b : Bool) (d : Damage) (r : Reading A) (files : Files) → b ≡ true → run files (cond b (damaged d) r) ≡ Err d
failed b d r files is = ap (λ (c : Bool). run files (cond c (damaged d) r)) is

pub too_long : (limits : Limits) (files : Files) → limits.positions + 1 ≤ content_length (files gate_file) → run files (recovery limits) ≡ Err (gate_file, limits.positions)
unfolding counted
too_long limits files long =
    let past : nat_lt limits.positions (content_length (files gate_file)) ≡ true = grind (arith, nat_tests) in
    failed (nat_lt limits.positions (content_length (files gate_file))) (gate_file, limits.positions) (cond (nat_lt limits.epochs (content_length (files turn_file))) (damaged (turn_file, limits.epochs)) (base_in (content_length (files turn_file)) (content_length (files gate_file)) >>= log_on (content_length (files gate_file)))) files past

-- ---- from a base and its entries to the whole

module _ (limits : Limits) (files : Files) (within : content_length (files gate_file) ≤ limits.positions) where
  abbrev the_epoch : ℕ
  the_epoch = content_length (files turn_file)

  abbrev the_gate : ℕ
  the_gate = content_length (files gate_file)

  abbrev rest : Reading Loaded
  rest = base_in the_epoch the_gate >>= log_on the_gate

  counted_rest : run files (recovery limits) ≡ run files (cond (nat_lt limits.epochs the_epoch) (damaged (turn_file, limits.epochs)) rest)
  unfolding counted
  counted_rest =
      let short : nat_lt limits.positions the_gate ≡ false = grind (arith, nat_tests) in
      (passes (nat_lt limits.positions the_gate) (gate_file, limits.positions) (cond (nat_lt limits.epochs the_epoch) (damaged (turn_file, limits.epochs)) rest) files short).0

  pub base_blamed : (d : Damage) → run files (turn_then limits the_gate) ≡ Err d → run files (recovery limits) ≡ Err d
  base_blamed d is = counted_rest ∙ by (nat_lt limits.epochs the_epoch) is
    where
      by : (b : Bool) → run files (cond b (damaged (turn_file, limits.epochs)) (base_in the_epoch the_gate)) ≡ Err d → run files (cond b (damaged (turn_file, limits.epochs)) rest) ≡ Err d
      by true is = let same : (turn_file, limits.epochs) ≡ d = cc (is) in ap (λ (x : Damage). Err x) same
      by false is = run_damaged (base_in the_epoch the_gate) (log_on the_gate) files d is

  based_then : (b : Based) (o : Result Loaded Damage) → run files (turn_then limits the_gate) ≡ Ok b → run files (log_on the_gate b) ≡ o → run files (recovery limits) ≡ o
  based_then b o is more = counted_rest ∙ by (nat_lt limits.epochs the_epoch) is
    where
      by : (t : Bool) → run files (cond t (damaged (turn_file, limits.epochs)) (base_in the_epoch the_gate)) ≡ Ok b → run files (cond t (damaged (turn_file, limits.epochs)) rest) ≡ o
      by true is = absurd (cc (is))
      by false is = run_then (base_in the_epoch the_gate) (log_on the_gate) files b is ∙ more

  abbrev entries_of : Based → Reading (List Entry)
  entries_of b = entries_in (content_of b.repos) (b.manifest.applied + 1) (the_gate - b.manifest.applied)

  pub entries_blamed : (b : Based) (d : Damage) → run files (turn_then limits the_gate) ≡ Ok b → run files (entries_of b) ≡ Err d → run files (recovery limits) ≡ Err d
  entries_blamed b d is bad = based_then b (Err d) is (run_damaged (entries_of b) (λ log. done (record { base = b; log = log })) files d bad)

  pub all_loaded : (b : Based) (log : List Entry) → run files (turn_then limits the_gate) ≡ Ok b → run files (entries_of b) ≡ Ok log → run files (recovery limits) ≡ Ok (record { base = b; log = log })
  all_loaded b log is read = based_then b (Ok (record { base = b; log = log })) is (run_then (entries_of b) (λ log. done (record { base = b; log = log })) files log read)

  pub base_causes : (cause : MountCause) → Blames (run files (turn_then limits the_gate)) cause → Blames (run files (recovery limits)) cause
  base_causes DeviceFault is = tt
  base_causes Memory is = tt
  base_causes (Damaged file at) is = base_blamed (file, at) is

  pub entries_causes : (b : Based) (cause : MountCause) → run files (turn_then limits the_gate) ≡ Ok b → Blames (run files (entries_of b)) cause → Blames (run files (recovery limits)) cause
  entries_causes b DeviceFault is bad = tt
  entries_causes b Memory is bad = tt
  entries_causes b (Damaged file at) is bad = entries_blamed b (file, at) is bad

pub loaded_recovers : (limits : Limits) (files : Files) (x : Loaded) → run files (recovery limits) ≡ Ok x → recover limits files ≡ Ok (recovered x)
loaded_recovers limits files x is = ap all_recovered is

pub recovers_loaded : (limits : Limits) (files : Files) (r : Recovered) → recover limits files ≡ Ok r → (x : Loaded) × (run files (recovery limits) ≡ Ok x) × (recovered x ≡ r)
recovers_loaded limits files r is = by (run files (recovery limits)) refl is
  where
    by : (o : Result Loaded Damage) → run files (recovery limits) ≡ o → all_recovered o ≡ Ok r → (x : Loaded) × (run files (recovery limits) ≡ Ok x) × (recovered x ≡ r)
    by (Ok x) one two = (x, one, cc (two))
    by (Err d) one two = absurd (cc (two))

pub recovers_blamed : (limits : Limits) (files : Files) (cause : MountCause) → Blames (run files (recovery limits)) cause → Blames (recover limits files) cause
recovers_blamed limits files DeviceFault is = tt
recovers_blamed limits files Memory is = tt
recovers_blamed limits files (Damaged file at) is = ap all_recovered is

pub both_still : (states : States) (one two : List FileId) → AreStill states one → AreStill states two → AreStill states (one ++ two)
both_still states [] two a b = b
both_still states (f ∷ fs) two a b = (a.0, both_still states fs two a.1 b)

pub front_still : (states : States) (one two : List FileId) → AreStill states (one ++ two) → AreStill states one × AreStill states two
front_still states [] two a = (tt, a)
front_still states (f ∷ fs) two a = let r = front_still states fs two a.1 in ((a.0, r.0), r.1)

-- ---- files that have a base

-- what leaves all files but the log's leaves the base
pub base_kept : (limits : Limits) (epoch applied next : ℕ) (c : Content) (before states : States) → ((f : FileId) → is_based f ≡ true → states f ≡ before f) → HasBase limits epoch applied next c before → HasBase limits epoch applied next c states
base_kept limits epoch applied next c before states same has = record {
  few = has.few;
  based = has.based;
  reads = λ gate le. well_apart is_based before states same (base_in epoch gate) (λ b. b ≡ has.based) (only_base IsBasedFile (λ n. refl) (λ n. refl) (λ n. refl) (λ n. refl) epoch gate) (has.reads gate le);
  epoch_is = has.epoch_is;
  applied_is = has.applied_is;
  next_is = has.next_is;
  content = has.content;
}

-- what is recovered of a base and a log past it
abbrev pub with_log : ℕ → ℕ → ℕ → Content → List Entry → Recovered
with_log epoch applied next c log = record { epoch = epoch; applied = applied; next = next; base = c; log = log }

-- An image whose turn counts the epoch and whose gate counts a log past the base recovers to both, by files that are still.
pub gives_log : (limits : Limits) (epoch applied next : ℕ) (c : Content) (log : List Entry) (states : States) (image : Files) → HasBase limits epoch applied next c states → IsImage states image
    → content_length (image turn_file) ≡ epoch → content_length (image gate_file) ≡ applied + length log → applied + length log ≤ limits.positions
    → run image (entries_in c (applied + 1) (length log)) ≡ Ok log → AreStill states (asked image (entries_in c (applied + 1) (length log)))
    → (recover limits image ≡ Ok (with_log epoch applied next c log)) × Keeps limits image states
gives_log limits epoch applied next c log states image has is epoch_is count within log_is log_still =
    let gate : ℕ = content_length (image gate_file) in
    let well = has.reads gate (omega (arith, count)) image is in
    let base_is : run image (base_in epoch gate) ≡ Ok has.based = well.is ∙ ap Ok well.has in
    let left : gate - has.based.manifest.applied ≡ length log = omega (arith, count, has.applied_is) in
    let entries : run image (entries_in (content_of has.based.repos) (has.based.manifest.applied + 1) (gate - has.based.manifest.applied)) ≡ Ok log =
    (λ i. run image (entries_in (has.content i) (has.applied_is i + 1) (left i))) ∙ log_is in
    let x : Loaded = record { base = has.based; log = log } in
    let here : run image (counted limits epoch gate) ≡ Ok x = counted_is limits image epoch gate has.based log (omega (arith, count, within)) has.few base_is entries in
    let whole : run image (recovery limits) ≡ Ok x = ap (λ (n : ℕ). run image (counted limits n gate)) epoch_is ∙ here in
    let p = parts_of limits image epoch gate x here in (
      loaded_recovers limits image x whole ∙ ap Ok (λ i. record { epoch = has.epoch_is i; applied = has.applied_is i; next = has.next_is i; base = has.content i; log = log }),
      subst (λ (n : ℕ). AreStill states (asked image (counted limits n gate))) (sym epoch_is)
          (subst (AreStill states) (sym p.asks) (both_still states (asked image (base_in epoch gate)) _ well.steady
          (subst (AreStill states) (sym (λ i. asked image (entries_in (has.content i) (has.applied_is i + 1) (left i)))) log_still))),
    )
