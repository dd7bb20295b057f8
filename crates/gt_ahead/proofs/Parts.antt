-- What was loaded, in its parts.
use Rattle.std.proofs.Common.{◌≡◌, ℕ, ◌+◌, ◌-◌, ◌≤◌, nat_lt, Bool, true, false, cond, List, ◌++◌, Ok, refl, ◌∙◌, ap, subst, arith}
use Rattle.std.proofs.lemmas.Bool.Decides.{nat_tests}
use Rattle.std.proofs.lemmas.List.{append-nil}
use Rattle.gt_disk.specs.declared.file_id.FileId.{FileId}
use Rattle.gt_disk.specs.Files.{Files}
use Rattle.gt_disk.specs.Kinds.{gate_file, turn_file}
use Rattle.gt_manifest.specs.declared.manifest.Manifest.{Manifest}
use Rattle.gt_model.specs.declared.entry.Entry.{Entry}
use Rattle.gt_model.specs.declared.limits.Limits.{Limits}
use Rattle.gt_reading.specs.Reading.{Damage, Reading, done, damaged, run, asked, ◌>>=◌, list_in}
use Rattle.gt_reading.proofs.Programs.{run_then, split}
use Rattle.gt_base.specs.Entries.{entries_in}
use Rattle.gt_base.specs.Held.{content_of}
use Rattle.gt_base.specs.Recovery.{Based, Loaded, repo_in, manifest_in, based_on, base_in, log_on, counted}

-- a test before a program wasn't passed
tested : {A : Type 0} (b : Bool) (d : Damage) (r : Reading A) (files : Files) (x : A) → run files (cond b (damaged d) r) ≡ Ok x → (b ≡ false) × (run files r ≡ Ok x) × (asked files (cond b (damaged d) r) ≡ asked files r)
tested true d r files x is = absurd (cc (is))
tested false d r files x is = (refl, is, refl)

passes : {A : Type 0} (b : Bool) (d : Damage) (r : Reading A) (files : Files) → b ≡ false → run files (cond b (damaged d) r) ≡ run files r
passes b d r files is = ap (λ (c : Bool). run files (cond c (damaged d) r)) is

-- ---- a base

pub record BaseParts (files : Files) (epoch gate : ℕ) (b : Based) : Type 0 where
  pub manifest : run files (manifest_in epoch gate) ≡ Ok b.manifest
  pub based : run files (based_on b.manifest) ≡ Ok b
  pub asks : asked files (base_in epoch gate) ≡ asked files (manifest_in epoch gate) ++ asked files (based_on b.manifest)

-- a base that is read on a manifest has it
pub manifest_of_base : (files : Files) (m : Manifest) (b : Based) → run files (based_on m) ≡ Ok b → m ≡ b.manifest
manifest_of_base files m b is =
    let repos = split (list_in repo_in m.repos) (λ repos. done (record { manifest = m; repos = repos })) files b is in
    let same : record { manifest = m; repos = repos.first } ≡ b = cc (repos.then_is) in
    ap (λ (x : Based). x.manifest) same

pub base_parts : (files : Files) (epoch gate : ℕ) (b : Based) → run files (base_in epoch gate) ≡ Ok b → BaseParts files epoch gate b
base_parts files epoch gate b is =
    let m = split (manifest_in epoch gate) based_on files b is in
    let same = manifest_of_base files m.first b m.then_is in
    record {
      manifest = m.first_is ∙ ap Ok same;
      based = subst (λ (n : Manifest). run files (based_on n) ≡ Ok b) same m.then_is;
      asks = m.asks ∙ ap (λ (n : Manifest). asked files (manifest_in epoch gate) ++ asked files (based_on n)) same;
    }

-- ---- a base, and the log past it

abbrev pub log_in : ℕ → Based → Reading (List Entry)
log_in gate b = entries_in (content_of b.repos) (b.manifest.applied + 1) (gate - b.manifest.applied)

pub record Parts (limits : Limits) (files : Files) (epoch gate : ℕ) (x : Loaded) : Type 0 where
  pub within : gate ≤ limits.positions
  pub few : epoch ≤ limits.epochs
  pub base : run files (base_in epoch gate) ≡ Ok x.base
  pub log : run files (log_in gate x.base) ≡ Ok x.log
  pub asks : asked files (counted limits epoch gate) ≡ asked files (base_in epoch gate) ++ asked files (log_in gate x.base)

pub parts_of : (limits : Limits) (files : Files) (epoch gate : ℕ) (x : Loaded) → run files (counted limits epoch gate) ≡ Ok x → Parts limits files epoch gate x
unfolding counted
parts_of limits files epoch gate x is =
    let a = tested (nat_lt limits.positions gate) (gate_file, limits.positions) (cond (nat_lt limits.epochs epoch) (damaged (turn_file, limits.epochs)) (base_in epoch gate >>= log_on gate)) files x is in
    let b = tested (nat_lt limits.epochs epoch) (turn_file, limits.epochs) (base_in epoch gate >>= log_on gate) files x a.1 in
    let base = split (base_in epoch gate) (log_on gate) files x b.1 in
    let log = split (log_in gate base.first) (λ log. done (record { base = base.first; log = log })) files x base.then_is in
    let same : record { base = base.first; log = log.first } ≡ x = cc (log.then_is) in
    let short : nat_lt limits.positions gate ≡ false = a.0 in
    let low : nat_lt limits.epochs epoch ≡ false = b.0 in
    let within : gate ≤ limits.positions = grind (arith, nat_tests) in
    let few : epoch ≤ limits.epochs = grind (arith, nat_tests) in
    subst (λ (y : Loaded). Parts limits files epoch gate y) same (record {
      within = within;
      few = few;
      base = base.first_is;
      log = log.first_is;
      asks = a.2 ∙ b.2 ∙ base.asks ∙ ap (λ (fs : List FileId). asked files (base_in epoch gate) ++ fs) (log.asks ∙ append-nil (asked files (log_in gate base.first)));
    })

-- A base and a log past it are loaded.
pub counted_is : (limits : Limits) (files : Files) (epoch gate : ℕ) (b : Based) (log : List Entry) → gate ≤ limits.positions → epoch ≤ limits.epochs → run files (base_in epoch gate) ≡ Ok b → run files (log_in gate b) ≡ Ok log
    → run files (counted limits epoch gate) ≡ Ok (record { base = b; log = log })
unfolding counted
counted_is limits files epoch gate b log within few base_is log_is =
    let short : nat_lt limits.positions gate ≡ false = grind (arith, nat_tests) in
    let low : nat_lt limits.epochs epoch ≡ false = grind (arith, nat_tests) in
    passes (nat_lt limits.positions gate) (gate_file, limits.positions) (cond (nat_lt limits.epochs epoch) (damaged (turn_file, limits.epochs)) (base_in epoch gate >>= log_on gate)) files short
    ∙ passes (nat_lt limits.epochs epoch) (turn_file, limits.epochs) (base_in epoch gate >>= log_on gate) files low
    ∙ run_then (base_in epoch gate) (log_on gate) files b base_is
    ∙ run_then (log_in gate b) (λ log. done (record { base = b; log = log })) files log log_is
