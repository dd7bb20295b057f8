-- The manifests of other epochs, and the entries that were applied, hold nothing of what was loaded.
use Rattle.std.proofs.Common.{◌≡◌, ◌≢◌, inl, inr, ℕ, zero, suc, ◌+◌, ◌-◌, ◌<◌, ◌≤◌, List, [], ◌∷◌, map, Ok, sym, ap, subst, arith}
use Rattle.std.specs.List.{flat_map, AllByRecursion}
use Rattle.gt_disk.specs.declared.file_id.FileId.{FileId}
use Rattle.gt_disk.specs.Files.{Files}
use Rattle.gt_disk.specs.Kinds.{gate_file, turn_file, manifest_file, entry_file, pack_file, packed_file, loose_file}
use Rattle.gt_log.specs.Log.{content_length}
use Rattle.gt_manifest.specs.declared.manifest.Loose.{Loose}
use Rattle.gt_manifest.specs.declared.manifest.RepoFiles.{RepoFiles}
use Rattle.gt_model.specs.declared.entry.Entry.{Entry}
use Rattle.gt_model.specs.declared.limits.Limits.{Limits}
use Rattle.gt_model.specs.Contents.{Content, after}
use Rattle.gt_reading.specs.Reading.{done, run, ◌>>=◌}
use Rattle.gt_reading.proofs.Programs.{split, every_weaker}
use Rattle.gt_base.specs.Entries.{entry_in, entries_in}
use Rattle.gt_base.specs.Held.{content_of}
use Rattle.gt_base.specs.Recovery.{Loaded, recovery}
use Rattle.gt_ahead.specs.Files.{manifest_files, packed_files, repo_files, log_files, data_files_of, HoldsNothingOf, IsOld}
use Rattle.gt_ahead.proofs.Lists.{all_append, all_map, each_of}
use Rattle.gt_ahead.proofs.Parts.{parts_of}
use Rattle.gt_ahead.proofs.Asked.{entry_placed}

-- ---- the kinds of files

packed_kinds : (P : FileId → Type 0) → ((n : ℕ) → P (packed_file n)) → (n : ℕ) → AllByRecursion P (packed_files n)
packed_kinds P packed zero = tt
packed_kinds P packed (suc n) = (packed (suc n), tt)

module _ (P : FileId → Type 0) (packs : (n : ℕ) → P (pack_file n)) (packed : (n : ℕ) → P (packed_file n)) (loose : (n : ℕ) → P (loose_file n)) where
  repo_kinds : (r : RepoFiles) → AllByRecursion P (repo_files r)
  repo_kinds r =
      all_append P (map pack_file r.packs) _ (all_map (λ n. Unit {0}) P pack_file (λ n u. packs n) r.packs (each_of (λ n. Unit {0}) (λ n. tt) r.packs))
      (all_append P (packed_files r.packed) _ (packed_kinds P packed r.packed)
      (all_map (λ l. Unit {0}) P (λ (l : Loose). loose_file l.file) (λ l u. loose l.file) r.loose (each_of (λ l. Unit {0}) (λ l. tt) r.loose)))

  pub repos_kinds : (repos : List RepoFiles) → AllByRecursion P (flat_map repo_files repos)
  repos_kinds [] = tt
  repos_kinds (r ∷ repos) = all_append P (repo_files r) (flat_map repo_files repos) (repo_kinds r) (repos_kinds repos)

  manifest_kinds : (epoch : ℕ) → P (manifest_file epoch) → AllByRecursion P (manifest_files epoch)
  manifest_kinds zero manifest = tt
  manifest_kinds (suc n) manifest = (manifest, tt)

  log_kinds : (log : List Entry) → AllByRecursion (λ e. P (entry_file e.position)) log → AllByRecursion P (log_files log)
  log_kinds [] all = tt
  log_kinds (e ∷ es) all = (all.0, log_kinds es all.1)

  -- what holds of its manifest, of its entries, and of all packs, packed files and loose files
  pub data_kinds : (x : Loaded) → P (manifest_file x.base.manifest.epoch) → AllByRecursion (λ e. P (entry_file e.position)) x.log → AllByRecursion P (data_files_of x)
  data_kinds x manifest entries = all_append P _ (log_files x.log) (all_append P (manifest_files x.base.manifest.epoch) _ (manifest_kinds x.base.manifest.epoch manifest) (repos_kinds x.base.manifest.repos)) (log_kinds x.log entries)

-- files of other kinds
pub other_kind : (f g : FileId) → f.kind ≢ g.kind → f ≢ g
other_kind f g ne same = ne (ap (λ (h : FileId). h.kind) same)

-- Those whose bytes are read are of kinds from 3 on,
pub kinds_from : (x : Loaded) → AllByRecursion (λ f. 3 ≤ f.kind) (data_files_of x)
kinds_from x = data_kinds (λ f. 3 ≤ f.kind) (λ n. omega arith) (λ n. omega arith) (λ n. omega arith) x (omega arith) (each_of (λ e. 3 ≤ 4) (λ e. omega arith) x.log)

-- so neither gate nor turn is among them,
pub kinds_apart : (x : Loaded) (f : FileId) → f.kind < 3 → AllByRecursion (λ g. g ≢ f) (data_files_of x)
kinds_apart x f low = every_weaker (λ g. 3 ≤ g.kind) (λ g. g ≢ f) (λ g high. other_kind g f (λ same. omega (arith, low, high, same))) (data_files_of x) (kinds_from x)

-- and no manifest but that of the epoch.
pub manifests_apart : (x : Loaded) (n : ℕ) → n ≢ x.base.manifest.epoch → AllByRecursion (λ g. g ≢ manifest_file n) (data_files_of x)
manifests_apart x n ne =
    data_kinds (λ g. g ≢ manifest_file n) (λ k. other_kind (pack_file k) (manifest_file n) (λ e. omega (arith, e))) (λ k. other_kind (packed_file k) (manifest_file n) (λ e. omega (arith, e))) (λ k. other_kind (loose_file k) (manifest_file n) (λ e. omega (arith, e)))
    x (λ same. ne (sym (ap (λ (h : FileId). h.number) same))) (each_of (λ (e : Entry). entry_file e.position ≢ manifest_file n) (λ e. other_kind (entry_file e.position) (manifest_file n) (λ k. omega (arith, k))) x.log)

-- ---- entries

-- Entries stand from their position on,
pub stand_from : (files : Files) (c : Content) (position more : ℕ) (log : List Entry) → run files (entries_in c position more) ≡ Ok log → AllByRecursion (λ e. position ≤ e.position) log
stand_from files c position zero log is = let none : [] ≡ log = cc (is) in subst (AllByRecursion (λ (e : Entry). position ≤ e.position)) none tt
stand_from files c position (suc more) log is =
    let e = split (entry_in c position) (λ e. entries_in (after c e) (position + 1) more >>= λ es. done (e ∷ es)) files log is in
    let rest = split (entries_in (after c e.first) (position + 1) more) (λ es. done (e.first ∷ es)) files log e.then_is in
    let same : e.first ∷ rest.first ≡ log = cc (rest.then_is) in
    let here : e.first.position ≡ position = entry_placed files c position e.first e.first_is in
    let later = stand_from files (after c e.first) (position + 1) more rest.first rest.first_is in
    subst (AllByRecursion (λ (f : Entry). position ≤ f.position)) same (omega (arith, here), every_weaker (λ (f : Entry). position + 1 ≤ f.position) (λ (f : Entry). position ≤ f.position) (λ f le. omega (arith, le)) rest.first later)

-- and before the position behind the last.
pub stand_until : (files : Files) (c : Content) (position more : ℕ) (log : List Entry) → run files (entries_in c position more) ≡ Ok log → AllByRecursion (λ e. e.position < position + more) log
stand_until files c position zero log is = let none : [] ≡ log = cc (is) in subst (AllByRecursion (λ (e : Entry). e.position < position + 0)) none tt
stand_until files c position (suc more) log is =
    let e = split (entry_in c position) (λ e. entries_in (after c e) (position + 1) more >>= λ es. done (e ∷ es)) files log is in
    let rest = split (entries_in (after c e.first) (position + 1) more) (λ es. done (e.first ∷ es)) files log e.then_is in
    let same : e.first ∷ rest.first ≡ log = cc (rest.then_is) in
    let here : e.first.position ≡ position = entry_placed files c position e.first e.first_is in
    let later = stand_until files (after c e.first) (position + 1) more rest.first rest.first_is in
    subst (AllByRecursion (λ (f : Entry). f.position < position + suc more)) same (omega (arith, here), every_weaker (λ (f : Entry). f.position < position + 1 + more) (λ (f : Entry). f.position < position + suc more) (λ f lt. omega (arith, lt)) rest.first later)

-- ---- old files

pub old_apart : (limits : Limits) (files : Files) (x : Loaded) (f : FileId) → run files (recovery limits) ≡ Ok x → IsOld x f → HoldsNothingOf x f
old_apart limits files x f is (inl (kind, other)) = (
  other_kind gate_file f (λ same. omega (arith, same, kind)),
  (
    other_kind turn_file f (λ same. omega (arith, same, kind)),
    data_kinds (λ g. g ≢ f) (λ k. other_kind (pack_file k) f (λ e. omega (arith, e, kind))) (λ k. other_kind (packed_file k) f (λ e. omega (arith, e, kind))) (λ k. other_kind (loose_file k) f (λ e. omega (arith, e, kind)))
        x (λ same. other (sym (ap (λ (h : FileId). h.number) same))) (each_of (λ (e : Entry). entry_file e.position ≢ f) (λ e. other_kind (entry_file e.position) f (λ k. omega (arith, k, kind))) x.log),
  ),
)
old_apart limits files x f is (inr (kind, applied)) =
    let p = parts_of limits files (content_length (files turn_file)) (content_length (files gate_file)) x is in
    let later = stand_from files (content_of x.base.repos) (x.base.manifest.applied + 1) (content_length (files gate_file) - x.base.manifest.applied) x.log p.log in (
      other_kind gate_file f (λ same. omega (arith, same, kind)),
      (
        other_kind turn_file f (λ same. omega (arith, same, kind)),
        data_kinds (λ g. g ≢ f) (λ k. other_kind (pack_file k) f (λ e. omega (arith, e, kind))) (λ k. other_kind (packed_file k) f (λ e. omega (arith, e, kind))) (λ k. other_kind (loose_file k) f (λ e. omega (arith, e, kind)))
            x (other_kind (manifest_file x.base.manifest.epoch) f (λ e. omega (arith, e, kind)))
            (every_weaker (λ (e : Entry). x.base.manifest.applied + 1 ≤ e.position) (λ (e : Entry). entry_file e.position ≢ f)
            (λ e le same. let numbers : e.position ≡ f.number = ap (λ (h : FileId). h.number) same in absurd (omega (arith, le, numbers, applied))) x.log later),
      ),
    )
