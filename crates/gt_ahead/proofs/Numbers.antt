-- Files of numbers that a manifest doesn't name hold nothing of what was loaded.
use Rattle.std.proofs.Common.{◌≡◌, ◌≢◌, ℕ, zero, suc, ◌<◌, ◌≤◌, Bool, cond, List, [], ◌∷◌, map, Ok, ap, subst, arith}
use Rattle.std.specs.Prelude.{is_ok}
use Rattle.std.proofs.lemmas.Bool.{ne_eqb}
use Rattle.std.proofs.lemmas.List.Elements.{recursion_from_All}
use Rattle.std.specs.List.{flat_map, AllByRecursion}
use Rattle.gt_bytes.proofs.Steps.{bind_ok, ok_is}
use Rattle.gt_disk.specs.declared.file_id.FileId.{FileId}
use Rattle.gt_disk.specs.Files.{Files}
use Rattle.gt_disk.specs.Kinds.{gate_file, turn_file, manifest_file, pack_file, loose_file}
use Rattle.gt_log.specs.Log.{content_length}
use Rattle.gt_manifest.specs.declared.manifest.Loose.{Loose}
use Rattle.gt_manifest.specs.declared.manifest.RepoFiles.{RepoFiles}
use Rattle.gt_manifest.specs.declared.manifest.Manifest.{Manifest}
use Rattle.gt_manifest.specs.Reading.{fields_of}
use Rattle.gt_manifest.specs.Whole.{whole, sound, manifest_of, packed_number, file_of, file_numbers, IsFileNumber, IsWhole}
use Rattle.gt_manifest.proofs.WholeLemmas.{whole_is}
use Rattle.gt_model.specs.declared.entry.Entry.{Entry}
use Rattle.gt_model.specs.declared.limits.Limits.{Limits}
use Rattle.gt_reading.specs.Reading.{run}
use Rattle.gt_reading.proofs.Programs.{gives_file, every_weaker}
use Rattle.gt_base.specs.Recovery.{Loaded, first_manifest, checked, manifest_in, recovery}
use Rattle.gt_ahead.specs.Files.{manifest_files, packed_files, repo_files, log_files, HoldsNothingOf, IsUnnamed, IsNew}
use Rattle.gt_ahead.proofs.Lists.{all_append, all_front, all_map, all_mapped}
use Rattle.gt_ahead.proofs.Parts.{base_parts, parts_of}
use Rattle.gt_ahead.proofs.Asked.{checked_is}

-- ---- each file of a repository has a number that its manifest names

module _ (P : ℕ → Type 0) where
  abbrev Has : FileId → Type 0
  Has f = 5 ≤ f.kind → P f.number

  packed_has : (n : ℕ) → AllByRecursion P (packed_number n) → AllByRecursion Has (packed_files n)
  packed_has zero all = tt
  packed_has (suc n) all =
      let named : packed_number (suc n) ≡ suc n ∷ [] = ap (λ (b : Bool). cond b [] (suc n ∷ [])) (ne_eqb (suc n) 0 (λ e. omega (arith, e))) in
      let one : AllByRecursion P (suc n ∷ []) = subst (AllByRecursion P) named all in
      ((λ k. one.0), tt)

  repo_has : (r : RepoFiles) → AllByRecursion P (file_numbers r) → AllByRecursion Has (repo_files r)
  repo_has r all =
      let packs = all_front P r.packs _ all in
      let rest = all_front P (packed_number r.packed) (map file_of r.loose) packs.1 in
      all_append Has (map pack_file r.packs) _ (all_map P Has pack_file (λ n p k. p) r.packs packs.0)
      (all_append Has (packed_files r.packed) _ (packed_has r.packed rest.0)
      (all_map (λ (l : Loose). P l.file) Has (λ l. loose_file l.file) (λ l p k. p) r.loose (all_mapped P file_of r.loose rest.1)))

  pub repos_have : (repos : List RepoFiles) → AllByRecursion P (flat_map file_numbers repos) → AllByRecursion Has (flat_map repo_files repos)
  repos_have [] all = tt
  repos_have (r ∷ repos) all =
      let parts = all_front P (file_numbers r) (flat_map file_numbers repos) all in
      all_append Has (repo_files r) (flat_map repo_files repos) (repo_has r parts.0) (repos_have repos parts.1)

  pub manifest_has : (epoch : ℕ) → AllByRecursion Has (manifest_files epoch)
  manifest_has zero = tt
  manifest_has (suc n) = ((λ k. absurd (omega (arith, k))), tt)

  log_has : (log : List Entry) → AllByRecursion Has (log_files log)
  log_has [] = tt
  log_has (e ∷ es) = ((λ k. absurd (omega (arith, k))), log_has es)

-- a file whose number isn't named
pub unnamed_apart : (x : Loaded) (f : FileId) → IsUnnamed x f → HoldsNothingOf x f
unnamed_apart x f (kind, unnamed) = (
  apart gate_file (λ k. absurd (omega (arith, k))),
  (
    apart turn_file (λ k. absurd (omega (arith, k))),
    every_weaker Named (λ g. g ≢ f) apart _
        (all_append Named _ (log_files x.log) (all_append Named (manifest_files x.base.manifest.epoch) _ (manifest_has IsOther x.base.manifest.epoch) (repos_have IsOther x.base.manifest.repos unnamed)) (log_has IsOther x.log)),
  ),
)
  where
    IsOther : ℕ → Type 0
    IsOther n = n ≢ f.number

    Named : FileId → Type 0
    Named g = 5 ≤ g.kind → g.number ≢ f.number

    apart : (g : FileId) → (5 ≤ g.kind → g.number ≢ f.number) → g ≢ f
    apart g named same =
        let kinds : g.kind ≡ f.kind = ap (λ (h : FileId). h.kind) same in
        named (omega (arith, kinds, kind)) (ap (λ (h : FileId). h.number) same)

-- ---- the next number is above those that a manifest names

abbrev IsBelow : Manifest → Type 0
IsBelow m = AllByRecursion (IsFileNumber m.next) (flat_map file_numbers m.repos)

read_below : (bytes : List ℕ) (m : Manifest) → manifest_of bytes ≡ Ok m → IsBelow m
read_below bytes m is =
    let a = bind_ok (fields_of bytes) sound m is in
    let b = bind_ok (whole a.0.0 a.0.1) (λ s. Ok a.0.1) m a.2 in
    let w = whole_is a.0.0 a.0.1 (ap is_ok b.1) in
    subst IsBelow (ok_is a.0.1 m b.2) (recursion_from_All (IsFileNumber a.0.1.next) (flat_map file_numbers a.0.1.repos) w.numbers)

manifest_below : (files : Files) (epoch gate : ℕ) (m : Manifest) → run files (manifest_in epoch gate) ≡ Ok m → IsBelow m
manifest_below files zero gate m is = let same : first_manifest ≡ m = cc (is) in subst IsBelow same tt
manifest_below files (suc n) gate m is =
    let g = gives_file (manifest_file (suc n)) (λ bytes. checked (suc n) gate (manifest_of bytes)) files m is in
    read_below g.0 m (checked_is files (suc n) gate (manifest_of g.0) m g.2).0

-- a file whose number isn't given out yet
below_apart : (x : Loaded) (f : FileId) → IsBelow x.base.manifest → IsNew x f → HoldsNothingOf x f
below_apart x f below (kind, new) =
    unnamed_apart x f (kind, every_weaker (IsFileNumber x.base.manifest.next) (λ n. n ≢ f.number) (λ n number same. let lt : n < x.base.manifest.next = number.1 in absurd (omega (arith, lt, new, same))) (flat_map file_numbers x.base.manifest.repos) below)

pub whole_apart : (x : Loaded) (f : FileId) → IsWhole x.base.manifest → IsNew x f → HoldsNothingOf x f
whole_apart x f is = below_apart x f (recursion_from_All (IsFileNumber x.base.manifest.next) (flat_map file_numbers x.base.manifest.repos) is.numbers)

pub new_apart : (limits : Limits) (files : Files) (x : Loaded) (f : FileId) → run files (recovery limits) ≡ Ok x → IsNew x f → HoldsNothingOf x f
new_apart limits files x f is =
    let p = parts_of limits files (content_length (files turn_file)) (content_length (files gate_file)) x is in
    let b = base_parts files (content_length (files turn_file)) (content_length (files gate_file)) x.base p.base in
    below_apart x f (manifest_below files (content_length (files turn_file)) (content_length (files gate_file)) x.base.manifest b.manifest)
