-- A repository with new files holds what it held with the records and values that these files have.
use Rattle.std.proofs.Common.{◌≡◌, ℕ, ◌+◌, Bool, true, false, cond, eqb, List, [], ◌∷◌, ◌++◌, length, take, slice_index, flat_map, Option, Some, None, Ok, refl, sym, ap, ◌∙◌, subst, arith, length-append, map as map_list}
use Rattle.std.proofs.lemmas.Bool.{eq-eqb}
use Rattle.std.proofs.lemmas.List.{take_at, get_or_at}
use Rattle.std.specs.List.{AllByRecursion, list_any}
use Rattle.std.specs.Option.{unwrap_or}
use Rattle.std.specs.Cmp.Lexicographic.{nat_list_cmp_total}
use Rattle.std.specs.FinMap as map
use Rattle.std.specs.FinMap.{FinMap, same_map}
use Rattle.gt_disk.specs.Files.{Content as FileContent, Files}
use Rattle.gt_entry.specs.Fits.{IsName, IsEntry}
use Rattle.gt_manifest.specs.declared.manifest.Loose.{Loose}
use Rattle.gt_manifest.specs.declared.manifest.RepoFiles.{RepoFiles}
use Rattle.gt_model.specs.Batches as batch
use Rattle.gt_model.specs.Batches.{has_records, files_of}
use Rattle.gt_model.specs.Contents.{key_cmp, Names, Repo, with_refs, with_added}
use Rattle.gt_model.specs.declared.added.Added.{Added}
use Rattle.gt_model.specs.declared.entry.Entry.{Entry}
use Rattle.gt_reftext.specs.Lines.{name_of}
use Rattle.gt_reftext.specs.Loose.{loose, value_of}
use Rattle.gt_reftext.specs.Spelling as reftext
use Rattle.gt_reftext.proofs.LineLemmas.{name_back, long_digits}
use Rattle.gt_versions.proofs.Keys.{key_cmp-IsAntisymmetric}
use Rattle.gt_apply.specs.declared.new_file.NewContent.{NewContent}
use Rattle.gt_apply.specs.declared.new_file.NewContent.TheVariants.{Loose as LooseValue}
use Rattle.gt_apply.specs.Plan.{added_by, updates_by, records_of, values_of, to_added, to_loose, numbers_of, content_of, file_for, placed}
use Rattle.gt_apply.specs.Steps.{files_in, contents_in, with_numbers, with_all_loose}
use Rattle.gt_apply.proofs.PlacedLaws.{numbers-back, loose-numbers, placed-none, placed-some}
use Rattle.gt_apply.proofs.WriteLaws.{files_are, contents_are}
use Rattle.gt_base.specs.Held.{own_of, packed_values, refs_of, repo_of}
use Rattle.gt_applied.specs.Applied.{to_packed, bytes_of, HasSpelling}
use Rattle.gt_applied.proofs.Shown.{pack_shown, packed_shown, value_shown, value_or_none, loose_shown, shown, HasPack, HasValue, IsShown}
use Rattle.gt_applied.proofs.References.{Valued, refs_follow}
use Rattle.gt_applied.proofs.Objects.{AreNew, pack_there, own_follows, all_none}
use Rattle.gt_applied.proofs.Typed.{AllOf, Anything, all_insert, all_append, records_packed, values_typed}

-- ---- new files that are there

abbrev pub IsThere : Files → ℕ → NewContent → Type 0
IsThere files n c = (files (file_for n c) ≡ Some (bytes_of c)) × HasSpelling c

-- Each of these contents is there, from this number on.
abbrev pub AreThere : Files → ℕ → List NewContent → Type 0
AreThere files n [] = Unit {0}
AreThere files n (c ∷ cs) = IsThere files n c × AreThere files (n + 1) cs

value_by : (digits v : List ℕ) → length digits ≡ 40 → name_of digits ≡ Some v → value_of (digits ++ 10 ∷ []) ≡ Ok v
unfolding value_of
value_by digits v forty name =
    let long : eqb (length (digits ++ 10 ∷ [])) 41 ≡ true = eq-eqb _ _ (omega (arith, forty, length-append digits (10 ∷ []))) in
    let ended : eqb (slice_index (digits ++ 10 ∷ []) 40) 10 ≡ true = eq-eqb _ _ (get_or_at digits 10 [] 0 40 forty) in
    let front : take 40 (digits ++ 10 ∷ []) ≡ digits = take_at digits (10 ∷ []) 40 forty in
    rw (long, ended, front, name) refl

-- a loose file's value is read again
value_back : (v : List ℕ) → reftext.IsName v → value_of (loose v) ≡ Ok v
value_back v is = value_by _ v (long_digits v is) (name_back v is)

module _ (files : Files) where
  value_is : (n : ℕ) (v : List ℕ) → IsThere files n (LooseValue v) → IsName v → value_shown files n ≡ v
  value_is n v there name = ap (λ (o : FileContent). value_or_none (value_of (unwrap_or o []))) there.0 ∙ ap value_or_none (value_back v (name, there.1))

  value_there : (n : ℕ) (v : List ℕ) → IsThere files n (LooseValue v) → IsName v → HasValue files n
  value_there n v there name = (loose v, there.0, value_back v (name, there.1) ∙ ap Ok (sym (value_is n v there name)))

  abbrev values_in : List (List ℕ × List ℕ) → List NewContent
  values_in vs = map_list (λ v. LooseValue v.1) vs

  valued : (n : ℕ) (vs : List (List ℕ × List ℕ)) → AreThere files n (values_in vs) → AllOf Anything IsName vs → Valued files n vs
  valued n [] there names = tt
  valued n (v ∷ vs) there names = (value_is n v.1 there.0 names.0.1, valued (n + 1) vs there.1 names.1)

  numbers_there : (m : FinMap key_cmp ℕ) (n : ℕ) (vs : List (List ℕ × List ℕ)) → AreThere files n (values_in vs) → AllOf Anything IsName vs → AllOf Anything (HasValue files) (map.entries m) → AllOf Anything (HasValue files) (map.entries (with_numbers m n vs))
  numbers_there m n [] there names h = h
  numbers_there m n (v ∷ vs) there names h = numbers_there (map.insert m v.0 n) (n + 1) vs there.1 names.1 (all_insert Anything (HasValue files) m v.0 n tt (value_there n v.1 there.0 names.0.1) h)

  from_loose : (es : List (List ℕ × ℕ)) → AllByRecursion (λ l. HasValue files l.file) (map_list to_loose es) → AllOf Anything (HasValue files) es
  from_loose [] h = tt
  from_loose (e ∷ es) h = ((tt, h.0), from_loose es h.1)

  as_loose : (es : List (List ℕ × ℕ)) → AllOf Anything (HasValue files) es → AllByRecursion (λ l. HasValue files l.file) (map_list to_loose es)
  as_loose [] h = tt
  as_loose (e ∷ es) h = (h.0.1, as_loose es h.1)

-- ---- what a repository's files hold

-- The files at a path are there, loose ones in order of their references, and hold this repository.
pub record IsHeld (files : Files) (path : List ℕ) (r : RepoFiles) (x : Repo) : Type 0 where
  pub at : r.path ≡ path
  pub listed : r.loose ≡ map_list to_loose (map.entries (numbers_of r.loose))
  pub shows : IsShown files r
  pub is : repo_of (shown files r) ≡ x

-- all updates and records of these entries
abbrev pub wrote : Repo → List Entry → Repo
wrote x own = record x { refs = with_refs x.refs (flat_map (λ e. updates_by e.change) own); own = with_added x.own (flat_map (λ e. added_by e.change) own) }

-- the files with these packs, and with files from this number on for what is written
abbrev with_files : RepoFiles → List ℕ → ℕ → List Entry → RepoFiles
with_files r packs n own = record r { packs = packs; loose = map_list to_loose (map.entries (with_numbers (numbers_of r.loose) n (map.entries (values_of own)))) }

-- what is written, with or without a pack
abbrev pack_by : List Entry → Bool → Option (List Added)
pack_by own b = cond b (Some (map_list to_added (map.entries (records_of own)))) None

abbrev files_by : List Entry → Bool → List batch.NewFile
files_by own b = files_in (record { pack = pack_by own b; values = map.entries (values_of own) })

abbrev contents_by : List Entry → Bool → List NewContent
contents_by own b = contents_in (record { pack = pack_by own b; values = map.entries (values_of own) })

module _ (files : Files) (path : List ℕ) (r : RepoFiles) (x : Repo) (held : IsHeld files path r x) (own : List Entry) (typed : AllByRecursion IsEntry own) where
  same_own : own_of (map_list (pack_shown files) r.packs) ≡ x.own
  same_own = ap (λ (y : Repo). y.own) held.is

  same_refs : x.refs ≡ refs_of (packed_shown files r.packed) (map_list (loose_shown files) (map_list to_loose (map.entries (numbers_of r.loose))))
  same_refs = sym (ap (λ (y : Repo). y.refs) held.is) ∙ ap (λ (l : List Loose). refs_of (packed_shown files r.packed) (map_list (loose_shown files) l)) held.listed

  module _ (packs : List ℕ) (n : ℕ) (there : AreThere files n (values_in files (map.entries (values_of own)))) where
    new_refs : refs_of (packed_shown files r.packed) (map_list (loose_shown files) (with_files r packs n own).loose) ≡ with_refs x.refs (flat_map (λ e. updates_by e.change) own)
    new_refs = same_map nat_list_cmp_total key_cmp-IsAntisymmetric _ _ (λ q.
        refs_follow files (packed_values (packed_shown files r.packed)) x.refs (numbers_of r.loose) n (flat_map (λ e. updates_by e.change) own) q same_refs
        (valued files n (map.entries (values_of own)) there (values_typed own typed)))

    with_files_held : AllByRecursion (HasPack files) packs → own_of (map_list (pack_shown files) packs) ≡ with_added x.own (flat_map (λ e. added_by e.change) own) → IsHeld files path (with_files r packs n own) (wrote x own)
    with_files_held good new_own =
        let news : FinMap key_cmp ℕ = with_numbers (numbers_of r.loose) n (map.entries (values_of own)) in
        let old_there = from_loose files (map.entries (numbers_of r.loose)) (subst (AllByRecursion (λ (l : Loose). HasValue files l.file)) held.listed held.shows.loose) in
        record {
          at = held.at;
          listed = ap (λ (m : FinMap key_cmp ℕ). map_list to_loose (map.entries m)) (sym (numbers-back news));
          shows = record {
            packs = good;
            packed = held.shows.packed;
            loose = as_loose files (map.entries news) (numbers_there files (numbers_of r.loose) n (map.entries (values_of own)) there (values_typed own typed) old_there);
          };
          is = λ i. record { refs = new_refs i; own = new_own i; pool = (held.is i).pool; is_pool = (held.is i).is_pool };
        }

  loose_are : (n : ℕ) (vs : List (List ℕ × List ℕ)) → with_all_loose r.loose n vs ≡ map_list to_loose (map.entries (with_numbers (numbers_of r.loose) n vs))
  loose_are n vs = ap (λ (l : List Loose). with_all_loose l n vs) held.listed ∙ loose-numbers (numbers_of r.loose) n vs

  placed_by : (n : ℕ) (b : Bool) → list_any (λ e. has_records e.change) own ≡ b → AreNew x.own (flat_map (λ e. added_by e.change) own) → AreThere files n (contents_by own b) → IsHeld files path (placed n (files_by own b) r) (wrote x own)
  placed_by n false none new there =
      let vs = map.entries (values_of own) in
      let is : with_files r r.packs n own ≡ placed n (files_by own false) r = ap (λ (l : List Loose). record r { loose = l }) (sym (loose_are n vs)) ∙ placed-none n (record { pack = pack_by own false; values = map.entries (values_of own) }) r vs refl refl in
      let kept : own_of (map_list (pack_shown files) r.packs) ≡ with_added x.own (flat_map (λ e. added_by e.change) own) = same_own ∙ ap (with_added x.own) (sym (all_none own none)) in
      subst (λ (s : RepoFiles). IsHeld files path s (wrote x own)) is (with_files_held r.packs n there held.shows.packs kept)
  placed_by n true some new there =
      let vs = map.entries (values_of own) in
      let records = map_list to_added (map.entries (records_of own)) in
      let added = flat_map (λ e. added_by e.change) own in
      let packs = r.packs ++ n ∷ [] in
      let with_pack : RepoFiles = record r { packs = packs } in
      let is : with_files r packs (n + 1) own ≡ placed n (files_by own true) r = ap (λ (l : List Loose). record r { packs = packs; loose = l }) (sym (loose_are (n + 1) vs)) ∙ placed-some n (record { pack = pack_by own true; values = map.entries (values_of own) }) r vs refl records with_pack refl refl in
      let good = records_packed own typed there.0.1 in
      let fresh : AreNew (own_of (map_list (pack_shown files) r.packs)) added = subst (λ (o : Names). AreNew o added) (sym same_own) new in
      let more : own_of (map_list (pack_shown files) packs) ≡ with_added x.own added =
      same_map nat_list_cmp_total key_cmp-IsAntisymmetric _ _ (λ q. own_follows files r.packs n added q fresh good there.0.0) ∙ ap (λ (o : Names). with_added o added) same_own in
      let all = all_append (HasPack files) r.packs (n ∷ []) held.shows.packs (pack_there files n (map_list to_packed records) good there.0.0, tt) in
      subst (λ (s : RepoFiles). IsHeld files path s (wrote x own)) is (with_files_held packs (n + 1) there.1 all more)

  -- Files in which the new contents stand hold the repository with what its entries write.
  pub placed_held : (n : ℕ) → AreNew x.own (flat_map (λ e. added_by e.change) own) → AreThere files n (map_list (content_of own) (files_of own)) → IsHeld files path (placed n (files_of own) r) (wrote x own)
  placed_held n new there =
      let b = list_any (λ e. has_records e.change) own in
      subst (λ (fs : List batch.NewFile). IsHeld files path (placed n fs r) (wrote x own)) (files_are own (record { pack = pack_by own b; values = map.entries (values_of own) }) refl refl)
      (placed_by n b refl new (subst (AreThere files n) (sym (contents_are own (record { pack = pack_by own b; values = map.entries (values_of own) }) refl refl)) there))
