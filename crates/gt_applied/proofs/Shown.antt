-- What files show under the numbers of a manifest, and that reading answers exactly that.
use Rattle.std.proofs.Common.{◌≡◌, ℕ, zero, suc, List, [], ◌∷◌, ◌++◌, Some, Result, Ok, Err, refl, sym, ap, ◌∙◌, append_assoc, map as map_list}
use Rattle.std.proofs.lemmas.List.{append-nil}
use Rattle.std.specs.List.{AllByRecursion}
use Rattle.std.specs.Option.{unwrap_or}
use Rattle.gt_disk.specs.Files.{Content as FileContent, Files}
use Rattle.gt_disk.specs.Kinds.{pack_file, packed_file, loose_file}
use Rattle.gt_manifest.specs.declared.manifest.Loose.{Loose}
use Rattle.gt_manifest.specs.declared.manifest.RepoFiles.{RepoFiles}
use Rattle.gt_manifest.specs.declared.manifest.Manifest.{Manifest}
use Rattle.gt_model.specs.declared.reference.RefValue.{RefValue}
use Rattle.gt_pack.specs.declared.placed.Placed.{Placed}
use Rattle.gt_pack.specs.Reading.{pack_of}
use Rattle.gt_reading.specs.Reading.{Reading, done, run, ◌>>=◌, parsed, parsed_file, each_in, one_more, list_in}
use Rattle.gt_reading.proofs.Programs.{run_then, split, gives_file}
use Rattle.gt_reftext.specs.declared.packed_ref.PackedRef.{PackedRef}
use Rattle.gt_reftext.specs.Loose.{value_of}
use Rattle.gt_reftext.specs.Packed.{packed_of}
use Rattle.gt_base.specs.Packs.{PackFile}
use Rattle.gt_base.specs.declared.held.BaseRepo.{BaseRepo}
use Rattle.gt_base.specs.Recovery.{pack_as, pack_in, listed, packed_in, with_name, loose_in, repo_in, Based, based_on}

-- ---- what stands under a number

abbrev pub pack_shown : Files → ℕ → PackFile
pack_shown files n = record { number = n; bytes = unwrap_or (files (pack_file n)) [] }

abbrev pub list_or_none : Result (List PackedRef) ℕ → List PackedRef
list_or_none (Ok list) = list
list_or_none (Err at) = []

abbrev pub packed_shown : Files → ℕ → List PackedRef
packed_shown files zero = []
packed_shown files (suc n) = list_or_none (packed_of (unwrap_or (files (packed_file (suc n))) []))

abbrev pub value_or_none : Result (List ℕ) ℕ → List ℕ
value_or_none (Ok value) = value
value_or_none (Err at) = []

abbrev pub value_shown : Files → ℕ → List ℕ
value_shown files n = value_or_none (value_of (unwrap_or (files (loose_file n)) []))

abbrev pub loose_shown : Files → Loose → RefValue
loose_shown files l = record { name = l.name; value = value_shown files l.file }

abbrev pub shown : Files → RepoFiles → BaseRepo
shown files r = record { path = r.path; is_pool = r.is_pool; pool = r.pool; packs = map_list (pack_shown files) r.packs; packed = packed_shown files r.packed; loose = map_list (loose_shown files) r.loose }

-- ---- that it is there, in its grammar

abbrev pub HasPack : Files → ℕ → Type 0
HasPack files n = run files (pack_in n) ≡ Ok (pack_shown files n)

abbrev pub HasPacked : Files → ℕ → Type 0
HasPacked files n = run files (packed_in n) ≡ Ok (packed_shown files n)

abbrev pub HasValue : Files → ℕ → Type 0
HasValue files n = (bytes : List ℕ) × (files (loose_file n) ≡ Some bytes) × (value_of bytes ≡ Ok (value_shown files n))

-- Each file of a repository is there.
pub record IsShown (files : Files) (r : RepoFiles) : Type 0 where
  pub packs : AllByRecursion (HasPack files) r.packs
  pub packed : HasPacked files r.packed
  pub loose : AllByRecursion (λ l. HasValue files l.file) r.loose

-- ---- lists

-- what is read of each item is read of a list
each_reads : {A B : Type 0} (read : A → Reading B) (f : A → B) (files : Files) (ys : List B) (xs : List A) → AllByRecursion (λ x. run files (read x) ≡ Ok (f x)) xs
    → run files (each_in (one_more read) ys xs) ≡ Ok (ys ++ map_list f xs)
each_reads read f files ys [] h = ap Ok (sym (append-nil ys))
each_reads {B = B} read f files ys (x ∷ xs) h =
    let more : B → Reading (List B) = λ y. done (ys ++ y ∷ []) in
    run_then (one_more read ys x) (λ zs. each_in (one_more read) zs xs) files (ys ++ f x ∷ []) (run_then (read x) more files (f x) h.0)
    ∙ each_reads read f files (ys ++ f x ∷ []) xs h.1
    ∙ ap Ok (append_assoc ys (f x ∷ []) (map_list f xs))

list_reads : {A B : Type 0} (read : A → Reading B) (f : A → B) (files : Files) (xs : List A) → AllByRecursion (λ x. run files (read x) ≡ Ok (f x)) xs → run files (list_in read xs) ≡ Ok (map_list f xs)
list_reads read f files xs h = each_reads read f files [] xs h

-- what answers over a list answers over each item
each_was : {A B : Type 0} (P : A → Type 0) (read : A → Reading B) (files : Files) → ((x : A) (y : B) → run files (read x) ≡ Ok y → P x) → (ys : List B) (xs : List A) (zs : List B)
    → run files (each_in (one_more read) ys xs) ≡ Ok zs → AllByRecursion P xs
each_was P read files only ys [] zs is = tt
each_was {B = B} P read files only ys (x ∷ xs) zs is =
    let more : B → Reading (List B) = λ y. done (ys ++ y ∷ []) in
    let s = split (one_more read ys x) (λ zs. each_in (one_more read) zs xs) files zs is in
    let t = split (read x) more files s.first s.first_is in
    (only x t.first t.first_is, each_was P read files only s.first xs zs s.then_is)

-- ---- single files

pack_was : (files : Files) (n : ℕ) (p : PackFile) → run files (pack_in n) ≡ Ok p → HasPack files n
pack_was files n p is =
    let g = gives_file (pack_file n) (λ bytes. pack_as n bytes (pack_of bytes)) files p is in
    is ∙ ap Ok (by g.0 (pack_of g.0) g.2 ∙ ap (λ (o : FileContent). record { number = n; bytes = unwrap_or o [] }) (sym g.1))
  where
    by : (bytes : List ℕ) (o : Result (List Placed) ℕ) → pack_as n bytes o ≡ Ok p → p ≡ record { number = n; bytes = bytes }
    by bytes (Ok places) e = let same : record { number = n; bytes = bytes } ≡ p = cc e in sym same
    by bytes (Err at) e = absurd (cc e)

packed_was : (files : Files) (n : ℕ) (list : List PackedRef) → run files (packed_in n) ≡ Ok list → HasPacked files n
packed_was files zero list is = refl
packed_was files (suc n) list is =
    let g = gives_file (packed_file (suc n)) (λ bytes. listed bytes (packed_of bytes)) files list is in
    is ∙ ap Ok (by g.0 (packed_of g.0) g.2 ∙ ap (λ (o : FileContent). list_or_none (packed_of (unwrap_or o []))) (sym g.1))
  where
    by : (bytes : List ℕ) (o : Result (List PackedRef) ℕ) → listed bytes o ≡ Ok list → list ≡ list_or_none o
    by bytes (Ok l) e = let same : l ≡ list = cc e in sym same
    by bytes (Err line) e = absurd (cc e)

loose_was : (files : Files) (l : Loose) (v : RefValue) → run files (loose_in l) ≡ Ok v → HasValue files l.file
loose_was files l v is =
    let g = gives_file (loose_file l.file) (λ bytes. with_name l.name (value_of bytes)) files v is in
    (g.0, g.1, by (value_of g.0) g.2 ∙ ap (λ (o : FileContent). Ok (value_or_none (value_of (unwrap_or o [])))) (sym g.1))
  where
    by : (o : Result (List ℕ) ℕ) → with_name l.name o ≡ Ok v → o ≡ Ok (value_or_none o)
    by (Ok value) e = refl
    by (Err at) e = absurd (cc e)

loose_reads : (files : Files) (l : Loose) → HasValue files l.file → run files (loose_in l) ≡ Ok (loose_shown files l)
loose_reads files l h =
    ap (λ (o : FileContent). run files (parsed_file (loose_file l.file) (λ bytes. with_name l.name (value_of bytes)) o)) h.1
    ∙ ap (λ (o : Result (List ℕ) ℕ). run files (parsed (loose_file l.file) (with_name l.name o))) h.2

-- ---- repositories

all_loose_read : (files : Files) (ls : List Loose) → AllByRecursion (λ l. HasValue files l.file) ls → AllByRecursion (λ l. run files (loose_in l) ≡ Ok (loose_shown files l)) ls
all_loose_read files [] h = tt
all_loose_read files (l ∷ ls) h = (loose_reads files l h.0, all_loose_read files ls h.1)

module _ (r : RepoFiles) where
  abbrev behind_loose : List PackFile → List PackedRef → List RefValue → Reading BaseRepo
  behind_loose packs packed loose = done (record { path = r.path; is_pool = r.is_pool; pool = r.pool; packs = packs; packed = packed; loose = loose })

  abbrev behind_packed : List PackFile → List PackedRef → Reading BaseRepo
  behind_packed packs packed = list_in loose_in r.loose >>= behind_loose packs packed

  abbrev behind_packs : List PackFile → Reading BaseRepo
  behind_packs packs = packed_in r.packed >>= behind_packed packs

  repo_reads : (files : Files) → IsShown files r → run files (repo_in r) ≡ Ok (shown files r)
  repo_reads files h =
      let packs = map_list (pack_shown files) r.packs in
      let loose = map_list (loose_shown files) r.loose in
      run_then (list_in pack_in r.packs) behind_packs files packs (list_reads pack_in (pack_shown files) files r.packs h.packs)
      ∙ run_then (packed_in r.packed) (behind_packed packs) files (packed_shown files r.packed) h.packed
      ∙ run_then (list_in loose_in r.loose) (behind_loose packs (packed_shown files r.packed)) files loose (list_reads loose_in (loose_shown files) files r.loose (all_loose_read files r.loose h.loose))

  repo_was : (files : Files) (b : BaseRepo) → run files (repo_in r) ≡ Ok b → IsShown files r
  repo_was files b is =
      let s = split (list_in pack_in r.packs) behind_packs files b is in
      let t = split (packed_in r.packed) (behind_packed s.first) files b s.then_is in
      let u = split (list_in loose_in r.loose) (behind_loose s.first t.first) files b t.then_is in
      record {
        packs = each_was (HasPack files) pack_in files (pack_was files) [] r.packs s.first s.first_is;
        packed = packed_was files r.packed t.first t.first_is;
        loose = each_was (λ l. HasValue files l.file) loose_in files (loose_was files) [] r.loose u.first u.first_is;
      }

all_read : (files : Files) (repos : List RepoFiles) → AllByRecursion (IsShown files) repos → AllByRecursion (λ r. run files (repo_in r) ≡ Ok (shown files r)) repos
all_read files [] h = tt
all_read files (r ∷ repos) h = (repo_reads r files h.0, all_read files repos h.1)

-- ---- bases

abbrev pub base_shown : Files → Manifest → Based
base_shown files m = record { manifest = m; repos = map_list (shown files) m.repos }

abbrev behind_repos : Manifest → List BaseRepo → Reading Based
behind_repos m repos = done (record { manifest = m; repos = repos })

-- Where each file is there, the base is read as it is shown.
pub base_reads : (files : Files) (m : Manifest) → AllByRecursion (IsShown files) m.repos → run files (based_on m) ≡ Ok (base_shown files m)
base_reads files m h = run_then (list_in repo_in m.repos) (behind_repos m) files (map_list (shown files) m.repos) (list_reads repo_in (shown files) files m.repos (all_read files m.repos h))

-- Where a base is read, each file is there.
pub base_was : (files : Files) (m : Manifest) (b : Based) → run files (based_on m) ≡ Ok b → AllByRecursion (IsShown files) m.repos
base_was files m b is =
    let s = split (list_in repo_in m.repos) (behind_repos m) files b is in
    each_was (IsShown files) repo_in files (λ r y. repo_was r files y) [] m.repos s.first s.first_is
