-- New files in the lists of a repository.
use Rattle.std.proofs.Common.{◌≡◌, ℕ, ◌+◌, ◌<◌, List, [], ◌∷◌, ◌++◌, length, Option, Some, None, refl, sym, ap, ◌∙◌, arith, map as map_list}
use Rattle.std.specs.FinMap as map
use Rattle.std.specs.FinMap.{FinMap}
use Rattle.gt_manifest.specs.declared.manifest.Loose.{Loose}
use Rattle.gt_manifest.specs.declared.manifest.RepoFiles.{RepoFiles}
use Rattle.gt_model.specs.Batches as batch
use Rattle.gt_model.specs.Contents.{key_cmp}
use Rattle.gt_apply.specs.Plan.{numbers_of, to_loose, with_loose, placed}
use Rattle.gt_model.specs.declared.added.Added.{Added}
use Rattle.gt_apply.specs.declared.writes.Writes.{Writes}
use Rattle.gt_apply.specs.Steps.{with_numbers, with_all_loose, pack_or_none, files_in}
use Rattle.gt_apply.proofs.TreeLaws.{from_its_entries}

-- the numbers of a list that was made of numbers
pub pairs-back : (es : List (List ℕ × ℕ)) → map_list (λ l. (l.name, l.file)) (map_list to_loose es) ≡ es
pairs-back [] = refl
pairs-back (e ∷ es) = ap (λ (fs : List (List ℕ × ℕ)). e ∷ fs) (pairs-back es)

pub numbers-back : (m : FinMap key_cmp ℕ) → numbers_of (map_list to_loose (map.entries m)) ≡ m
numbers-back m = ap (λ (es : List (List ℕ × ℕ)). map.from_entries {R = key_cmp} es) (pairs-back (map.entries m)) ∙ from_its_entries m

-- references one by one, from a list that was made of numbers
pub loose-numbers : (m : FinMap key_cmp ℕ) (n : ℕ) (vs : List (List ℕ × List ℕ)) → with_all_loose (map_list to_loose (map.entries m)) n vs ≡ map_list to_loose (map.entries (with_numbers m n vs))
loose-numbers m n [] = refl
loose-numbers m n (v ∷ vs) =
    ap (λ (k : FinMap key_cmp ℕ). with_all_loose (map_list to_loose (map.entries (map.insert k v.0 n))) (n + 1) vs) (numbers-back m)
    ∙ loose-numbers (map.insert m v.0 n) (n + 1) vs

-- where there is one, all of them stand in the list of the numbers
pub all_loose : (list : List Loose) (n : ℕ) (vs : List (List ℕ × List ℕ)) → 0 < length vs → map_list to_loose (map.entries (with_numbers (numbers_of list) n vs)) ≡ with_all_loose list n vs
all_loose list n [] h = absurd (omega arith)
all_loose list n (v ∷ vs) h = sym (loose-numbers (map.insert (numbers_of list) v.0 n) (n + 1) vs)

-- new loose files
pub placed-values : (n : ℕ) (vs : List (List ℕ × List ℕ)) (r : RepoFiles) → record r { loose = with_all_loose r.loose n vs } ≡ placed n (map_list (λ v. batch.loose v.0) vs) r
placed-values n [] r = refl
placed-values n (v ∷ vs) r = placed-values (n + 1) vs (record r { loose = with_loose r.loose v.0 n })

-- all new files, without a pack and with one
module _ (n : ℕ) (w : Writes) (r : RepoFiles) (vs : List (List ℕ × List ℕ)) (values : vs ≡ w.values) where
  pub placed-none : w.pack ≡ None → record r { loose = with_all_loose r.loose n vs } ≡ placed n (files_in w) r
  placed-none pack =
      ap (λ (l : List (List ℕ × List ℕ)). record r { loose = with_all_loose r.loose n l }) values
      ∙ placed-values n w.values r
      ∙ ap (λ (o : Option (List Added)). placed n (pack_or_none o ++ map_list (λ v. batch.loose v.0) w.values) r) (sym pack)

  pub placed-some : (records : List Added) (p : RepoFiles) → w.pack ≡ Some records → p ≡ record r { packs = r.packs ++ n ∷ [] } → record p { loose = with_all_loose p.loose (n + 1) vs } ≡ placed n (files_in w) r
  placed-some records p pack put =
      ap (λ (l : List (List ℕ × List ℕ)). record p { loose = with_all_loose p.loose (n + 1) l }) values
      ∙ placed-values (n + 1) w.values p
      ∙ ap (placed (n + 1) (map_list (λ v. batch.loose v.0) w.values)) put
      ∙ ap (λ (o : Option (List Added)). placed n (pack_or_none o ++ map_list (λ v. batch.loose v.0) w.values) r) (sym pack)
