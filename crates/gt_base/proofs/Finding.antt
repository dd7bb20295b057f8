-- What is found under a path in a base, and under a name in a pack of it.
use Rattle.std.proofs.Common.{◌≡◌, ℕ, ◌+◌, Bool, true, false, cond, List, [], ◌∷◌, map as map_list, Some, refl, sym, ap, ◌∙◌, slice_range}
use Rattle.std.specs.Prelude.{bytes_eq}
use Rattle.std.proofs.lemmas.Map.Lookups.{exact_bytes}
use Rattle.std.proofs.lemmas.Map.Text.{is_eq-slice_cmp}
use Rattle.std.proofs.lemmas.Map.Views.{tells_apart}
use Rattle.std.specs.Cmp.Lexicographic.{nat_list_cmp_total}
use Rattle.std.specs.FinMap as map
use Rattle.std.specs.FinMap.{find, get-insert, get-empty, get-from_entries}
use Rattle.std.specs.Option.{option_map}
use Rattle.std.specs.Ordering.{eq_by_cmp}
use Rattle.gt_model.specs.Contents.{key_cmp}
use Rattle.gt_pack.specs.Index.{find_in}
use Rattle.gt_pack.specs.declared.placed.Placed.{Placed}
use Rattle.gt_versions.proofs.Keys.{flip}
use Rattle.gt_base.specs.declared.held.BaseRepo.{BaseRepo}
use Rattle.gt_base.specs.Held.{items_of, named_record, records_of, repo_of, repo_at, content_of}
use Rattle.gt_base.specs.Packs.{PackFile}

-- the two tests of names are one
pub same_test : (a x : List ℕ) → bytes_eq a x ≡ eq_by_cmp key_cmp x a
same_test a x = sym (is_eq-slice_cmp a x) ∙ flip a x

pub one_path : (a b : List ℕ) → eq_by_cmp key_cmp a b ≡ true → a ≡ b
one_path a b t = tells_apart exact_bytes a b t

-- ---- repositories

pub get-content_of : (repos : List BaseRepo) (path : List ℕ) → map.get (content_of repos) path ≡ option_map repo_of (repo_at repos path)
get-content_of [] path = get-empty key_cmp path
get-content_of (r ∷ repos) path = get-insert nat_list_cmp_total (content_of repos) r.path (repo_of r) path ∙ ap (cond (eq_by_cmp key_cmp path r.path) (Some (repo_of r))) (get-content_of repos path) ∙ by (eq_by_cmp key_cmp path r.path)
  where
    by : (b : Bool) → cond b (Some (repo_of r)) (option_map repo_of (repo_at repos path)) ≡ option_map repo_of (cond b (Some r) (repo_at repos path))
    by true = refl
    by false = refl

-- ---- records

abbrev pub cut : List ℕ → ℕ × ℕ → List ℕ
cut bytes found = slice_range bytes found.0 (found.0 + found.1)

-- the record of a name is what stands at its place
find_record : (bytes : List ℕ) (es : List Placed) (x : List ℕ) → find key_cmp x (map_list (named_record bytes) es) ≡ option_map (cut bytes) (find_in es x)
find_record bytes [] x = refl
find_record bytes (e ∷ es) x =
    by (eq_by_cmp key_cmp x e.name) (find_record bytes es x) ∙ ap (λ (b : Bool). option_map (cut bytes) (cond b (Some (e.place, e.len)) (find_in es x))) (sym (same_test e.name x))
  where
    by : (b : Bool) → find key_cmp x (map_list (named_record bytes) es) ≡ option_map (cut bytes) (find_in es x)
        → cond b (Some (named_record bytes e).1) (find key_cmp x (map_list (named_record bytes) es)) ≡ option_map (cut bytes) (cond b (Some (e.place, e.len)) (find_in es x))
    by true h = refl
    by false h = h

-- the record of a name in a pack is what its place there has
pub record_in : (p : PackFile) (x : List ℕ) → map.get (records_of p) x ≡ option_map (cut p.bytes) (find_in (items_of p) x)
record_in p x = get-from_entries nat_list_cmp_total (map_list (named_record p.bytes) (items_of p)) x ∙ find_record p.bytes (items_of p) x
