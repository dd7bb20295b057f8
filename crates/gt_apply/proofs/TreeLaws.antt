-- Maps that are made entry by entry, and changed at one key.
use Rattle.std.proofs.Common.{◌≡◌, ℕ, Bool, true, false, cond, List, [], ◌∷◌, ◌++◌, Option, Some, None, refl, sym, ap, ◌∙◌, map as map_list}
use Rattle.std.proofs.lemmas.List.{map-append}
use Rattle.std.specs.Ordering.{eq_by_cmp}
use Rattle.std.specs.Cmp.Lexicographic.{nat_list_cmp_total}
use Rattle.std.specs.FinMap as map
use Rattle.std.specs.FinMap.{FinMap, get-insert, get-remove, get-from_entries, get-entries, same_map}
use Rattle.gt_manifest.specs.declared.manifest.RepoFiles.{RepoFiles}
use Rattle.gt_model.specs.Batches.{is_deletion}
use Rattle.gt_model.specs.Contents.{key_cmp}
use Rattle.gt_model.specs.declared.change.Change.{Change}
use Rattle.gt_model.specs.declared.change.Change.TheVariants.{Create, Delete, Link, Write, Repack, Prune, PackRefs, Unlink}
use Rattle.gt_model.specs.declared.entry.Entry.{Entry}
use Rattle.gt_model.proofs.Repositories.{get-alike}
use Rattle.gt_versions.proofs.Keys.{key_cmp-IsAntisymmetric}
use Rattle.gt_apply.specs.Plan.{Shelves, changed, rearranged, entered}

module _ {X : Type 0} where
  -- entries over a map, from the last one on
  abbrev pub onto : List (List ℕ × X) → FinMap key_cmp X → FinMap key_cmp X
  onto [] m = m
  onto (e ∷ es) m = map.insert (onto es m) e.0 e.1

  onto-last : (es : List (List ℕ × X)) (e : List ℕ × X) (m : FinMap key_cmp X) → onto (es ++ e ∷ []) m ≡ onto es (map.insert m e.0 e.1)
  onto-last [] e m = refl
  onto-last (x ∷ es) e m = ap (λ (n : FinMap key_cmp X). map.insert n x.0 x.1) (onto-last es e m)

  pub onto-empty : (es : List (List ℕ × X)) → onto es map.empty ≡ map.from_entries es
  onto-empty [] = refl
  onto-empty (e ∷ es) = ap (λ (n : FinMap key_cmp X). map.insert n e.0 e.1) (onto-empty es)

  -- the last one is taken from the list and put into the map
  pub onto-pop : {A : Type 0} (pair : A → List ℕ × X) (old new : List A) (last : A) (m n all : FinMap key_cmp X)
      → old ≡ new ++ last ∷ [] → n ≡ map.insert m (pair last).0 (pair last).1 → onto (map_list pair old) m ≡ all → onto (map_list pair new) n ≡ all
  onto-pop {A} pair old new last m n all popped put left =
      ap (onto (map_list pair new)) put
      ∙ sym (onto-last (map_list pair new) (pair last) m)
      ∙ ap (λ (es : List (List ℕ × X)). onto es m) (sym (map-append pair new (last ∷ [])))
      ∙ ap (λ (l : List A). onto (map_list pair l) m) (sym popped)
      ∙ left

  same : (m n : FinMap key_cmp X) → ((q : List ℕ) → map.get m q ≡ map.get n q) → m ≡ n
  same m n h = same_map nat_list_cmp_total key_cmp-IsAntisymmetric m n h

  -- a map from its own entries
  pub from_its_entries : (m : FinMap key_cmp X) → map.from_entries (map.entries m) ≡ m
  from_its_entries m = same _ _ (λ q. get-from_entries nat_list_cmp_total (map.entries m) q ∙ sym (get-entries m q))

  -- what was taken out and is put back
  pub insert-remove : (m : FinMap key_cmp X) (k : List ℕ) (v : X) → map.insert (map.remove m k) k v ≡ map.insert m k v
  insert-remove m k v = same _ _ (λ q.
      get-insert nat_list_cmp_total (map.remove m k) k v q
      ∙ ap (cond (eq_by_cmp key_cmp q k) (Some v)) (get-remove nat_list_cmp_total m k q)
      ∙ by (eq_by_cmp key_cmp q k) (map.get m q)
      ∙ sym (get-insert nat_list_cmp_total m k v q))
    where
      by : (b : Bool) (o : Option X) → cond b (Some v) (cond b None o) ≡ cond b (Some v) o
      by true o = refl
      by false o = refl

  -- nothing is there to take out
  pub remove-absent : (m : FinMap key_cmp X) (k : List ℕ) → map.get m k ≡ None → map.remove m k ≡ m
  remove-absent m k none = same _ _ (λ q. get-remove nat_list_cmp_total m k q ∙ by q (eq_by_cmp key_cmp q k) refl)
    where
      by : (q : List ℕ) (b : Bool) → eq_by_cmp key_cmp q k ≡ b → cond b None (map.get m q) ≡ map.get m q
      by q true t = sym (get-alike m k q t ∙ none)
      by q false t = refl

-- ---- the files at a path

pub changed-none : (s : Shelves) (path : List ℕ) (f : RepoFiles → RepoFiles) → None ≡ map.get s path → map.remove s path ≡ changed s path f
changed-none s path f none = let e : map.get s path ≡ None = sym none in rw e (remove-absent s path e)

changed-some : (s : Shelves) (path : List ℕ) (f : RepoFiles → RepoFiles) (r : RepoFiles) → Some r ≡ map.get s path → map.insert (map.remove s path) path (f r) ≡ changed s path f
changed-some s path f r some = let e : map.get s path ≡ Some r = sym some in rw e (insert-remove s path (f r))

pub changed-put : (s : Shelves) (path : List ℕ) (f : RepoFiles → RepoFiles) (r new : RepoFiles) (key : List ℕ) (left : Shelves)
    → Some r ≡ map.get s path → left ≡ map.remove s path → new ≡ f r → key ≡ path → map.insert left key new ≡ changed s path f
changed-put s path f r new key left some gone is same =
    ap (λ (t : Shelves). map.insert t key new) gone
    ∙ ap (λ (k : List ℕ). map.insert (map.remove s path) k new) same
    ∙ ap (map.insert (map.remove s path) path) is
    ∙ changed-some s path f r some

-- what isn't a deletion changes the files at its path
pub entered-other : (s : Shelves) (e : Entry) → is_deletion e.change ≡ false → changed s e.path (rearranged e.position e.change) ≡ entered s e
entered-other s e h = by e.change h
  where
    by : (change : Change) → is_deletion change ≡ false → changed s e.path (rearranged e.position change) ≡ entered s (record e { change = change })
    by (Create pool) h = refl
    by Delete h = cc
    by (Link pool) h = refl
    by (Write refs needed added) h = refl
    by (Repack file dropped) h = refl
    by (Prune file dropped) h = refl
    by (PackRefs file) h = refl
    by (Unlink file) h = refl

pub entered-deletion : (s : Shelves) (e : Entry) → is_deletion e.change ≡ true → map.remove s e.path ≡ entered s e
entered-deletion s e h = by e.change h
  where
    by : (change : Change) → is_deletion change ≡ true → map.remove s e.path ≡ entered s (record e { change = change })
    by (Create pool) h = cc
    by Delete h = refl
    by (Link pool) h = cc
    by (Write refs needed added) h = cc
    by (Repack file dropped) h = cc
    by (Prune file dropped) h = cc
    by (PackRefs file) h = cc
    by (Unlink file) h = cc
