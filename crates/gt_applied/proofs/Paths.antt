-- All paths of an application, one after the other.
use Rattle.std.proofs.Common.{◌≡◌, ℕ, ◌+◌, Bool, true, false, cond, ◌||◌, T, is_some, List, [], ◌∷◌, length, flat_map, Option, refl, sym, ap, ◌∙◌, subst, map as map_list}
use Rattle.std.specs.List.{AllByRecursion, list_any}
use Rattle.std.specs.Ordering.{eq_by_cmp}
use Rattle.std.specs.FinMap as map
use Rattle.std.specs.FinMap.{FinMap, is_sorted, entries_sorted, contains_key-keys}
use Rattle.std.specs.FinMap.Entries.{below_all, is_some-find}
use Rattle.gt_disk.specs.Files.{Files}
use Rattle.gt_entry.specs.Fits.{IsEntry}
use Rattle.gt_manifest.specs.declared.manifest.RepoFiles.{RepoFiles}
use Rattle.gt_base.specs.Built.{IsBuilt}
use Rattle.gt_base.proofs.Finding.{same_test, one_path}
use Rattle.gt_model.specs.Batches.{repos_at, files_at, paths_of}
use Rattle.gt_model.specs.Contents.{key_cmp, Repo}
use Rattle.gt_model.specs.Verdicts.{same_name}
use Rattle.gt_model.specs.declared.entry.Entry.{Entry}
use Rattle.gt_apply.specs.declared.new_file.NewContent.{NewContent}
use Rattle.gt_apply.specs.Plan.{Shelves, contents_at, new_contents, filed_repos, filed_paths}
use Rattle.gt_apply.proofs.DraftLaws.{length-contents}
use Rattle.gt_apply.proofs.WriteLaws.{has-name}
use Rattle.gt_applied.proofs.References.{both, none_below}
use Rattle.gt_applied.proofs.Repos.{AreThere}
use Rattle.gt_applied.proofs.Courses.{course, at_path, Legal}
use Rattle.gt_applied.proofs.Filing.{AreOwn, own_at, Stands}
use Rattle.gt_applied.proofs.Segments.{there-append, repos_other, repos_stand}

-- ---- paths

-- No path stands twice.
abbrev Once : List (List ℕ) → Type 0
Once [] = Unit {0}
Once (p ∷ ps) = (list_any (eq_by_cmp key_cmp p) ps ≡ false) × Once ps

keys_once : (es : List (List ℕ × List ℕ)) → T (is_sorted key_cmp es) → Once (map_list (λ e. e.0) es)
keys_once [] h = tt
keys_once (e ∷ es) h =
    let parts = both (below_all key_cmp e.0 es) (is_sorted key_cmp es) h in
    (sym (is_some-find key_cmp e.0 es) ∙ ap is_some (none_below e.0 es parts.0), keys_once es parts.1)

-- the paths of entries by themselves
abbrev path_map : List Entry → FinMap key_cmp (List ℕ)
path_map entries = map.from_entries {R = key_cmp} (map_list (λ name. (name, name)) (map_list (λ e. e.path) entries))

paths_once : (entries : List Entry) → Once (paths_of entries)
paths_once entries = keys_once (map.entries (path_map entries)) (entries_sorted (path_map entries))

neither : (a b : Bool) → (a || b) ≡ false → (a ≡ false) × (b ≡ false)
neither true b h = absurd (cc h)
neither false b h = (refl, h)

none_of : (q : List ℕ) (entries : List Entry) → list_any (eq_by_cmp key_cmp q) (map_list (λ e. e.path) entries) ≡ false → at_path q entries ≡ []
none_of q [] h = refl
none_of q (e ∷ es) h =
    let parts = neither (eq_by_cmp key_cmp q e.path) (list_any (eq_by_cmp key_cmp q) (map_list (λ e. e.path) es)) h in
    ap (λ (b : Bool). cond b (e ∷ at_path q es) (at_path q es)) (same_test e.path q ∙ parts.0) ∙ none_of q es parts.1

-- no entry is of a path that isn't among theirs
elsewhere : (q : List ℕ) (entries : List Entry) → list_any (eq_by_cmp key_cmp q) (paths_of entries) ≡ false → at_path q entries ≡ []
elsewhere q entries h = none_of q entries (sym (has-name (map_list (λ e. e.path) entries) q) ∙ contains_key-keys (path_map entries) q ∙ h)

-- ---- the entries of a path

all_own : (path : List ℕ) (entries : List Entry) → AllByRecursion IsBuilt entries → AllByRecursion IsEntry entries → AreOwn path (at_path path entries)
all_own path [] built typed = tt
all_own path (e ∷ es) built typed = by (same_name e.path path) refl (all_own path es built.1 typed.1)
  where
    by : (b : Bool) → same_name e.path path ≡ b → AreOwn path (at_path path es) → AreOwn path (cond b (e ∷ at_path path es) (at_path path es))
    by true t rest = (record { at = sym (one_path path e.path (sym (same_test e.path path) ∙ t)); built = built.0; typed = typed.0 }, rest)
    by false t rest = rest

-- ---- all of them

module _ (files : Files) (entries : List Entry) (built : AllByRecursion IsBuilt entries) (typed : AllByRecursion IsEntry entries) where
  path_other : (n : ℕ) (path : List ℕ) (s : Shelves) (q : List ℕ) → eq_by_cmp key_cmp q path ≡ false → map.get (filed_repos path n (repos_at path entries) s) q ≡ map.get s q
  path_other n path s q other = repos_other path q other n [] (at_path path entries) s tt (own_at path (at_path path entries) (all_own path entries built typed))

  paths_other : (n : ℕ) (paths : List (List ℕ)) (s : Shelves) (q : List ℕ) → list_any (eq_by_cmp key_cmp q) paths ≡ false → map.get (filed_paths entries n paths s) q ≡ map.get s q
  paths_other n [] s q h = refl
  paths_other n (path ∷ paths) s q h =
      let parts = neither (eq_by_cmp key_cmp q path) (list_any (eq_by_cmp key_cmp q) paths) h in
      paths_other (n + length (files_at path entries)) paths (filed_repos path n (repos_at path entries) s) q parts.1 ∙ path_other n path s q parts.0

  there_path : (n : ℕ) (path : List ℕ) (paths : List (List ℕ)) → AreThere files n (flat_map (λ path. contents_at path entries) (path ∷ paths))
      → AreThere files n (contents_at path entries) × AreThere files (n + length (files_at path entries)) (flat_map (λ path. contents_at path entries) paths)
  there_path n path paths h =
      let later : List NewContent = flat_map (λ path. contents_at path entries) paths in
      let parts = there-append files n (contents_at path entries) later h in
      (parts.0, subst (λ (k : ℕ). AreThere files (n + k) later) (length-contents (repos_at path entries)) parts.1)

  -- at a path whose turn it is
  path_stands : (n : ℕ) (path : List ℕ) (s : Shelves) (q : List ℕ) (o : Option Repo) → q ≡ path → AreThere files n (contents_at path entries) → Legal o (at_path q entries) → Stands files q (map.get s q) o
      → Stands files q (map.get (filed_repos path n (repos_at path entries) s) q) (course o (at_path q entries))
  path_stands n path s q o same there legal stands =
      subst (λ (p : List ℕ). Stands files p (map.get (filed_repos path n (repos_at path entries) s) p) (course o (at_path p entries))) (sym same)
      (repos_stand files path n [] (at_path path entries) s o tt tt (all_own path entries built typed)
      (subst (λ (p : List ℕ). Legal o (at_path p entries)) same legal) (subst (λ (p : List ℕ). Stands files p (map.get s p) o) same stands) there)

  paths_stand : (n : ℕ) (paths : List (List ℕ)) (s : Shelves) (q : List ℕ) (o : Option Repo) → list_any (eq_by_cmp key_cmp q) paths ≡ true → Once paths → AreThere files n (flat_map (λ path. contents_at path entries) paths)
      → Legal o (at_path q entries) → Stands files q (map.get s q) o → Stands files q (map.get (filed_paths entries n paths s) q) (course o (at_path q entries))
  paths_stand n [] s q o among once there legal stands = absurd (cc among)
  paths_stand n (path ∷ paths) s q o among once there legal stands =
      let parts = there_path n path paths there in
      by (eq_by_cmp key_cmp q path) refl among parts.0
      (λ later. paths_stand (n + length (files_at path entries)) paths (filed_repos path n (repos_at path entries) s) q o later once.1 parts.1 legal)
    where
      by : (b : Bool) → eq_by_cmp key_cmp q path ≡ b → (b || list_any (eq_by_cmp key_cmp q) paths) ≡ true → AreThere files n (contents_at path entries)
          → (list_any (eq_by_cmp key_cmp q) paths ≡ true → Stands files q (map.get (filed_repos path n (repos_at path entries) s) q) o
          → Stands files q (map.get (filed_paths entries (n + length (files_at path entries)) paths (filed_repos path n (repos_at path entries) s)) q) (course o (at_path q entries)))
          → Stands files q (map.get (filed_paths entries (n + length (files_at path entries)) paths (filed_repos path n (repos_at path entries) s)) q) (course o (at_path q entries))
      by true t h here rest =
          let same : q ≡ path = one_path q path t in
          let past : list_any (eq_by_cmp key_cmp q) paths ≡ false = ap (λ (p : List ℕ). list_any (eq_by_cmp key_cmp p) paths) same ∙ once.0 in
          subst (λ (r : Option RepoFiles). Stands files q r (course o (at_path q entries))) (sym (paths_other (n + length (files_at path entries)) paths (filed_repos path n (repos_at path entries) s) q past))
          (path_stands n path s q o same here legal stands)
      by false t h here rest = rest h (subst (λ (r : Option RepoFiles). Stands files q r o) (sym (path_other n path s q t)) stands)

  -- The files at each path follow its entries.
  pub all_stand : (n : ℕ) (s : Shelves) (q : List ℕ) (o : Option Repo) → AreThere files n (new_contents entries) → Legal o (at_path q entries) → Stands files q (map.get s q) o
      → Stands files q (map.get (filed_paths entries n (paths_of entries) s) q) (course o (at_path q entries))
  all_stand n s q o there legal stands = by (list_any (eq_by_cmp key_cmp q) (paths_of entries)) refl
    where
      by : (b : Bool) → list_any (eq_by_cmp key_cmp q) (paths_of entries) ≡ b → Stands files q (map.get (filed_paths entries n (paths_of entries) s) q) (course o (at_path q entries))
      by true t = paths_stand n (paths_of entries) s q o t (paths_once entries) there legal stands
      by false t =
          subst (λ (r : Option RepoFiles). Stands files q r (course o (at_path q entries))) (sym (paths_other n (paths_of entries) s q t))
          (subst (λ (l : List Entry). Stands files q (map.get s q) (course o l)) (sym (elsewhere q entries t)) stands)
