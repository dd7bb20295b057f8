-- The manifest of a base lists the repositories of its content, and its pools are pools.
use Rattle.std.proofs.Common.{◌≡◌, inl, inr, ⊎_elim, ℕ, zero, suc, ◌<◌, Bool, true, false, cond, length, get_or, List, [], ◌∷◌, Option, Some, None, refl, sym, ap, ◌∙◌, subst, arith, true≢false, map as map_list}
use Rattle.std.specs.Prelude.{Any}
use Rattle.std.specs.List.Sorted.{IsStrictlySortedBy}
use Rattle.std.specs.Option.{option_map}
use Rattle.std.specs.Ordering.{eq_by_cmp, is_eq}
use Rattle.std.specs.Cmp.Lexicographic.{nat_list_cmp_total}
use Rattle.std.specs.FinMap as map
use Rattle.std.specs.FinMap.{get-insert, get-empty}
use Rattle.std.proofs.lemmas.List.Elements.{recursion_from_All}
use Rattle.gt_entry.proofs.OrderLemmas.{apart, Rises, sorted}
use Rattle.gt_manifest.specs.declared.manifest.Manifest.{Manifest}
use Rattle.gt_manifest.specs.declared.manifest.RepoFiles.{RepoFiles}
use Rattle.gt_manifest.specs.declared.version.Version.TheVariants.{Second}
use Rattle.gt_manifest.specs.Spelling.{path_of, MayRepo}
use Rattle.gt_manifest.specs.Whole.{IsPoolAt, MayHavePool, PoolStands, Fits}
use Rattle.gt_base.specs.declared.held.BaseRepo.{BaseRepo}
use Rattle.gt_base.specs.Held.{repo_of, content_of}
use Rattle.gt_base.specs.Loading.{Heading, headings, manifest_headings}
use Rattle.gt_model.specs.Contents.{key_cmp, Repo}
use Rattle.gt_model.proofs.Values.{itself}
use Rattle.gt_versions.proofs.Keys.{flip}
use Rattle.gt_apply.specs.Plan.{shelves_of}
use Rattle.gt_apply.specs.Fitting.{Head, files_head, repo_head, Lists, HasGoodPools}
use Rattle.gt_apply.proofs.Lists.{In, to-map, each}

some_same : {A : Type 0} (x y : A) → Some x ≡ Some y → x ≡ y
some_same x y e = cc

-- ---- what is listed

first_same : {A : Type 0} (x y : A) (xs ys : List A) → x ∷ xs ≡ y ∷ ys → x ≡ y
first_same x y xs ys e = cc

rest_same : {A : Type 0} (x y : A) (xs ys : List A) → x ∷ xs ≡ y ∷ ys → xs ≡ ys
rest_same x y xs ys e = cc

abbrev heading : BaseRepo → Heading
heading r = (r.path, (r.is_pool, r.pool))

abbrev files_heading : RepoFiles → Heading
files_heading f = (f.path, (f.is_pool, f.pool))

-- What is listed under a path and what is held there have one head.
pub heads_same : (files : List RepoFiles) (repos : List BaseRepo) → headings repos ≡ manifest_headings files → (path : List ℕ)
    → option_map files_head (map.get (shelves_of files) path) ≡ option_map repo_head (map.get (content_of repos) path)
heads_same [] [] e path = ap (option_map files_head) (get-empty key_cmp path) ∙ sym (ap (option_map repo_head) (get-empty key_cmp path))
heads_same [] (r ∷ repos) e path = absurd cc
heads_same (f ∷ files) [] e path = absurd cc
heads_same (f ∷ files) (r ∷ repos) e path =
    let same : heading r ≡ files_heading f = first_same (heading r) (files_heading f) (headings repos) (manifest_headings files) e in
    ap (option_map files_head) (get-insert nat_list_cmp_total (shelves_of files) f.path f path)
    ∙ by (eq_by_cmp key_cmp path f.path) same (heads_same files repos (rest_same (heading r) (files_heading f) (headings repos) (manifest_headings files) e) path)
    ∙ ap (λ (p : List ℕ). option_map repo_head (cond (eq_by_cmp key_cmp path p) (Some (repo_of r)) (map.get (content_of repos) path))) (sym (ap (λ (h : Heading). h.0) same))
    ∙ sym (ap (option_map repo_head) (get-insert nat_list_cmp_total (content_of repos) r.path (repo_of r) path))
  where
    by : (b : Bool) → heading r ≡ files_heading f → option_map files_head (map.get (shelves_of files) path) ≡ option_map repo_head (map.get (content_of repos) path)
        → option_map files_head (cond b (Some f) (map.get (shelves_of files) path)) ≡ option_map repo_head (cond b (Some (repo_of r)) (map.get (content_of repos) path))
    by true same rest = ap (λ (h : Heading). Some h.1) (sym same)
    by false same rest = rest

-- ---- what is found

head_there : (o : Option RepoFiles) (h : Head) → option_map files_head o ≡ Some h → (f : RepoFiles) × (o ≡ Some f) × (files_head f ≡ h)
head_there None h e = absurd (cc e)
head_there (Some f) h e = (f, refl, some_same (files_head f) h e)

repo_there : (o : Option Repo) (h : Head) → option_map repo_head o ≡ Some h → (r : Repo) × (o ≡ Some r) × (repo_head r ≡ h)
repo_there None h e = absurd (cc e)
repo_there (Some r) h e = (r, refl, some_same (repo_head r) h e)

-- what is found is listed
found_in : (files : List RepoFiles) (q : List ℕ) (f : RepoFiles) → map.get (shelves_of files) q ≡ Some f → In files f
found_in [] q f e = absurd (cc (sym (get-empty key_cmp q) ∙ e))
found_in (x ∷ xs) q f e = by (eq_by_cmp key_cmp q x.path) (sym (get-insert nat_list_cmp_total (shelves_of xs) x.path x q) ∙ e) (found_in xs q f)
  where
    by : (b : Bool) → cond b (Some x) (map.get (shelves_of xs) q) ≡ Some f → (map.get (shelves_of xs) q ≡ Some f → In xs f) → In (x ∷ xs) f
    by true e more = inl (sym (some_same x f e))
    by false e more = inr (more e)

-- what is listed is found under its path, where paths ascend
in_found : (files : List RepoFiles) (f : RepoFiles) → IsStrictlySortedBy key_cmp (map_list path_of files) → In files f → map.get (shelves_of files) f.path ≡ Some f
unfolding IsStrictlySortedBy
in_found [] f up i = absurd i
in_found (x ∷ xs) f up i =
    get-insert nat_list_cmp_total (shelves_of xs) x.path x f.path
    ∙ ⊎_elim
    (λ is. ap (λ (y : RepoFiles). cond (eq_by_cmp key_cmp y.path x.path) (Some x) (map.get (shelves_of xs) y.path)) is ∙ ap (λ b. cond b (Some x) (map.get (shelves_of xs) x.path)) (itself x.path) ∙ ap (λ (y : RepoFiles). Some y) (sym is))
    (λ j.
    let apart : eq_by_cmp key_cmp f.path x.path ≡ false = flip f.path x.path ∙ ap is_eq (each _ (map_list path_of xs) f.path up.0 (to-map path_of xs f j)) in
    ap (λ b. cond b (Some x) (map.get (shelves_of xs) f.path)) apart ∙ in_found xs f up.1 j)
    i

in_at : {A : Type 0} (xs : List A) (k : ℕ) (x : A) → k < length xs → get_or xs k x ≡ x → In xs x
in_at [] k x lt is = absurd (omega arith)
in_at (y ∷ ys) zero x lt is = inl (sym is)
in_at (y ∷ ys) (suc k) x lt is = inr (in_at ys k x (omega arith) is)

any_in : {A : Type 0} (P : A → Type 0) (xs : List A) → Any P xs → (x : A) × In xs x × P x
any_in P xs h = (h.1, in_at xs h.0 h.1 h.2 h.3, h.4)

-- ---- pools

no_pool : (all : List RepoFiles) (is_pool : Bool) (o : Option (List ℕ)) → MayHavePool all is_pool o → is_pool ≡ true → o ≡ None
no_pool all is_pool None stands t = refl
no_pool all is_pool (Some w) stands t = absurd (true≢false (sym t ∙ stands.0))

module _ (m : Manifest) (repos : List BaseRepo) (fits : Fits Second m) (same : headings repos ≡ manifest_headings m.repos) where
  pub lists : Lists m (content_of repos)
  lists path = heads_same m.repos repos same path

  paths_ascend : IsStrictlySortedBy key_cmp (map_list path_of m.repos)
  paths_ascend = sorted path_of m.repos (apart (λ r. Unit {0}) (Rises path_of) (MayRepo Second m.applied) (λ front r may. (tt, may.0.0.1)) [] m.repos fits.0.1.1).1

  -- what is listed as a pool is one
  pool_there : (pool : List ℕ) → Any (IsPoolAt pool) m.repos → (p : Repo) × (map.get (content_of repos) pool ≡ Some p) × (p.is_pool ≡ true)
  pool_there pool h =
      let g = any_in (IsPoolAt pool) m.repos h in
      let there : map.get (shelves_of m.repos) pool ≡ Some g.0 = ap (map.get (shelves_of m.repos)) (sym g.2.1) ∙ in_found m.repos g.0 paths_ascend g.1 in
      let p = repo_there (map.get (content_of repos) pool) (files_head g.0) (sym (lists pool) ∙ ap (option_map files_head) there) in
      (p.0, p.1, ap (λ (x : Head). x.0) p.2 ∙ g.2.0)

  pub good_pools : HasGoodPools (content_of repos)
  good_pools path r here =
      let f = head_there (map.get (shelves_of m.repos) path) (repo_head r) (lists path ∙ ap (option_map repo_head) here) in
      let stands : PoolStands m.repos f.0 = each (PoolStands m.repos) m.repos f.0 (recursion_from_All (PoolStands m.repos) m.repos fits.1.pools) (found_in m.repos path f.0 f.1) in
      record {
        none = λ t. sym (ap (λ (x : Head). x.1) f.2) ∙ no_pool m.repos f.0.is_pool f.0.pool stands (ap (λ (x : Head). x.0) f.2 ∙ t);
        some = λ pool is.
            let its : f.0.pool ≡ Some pool = ap (λ (x : Head). x.1) f.2 ∙ is in
            pool_there pool (subst (MayHavePool m.repos f.0.is_pool) its stands).1;
      }
