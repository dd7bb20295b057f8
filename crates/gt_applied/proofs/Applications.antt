-- What the files after an application hold.
use Rattle.std.proofs.Common.{◌≡◌, ℕ, ◌+◌, Bool, true, false, cond, T, List, [], ◌∷◌, Option, Some, None, Ok, refl, sym, ap, ◌∙◌, subst, map as map_list}
use Rattle.std.proofs.lemmas.List.Elements.{recursion_from_All}
use Rattle.std.specs.List.{AllByRecursion}
use Rattle.std.specs.List.Sorted.{IsStrictlySortedBy}
use Rattle.std.specs.Option.{option_map}
use Rattle.std.specs.Ordering.{eq_by_cmp}
use Rattle.std.specs.Cmp.Lexicographic.{nat_list_cmp_total}
use Rattle.std.specs.FinMap as map
use Rattle.std.specs.FinMap.{find, is_sorted, get-insert, get-empty, get-entries, entries_sorted, same_map}
use Rattle.std.specs.FinMap.Entries.{below_all}
use Rattle.gt_bytes.specs.Spelling.{Follows}
use Rattle.gt_disk.specs.Files.{Files}
use Rattle.gt_entry.specs.Fits.{IsEntry}
use Rattle.gt_entry.proofs.OrderLemmas.{apart, Rises, sorted}
use Rattle.gt_manifest.specs.Spelling.{name_of, MayLoose, MayRepo}
use Rattle.gt_manifest.specs.Whole.{Fits}
use Rattle.gt_manifest.specs.declared.manifest.Loose.{Loose}
use Rattle.gt_manifest.specs.declared.manifest.RepoFiles.{RepoFiles}
use Rattle.gt_manifest.specs.declared.manifest.Manifest.{Manifest}
use Rattle.gt_manifest.specs.declared.version.Version.TheVariants.{Second}
use Rattle.gt_base.specs.Built.{IsBuilt}
use Rattle.gt_base.specs.Held.{repo_of, content_of}
use Rattle.gt_base.specs.Recovery.{Based, based_on}
use Rattle.gt_base.specs.declared.held.BaseRepo.{BaseRepo}
use Rattle.gt_base.proofs.Finding.{one_path}
use Rattle.gt_model.specs.Batches.{paths_of}
use Rattle.gt_model.specs.Contents.{key_cmp, Repo, Content, IsLegal, after_all}
use Rattle.gt_model.specs.declared.entry.Entry.{Entry}
use Rattle.gt_model.proofs.Values.{itself}
use Rattle.gt_reading.specs.Reading.{run}
use Rattle.gt_reading.proofs.Programs.{agree}
use Rattle.gt_versions.proofs.Keys.{key_cmp-IsAntisymmetric, entries_of}
use Rattle.gt_apply.specs.declared.new_file.NewContent.{NewContent}
use Rattle.gt_apply.specs.Plan.{Shelves, shelves_of, repos_of, numbers_of, to_loose, numbered, new_contents, filed_paths, planned}
use Rattle.gt_applied.specs.Applied.{AreWritten, HaveSpellings, Applies}
use Rattle.gt_applied.proofs.Shown.{shown, IsShown, base_shown, base_reads, base_was}
use Rattle.gt_applied.proofs.References.{both, none_behind}
use Rattle.gt_applied.proofs.Repos.{AreThere}
use Rattle.gt_applied.proofs.Courses.{get-after_all, legal_here}
use Rattle.gt_applied.proofs.Filing.{Stands}
use Rattle.gt_applied.proofs.Paths.{all_stand}

-- ---- before

-- Its loose files stand in order of their references.
abbrev IsListed : RepoFiles → Type 0
IsListed r = r.loose ≡ map_list to_loose (map.entries (numbers_of r.loose))

abbrev pairs : List Loose → List (List ℕ × ℕ)
pairs ls = map_list (λ l. (l.name, l.file)) ls

pairs_names : (ls : List Loose) → map_list name_of ls ≡ map_list (λ e. e.0) (pairs ls)
pairs_names [] = refl
pairs_names (l ∷ ls) = ap (λ (ns : List (List ℕ)). l.name ∷ ns) (pairs_names ls)

pairs_back : (ls : List Loose) → ls ≡ map_list to_loose (pairs ls)
pairs_back [] = refl
pairs_back (l ∷ ls) = ap (λ (ks : List Loose). l ∷ ks) (pairs_back ls)

loose_listed : (ls : List Loose) → Follows MayLoose [] ls → ls ≡ map_list to_loose (map.entries (numbers_of ls))
loose_listed ls f =
    let rises = (apart (λ (l : Loose). Unit {0}) (Rises name_of) MayLoose (λ front l may. (tt, may.0.1)) [] ls f).1 in
    let up : IsStrictlySortedBy key_cmp (map_list (λ (e : List ℕ × ℕ). e.0) (pairs ls)) = subst (λ (ns : List (List ℕ)). IsStrictlySortedBy key_cmp ns) (pairs_names ls) (sorted name_of ls rises) in
    pairs_back ls ∙ ap (map_list to_loose) (sym (entries_of (pairs ls) up))

all_listed : (m : Manifest) → Fits Second m → AllByRecursion IsListed m.repos
all_listed m fits = (apart IsListed (λ front r. Unit {0}) (MayRepo Second m.applied) (λ front r may. (loose_listed r.loose may.1.0.1.1.1, tt)) [] m.repos fits.0.1.1).0

module _ (files : Files) where
  stands_alike : (path : List ℕ) (o p : Option RepoFiles) (x y : Option Repo) → o ≡ p → x ≡ y → Stands files path p y → Stands files path o x
  stands_alike path o p x y is same h = subst (λ (r : Option RepoFiles). Stands files path r x) (sym is) (subst (Stands files path p) (sym same) h)

  -- what the first files hold
  first_stand : (repos : List RepoFiles) → AllByRecursion (IsShown files) repos → AllByRecursion IsListed repos → (q : List ℕ) → Stands files q (map.get (shelves_of repos) q) (map.get (content_of (map_list (shown files) repos)) q)
  first_stand [] shows listed q = stands_alike q _ None _ None (get-empty key_cmp q) (get-empty key_cmp q) tt
  first_stand (r ∷ repos) shows listed q =
      stands_alike q _ _ _ _ (get-insert nat_list_cmp_total (shelves_of repos) r.path r q) (get-insert nat_list_cmp_total (content_of (map_list (shown files) repos)) r.path (repo_of (shown files r)) q)
      (by (eq_by_cmp key_cmp q r.path) refl (first_stand repos shows.1 listed.1 q))
    where
      by : (b : Bool) → eq_by_cmp key_cmp q r.path ≡ b → Stands files q (map.get (shelves_of repos) q) (map.get (content_of (map_list (shown files) repos)) q)
          → Stands files q (cond b (Some r) (map.get (shelves_of repos) q)) (cond b (Some (repo_of (shown files r))) (map.get (content_of (map_list (shown files) repos)) q))
      by true t rest = record { at = sym (one_path q r.path t); listed = listed.0; shows = shows.0; is = refl }
      by false t rest = rest

  there_all : (n : ℕ) (cs : List NewContent) → AreWritten files (numbered n cs) → HaveSpellings (numbered n cs) → AreThere files n cs
  there_all n [] written spelled = tt
  there_all n (c ∷ cs) written spelled = ((written.0, spelled.0), there_all (n + 1) cs written.1 spelled.1)

-- ---- after

-- what is found under its key
each_entry : {X : Type 0} (P : List ℕ → X → Type 0) (es : List (List ℕ × X)) → T (is_sorted key_cmp es) → ((q : List ℕ) (v : X) → find key_cmp q es ≡ Some v → P q v) → AllByRecursion (λ e. P e.0 e.1) es
each_entry P [] sorted h = tt
each_entry {X} P (e ∷ es) sorted h =
    let parts = both (below_all key_cmp e.0 es) (is_sorted key_cmp es) sorted in
    (h e.0 e.1 (ap (λ b. cond b (Some e.1) (find key_cmp e.0 es)) (itself e.0)), each_entry P es parts.1 (λ q v f. h q v (by q v (eq_by_cmp key_cmp q e.0) refl parts.0 f)))
  where
    by : (q : List ℕ) (v : X) (b : Bool) → eq_by_cmp key_cmp q e.0 ≡ b → T (below_all key_cmp e.0 es) → find key_cmp q es ≡ Some v → cond b (Some e.1) (find key_cmp q es) ≡ Some v
    by q v true t low f = let none : find key_cmp q es ≡ None = none_behind e.0 q es low t in absurd (cc (none, f))
    by q v false t low f = f

module _ (files : Files) where
  abbrev IsKept : List ℕ → RepoFiles → Type 0
  IsKept path r = (r.path ≡ path) × IsShown files r

  kept : (path : List ℕ) (r : RepoFiles) (x : Option Repo) → Stands files path (Some r) x → IsKept path r
  kept path r None h = absurd h
  kept path r (Some x) h = (h.at, h.shows)

  held : (path : List ℕ) (o : Option RepoFiles) (x : Option Repo) → Stands files path o x → option_map (λ (r : RepoFiles). repo_of (shown files r)) o ≡ x
  held path None None h = refl
  held path None (Some x) h = absurd h
  held path (Some r) None h = absurd h
  held path (Some r) (Some x) h = ap Some h.is

  all_shown : (es : List (List ℕ × RepoFiles)) → AllByRecursion (λ e. IsKept e.0 e.1) es → AllByRecursion (IsShown files) (map_list (λ e. e.1) es)
  all_shown [] h = tt
  all_shown (e ∷ es) h = (h.0.1, all_shown es h.1)

  get-kept : (es : List (List ℕ × RepoFiles)) (q : List ℕ) → AllByRecursion (λ e. IsKept e.0 e.1) es
      → map.get (content_of (map_list (shown files) (map_list (λ e. e.1) es))) q ≡ option_map (λ (r : RepoFiles). repo_of (shown files r)) (find key_cmp q es)
  get-kept [] q h = get-empty key_cmp q
  get-kept (e ∷ es) q h =
      let rest : Content = content_of (map_list (shown files) (map_list (λ e. e.1) es)) in
      get-insert nat_list_cmp_total rest e.1.path (repo_of (shown files e.1)) q
      ∙ ap (λ (p : List ℕ). cond (eq_by_cmp key_cmp q p) (Some (repo_of (shown files e.1))) (map.get rest q)) h.0.0
      ∙ ap (cond (eq_by_cmp key_cmp q e.0) (Some (repo_of (shown files e.1)))) (get-kept es q h.1)
      ∙ by (eq_by_cmp key_cmp q e.0)
    where
      by : (b : Bool) → cond b (Some (repo_of (shown files e.1))) (option_map (λ (r : RepoFiles). repo_of (shown files r)) (find key_cmp q es)) ≡ option_map (λ (r : RepoFiles). repo_of (shown files r)) (cond b (Some e.1) (find key_cmp q es))
      by true = refl
      by false = refl

  -- files that stand for a content at each path hold it
  module _ (s : Shelves) (c : Content) (stands : (q : List ℕ) → Stands files q (map.get s q) (map.get c q)) where
    all_kept : AllByRecursion (λ e. IsKept e.0 e.1) (map.entries s)
    all_kept = each_entry IsKept (map.entries s) (entries_sorted s) (λ q r f. kept q r (map.get c q) (subst (λ (o : Option RepoFiles). Stands files q o (map.get c q)) (get-entries s q ∙ f) (stands q)))

    shelves_shown : AllByRecursion (IsShown files) (repos_of s)
    shelves_shown = all_shown (map.entries s) all_kept

    shelves_hold : content_of (map_list (shown files) (repos_of s)) ≡ c
    shelves_hold = same_map nat_list_cmp_total key_cmp-IsAntisymmetric _ _ (λ q.
        get-kept (map.entries s) q all_kept
        ∙ ap (option_map (λ (r : RepoFiles). repo_of (shown files r))) (sym (get-entries s q))
        ∙ held q (map.get s q) (map.get c q) (stands q))

-- ---- both

module _ (files : Files) (m : Manifest) (next : ℕ) (entries : List Entry) where
  abbrev content : Content
  content = content_of (map_list (shown files) m.repos)

  abbrev shelves : Shelves
  shelves = filed_paths entries next (paths_of entries) (shelves_of m.repos)

  module _ (position : ℕ) (shows : AllByRecursion (IsShown files) m.repos) (listed : AllByRecursion IsListed m.repos) (built : AllByRecursion IsBuilt entries) (typed : AllByRecursion IsEntry entries) (legal : IsLegal content position entries) (there : AreThere files next (new_contents entries)) where
    stand_after : (q : List ℕ) → Stands files q (map.get shelves q) (map.get (after_all content entries) q)
    stand_after q =
        subst (Stands files q (map.get shelves q)) (sym (get-after_all content entries q built))
        (all_stand files entries built typed next (shelves_of m.repos) q (map.get content q) there (legal_here content position entries q built legal) (first_stand files m.repos shows listed q))

    hold_after : (to : Based) × (run files (based_on (planned m next entries)) ≡ Ok to) × (to.manifest ≡ planned m next entries) × (content_of to.repos ≡ after_all content entries)
    hold_after = (
      base_shown files (planned m next entries),
      base_reads files (planned m next entries) (shelves_shown files shelves (after_all content entries) stand_after),
      refl,
      shelves_hold files shelves (after_all content entries) stand_after,
    )

pub applied : (from : Based) (next : ℕ) (entries : List Entry) (a b : Files) → Applies from next entries a b
    → (to : Based) × (run b (based_on (planned from.manifest next entries)) ≡ Ok to) × (to.manifest ≡ planned from.manifest next entries) × (content_of to.repos ≡ after_all (content_of from.repos) entries)
applied from next entries a b h =
    let read : run b (based_on from.manifest) ≡ Ok from = (agree (based_on from.manifest) a b h.same).0 ∙ h.based in
    let shows = base_was b from.manifest from read in
    let is : from ≡ base_shown b from.manifest = cc (read, base_reads b from.manifest shows) in
    let repos : map_list (shown b) from.manifest.repos ≡ from.repos = ap (λ (x : Based). x.repos) (sym is) in
    let built = recursion_from_All IsBuilt entries h.built in
    let typed = recursion_from_All IsEntry entries h.typed in
    let there = there_all b next (new_contents entries) h.written h.spelled in
    let legal = subst (λ (l : List BaseRepo). IsLegal (content_of l) (from.manifest.applied + 1) entries) (sym repos) h.legal in
    subst (λ (l : List BaseRepo). (to : Based) × (run b (based_on (planned from.manifest next entries)) ≡ Ok to) × (to.manifest ≡ planned from.manifest next entries) × (content_of to.repos ≡ after_all (content_of l) entries)) repos
    (hold_after b from.manifest next entries (from.manifest.applied + 1) shows (all_listed from.manifest h.fits) built typed legal there)
