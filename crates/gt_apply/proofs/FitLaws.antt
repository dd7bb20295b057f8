-- The manifest of a plan has its spelling.
use Rattle.std.proofs.Common.{◌≡◌, ◌⊎◌, inl, inr, ⊎_elim, ℕ, suc, ◌+◌, ◌-◌, ◌<◌, ◌≤◌, ◌^◌, Bool, true, false, cond, ◌&&◌, ◌||◌, T, List, [], ◌∷◌, ◌++◌, length, Option, Some, None, refl, sym, ap, subst, ◌∙◌, filter, flat_map, map as map_list, arith}
use Rattle.std.specs.Prelude.{Any, ◌==◌}
use Rattle.std.specs.List.{AllByRecursion, list_any}
use Rattle.std.specs.List.Sorted.{IsStrictlySortedBy}
use Rattle.std.specs.Option.{option_map}
use Rattle.std.specs.Ordering.{eq_by_cmp, is_eq, is_lt}
use Rattle.std.specs.declared.cmp.Ordering.{Ordering}
use Rattle.std.specs.declared.cmp.Ordering.TheVariants.{Less, Equal, Greater}
use Rattle.std.specs.Cmp.{eq_by_cmp_equiv}
use Rattle.std.specs.Cmp.Lexicographic.{nat_list_cmp_total, texts_ties}
use Rattle.std.specs.FinMap as map
use Rattle.std.specs.FinMap.{FinMap, find, get-entries, get-from_entries, contains_key-keys, entries_sorted, is_sorted}
use Rattle.std.specs.FinMap.Entries.{below_all}
use Rattle.std.proofs.lemmas.Bool.{leb-true, le-leb}
use Rattle.std.proofs.lemmas.Bool.Decides.{nat_tests}
use Rattle.std.proofs.lemmas.List.Elements.{All-from_recursion, recursion_from_All}
use Rattle.gt_bytes.specs.Spelling.{Follows}
use Rattle.gt_entry.specs.Fits.{IsEntry}
use Rattle.gt_entry.proofs.OrderLemmas as order
use Rattle.gt_manifest.specs.declared.manifest.Loose.{Loose}
use Rattle.gt_manifest.specs.declared.manifest.Manifest.{Manifest}
use Rattle.gt_manifest.specs.declared.manifest.RepoFiles.{RepoFiles}
use Rattle.gt_manifest.specs.declared.version.Version.TheVariants.{Second}
use Rattle.gt_manifest.specs.Spelling.{name_of, path_of, IsNumber, IsPath, IsRef, IsPool, MayLoose, AreFiles, AreLasts, MayRepo, FitsFields}
use Rattle.gt_manifest.specs.Whole.{packed_number, file_of, file_numbers, IsFileNumber, IsPoolAt, MayHavePool, PoolStands, IsWhole, Fits}
use Rattle.gt_model.specs.Batches.{repos_at, files_at, paths_of, cut, is_deletion, new_files}
use Rattle.gt_model.specs.Contents.{Content, Repo, key_cmp, after, after_all, IsLegal}
use Rattle.gt_model.specs.Soundness.{HasGoodPool}
use Rattle.gt_model.specs.Verdicts.{same_name}
use Rattle.gt_model.specs.declared.entry.Entry.{Entry}
use Rattle.gt_model.proofs.Values.{same_key}
use Rattle.gt_versions.proofs.Keys.{flip}
use Rattle.gt_apply.specs.Plan.{Shelves, shelves_of, repos_of, filed_paths, planned}
use Rattle.gt_apply.specs.Fitting.{files_head, repo_head, Lists, job_file, job_files, IsNext, IsShort}
use Rattle.gt_apply.proofs.Lists.{In, Apart, in-flat, in-filter, to-map, to-flat, in-map, each, all_of, all-filter, apart-front, apart-back, apart-between, apart-both, flat-one, distinct-apart, apart-distinct}
use Rattle.gt_apply.proofs.TreeLaws.{from_its_entries}
use Rattle.gt_apply.proofs.WriteLaws.{has-name}
use Rattle.gt_apply.proofs.SlotLaws.{slots, begin_of, Is, KeysApart, filtered_are, cut_all, get-other, get-path, begin-low, begin-high, begin-one}
use Rattle.gt_apply.proofs.NumberLaws.{Holds, HoldsAt, BringAll, Between, to_holds, holds-apart, holds-known, holds-slots, at-more}
use Rattle.gt_apply.proofs.FieldLaws.{path_fits, pairs, Fine, FineAt, IsGood, fine-slots}
use Rattle.gt_apply.proofs.HeadLaws.{of_path, head-planned, head-untouched}

-- ---- the entries of a map

left : (a b : Bool) → T (a && b) → T a
left true b h = tt
left false b h = absurd h

right : (a b : Bool) → T (a && b) → T b
right true b h = h
right false b h = absurd h

both : (a b : Bool) → T a → T b → T (a && b)
both true b p q = q
both false b p q = absurd p

less : (o : Ordering) → T (is_lt o) → o ≡ Less
less Less h = refl
less Equal h = absurd h
less Greater h = absurd h

lesser : (o : Ordering) → o ≡ Less → T (is_lt o)
lesser o e = subst (λ (x : Ordering). T (is_lt x)) (sym e) tt

less_apart : (o : Ordering) → T (is_lt o) → is_eq o ≡ false
less_apart Less h = refl
less_apart Equal h = absurd h
less_apart Greater h = absurd h

module _ {X : Type 0} where
  below-in : (k : List ℕ) (es : List (List ℕ × X)) (e : List ℕ × X) → T (below_all key_cmp k es) → In es e → T (is_lt (key_cmp k e.0))
  below-in k [] e h i = absurd i
  below-in k (x ∷ xs) e h i =
      ⊎_elim (λ is. subst (λ (y : List ℕ × X). T (is_lt (key_cmp k y.0))) (sym is) (left (is_lt (key_cmp k x.0)) (below_all key_cmp k xs) h))
      (λ j. below-in k xs e (right (is_lt (key_cmp k x.0)) (below_all key_cmp k xs) h) j) i

  found-in : (es : List (List ℕ × X)) (e : List ℕ × X) → T (is_sorted key_cmp es) → In es e → find key_cmp e.0 es ≡ Some e.1
  found-in [] e h i = absurd i
  found-in (x ∷ xs) e h i =
      ⊎_elim
      (λ is. ap (λ b. cond b (Some x.1) (find key_cmp e.0 xs)) (ap (λ (y : List ℕ × X). eq_by_cmp key_cmp y.0 x.0) is ∙ (eq_by_cmp_equiv nat_list_cmp_total).refl x.0) ∙ ap (λ (y : List ℕ × X). Some y.1) (sym is))
      (λ j. ap (λ b. cond b (Some x.1) (find key_cmp e.0 xs)) (flip e.0 x.0 ∙ less_apart (key_cmp x.0 e.0) (below-in x.0 xs e (left (below_all key_cmp x.0 xs) (is_sorted key_cmp xs) h) j))
      ∙ found-in xs e (right (below_all key_cmp x.0 xs) (is_sorted key_cmp xs) h) j) i

  -- an entry is found by its key
  got-in : (m : FinMap key_cmp X) (e : List ℕ × X) → In (map.entries m) e → map.get m e.0 ≡ Some e.1
  got-in m e i = get-entries m e.0 ∙ found-in (map.entries m) e (entries_sorted m) i

  -- what is found is an entry
  in-found : (es : List (List ℕ × X)) (q : List ℕ) (v : X) → find key_cmp q es ≡ Some v → (e : List ℕ × X) × In es e × (e.0 ≡ q) × (e.1 ≡ v)
  in-found [] q v e = cc
  in-found (x ∷ xs) q v e = by (eq_by_cmp key_cmp q x.0) refl e (in-found xs q v)
    where
      same : Some x.1 ≡ Some v → x.1 ≡ v
      same e = cc

      by : (b : Bool) → eq_by_cmp key_cmp q x.0 ≡ b → cond b (Some x.1) (find key_cmp q xs) ≡ Some v → (find key_cmp q xs ≡ Some v → (e : List ℕ × X) × In xs e × (e.0 ≡ q) × (e.1 ≡ v)) → (e : List ℕ × X) × In (x ∷ xs) e × (e.0 ≡ q) × (e.1 ≡ v)
      by true t e more = (x, inl refl, sym (same_key q x.0 t), same e)
      by false t e more = let r = more e in (r.0, inr r.1, r.2, r.3)

  in-got : (m : FinMap key_cmp X) (q : List ℕ) (v : X) → map.get m q ≡ Some v → (e : List ℕ × X) × In (map.entries m) e × (e.0 ≡ q) × (e.1 ≡ v)
  in-got m q v e = in-found (map.entries m) q v (sym (get-entries m q) ∙ e)

  keys-apart : (es : List (List ℕ × X)) → T (is_sorted key_cmp es) → KeysApart (map_list (λ e. e.0) es)
  keys-apart [] h = tt
  keys-apart (e ∷ es) h = (
    all_of (λ y. eq_by_cmp key_cmp e.0 y ≡ false) (map_list (λ e. e.0) es) (λ k i.
        let r = in-map (λ (e : List ℕ × X). e.0) es k i in
        ap (eq_by_cmp key_cmp e.0) r.2 ∙ less_apart (key_cmp e.0 r.0.0) (below-in e.0 es r.0 (left (below_all key_cmp e.0 es) (is_sorted key_cmp es) h) r.1)),
    keys-apart es (right (below_all key_cmp e.0 es) (is_sorted key_cmp es) h),
  )

  rises : (es : List (List ℕ × X)) → T (is_sorted key_cmp es) → IsStrictlySortedBy key_cmp (map_list (λ e. e.0) es)
  unfolding IsStrictlySortedBy
  rises [] h = tt
  rises (e ∷ es) h = (
    all_of (λ y. key_cmp e.0 y ≡ Less) (map_list (λ e. e.0) es) (λ k i.
        let r = in-map (λ (e : List ℕ × X). e.0) es k i in
        ap (key_cmp e.0) r.2 ∙ less (key_cmp e.0 r.0.0) (below-in e.0 es r.0 (left (below_all key_cmp e.0 es) (is_sorted key_cmp es) h) r.1)),
    rises es (right (below_all key_cmp e.0 es) (is_sorted key_cmp es) h),
  )

  below-all : (k : List ℕ) (es : List (List ℕ × X)) → AllByRecursion (λ y. key_cmp k y ≡ Less) (map_list (λ e. e.0) es) → T (below_all key_cmp k es)
  below-all k [] h = tt
  below-all k (e ∷ es) h = both (is_lt (key_cmp k e.0)) (below_all key_cmp k es) (lesser (key_cmp k e.0) h.0) (below-all k es h.1)

  sorted-of : (es : List (List ℕ × X)) → IsStrictlySortedBy key_cmp (map_list (λ e. e.0) es) → T (is_sorted key_cmp es)
  unfolding IsStrictlySortedBy
  sorted-of [] h = tt
  sorted-of (e ∷ es) h = both (below_all key_cmp e.0 es) (is_sorted key_cmp es) (below-all e.0 es h.0) (sorted-of es h.1)

-- ---- lists that are allowed item by item

follows-each : {A : Type 0} (Allowed : List A → A → Type 0) (P : A → Type 0) → ((before : List A) (x : A) → Allowed before x → P x) → (front xs : List A) → Follows Allowed front xs → AllByRecursion P xs
follows-each Allowed P f front [] h = tt
follows-each {A} Allowed P f front (x ∷ xs) h = (f front x h.0, follows-each Allowed P f (front ++ x ∷ []) xs h.1)

each-follows : {A : Type 0} (P : A → Type 0) (front xs : List A) → AllByRecursion P xs → Follows (λ before x. P x) front xs
each-follows P front [] h = tt
each-follows {A} P front (x ∷ xs) h = (h.0, each-follows P (front ++ x ∷ []) xs h.1)

any-of : {A : Type 0} (P : A → Type 0) (xs : List A) (x : A) → In xs x → P x → Any P xs
any-of P [] x i p = absurd i
any-of {A} P (y ∷ ys) x i p = ⊎_elim (λ e. (0, x, omega arith, sym e, p)) (λ j. let r = any-of P ys x j p in (suc r.0, r.1, (let lt : r.0 < length ys = r.2 in omega arith), r.3, r.4)) i

-- ---- entries of one path

same_as : (a q : List ℕ) → same_name a q ≡ eq_by_cmp key_cmp q a
same_as a q = texts_ties a q ∙ flip a q

has-path : (entries : List Entry) (q : List ℕ) → list_any (eq_by_cmp key_cmp q) (paths_of entries) ≡ list_any (eq_by_cmp key_cmp q) (map_list (λ e. e.path) entries)
has-path entries q =
    sym (contains_key-keys (map.from_entries {R = key_cmp} (map_list (λ name. (name, name)) (map_list (λ e. e.path) entries))) q)
    ∙ has-name (map_list (λ e. e.path) entries) q

none-of-path : (entries : List Entry) (q : List ℕ) → list_any (eq_by_cmp key_cmp q) (map_list (λ e. e.path) entries) ≡ false → of_path q entries ≡ []
none-of-path [] q h = refl
none-of-path (e ∷ es) q h = by (eq_by_cmp key_cmp q e.path) refl h (none-of-path es q)
  where
    by : (b : Bool) → eq_by_cmp key_cmp q e.path ≡ b → (b || list_any (eq_by_cmp key_cmp q) (map_list (λ e. e.path) es)) ≡ false → (list_any (eq_by_cmp key_cmp q) (map_list (λ e. e.path) es) ≡ false → of_path q es ≡ [])
        → cond (same_name e.path q) (e ∷ of_path q es) (of_path q es) ≡ []
    by true t h more = cc
    by false t h more = ap (λ b. cond b (e ∷ of_path q es) (of_path q es)) (same_as e.path q ∙ t) ∙ more h

some-path : (P : List ℕ → Type 0) (entries : List Entry) (q : List ℕ) → AllByRecursion (λ e. P e.path) entries → list_any (eq_by_cmp key_cmp q) (map_list (λ e. e.path) entries) ≡ true → P q
some-path P [] q all h = cc
some-path P (e ∷ es) q all h = by (eq_by_cmp key_cmp q e.path) refl h (some-path P es q all.1)
  where
    by : (b : Bool) → eq_by_cmp key_cmp q e.path ≡ b → (b || list_any (eq_by_cmp key_cmp q) (map_list (λ e. e.path) es)) ≡ true → (list_any (eq_by_cmp key_cmp q) (map_list (λ e. e.path) es) ≡ true → P q) → P q
    by true t h more = subst P (sym (same_key q e.path t)) all.0
    by false t h more = more h

not-among : (q : List ℕ) (paths : List (List ℕ)) → list_any (eq_by_cmp key_cmp q) paths ≡ false → AllByRecursion (λ p. eq_by_cmp key_cmp q p ≡ false) paths
not-among q [] h = tt
not-among q (p ∷ ps) h = by (eq_by_cmp key_cmp q p) refl h (not-among q ps)
  where
    by : (b : Bool) → eq_by_cmp key_cmp q p ≡ b → (b || list_any (eq_by_cmp key_cmp q) ps) ≡ false → (list_any (eq_by_cmp key_cmp q) ps ≡ false → AllByRecursion (λ p. eq_by_cmp key_cmp q p ≡ false) ps)
        → (eq_by_cmp key_cmp q p ≡ false) × AllByRecursion (λ p. eq_by_cmp key_cmp q p ≡ false) ps
    by true t h more = cc
    by false t h more = (t, more h)

jobs-append : (xs ys : List Entry) → job_files (xs ++ ys) ≡ job_files xs ++ job_files ys
jobs-append [] ys = refl
jobs-append (x ∷ xs) ys = ap (λ (l : List ℕ). job_file x.change ++ l) (jobs-append xs ys) ∙ sym (assoc (job_file x.change) (job_files xs) (job_files ys))
  where
    assoc : (a b c : List ℕ) → (a ++ b) ++ c ≡ a ++ (b ++ c)
    assoc [] b c = refl
    assoc (x ∷ a) b c = ap (λ (l : List ℕ). x ∷ l) (assoc a b c)

jobs-cut : (first es : List Entry) → flat_map job_files (cut first es) ≡ job_files (first ++ es)
jobs-cut first [] = nothing (job_files first) ∙ ap job_files (sym (same first))
  where
    nothing : (l : List ℕ) → l ++ [] ≡ l
    nothing [] = refl
    nothing (x ∷ l) = ap (λ (m : List ℕ). x ∷ m) (nothing l)

    same : (l : List Entry) → l ++ [] ≡ l
    same [] = refl
    same (x ∷ l) = ap (λ (m : List Entry). x ∷ m) (same l)
jobs-cut first (e ∷ es) = by (is_deletion e.change) (jobs-cut [] es) (jobs-cut (first ++ e ∷ []) es)
  where
    turn : (l : List Entry) → (l ++ e ∷ []) ++ es ≡ l ++ e ∷ es
    turn [] = refl
    turn (x ∷ l) = ap (λ (m : List Entry). x ∷ m) (turn l)

    by : (b : Bool) → flat_map job_files (cut [] es) ≡ job_files es → flat_map job_files (cut (first ++ e ∷ []) es) ≡ job_files ((first ++ e ∷ []) ++ es)
        → flat_map job_files (cond b ((first ++ e ∷ []) ∷ cut [] es) (cut (first ++ e ∷ []) es)) ≡ job_files (first ++ e ∷ es)
    by true x y = ap (λ (l : List ℕ). job_files (first ++ e ∷ []) ++ l) x ∙ sym (jobs-append (first ++ e ∷ []) es) ∙ ap job_files (turn first)
    by false x y = y ∙ ap job_files (turn first)

-- the files of a path's jobs are files of jobs
jobs-in : (p : Entry → Bool) (es : List Entry) (k : ℕ) → In (job_files (filter p es)) k → In (job_files es) k
jobs-in p es k i = let r = in-flat (λ (e : Entry). job_file e.change) (filter p es) k i in to-flat (λ (e : Entry). job_file e.change) es r.0 k (in-filter p es r.0 r.1) r.2

jobs-apart : (p : Entry → Bool) (es : List Entry) → Apart (job_files es) → Apart (job_files (filter p es))
jobs-apart p [] h = tt
jobs-apart p (e ∷ es) h = by (p e) (jobs-apart p es (apart-back (job_file e.change) (job_files es) h))
  where
    by : (b : Bool) → Apart (job_files (filter p es)) → Apart (job_files (cond b (e ∷ filter p es) (filter p es)))
    by true more = apart-both (job_file e.change) (job_files (filter p es)) (apart-front (job_file e.change) (job_files es) h) more (λ k i j. apart-between (job_file e.change) (job_files es) h k i (jobs-in p es k j))
    by false more = more

part-apart : {A : Type 0} (f : A → List ℕ) (xs : List A) (x : A) → Apart (flat_map f xs) → In xs x → Apart (f x)
part-apart f [] x h i = absurd i
part-apart {A} f (y ∷ ys) x h i = ⊎_elim (λ e. subst (λ (z : A). Apart (f z)) (sym e) (apart-front (f y) (flat_map f ys) h)) (λ j. part-apart f ys x (apart-back (f y) (flat_map f ys) h) j) i

-- ---- positions

good-all : (c : Content) (position : ℕ) (entries : List Entry) (limit : ℕ) → IsLegal c position entries → position + length entries ≤ limit + 1 → AllByRecursion IsEntry entries → AllByRecursion (IsGood limit) entries
good-all c position [] limit legal le typed = tt
good-all c position (e ∷ es) limit legal le typed = (
  (typed.0, let is : e.position ≡ position = legal.0 in omega arith),
  good-all (after c e) (position + 1) es limit legal.2 (omega arith) typed.1,
)

-- ---- the plan

abbrev start_of : Manifest → Shelves
start_of from = shelves_of from.repos

abbrev end_of : Manifest → ℕ → List Entry → Shelves
end_of from next entries = filed_paths entries next (paths_of entries) (start_of from)

abbrev limit_of : Manifest → List Entry → ℕ
limit_of from entries = from.applied + length entries

abbrev is_touched : List Entry → List ℕ → Bool
is_touched entries q = list_any (eq_by_cmp key_cmp q) (paths_of entries)

-- what stands at a path before is in the list
in-list : (repos : List RepoFiles) (q : List ℕ) (r : RepoFiles) → map.get (shelves_of repos) q ≡ Some r → In repos r × (r.path ≡ q)
in-list repos q r e =
    let found = in-found (map_list (λ r. (r.path, r)) repos) q r (sym (get-from_entries nat_list_cmp_total (map_list (λ r. (r.path, r)) repos) q) ∙ e) in
    let made = in-map (λ (r : RepoFiles). (r.path, r)) repos found.0 found.1 in
    let same : r ≡ made.0 = sym found.3 ∙ ap (λ (p : List ℕ × RepoFiles). p.1) made.2 in
    (subst (λ (x : RepoFiles). In repos x) (sym same) made.1, ap (λ (x : RepoFiles). x.path) same ∙ sym (ap (λ (p : List ℕ × RepoFiles). p.0) made.2) ∙ found.2)

paths-apart : (entries : List Entry) → KeysApart (paths_of entries)
paths-apart entries = let m = map.from_entries {R = key_cmp} (map_list (λ (name : List ℕ). (name, name)) (map_list (λ e. e.path) entries)) in keys-apart (map.entries m) (entries_sorted m)

-- what stands at a path at the end, by whether an entry is of it
module _ (from : Manifest) (next : ℕ) (entries : List Entry) (q : List ℕ) where
  abbrev pub Stays : Type 0
  Stays = (is_touched entries q ≡ false) × (map.get (end_of from next entries) q ≡ map.get (start_of from) q)

  abbrev pub Turns : Type 0
  Turns = (is_touched entries q ≡ true) × (map.get (end_of from next entries) q ≡ slots q (begin_of entries next (paths_of entries) q) (repos_at q entries) (map.get (start_of from) q))

  stays-or-turns : Stays ⊎ Turns
  stays-or-turns = by (is_touched entries q) refl
    where
      by : (b : Bool) → is_touched entries q ≡ b → Stays ⊎ Turns
      by true t = inr (t, get-path entries next (paths_of entries) (start_of from) q (paths-apart entries) t)
      by false t = inl (t, get-other entries next (paths_of entries) (start_of from) q (not-among q (paths_of entries) t))

-- ---- the list of a map

-- what holds of what is found holds of each entry
entries-all : {X : Type 0} (m : FinMap key_cmp X) (P : List ℕ → X → Type 0) → ((q : List ℕ) (v : X) → map.get m q ≡ Some v → P q v) → AllByRecursion (λ e. P e.0 e.1) (map.entries m)
entries-all m P f = all_of (λ e. P e.0 e.1) (map.entries m) (λ e i. f e.0 e.1 (got-in m e i))

list-all : {X : Type 0} (P : X → Type 0) (es : List (List ℕ × X)) → AllByRecursion (λ e. P e.1) es → AllByRecursion P (map_list (λ e. e.1) es)
list-all P [] h = tt
list-all P (e ∷ es) h = (h.0, list-all P es h.1)

repos-all : (s : Shelves) (P : RepoFiles → Type 0) → ((q : List ℕ) (r : RepoFiles) → map.get s q ≡ Some r → P r) → AllByRecursion P (repos_of s)
repos-all s P f = list-all P (map.entries s) (entries-all s (λ q r. P r) f)

-- repositories under their own paths
pairs-of : (es : List (List ℕ × RepoFiles)) → AllByRecursion (λ e. e.1.path ≡ e.0) es → map_list (λ r. (r.path, r)) (map_list (λ e. e.1) es) ≡ es
pairs-of [] h = refl
pairs-of (e ∷ es) h = ap (λ (k : List ℕ). (k, e.1) ∷ map_list (λ r. (r.path, r)) (map_list (λ e. e.1) es)) h.0 ∙ ap (λ (l : List (List ℕ × RepoFiles)). e ∷ l) (pairs-of es h.1)

shelves-back : (s : Shelves) → ((q : List ℕ) (r : RepoFiles) → map.get s q ≡ Some r → r.path ≡ q) → shelves_of (repos_of s) ≡ s
shelves-back s f = ap (λ (es : List (List ℕ × RepoFiles)). map.from_entries {R = key_cmp} es) (pairs-of (map.entries s) (entries-all s (λ q r. r.path ≡ q) f)) ∙ from_its_entries s

paths-back : (es : List (List ℕ × RepoFiles)) → AllByRecursion (λ e. e.1.path ≡ e.0) es → map_list path_of (map_list (λ e. e.1) es) ≡ map_list (λ e. e.0) es
paths-back [] h = refl
paths-back (e ∷ es) h = ap (λ (k : List ℕ). k ∷ map_list path_of (map_list (λ e. e.1) es)) h.0 ∙ ap (λ (l : List (List ℕ)). e.0 ∷ l) (paths-back es h.1)

-- no number in two repositories
flat-apart : (es : List (List ℕ × RepoFiles)) → T (is_sorted key_cmp es) → AllByRecursion (λ e. Apart (file_numbers e.1)) es
    → ((e f : List ℕ × RepoFiles) (k : ℕ) → In es e → In es f → In (file_numbers e.1) k → In (file_numbers f.1) k → e.0 ≡ f.0) → Apart (flat_map file_numbers (map_list (λ e. e.1) es))
flat-apart [] sorted each one = tt
flat-apart (e ∷ es) sorted each one =
    apart-both (file_numbers e.1) (flat_map file_numbers (map_list (λ e. e.1) es)) each.0
    (flat-apart es (right (below_all key_cmp e.0 es) (is_sorted key_cmp es) sorted) each.1 (λ x y k i j. one x y k (inr i) (inr j)))
    (λ k i j.
    let r = in-flat file_numbers (map_list (λ e. e.1) es) k j in
    let f = in-map (λ (e : List ℕ × RepoFiles). e.1) es r.0 r.1 in
    let same : e.0 ≡ f.0.0 = one e f.0 k (inl refl) (inr f.1) i (subst (λ (x : RepoFiles). In (file_numbers x) k) f.2 r.2) in
    clash e.0 f.0.0 same (below-in e.0 es f.0 (left (below_all key_cmp e.0 es) (is_sorted key_cmp es) sorted) f.1))
  where
    clash : (a b : List ℕ) → a ≡ b → T (is_lt (key_cmp a b)) → ⊥
    clash a b same lt =
        let no : eq_by_cmp key_cmp a b ≡ false = less_apart (key_cmp a b) lt in
        let yes : eq_by_cmp key_cmp a b ≡ true = ap (eq_by_cmp key_cmp a) (sym same) ∙ (eq_by_cmp_equiv nat_list_cmp_total).refl a in
        cc

names-of-pairs : (list : List Loose) → map_list (λ e. e.0) (pairs list) ≡ map_list name_of list
names-of-pairs [] = refl
names-of-pairs (l ∷ ls) = ap (λ (ns : List (List ℕ)). l.name ∷ ns) (names-of-pairs ls)

packed-small : (n high : ℕ) → 0 < high → ((k : ℕ) → In (packed_number n) k → k < high) → n < high
packed-small n high some h = by (n == 0) refl h
  where
    by : (b : Bool) → (n == 0) ≡ b → ((k : ℕ) → In (cond b [] (n ∷ [])) k → k < high) → n < high
    by true t h = let zero_is : n ≡ 0 = grind (arith, nat_tests) in omega arith
    by false t h = h n (inl refl)

-- what the fields of a manifest say of a repository
abbrev MayBe : ℕ → RepoFiles → Type 0
MayBe applied r = (before : List RepoFiles) × MayRepo Second applied before r

fine-of : (applied limit : ℕ) (r : RepoFiles) → applied ≤ limit → MayBe applied r → Fine limit r.path r
fine-of applied limit r le x =
    let m : MayRepo Second applied x.0 r = x.1 in
    let loose : AllByRecursion (λ (l : Loose). IsRef l.name × IsNumber l.file) r.loose × Follows (order.Rises name_of) [] r.loose =
    order.apart (λ (l : Loose). IsRef l.name × IsNumber l.file) (order.Rises name_of) MayLoose (λ front l a. ((a.0.0, a.1), a.0.1)) [] r.loose m.1.0.1.1.1 in
    record {
      path_is = refl;
      pool = m.0.1.1;
      sorted = sorted-of (pairs r.loose) (subst (λ (ns : List (List ℕ)). IsStrictlySortedBy key_cmp ns) (sym (names-of-pairs r.loose)) (order.sorted name_of r.loose loose.1));
      refs = all_of (λ l. IsRef l.name) r.loose (λ l i. (each (λ (l : Loose). IsRef l.name × IsNumber l.file) r.loose l loose.0 i).0);
      repacked = let a : r.repacked ≤ applied = leb-true r.repacked applied m.1.1.0.1 in omega arith;
      refs_packed = let a : r.refs_packed ≤ applied = leb-true r.refs_packed applied m.1.1.1.1 in omega arith;
    }

module _ (from : Manifest) (next : ℕ) (entries : List Entry) (c : Content) (h : IsNext from next entries c) where
  typed : AllByRecursion IsEntry entries
  typed = recursion_from_All IsEntry entries h.typed

  good : AllByRecursion (IsGood (limit_of from entries)) entries
  good = good-all c (from.applied + 1) entries (limit_of from entries) h.legal (omega arith) typed

  good-repos : (q : List ℕ) → AllByRecursion (λ own. AllByRecursion (IsGood (limit_of from entries)) own) (repos_at q entries)
  good-repos q = cut_all (IsGood (limit_of from entries)) [] (of_path q entries) tt (all-filter (IsGood (limit_of from entries)) (λ e. same_name e.path q) entries good)

  once : Apart (flat_map file_numbers from.repos ++ job_files entries)
  once = distinct-apart (flat_map file_numbers from.repos ++ job_files entries) h.jobs.once

  jobs-once : Apart (job_files entries)
  jobs-once = apart-back (flat_map file_numbers from.repos) (job_files entries) once

  job-range : (k : ℕ) → In (job_files entries) k → IsFileNumber next k
  job-range k i = each (IsFileNumber next) (job_files entries) k (recursion_from_All (IsFileNumber next) (job_files entries) h.jobs.numbers) i

  first-free : 1 ≤ from.next
  first-free = leb-true 1 from.next h.fits.0.0.1.1.1

  may-be : AllByRecursion (MayBe from.applied) from.repos
  may-be = follows-each (MayRepo Second from.applied) (MayBe from.applied) (λ before x m. (before, m)) [] from.repos h.fits.0.1.1

  -- ---- what is known of numbers

  abbrev From : List ℕ → ℕ → Type 0
  From q k = (r : RepoFiles) × In from.repos r × (r.path ≡ q) × In (file_numbers r) k

  from-in : (q : List ℕ) (k : ℕ) → From q k → In (flat_map file_numbers from.repos) k
  from-in q k x = to-flat file_numbers from.repos x.0 k x.1 x.3

  from-range : (q : List ℕ) (k : ℕ) → From q k → IsFileNumber from.next k
  from-range q k x = each (IsFileNumber from.next) (flat_map file_numbers from.repos) k (recursion_from_All (IsFileNumber from.next) (flat_map file_numbers from.repos) h.fits.1.numbers) (from-in q k x)

  abbrev begin_at : List ℕ → ℕ
  begin_at q = begin_of entries next (paths_of entries) q

  abbrev Known : List ℕ → ℕ → Type 0
  Known q k = From q k ⊎ (((is_touched entries q ≡ true) × Between (begin_at q) (begin_at q + length (files_at q entries)) k) ⊎ In (job_files (of_path q entries)) k)

  -- ---- what stands at a path

  start-holds : (q : List ℕ) → HoldsAt (From q) (map.get (start_of from) q)
  start-holds q = by (map.get (start_of from) q) refl
    where
      by : (o : Option RepoFiles) → map.get (start_of from) q ≡ o → HoldsAt (From q) o
      by None e = tt
      by (Some r) e =
          let i = in-list from.repos q r e in
          to_holds (From q) r (part-apart file_numbers from.repos r (apart-front (flat_map file_numbers from.repos) (job_files entries) once) i.0) (λ k j. (r, i.0, i.1, j))

  start-fine : (q : List ℕ) → FineAt (limit_of from entries) q (map.get (start_of from) q)
  start-fine q = by (map.get (start_of from) q) refl
    where
      by : (o : Option RepoFiles) → map.get (start_of from) q ≡ o → FineAt (limit_of from entries) q o
      by None e = tt
      by (Some r) e =
          let i = in-list from.repos q r e in
          subst (λ (p : List ℕ). Fine (limit_of from entries) p r) i.1 (fine-of from.applied (limit_of from entries) r (omega arith) (each (MayBe from.applied) from.repos r may-be i.0))

  end-fine : (q : List ℕ) → FineAt (limit_of from entries) q (map.get (end_of from next entries) q)
  end-fine q =
      ⊎_elim
      (λ x. subst (λ (o : Option RepoFiles). FineAt (limit_of from entries) q o) (sym x.1) (start-fine q))
      (λ x. subst (λ (o : Option RepoFiles). FineAt (limit_of from entries) q o) (sym x.1) (fine-slots (limit_of from entries) q (begin_at q) (repos_at q entries) (map.get (start_of from) q) (good-repos q) (start-fine q)))
      (stays-or-turns from next entries q)

  jobs-here : (q : List ℕ) → flat_map job_files (repos_at q entries) ≡ job_files (of_path q entries)
  jobs-here q = jobs-cut [] (of_path q entries)

  jobs-of-all : (q : List ℕ) (k : ℕ) → In (flat_map job_files (repos_at q entries)) k → In (job_files entries) k
  jobs-of-all q k i = jobs-in (λ e. same_name e.path q) entries k (subst (λ (l : List ℕ). In l k) (jobs-here q) i)

  slots-hold : (q : List ℕ) → is_touched entries q ≡ true → HoldsAt (Known q) (slots q (begin_at q) (repos_at q entries) (map.get (start_of from) q))
  slots-hold q t =
      let low : next ≤ begin_at q = begin-low entries next (paths_of entries) q in
      let free : from.next ≤ next = h.free in
      at-more (λ k. From q k ⊎ BringAll (begin_at q) (repos_at q entries) k) (Known q) (slots q (begin_at q) (repos_at q entries) (map.get (start_of from) q))
      (λ k x. ⊎_elim inl (λ z. ⊎_elim (λ b. inr (inl (t, b))) (λ j. inr (inr (subst (λ (l : List ℕ). In l k) (jobs-here q) j))) z) x)
      (holds-slots (From q) q (begin_at q) (repos_at q entries) (map.get (start_of from) q)
      (λ k x. let r : IsFileNumber from.next k = from-range q k x in let b : k < from.next = r.1 in omega arith)
      (start-holds q)
      (subst (λ (l : List ℕ). Apart l) (sym (jobs-here q)) (jobs-apart (λ e. same_name e.path q) entries jobs-once))
      (λ k i. let r : IsFileNumber next k = job-range k (jobs-of-all q k i) in let b : k < next = r.1 in omega arith)
      (λ k i x. apart-between (flat_map file_numbers from.repos) (job_files entries) once k (from-in q k x) (jobs-of-all q k i)))

  end-holds : (q : List ℕ) → HoldsAt (Known q) (map.get (end_of from next entries) q)
  end-holds q =
      ⊎_elim
      (λ x. subst (λ (o : Option RepoFiles). HoldsAt (Known q) o) (sym x.1) (at-more (From q) (Known q) (map.get (start_of from) q) (λ k i. inl i) (start-holds q)))
      (λ x. subst (λ (o : Option RepoFiles). HoldsAt (Known q) o) (sym x.1) (slots-hold q x.0))
      (stays-or-turns from next entries q)

  fine-here : (q : List ℕ) (r : RepoFiles) → map.get (end_of from next entries) q ≡ Some r → Fine (limit_of from entries) q r
  fine-here q r e = subst (λ (o : Option RepoFiles). FineAt (limit_of from entries) q o) e (end-fine q)

  holds-here : (q : List ℕ) (r : RepoFiles) → map.get (end_of from next entries) q ≡ Some r → Holds (Known q) r
  holds-here q r e = subst (λ (o : Option RepoFiles). HoldsAt (Known q) o) e (end-holds q)

  path-good : (q : List ℕ) (r : RepoFiles) → map.get (end_of from next entries) q ≡ Some r → IsPath q
  path-good q r e =
      ⊎_elim
      (λ x.
      let i = in-list from.repos q r (sym x.1 ∙ e) in
      let m : MayBe from.applied r = each (MayBe from.applied) from.repos r may-be i.0 in
      subst (λ (p : List ℕ). IsPath p) i.1 m.1.0.0.0)
      (λ x. some-path IsPath entries q (all_of (λ e. IsPath e.path) entries (λ e i. path_fits e.path (each IsEntry entries e typed i).path)) (sym (has-path entries q) ∙ x.0))
      (stays-or-turns from next entries q)

  -- ---- numbers

  range : (q : List ℕ) (k : ℕ) → Known q k → IsFileNumber (next + new_files entries) k
  range q k (inl x) = let r : IsFileNumber from.next k = from-range q k x in let a : 1 ≤ k = r.0 in let b : k < from.next = r.1 in let free : from.next ≤ next = h.free in (a, omega arith)
  range q k (inr (inl x)) =
      let lo : begin_at q ≤ k = x.1.0 in
      let hi : k < begin_at q + length (files_at q entries) = x.1.1 in
      let low : next ≤ begin_at q = begin-low entries next (paths_of entries) q in
      let high : begin_at q + length (files_at q entries) ≤ next + new_files entries = begin-high entries next (paths_of entries) q x.0 in
      let one : 1 ≤ from.next = first-free in
      let free : from.next ≤ next = h.free in
      (omega arith, omega arith)
  range q k (inr (inr i)) = let r : IsFileNumber next k = job-range k (jobs-in (λ e. same_name e.path q) entries k i) in let a : 1 ≤ k = r.0 in let b : k < next = r.1 in (a, omega arith)

  -- an entry of a path whose job's file it is
  job-of : (q : List ℕ) (k : ℕ) → In (job_files (of_path q entries)) k → (e : Entry) × In entries e × (e.path ≡ q) × In (job_file e.change) k
  job-of q k i =
      let r = in-flat (λ (e : Entry). job_file e.change) (of_path q entries) k i in
      (r.0, in-filter (λ e. same_name e.path q) entries r.0 r.1, each (Is q) (of_path q entries) r.0 (filtered_are q entries) r.1, r.2)

  below-next : (q : List ℕ) (k : ℕ) → From q k → k < next
  below-next q k x = let r : IsFileNumber from.next k = from-range q k x in let b : k < from.next = r.1 in let free : from.next ≤ next = h.free in omega arith

  job-below : (q : List ℕ) (k : ℕ) → In (job_files (of_path q entries)) k → k < next
  job-below q k i = (job-range k (jobs-in (λ e. same_name e.path q) entries k i)).1

  one-path : (p q : List ℕ) (k : ℕ) → Known p k → Known q k → p ≡ q
  one-path p q k (inl x) (inl y) =
      let same : x.0 ≡ y.0 = flat-one file_numbers from.repos (apart-front (flat_map file_numbers from.repos) (job_files entries) once) x.0 y.0 k x.1 y.1 x.3 y.3 in
      sym x.2 ∙ ap (λ (r : RepoFiles). r.path) same ∙ y.2
  one-path p q k (inl x) (inr (inl y)) = let a : k < next = below-next p k x in let b : next ≤ begin_at q = begin-low entries next (paths_of entries) q in let d : begin_at q ≤ k = y.1.0 in absurd (omega arith)
  one-path p q k (inl x) (inr (inr j)) = absurd (apart-between (flat_map file_numbers from.repos) (job_files entries) once k (from-in p k x) (jobs-in (λ e. same_name e.path q) entries k j))
  one-path p q k (inr (inl x)) (inl y) = let a : k < next = below-next q k y in let b : next ≤ begin_at p = begin-low entries next (paths_of entries) p in let d : begin_at p ≤ k = x.1.0 in absurd (omega arith)
  one-path p q k (inr (inl x)) (inr (inl y)) = begin-one entries next (paths_of entries) p q k x.0 y.0 x.1.0 x.1.1 y.1.0 y.1.1
  one-path p q k (inr (inl x)) (inr (inr j)) = let a : k < next = job-below q k j in let b : next ≤ begin_at p = begin-low entries next (paths_of entries) p in let d : begin_at p ≤ k = x.1.0 in absurd (omega arith)
  one-path p q k (inr (inr i)) (inl y) = absurd (apart-between (flat_map file_numbers from.repos) (job_files entries) once k (from-in q k y) (jobs-in (λ e. same_name e.path p) entries k i))
  one-path p q k (inr (inr i)) (inr (inl y)) = let a : k < next = job-below p k i in let b : next ≤ begin_at q = begin-low entries next (paths_of entries) q in let d : begin_at q ≤ k = y.1.0 in absurd (omega arith)
  one-path p q k (inr (inr i)) (inr (inr j)) =
      let x = job-of p k i in
      let y = job-of q k j in
      let same : x.0 ≡ y.0 = flat-one (λ (e : Entry). job_file e.change) entries jobs-once x.0 y.0 k x.1 y.1 x.3 y.3 in
      sym x.2 ∙ ap (λ (e : Entry). e.path) same ∙ y.2

  abbrev after_repos : List RepoFiles
  after_repos = repos_of (end_of from next entries)

  all-apart : Apart (flat_map file_numbers after_repos)
  all-apart =
      let m : Shelves = end_of from next entries in
      flat-apart (map.entries m) (entries_sorted m) (entries-all m (λ q r. Apart (file_numbers r)) (λ q r e. holds-apart (Known q) r (holds-here q r e)))
      (λ e f k i j x y. one-path e.0 f.0 k (holds-known (Known e.0) e.1 (holds-here e.0 e.1 (got-in m e i)) k x) (holds-known (Known f.0) f.1 (holds-here f.0 f.1 (got-in m f j)) k y))

  all-range : AllByRecursion (IsFileNumber (next + new_files entries)) (flat_map file_numbers after_repos)
  all-range = all_of (IsFileNumber (next + new_files entries)) (flat_map file_numbers after_repos) (λ k i.
      let m : Shelves = end_of from next entries in
      let r = in-flat file_numbers after_repos k i in
      let e = in-map (λ (e : List ℕ × RepoFiles). e.1) (map.entries m) r.0 r.1 in
      range e.0.0 k (holds-known (Known e.0.0) e.0.1 (holds-here e.0.0 e.0.1 (got-in m e.0 e.1)) k (subst (λ (x : RepoFiles). In (file_numbers x) k) e.2 r.2)))

  -- ---- heads

  heads : (q : List ℕ) → option_map files_head (map.get (end_of from next entries) q) ≡ option_map repo_head (map.get (after_all c entries) q)
  heads q =
      ⊎_elim
      (λ x. ap (option_map files_head) x.1 ∙ h.lists q ∙ sym (head-untouched c (from.applied + 1) entries q h.legal (none-of-path entries q (sym (has-path entries q) ∙ x.0))))
      (λ x. ap (option_map files_head) x.1 ∙ head-planned c (from.applied + 1) entries q (begin_at q) (map.get (start_of from) q) h.legal (h.lists q))
      (stays-or-turns from next entries q)

  pub lists_on : Lists (planned from next entries) (after_all c entries)
  lists_on q = ap (λ (s : Shelves). option_map files_head (map.get s q)) (shelves-back (end_of from next entries) (λ q r e. (fine-here q r e).path_is)) ∙ heads q

  in-content : (q : List ℕ) (r : RepoFiles) → map.get (end_of from next entries) q ≡ Some r → (p : Repo) × (map.get (after_all c entries) q ≡ Some p) × (files_head r ≡ repo_head p)
  in-content q r e = by (map.get (after_all c entries) q) refl (ap (option_map files_head) (sym e) ∙ heads q)
    where
      by : (o : Option Repo) → map.get (after_all c entries) q ≡ o → Some (files_head r) ≡ option_map repo_head o → (p : Repo) × (map.get (after_all c entries) q ≡ Some p) × (files_head r ≡ repo_head p)
      by None e is = cc
      by (Some p) e is = (p, e, some_same is)
        where
          some_same : Some (files_head r) ≡ Some (repo_head p) → files_head r ≡ repo_head p
          some_same is = cc

  in-manifest : (w : List ℕ) (p : Repo) → map.get (after_all c entries) w ≡ Some p → (r : RepoFiles) × (map.get (end_of from next entries) w ≡ Some r) × (files_head r ≡ repo_head p)
  in-manifest w p e = by (map.get (end_of from next entries) w) refl (heads w ∙ ap (option_map repo_head) e)
    where
      by : (o : Option RepoFiles) → map.get (end_of from next entries) w ≡ o → option_map files_head o ≡ Some (repo_head p) → (r : RepoFiles) × (map.get (end_of from next entries) w ≡ Some r) × (files_head r ≡ repo_head p)
      by None e is = cc
      by (Some r) e is = (r, e, some_same is)
        where
          some_same : Some (files_head r) ≡ Some (repo_head p) → files_head r ≡ repo_head p
          some_same is = cc

  pool-there : (w : List ℕ) (p : Repo) → map.get (after_all c entries) w ≡ Some p → p.is_pool ≡ true → Any (IsPoolAt w) after_repos
  pool-there w p e is =
      let r = in-manifest w p e in
      let m : Shelves = end_of from next entries in
      let i = in-got m w r.0 r.1 in
      any-of (IsPoolAt w) after_repos i.0.1 (to-map (λ (e : List ℕ × RepoFiles). e.1) (map.entries m) i.0 i.1)
      (ap (λ (x : RepoFiles). x.is_pool) i.3 ∙ ap (λ (x : Bool × Option (List ℕ)). x.0) r.2 ∙ is, ap (λ (x : RepoFiles). x.path) i.3 ∙ (fine-here w r.0 r.1).path_is)

  pools-stand : (q : List ℕ) (r : RepoFiles) → map.get (end_of from next entries) q ≡ Some r → PoolStands after_repos r
  pools-stand q r e =
      let p = in-content q r e in
      let good_pool : HasGoodPool (after_all c entries) p.0 = h.pools q p.0 p.1 in
      by r.pool refl p.0 good_pool (ap (λ (x : Bool × Option (List ℕ)). x.0) p.2) (ap (λ (x : Bool × Option (List ℕ)). x.1) p.2)
    where
      no_pool : (b : Bool) (p : Repo) (w : List ℕ) → HasGoodPool (after_all c entries) p → b ≡ p.is_pool → p.pool ≡ Some w → b ≡ false
      no_pool true p w good is has = let none : p.pool ≡ None = good.none (sym is) in cc
      no_pool false p w good is has = refl

      by : (o : Option (List ℕ)) → r.pool ≡ o → (p : Repo) → HasGoodPool (after_all c entries) p → r.is_pool ≡ p.is_pool → r.pool ≡ p.pool → MayHavePool after_repos r.is_pool o
      by None t p good is has = tt
      by (Some w) t p good is has =
          let its : p.pool ≡ Some w = sym has ∙ t in
          let x = good.some w its in
          (no_pool r.is_pool p w good is its, pool-there w x.0 x.1 x.2)

  is_whole : IsWhole (planned from next entries)
  is_whole = record {
    numbers = All-from_recursion (IsFileNumber (next + new_files entries)) (flat_map file_numbers after_repos) all-range;
    once = apart-distinct (flat_map file_numbers after_repos) all-apart;
    pools = All-from_recursion (PoolStands after_repos) after_repos (repos-all (end_of from next entries) (PoolStands after_repos) pools-stand);
  }

  -- ---- fields

  module _ (short : IsShort (planned from next entries)) where
    abbrev IsRepo : RepoFiles → Type 0
    IsRepo r = (IsPath r.path × IsPool r.pool) × (AreFiles (r.packs, (r.packed, r.loose)) × AreLasts Second (limit_of from entries) (r.repacked, r.refs_packed))

    abbrev HasFew : RepoFiles → Type 0
    HasFew r = (length r.packs < 2 ^ 32) × (length r.loose < 2 ^ 32)

    small : (q : List ℕ) (k : ℕ) → Known q k → k < 2 ^ 64
    small q k x = let r : k < next + new_files entries = (range q k x).1 in let s : next + new_files entries < 2 ^ 64 = h.files in omega arith

    loose-are : (q : List ℕ) (r : RepoFiles) → Fine (limit_of from entries) q r → Holds (Known q) r → Follows MayLoose [] r.loose
    loose-are q r f k =
        order.joined (λ (l : Loose). IsRef l.name × IsNumber l.file) (order.Rises name_of) MayLoose (λ front l a b. ((a.0, b), a.1)) [] r.loose
        (all_of (λ (l : Loose). IsRef l.name × IsNumber l.file) r.loose (λ l i. (each (λ l. IsRef l.name) r.loose l f.refs i, small q l.file (k.in_loose l.file (to-map file_of r.loose l i)))))
        (order.follows name_of r.loose (subst (λ (ns : List (List ℕ)). IsStrictlySortedBy key_cmp ns) (names-of-pairs r.loose) (rises (pairs r.loose) f.sorted)))

    repo-is : (q : List ℕ) (r : RepoFiles) → map.get (end_of from next entries) q ≡ Some r → length r.packs < 2 ^ 32 → length r.loose < 2 ^ 32 → IsRepo r
    repo-is q r e packs loose =
        let f : Fine (limit_of from entries) q r = fine-here q r e in
        let k : Holds (Known q) r = holds-here q r e in
        let applied : limit_of from entries < 2 ^ 64 = h.applied in
        let a : r.repacked ≤ limit_of from entries = f.repacked in
        let b : r.refs_packed ≤ limit_of from entries = f.refs_packed in (
          (subst (λ (p : List ℕ). IsPath p) (sym f.path_is) (path-good q r e), f.pool),
          (
            (
              (packs, each-follows IsNumber [] r.packs (all_of IsNumber r.packs (λ n i. small q n (k.in_packs n i)))),
              (packed-small r.packed (2 ^ 64) (omega arith) (λ n i. small q n (k.in_packed n i)), (loose, loose-are q r f k)),
            ),
            ((omega arith, le-leb r.repacked (limit_of from entries) a), (omega arith, le-leb r.refs_packed (limit_of from entries) b)),
          ),
        )

    repos-are-good : AllByRecursion IsRepo after_repos
    repos-are-good = all_of IsRepo after_repos (λ r i.
        let m : Shelves = end_of from next entries in
        let e = in-map (λ (e : List ℕ × RepoFiles). e.1) (map.entries m) r i in
        let few : (length r.packs < 2 ^ 32) × (length r.loose < 2 ^ 32) = each HasFew after_repos r (recursion_from_All HasFew after_repos short.lists) i in
        repo-is e.0.0 r (got-in m e.0 e.1 ∙ ap (λ (x : RepoFiles). Some x) (sym e.2)) few.0 few.1)

    paths-rise : IsStrictlySortedBy key_cmp (map_list path_of after_repos)
    paths-rise =
        let m : Shelves = end_of from next entries in
        subst (λ (ps : List (List ℕ)). IsStrictlySortedBy key_cmp ps) (sym (paths-back (map.entries m) (entries-all m (λ q r. r.path ≡ q) (λ q r e. (fine-here q r e).path_is)))) (rises (map.entries m) (entries_sorted m))

    fields_fit : FitsFields Second (planned from next entries)
    fields_fit =
        let one : 1 ≤ from.next = first-free in
        let free : from.next ≤ next = h.free in (
          ((let e : from.epoch < 2 ^ 64 - 1 = h.epoch in omega arith), (h.applied, (h.files, le-leb 1 (next + new_files entries) (omega arith)))),
          (
            short.repos,
            order.joined IsRepo (order.Rises path_of) (MayRepo Second (limit_of from entries)) (λ front r a b. (((a.0.0, b), (tt, a.0.1)), a.1)) [] after_repos repos-are-good (order.follows path_of after_repos paths-rise),
          ),
        )

    pub fits_on : Fits Second (planned from next entries)
    fits_on = (fields_fit, is_whole)
