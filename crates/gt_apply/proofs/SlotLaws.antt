-- What a plan makes of the files at one path.
use Rattle.std.proofs.Common.{◌≡◌, ℕ, ◌+◌, ◌<◌, ◌≤◌, Bool, true, false, cond, ◌&&◌, ◌||◌, List, [], ◌∷◌, ◌++◌, length, Option, Some, None, nat_eq, refl, sym, ap, subst, ◌∙◌, filter, fold, flat_map, arith, length-append}
use Rattle.std.specs.Option.{option_map}
use Rattle.std.specs.List.{AllByRecursion, list_any}
use Rattle.std.specs.Ordering.{eq_by_cmp}
use Rattle.std.specs.Cmp.Lexicographic.{nat_list_cmp_total, pointwise}
use Rattle.std.proofs.lemmas.Bool.{eqb-true}
use Rattle.std.specs.FinMap as map
use Rattle.std.specs.FinMap.{get-insert, get-remove}
use Rattle.gt_manifest.specs.declared.manifest.RepoFiles.{RepoFiles}
use Rattle.gt_model.specs.Batches.{is_deletion, files_of, cut, repos_at, files_at}
use Rattle.gt_model.specs.Contents.{key_cmp}
use Rattle.gt_model.specs.Verdicts.{same_name}
use Rattle.gt_model.specs.declared.change.Change.{Change}
use Rattle.gt_model.specs.declared.change.Change.TheVariants.{Create, Delete, Link, Write, Repack, Prune, PackRefs, Unlink}
use Rattle.gt_model.specs.declared.entry.Entry.{Entry}
use Rattle.gt_model.proofs.Repositories.{get-alike}
use Rattle.gt_model.proofs.Values.{same_key}
use Rattle.gt_apply.specs.Plan.{Shelves, changed, no_files, placed, rearranged, begun, entered, filed_repo, filed_repos, filed_paths}
use Rattle.gt_apply.proofs.Lists.{all-append}
use Rattle.gt_apply.proofs.TreeLaws.{entered-other, entered-deletion}

-- ---- the files at one path

-- what an entry of the path makes of its files, if there are any
abbrev pub enter : Option RepoFiles → Entry → Option RepoFiles
enter o e = cond (is_deletion e.change) None (option_map (rearranged e.position e.change) o)

abbrev pub first_of : Change → List ℕ → Option RepoFiles → Option RepoFiles
first_of (Create pool) path o = Some (no_files path pool)
first_of change path o = o

abbrev pub start : List ℕ → List Entry → Option RepoFiles → Option RepoFiles
start path [] o = o
start path (e ∷ es) o = first_of e.change path o

abbrev pub slot : List ℕ → ℕ → List Entry → Option RepoFiles → Option RepoFiles
slot path n own o = fold enter (option_map (placed n (files_of own)) (start path own o)) own

abbrev pub slots : List ℕ → ℕ → List (List Entry) → Option RepoFiles → Option RepoFiles
slots path n [] o = o
slots path n (own ∷ later) o = slots path (n + length (files_of own)) later (slot path n own o)

-- the number from which on the files of a path are
abbrev pub begin_of : List Entry → ℕ → List (List ℕ) → List ℕ → ℕ
begin_of entries n [] q = n
begin_of entries n (path ∷ paths) q = cond (eq_by_cmp key_cmp q path) n (begin_of entries (n + length (files_at path entries)) paths q)

-- ---- what stands at a path

-- It is the one at this path.
abbrev pub Is : List ℕ → Entry → Type 0
Is path e = e.path ≡ path

get-changed : (s : Shelves) (p : List ℕ) (f : RepoFiles → RepoFiles) (q : List ℕ) → map.get (changed s p f) q ≡ cond (eq_by_cmp key_cmp q p) (option_map f (map.get s q)) (map.get s q)
get-changed s p f q = by (map.get s p) refl
  where
    none : (b : Bool) → eq_by_cmp key_cmp q p ≡ b → map.get s p ≡ None → map.get s q ≡ cond b (option_map f (map.get s q)) (map.get s q)
    none true t e = let n : map.get s q ≡ None = get-alike s p q t ∙ e in n ∙ ap (option_map f) (sym n)
    none false t e = refl

    some : (b : Bool) (r : RepoFiles) → eq_by_cmp key_cmp q p ≡ b → map.get s p ≡ Some r → cond b (Some (f r)) (map.get s q) ≡ cond b (option_map f (map.get s q)) (map.get s q)
    some true r t e = sym (ap (option_map f) (get-alike s p q t ∙ e))
    some false r t e = refl

    by : (o : Option RepoFiles) → map.get s p ≡ o → map.get (changed s p f) q ≡ cond (eq_by_cmp key_cmp q p) (option_map f (map.get s q)) (map.get s q)
    by None e = rw e (none _ refl e)
    by (Some r) e = rw e (get-insert nat_list_cmp_total s p (f r) q ∙ some _ r refl e)

-- once more at the same key
twice : {A : Type 0} (b : Bool) (f g : A → A) (x : A) → cond b (g (cond b (f x) x)) (cond b (f x) x) ≡ cond b (g (f x)) x
twice true f g x = refl
twice false f g x = refl

get-entered : (s : Shelves) (p : List ℕ) (e : Entry) (q : List ℕ) → Is p e → map.get (entered s e) q ≡ cond (eq_by_cmp key_cmp q p) (enter (map.get s q) e) (map.get s q)
get-entered s p e q is = by (is_deletion e.change) refl ∙ ap (λ k. cond (eq_by_cmp key_cmp q k) (enter (map.get s q) e) (map.get s q)) is
  where
    by : (b : Bool) → is_deletion e.change ≡ b → map.get (entered s e) q ≡ cond (eq_by_cmp key_cmp q e.path) (enter (map.get s q) e) (map.get s q)
    by true t = ap (λ (u : Shelves). map.get u q) (sym (entered-deletion s e t)) ∙ get-remove nat_list_cmp_total s e.path q ∙ rw t refl
    by false t = ap (λ (u : Shelves). map.get u q) (sym (entered-other s e t)) ∙ get-changed s e.path (rearranged e.position e.change) q ∙ rw t refl

get-all : (s : Shelves) (p : List ℕ) (own : List Entry) (q : List ℕ) → AllByRecursion (Is p) own → map.get (fold entered s own) q ≡ cond (eq_by_cmp key_cmp q p) (fold enter (map.get s q) own) (map.get s q)
get-all s p [] q all = by (eq_by_cmp key_cmp q p)
  where
    by : (b : Bool) → map.get s q ≡ cond b (map.get s q) (map.get s q)
    by true = refl
    by false = refl
get-all s p (e ∷ es) q all =
    get-all (entered s e) p es q all.1
    ∙ ap (λ (o : Option RepoFiles). cond (eq_by_cmp key_cmp q p) (fold enter o es) o) (get-entered s p e q all.0)
    ∙ twice (eq_by_cmp key_cmp q p) (λ o. enter o e) (λ o. fold enter o es) (map.get s q)

get-begun : (s : Shelves) (p : List ℕ) (own : List Entry) (q : List ℕ) → AllByRecursion (Is p) own → map.get (begun own s) q ≡ cond (eq_by_cmp key_cmp q p) (start p own (map.get s q)) (map.get s q)
get-begun s p [] q all = same (eq_by_cmp key_cmp q p)
  where
    same : (b : Bool) → map.get s q ≡ cond b (map.get s q) (map.get s q)
    same true = refl
    same false = refl
get-begun s p (e ∷ es) q all = by e.change ∙ ap (λ k. cond (eq_by_cmp key_cmp q k) (first_of e.change k (map.get s q)) (map.get s q)) all.0
  where
    same : (b : Bool) → map.get s q ≡ cond b (map.get s q) (map.get s q)
    same true = refl
    same false = refl

    by : (change : Change) → map.get (begun (record e { change = change } ∷ es) s) q ≡ cond (eq_by_cmp key_cmp q e.path) (first_of change e.path (map.get s q)) (map.get s q)
    by (Create pool) = get-insert nat_list_cmp_total s e.path (no_files e.path pool) q
    by Delete = same (eq_by_cmp key_cmp q e.path)
    by (Link pool) = same (eq_by_cmp key_cmp q e.path)
    by (Write refs needed added) = same (eq_by_cmp key_cmp q e.path)
    by (Repack file dropped) = same (eq_by_cmp key_cmp q e.path)
    by (Prune file dropped) = same (eq_by_cmp key_cmp q e.path)
    by (PackRefs file) = same (eq_by_cmp key_cmp q e.path)
    by (Unlink file) = same (eq_by_cmp key_cmp q e.path)

get-filed_repo : (s : Shelves) (p : List ℕ) (n : ℕ) (own : List Entry) (q : List ℕ) → AllByRecursion (Is p) own → map.get (filed_repo p n own s) q ≡ cond (eq_by_cmp key_cmp q p) (slot p n own (map.get s q)) (map.get s q)
get-filed_repo s p n own q all =
    get-all (changed (begun own s) p (placed n (files_of own))) p own q all
    ∙ ap (λ (o : Option RepoFiles). cond (eq_by_cmp key_cmp q p) (fold enter o own) o) (get-changed (begun own s) p (placed n (files_of own)) q)
    ∙ twice (eq_by_cmp key_cmp q p) (option_map (placed n (files_of own))) (λ o. fold enter o own) (map.get (begun own s) q)
    ∙ ap (λ (o : Option RepoFiles). cond (eq_by_cmp key_cmp q p) (fold enter (option_map (placed n (files_of own)) o) own) o) (get-begun s p own q all)
    ∙ twice (eq_by_cmp key_cmp q p) (start p own) (λ o. fold enter (option_map (placed n (files_of own)) o) own) (map.get s q)

get-filed_repos : (s : Shelves) (p : List ℕ) (n : ℕ) (repos : List (List Entry)) (q : List ℕ) → AllByRecursion (λ own. AllByRecursion (Is p) own) repos
    → map.get (filed_repos p n repos s) q ≡ cond (eq_by_cmp key_cmp q p) (slots p n repos (map.get s q)) (map.get s q)
get-filed_repos s p n [] q all = by (eq_by_cmp key_cmp q p)
  where
    by : (b : Bool) → map.get s q ≡ cond b (map.get s q) (map.get s q)
    by true = refl
    by false = refl
get-filed_repos s p n (own ∷ later) q all =
    get-filed_repos (filed_repo p n own s) p (n + length (files_of own)) later q all.1
    ∙ ap (λ (o : Option RepoFiles). cond (eq_by_cmp key_cmp q p) (slots p (n + length (files_of own)) later o) o) (get-filed_repo s p n own q all.0)
    ∙ twice (eq_by_cmp key_cmp q p) (slot p n own) (slots p (n + length (files_of own)) later) (map.get s q)

-- ---- entries of one path, cut

same_list : (a b : List ℕ) → pointwise nat_eq a b ≡ true → a ≡ b
same_list [] [] e = refl
same_list [] (y ∷ ys) e = cc
same_list (x ∷ xs) [] e = cc
same_list (x ∷ xs) (y ∷ ys) e = by (nat_eq x y) refl (same_list xs ys) e
  where
    by : (b : Bool) → nat_eq x y ≡ b → (pointwise nat_eq xs ys ≡ true → xs ≡ ys) → (b && pointwise nat_eq xs ys) ≡ true → (x ∷ xs) ≡ (y ∷ ys)
    by true t tail h =
        let first : x ≡ y = eqb-true x y t in
        let rest : xs ≡ ys = tail h in
        cc
    by false t tail h = cc

-- those of a path are of that path
pub filtered_are : (path : List ℕ) (entries : List Entry) → AllByRecursion (Is path) (filter (λ e. same_name e.path path) entries)
filtered_are path [] = tt
filtered_are path (e ∷ es) = by (same_name e.path path) refl (filtered_are path es)
  where
    by : (b : Bool) → same_name e.path path ≡ b → AllByRecursion (Is path) (filter (λ e. same_name e.path path) es) → AllByRecursion (Is path) (cond b (e ∷ filter (λ e. same_name e.path path) es) (filter (λ e. same_name e.path path) es))
    by true t more = (same_list e.path path t, more)
    by false t more = more

-- what holds of each entry holds of each in the pieces
pub cut_all : (P : Entry → Type 0) (first es : List Entry) → AllByRecursion P first → AllByRecursion P es → AllByRecursion (λ own. AllByRecursion P own) (cut first es)
cut_all P first [] a b = (a, tt)
cut_all P first (e ∷ es) a b =
    by (is_deletion e.change) (cut_all P [] es tt b.1) (cut_all P (first ++ e ∷ []) es (all-append P first (e ∷ []) a (b.0, tt)) b.1)
  where
    by : (d : Bool) → AllByRecursion (λ own. AllByRecursion P own) (cut [] es) → AllByRecursion (λ own. AllByRecursion P own) (cut (first ++ e ∷ []) es)
        → AllByRecursion (λ own. AllByRecursion P own) (cond d ((first ++ e ∷ []) ∷ cut [] es) (cut (first ++ e ∷ []) es))
    by true x y = (all-append P first (e ∷ []) a (b.0, tt), x)
    by false x y = y

pub repos_are : (path : List ℕ) (entries : List Entry) → AllByRecursion (λ own. AllByRecursion (Is path) own) (repos_at path entries)
repos_are path entries = cut_all (Is path) [] (filter (λ e. same_name e.path path) entries) tt (filtered_are path entries)

-- ---- all paths

-- Paths of which none is another.
abbrev pub KeysApart : List (List ℕ) → Type 0
KeysApart [] = Unit {0}
KeysApart (x ∷ xs) = AllByRecursion (λ y. eq_by_cmp key_cmp x y ≡ false) xs × KeysApart xs

-- what stands at another path stays
pub get-other : (entries : List Entry) (n : ℕ) (paths : List (List ℕ)) (s : Shelves) (q : List ℕ) → AllByRecursion (λ p. eq_by_cmp key_cmp q p ≡ false) paths → map.get (filed_paths entries n paths s) q ≡ map.get s q
get-other entries n [] s q none = refl
get-other entries n (p ∷ paths) s q none =
    get-other entries (n + length (files_at p entries)) paths (filed_repos p n (repos_at p entries) s) q none.1
    ∙ get-filed_repos s p n (repos_at p entries) q (repos_are p entries)
    ∙ ap (λ b. cond b (slots p n (repos_at p entries) (map.get s q)) (map.get s q)) none.0

-- what stands at one of them is what its entries make of what was there
pub get-path : (entries : List Entry) (n : ℕ) (paths : List (List ℕ)) (s : Shelves) (q : List ℕ) → KeysApart paths → list_any (eq_by_cmp key_cmp q) paths ≡ true
    → map.get (filed_paths entries n paths s) q ≡ slots q (begin_of entries n paths q) (repos_at q entries) (map.get s q)
get-path entries n [] s q apart has = cc
get-path entries n (p ∷ paths) s q apart has =
    by (eq_by_cmp key_cmp q p) refl has (get-path entries (n + length (files_at p entries)) paths (filed_repos p n (repos_at p entries) s) q apart.1)
  where
    here : Option RepoFiles
    here = slots p n (repos_at p entries) (map.get s q)

    first : map.get (filed_repos p n (repos_at p entries) s) q ≡ cond (eq_by_cmp key_cmp q p) here (map.get s q)
    first = get-filed_repos s p n (repos_at p entries) q (repos_are p entries)

    by : (b : Bool) → eq_by_cmp key_cmp q p ≡ b → (b || list_any (eq_by_cmp key_cmp q) paths) ≡ true
        → (list_any (eq_by_cmp key_cmp q) paths ≡ true → map.get (filed_paths entries (n + length (files_at p entries)) paths (filed_repos p n (repos_at p entries) s)) q
        ≡ slots q (begin_of entries (n + length (files_at p entries)) paths q) (repos_at q entries) (map.get (filed_repos p n (repos_at p entries) s) q))
        → map.get (filed_paths entries (n + length (files_at p entries)) paths (filed_repos p n (repos_at p entries) s)) q
        ≡ slots q (cond b n (begin_of entries (n + length (files_at p entries)) paths q)) (repos_at q entries) (map.get s q)
    by true t has more =
        let same : q ≡ p = same_key q p t in
        get-other entries (n + length (files_at p entries)) paths (filed_repos p n (repos_at p entries) s) q
        (let P : List ℕ → Type 0 = λ k. AllByRecursion (λ y. eq_by_cmp key_cmp k y ≡ false) paths in subst P (sym same) apart.0)
        ∙ first
        ∙ ap (λ c. cond c here (map.get s q)) t
        ∙ ap (λ (k : List ℕ). slots k n (repos_at k entries) (map.get s q)) (sym same)
    by false t has more =
        more has
        ∙ ap (slots q (begin_of entries (n + length (files_at p entries)) paths q) (repos_at q entries)) (first ∙ ap (λ c. cond c here (map.get s q)) t)

-- ---- the numbers of each path

pub begin-low : (entries : List Entry) (n : ℕ) (paths : List (List ℕ)) (q : List ℕ) → n ≤ begin_of entries n paths q
begin-low entries n [] q = omega arith
begin-low entries n (p ∷ paths) q = by (eq_by_cmp key_cmp q p) (begin-low entries (n + length (files_at p entries)) paths q)
  where
    by : (b : Bool) → n + length (files_at p entries) ≤ begin_of entries (n + length (files_at p entries)) paths q → n ≤ cond b n (begin_of entries (n + length (files_at p entries)) paths q)
    by true more = omega arith
    by false more = omega arith

pub begin-high : (entries : List Entry) (n : ℕ) (paths : List (List ℕ)) (q : List ℕ) → list_any (eq_by_cmp key_cmp q) paths ≡ true
    → begin_of entries n paths q + length (files_at q entries) ≤ n + length (flat_map (λ path. files_at path entries) paths)
begin-high entries n [] q has = cc
begin-high entries n (p ∷ paths) q has =
    let long : length (flat_map (λ path. files_at path entries) (p ∷ paths)) ≡ length (files_at p entries) + length (flat_map (λ path. files_at path entries) paths) = length-append (files_at p entries) (flat_map (λ path. files_at path entries) paths) in
    by (eq_by_cmp key_cmp q p) refl long has (begin-high entries (n + length (files_at p entries)) paths q)
  where
    by : (b : Bool) → eq_by_cmp key_cmp q p ≡ b
        → length (flat_map (λ path. files_at path entries) (p ∷ paths)) ≡ length (files_at p entries) + length (flat_map (λ path. files_at path entries) paths)
        → (b || list_any (eq_by_cmp key_cmp q) paths) ≡ true
        → (list_any (eq_by_cmp key_cmp q) paths ≡ true → begin_of entries (n + length (files_at p entries)) paths q + length (files_at q entries) ≤ (n + length (files_at p entries)) + length (flat_map (λ path. files_at path entries) paths))
        → cond b n (begin_of entries (n + length (files_at p entries)) paths q) + length (files_at q entries) ≤ n + length (flat_map (λ path. files_at path entries) (p ∷ paths))
    by true t long has more = let e : length (files_at q entries) ≡ length (files_at p entries) = ap (λ (k : List ℕ). length (files_at k entries)) (same_key q p t) in omega arith
    by false t long has more = let m : begin_of entries (n + length (files_at p entries)) paths q + length (files_at q entries) ≤ (n + length (files_at p entries)) + length (flat_map (λ path. files_at path entries) paths) = more has in omega arith

-- a new number is of one path alone
pub begin-one : (entries : List Entry) (n : ℕ) (paths : List (List ℕ)) (q r : List ℕ) (k : ℕ) → list_any (eq_by_cmp key_cmp q) paths ≡ true → list_any (eq_by_cmp key_cmp r) paths ≡ true
    → begin_of entries n paths q ≤ k → k < begin_of entries n paths q + length (files_at q entries)
    → begin_of entries n paths r ≤ k → k < begin_of entries n paths r + length (files_at r entries) → q ≡ r
begin-one entries n [] q r k a b c d e f = cc
begin-one entries n (p ∷ paths) q r k a b c d e f =
    by (eq_by_cmp key_cmp q p) (eq_by_cmp key_cmp r p) refl refl a b c d e f (begin-low entries (n + length (files_at p entries)) paths q) (begin-low entries (n + length (files_at p entries)) paths r)
    (begin-one entries (n + length (files_at p entries)) paths q r k)
  where
    by : (x y : Bool) → eq_by_cmp key_cmp q p ≡ x → eq_by_cmp key_cmp r p ≡ y → (x || list_any (eq_by_cmp key_cmp q) paths) ≡ true → (y || list_any (eq_by_cmp key_cmp r) paths) ≡ true
        → cond x n (begin_of entries (n + length (files_at p entries)) paths q) ≤ k → k < cond x n (begin_of entries (n + length (files_at p entries)) paths q) + length (files_at q entries)
        → cond y n (begin_of entries (n + length (files_at p entries)) paths r) ≤ k → k < cond y n (begin_of entries (n + length (files_at p entries)) paths r) + length (files_at r entries)
        → n + length (files_at p entries) ≤ begin_of entries (n + length (files_at p entries)) paths q → n + length (files_at p entries) ≤ begin_of entries (n + length (files_at p entries)) paths r
        → (list_any (eq_by_cmp key_cmp q) paths ≡ true → list_any (eq_by_cmp key_cmp r) paths ≡ true
        → begin_of entries (n + length (files_at p entries)) paths q ≤ k → k < begin_of entries (n + length (files_at p entries)) paths q + length (files_at q entries)
        → begin_of entries (n + length (files_at p entries)) paths r ≤ k → k < begin_of entries (n + length (files_at p entries)) paths r + length (files_at r entries) → q ≡ r)
        → q ≡ r
    by true true s t a b c d e f g h more = same_key q p s ∙ sym (same_key r p t)
    by true false s t a b c d e f g h more = let z : length (files_at q entries) ≡ length (files_at p entries) = ap (λ (k : List ℕ). length (files_at k entries)) (same_key q p s) in absurd (omega arith)
    by false true s t a b c d e f g h more = let z : length (files_at r entries) ≡ length (files_at p entries) = ap (λ (k : List ℕ). length (files_at k entries)) (same_key r p t) in absurd (omega arith)
    by false false s t a b c d e f g h more = more a b c d e f
