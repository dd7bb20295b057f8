-- What holds where each check of a commit passes.
use Rattle.std.proofs.Common.{◌≡◌, ℕ, Bool, true, false, not, ◌||◌, cond, is_some, List, [], ◌∷◌, map as map_list, filter, find, Option, Some, None, Result, Ok, Err, refl, sym, ◌∙◌, ap, subst, IsTrue, true≢false, is_ok, length, arith}
use Rattle.std.specs.List.{list_any, AllByRecursion, IsAmong}
use Rattle.std.specs.Option.{option_map, option_or}
use Rattle.std.specs.Ordering.{eq_by_cmp, is_eq}
use Rattle.std.specs.Cmp.Lexicographic.{nat_list_cmp_total, texts_ties, nat_list_eq_equiv}
use Rattle.std.specs.FinMap as map
use Rattle.std.specs.FinMap.{FinMap, entries-insert, get-from_entries, get-entries, get-insert}
use Rattle.std.specs.FinMap.Entries.{put, by_order}
use Rattle.std.proofs.lemmas.List.Elements.{All-from_recursion}
use Rattle.std.proofs.lemmas.Bool.{not-false}
use Rattle.std.specs.declared.cmp.Ordering.{Ordering}
use Rattle.std.specs.declared.cmp.Ordering.TheVariants.{Less, Equal, Greater}
use Rattle.gt_model.specs.declared.added.Added.{Added}
use Rattle.gt_model.specs.declared.needer.Needer.TheVariants.{Ref}
use Rattle.gt_model.specs.declared.refusal.Refusal.{Refusal}
use Rattle.gt_model.specs.declared.refusal.Refusal.TheVariants.{MissingObject}
use Rattle.gt_model.specs.declared.update.RefUpdate.{RefUpdate}
use Rattle.gt_object.specs.Whole.{deps}
use Rattle.gt_model.specs.Contents.{Content, Names, key_cmp, has_repo, and_then, is_visible, with_added}
use Rattle.gt_model.specs.Verdicts.{Staged, Ready, same_name, first_some, target, is_staged, is_present, by_name, added_records, needed_names, conflict, directory, missing_value, missing_dep, failed, verdict}
use Rattle.gt_model.proofs.Values.{same_key, with_added_keeps}

no_items : {A : Type 0} (xs : List A) → length xs ≡ 0 → xs ≡ []
no_items [] e = refl
no_items (x ∷ xs) e = absurd (omega arith)

-- the empty map has no entry
pub entries-empty : (X : Type 0) → map.entries (map.empty {X = X} {R = key_cmp}) ≡ []
entries-empty X = no_items _ (sym (map.len-entries map.empty) ∙ map.len-empty key_cmp X)

-- ---- options and lists

pub some_none : {A : Type 0} {P : Type 0} (x : A) → Some x ≡ None → P
some_none x e = absurd (true≢false (ap is_some e))

or_none : {A : Type 0} (a b : Option A) → option_or a b ≡ None → (a ≡ None) × (b ≡ None)
or_none None b e = (refl, e)
or_none (Some x) b e = some_none x e

map_none : {A B : Type 0} (f : A → B) (o : Option A) → option_map f o ≡ None → o ≡ None
map_none f None e = refl
map_none f (Some x) e = some_none (f x) e

pub cond_none : {A : Type 0} (b : Bool) (x : A) → cond b None (Some x) ≡ None → b ≡ true
cond_none true x e = refl
cond_none false x e = some_none x e

if_none : {A : Type 0} (b : Bool) (o : Option A) (x : A) → cond b o (Some x) ≡ None → (b ≡ true) × (o ≡ None)
if_none true o x e = (refl, e)
if_none false o x e = some_none x e

first_some_none : {A B : Type 0} (f : A → Option B) (xs : List A) → first_some f xs ≡ None → AllByRecursion (λ x. f x ≡ None) xs
first_some_none f [] e = tt
first_some_none f (x ∷ xs) e = let parts = or_none (f x) (first_some f xs) e in (parts.0, first_some_none f xs parts.1)

pub every_weaker : {A : Type 0} (P Q : A → Type 0) → ((x : A) → P x → Q x) → (xs : List A) → AllByRecursion P xs → AllByRecursion Q xs
every_weaker P Q f [] h = tt
every_weaker P Q f (x ∷ xs) h = (f x h.0, every_weaker P Q f xs h.1)

pub every_filter : {A : Type 0} (P : A → Type 0) (p : A → Bool) (xs : List A) → AllByRecursion P xs → AllByRecursion P (filter p xs)
every_filter P p [] h = tt
every_filter P p (x ∷ xs) h =
    elim (p x) as (λ b. AllByRecursion P (cond b (x ∷ filter p xs) (filter p xs))) [ true ↦ (h.0, every_filter P p xs h.1) | false ↦ every_filter P p xs h.1 ]

-- a test that no item passes
find_none : {A : Type 0} (p : A → Bool) (xs : List A) → find p xs ≡ None → AllByRecursion (λ x. p x ≡ false) xs
find_none p [] e = tt
find_none p (x ∷ xs) e = by (find_none p xs) (p x) refl e
  where
    by : (find p xs ≡ None → AllByRecursion (λ x. p x ≡ false) xs) → (b : Bool) → p x ≡ b → cond b (Some x) (find p xs) ≡ None → AllByRecursion (λ x. p x ≡ false) (x ∷ xs)
    by rest true t e = some_none x e
    by rest false t e = (t, rest e)

pub among : {A : Type 0} (P : A → Type 0) (xs : List A) (x : A) → AllByRecursion P xs → IsAmong xs x → P x
among P xs x h (i, at) = subst P (sym at.1) (All-from_recursion P xs h i x at.0)

-- ---- what passes

-- a good verdict: each check passed, and the updates are the staged ones
pub record Passed (c : Content) (path : List ℕ) (s : Staged) : Type 0 where
  pub there : IsTrue (has_repo c path)
  pub values : missing_value c path s ≡ None
  pub deps : missing_dep c path s ≡ None

pub passed : (c : Content) (path : List ℕ) (s : Staged) → failed c path s ≡ None → Passed c path s
passed c path s e =
    let one = if_none (has_repo c path) _ _ e in
    let two = or_none (conflict c path s) _ one.1 in
    let three = or_none (directory c path s) _ two.1 in
    let four = or_none (missing_value c path s) (missing_dep c path s) three.1 in
    record { there = one.0; values = four.0; deps = four.1 }

pub good : (c : Content) (path : List ℕ) (s : Staged) (ready : Ready) → verdict c path s ≡ Ok ready → (failed c path s ≡ None) × (ready.refs ≡ s.refs)
good c path s ready e = by (failed c path s) refl e
  where
    refs_of : Result Ready Refusal → List RefUpdate
    refs_of (Ok r) = r.refs
    refs_of (Err r) = s.refs

    by : (f : Option Refusal) → failed c path s ≡ f
        → elim f as (λ f. Result Ready Refusal) [ Some refusal ↦ Err refusal | None ↦ Ok (record { refs = s.refs; needed = needed_names c path s; added = map_list (λ a. a.name) (added_records c path s) }) ] ≡ Ok ready
        → (failed c path s ≡ None) × (ready.refs ≡ s.refs)
    by None is e = (is, sym (ap refs_of e))
    by (Some r) is e = absurd (true≢false (sym (ap is_ok e)))

-- each target will be there
pub targets_present : (c : Content) (path : List ℕ) (s : Staged) → missing_value c path s ≡ None → AllByRecursion (λ u. (new : List ℕ) → target u ≡ Some new → IsTrue (is_present c path s new)) s.refs
targets_present c path s e =
    every_weaker _ _ (λ u none new is. cond_none (is_present c path s new) _ (sym (ap (λ o. and_then o (λ new. cond (is_present c path s new) None (Some (MissingObject new (Ref u.name))))) is) ∙ none)) s.refs (first_some_none _ s.refs e)

-- each object that an added record mentions will be there
pub deps_present : (c : Content) (path : List ℕ) (s : Staged) → missing_dep c path s ≡ None
    → AllByRecursion (λ a. (dep : List ℕ) → IsAmong (deps a.whole) dep → IsTrue (is_present c path s dep)) (added_records c path s)
deps_present c path s e =
    every_weaker _ _ (λ a none dep is. not-false (is_present c path s dep) (among (λ dep. not (is_present c path s dep) ≡ false) (deps a.whole) dep (find_none _ (deps a.whole) (map_none _ _ none)) is)) (added_records c path s) (first_some_none _ (added_records c path s) e)

-- ---- staged records by their names

-- what holds of the new entry and of the old ones, under each key that ties with it
every_put : {X : Type 0} (P : List ℕ → X → Type 0) (k : List ℕ) (v : X) (es : List (List ℕ × X)) → P k v → AllByRecursion (λ e. P e.0 e.1) es → AllByRecursion (λ e. P e.0 e.1) (put key_cmp k v es)
every_put P k v [] p h = (p, tt)
every_put {X} P k v (e ∷ es) p h = by (every_put P k v es p h.1) (key_cmp k e.0) refl
  where
    by : AllByRecursion (λ (e : List ℕ × X). P e.0 e.1) (put key_cmp k v es) → (o : Ordering) → key_cmp k e.0 ≡ o → AllByRecursion (λ (e : List ℕ × X). P e.0 e.1) (by_order o ((k, v) ∷ e ∷ es) ((e.0, v) ∷ es) (e ∷ put key_cmp k v es))
    by rest Less is = (p, h)
    by rest Equal is = (subst (λ (q : List ℕ). P q v) (same_key k e.0 (ap is_eq is)) p, h.1)
    by rest Greater is = (h.0, rest)

-- the staged records, each under its name
abbrev pub named : List Added → FinMap key_cmp Added
named records = map.from_entries (map_list (λ a. (a.name, a)) records)

-- each stands under its name
pub entries_named : (P : Added → Type 0) (records : List Added) → AllByRecursion P records → AllByRecursion (λ e. (e.1.name ≡ e.0) × P e.1) (map.entries (named records))
entries_named P [] h = subst (λ (es : List (List ℕ × Added)). AllByRecursion (λ e. (e.1.name ≡ e.0) × P e.1) es) (sym (entries-empty Added)) tt
entries_named P (a ∷ rest) h =
    subst (λ (es : List (List ℕ × Added)). AllByRecursion (λ e. (e.1.name ≡ e.0) × P e.1) es) (sym (entries-insert nat_list_cmp_total (named rest) a.name a))
    (every_put (λ k v. (v.name ≡ k) × P v) a.name a (map.entries (named rest)) (refl, h.0) (entries_named P rest h.1))

every_value : (P : Added → Type 0) (es : List (List ℕ × Added)) → AllByRecursion (λ e. (e.1.name ≡ e.0) × P e.1) es → AllByRecursion P (map_list (λ e. e.1) es)
every_value P [] h = tt
every_value P (e ∷ es) h = (h.0.1, every_value P es h.1)

-- what holds of the staged records holds of the added ones
pub every_added : (c : Content) (path : List ℕ) (s : Staged) (P : Added → Type 0) → AllByRecursion P s.records → AllByRecursion P (added_records c path s)
every_added c path s P h = every_filter P _ (by_name s.records) (every_value P (map.entries (named s.records)) (entries_named P s.records h))

-- a staged name has an entry
pub find_staged : (name : List ℕ) (records : List Added) → list_any (λ a. same_name a.name name) records ≡ true → IsTrue (is_some (map.find key_cmp name (map_list (λ a. (a.name, a)) records)))
find_staged name [] e = absurd (true≢false (sym e))
find_staged name (a ∷ rest) e = by (find_staged name rest) (same_name a.name name) refl e
  where
    ties : same_name a.name name ≡ eq_by_cmp key_cmp name a.name
    ties = nat_list_eq_equiv.symm a.name name ∙ texts_ties name a.name

    by : (list_any (λ a. same_name a.name name) rest ≡ true → IsTrue (is_some (map.find key_cmp name (map_list (λ a. (a.name, a)) rest)))) → (b : Bool) → same_name a.name name ≡ b → (b || list_any (λ a. same_name a.name name) rest) ≡ true → IsTrue (is_some (cond (eq_by_cmp key_cmp name a.name) (Some a) (map.find key_cmp name (map_list (λ a. (a.name, a)) rest))))
    by later true t e = ap (λ b. is_some (cond b (Some a) (map.find key_cmp name (map_list (λ a. (a.name, a)) rest)))) (sym ties ∙ t)
    by later false t e = ap (λ b. is_some (cond b (Some a) (map.find key_cmp name (map_list (λ a. (a.name, a)) rest)))) (sym ties ∙ t) ∙ later e

-- a name that has an entry, and isn't left out, gets its record
laid : (keep : List ℕ → Bool) (name : List ℕ) → keep name ≡ true → (es : List (List ℕ × Added)) (m : Names) → AllByRecursion (λ e. (e.1.name ≡ e.0) × Unit {0}) es → IsTrue (is_some (map.find key_cmp name es))
    → IsTrue (is_some (map.get (with_added m (filter (λ a. keep a.name) (map_list (λ e. e.1) es))) name))
laid keep name kept [] m h e = absurd (true≢false (sym e))
laid keep name kept (x ∷ es) m h e = by (λ (n : Names). laid keep name kept es n h.1) (eq_by_cmp key_cmp name x.0) refl e
  where
    rest : List Added
    rest = filter (λ a. keep a.name) (map_list (λ e. e.1) es)

    other : ((n : Names) → IsTrue (is_some (map.find key_cmp name es)) → IsTrue (is_some (map.get (with_added n rest) name))) → (b : Bool) → IsTrue (is_some (map.find key_cmp name es)) → IsTrue (is_some (map.get (with_added m (cond b (x.1 ∷ rest) rest)) name))
    other later true e = later (map.insert m x.1.name x.1.whole) e
    other later false e = later m e

    this : eq_by_cmp key_cmp name x.0 ≡ true → IsTrue (is_some (map.get (with_added m (x.1 ∷ rest)) name))
    this t = with_added_keeps (map.insert m x.1.name x.1.whole) rest name (ap is_some (get-insert nat_list_cmp_total m x.1.name x.1.whole name) ∙ ap (λ b. is_some (cond b (Some x.1.whole) (map.get m name))) (ap (eq_by_cmp key_cmp name) h.0.0 ∙ t))

    by : ((n : Names) → IsTrue (is_some (map.find key_cmp name es)) → IsTrue (is_some (map.get (with_added n rest) name))) → (b : Bool) → eq_by_cmp key_cmp name x.0 ≡ b → IsTrue (is_some (cond b (Some x.1) (map.find key_cmp name es))) → IsTrue (is_some (map.get (with_added m (cond (keep x.1.name) (x.1 ∷ rest) rest)) name))
    by later true t e = subst (λ (b : Bool). IsTrue (is_some (map.get (with_added m (cond b (x.1 ∷ rest) rest)) name))) (sym (ap keep (h.0.0 ∙ sym (same_key name x.0 t)) ∙ kept)) (this t)
    by later false t e = other later (keep x.1.name) e

-- a staged name that isn't visible is among what is added
pub staged_laid : (c : Content) (path : List ℕ) (s : Staged) (name : List ℕ) (m : Names) → IsTrue (is_staged s name) → is_visible c path name ≡ false → IsTrue (is_some (map.get (with_added m (added_records c path s)) name))
staged_laid c path s name m staged hidden =
    laid (λ n. not (is_visible c path n)) name (ap not hidden) (map.entries (named s.records)) m (entries_named (λ a. Unit {0}) s.records (every s.records))
    (sym (ap is_some (sym (get-from_entries nat_list_cmp_total (map_list (λ a. (a.name, a)) s.records) name) ∙ get-entries (named s.records) name)) ∙ find_staged name s.records staged)
  where
    every : (xs : List Added) → AllByRecursion (λ a. Unit {0}) xs
    every [] = tt
    every (x ∷ xs) = (tt, every xs)
