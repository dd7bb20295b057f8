-- What entries make of the repository at one path, and that only its own entries do.
use Rattle.std.proofs.Common.{◌≡◌, ℕ, ◌+◌, Bool, true, false, cond, not, ◌&&◌, is_some, List, [], ◌∷◌, ◌++◌, filter, flat_map, Option, Some, None, refl, sym, ap, ◌∙◌, subst, IsTrue}
use Rattle.std.proofs.lemmas.Bool.{and_parts}
use Rattle.std.specs.List.{AllByRecursion, list_all}
use Rattle.std.specs.Option.{option_map, option_or}
use Rattle.std.specs.Ordering.{eq_by_cmp}
use Rattle.std.specs.Cmp.Lexicographic.{nat_list_cmp_total}
use Rattle.std.specs.FinMap as map
use Rattle.std.specs.FinMap.{get-insert, get-remove}
use Rattle.gt_base.specs.Built.{is_built, IsBuilt}
use Rattle.gt_base.proofs.Finding.{same_test, one_path}
use Rattle.gt_model.specs.Batches.{is_deletion}
use Rattle.gt_model.specs.Contents.{key_cmp, Names, Repo, Content, and_then, new_repo, own, is_visible, has_repo, finds_old, change_fits, IsLegal, with_value, with_refs, with_added, changed, after, after_all}
use Rattle.gt_model.specs.Verdicts.{same_name}
use Rattle.gt_model.specs.declared.added.Added.{Added}
use Rattle.gt_model.specs.declared.change.Change.{Change}
use Rattle.gt_model.specs.declared.change.Change.TheVariants.{Create, Delete, Link, Write, Repack, Prune, PackRefs, Unlink}
use Rattle.gt_model.specs.declared.entry.Entry.{Entry}
use Rattle.gt_model.specs.declared.update.RefUpdate.{RefUpdate}
use Rattle.gt_model.proofs.Repositories.{get-at_repo}
use Rattle.gt_apply.specs.Plan.{added_by, updates_by}
use Rattle.gt_applied.proofs.Objects.{AreNew}
use Rattle.gt_applied.proofs.Typed.{all_append}
use Rattle.gt_applied.proofs.Repos.{wrote}

-- ---- one repository

-- what a change makes of a repository, or of none; other kinds than those that are built leave it here
abbrev pub stepped : Option Repo → Change → Option Repo
stepped o (Create pool) = Some (new_repo pool)
stepped o Delete = None
stepped o (Write refs needed added) = option_map {T = Repo} (λ r. record r { refs = with_refs r.refs refs; own = with_added r.own added }) o
stepped o change = o

abbrev pub course : Option Repo → List Entry → Option Repo
course o [] = o
course o (e ∷ es) = course (stepped o e.change) es

-- the entries of a path
abbrev pub at_path : List ℕ → List Entry → List Entry
at_path path entries = filter (λ e. same_name e.path path) entries

pub get-changed : (c : Content) (path : List ℕ) (change : Change) (q : List ℕ) → is_built change ≡ true → map.get (changed c path change) q ≡ cond (eq_by_cmp key_cmp q path) (stepped (map.get c q) change) (map.get c q)
unfolding changed
get-changed c path (Create pool) q b = get-insert nat_list_cmp_total c path (new_repo pool) q
get-changed c path Delete q b = get-remove nat_list_cmp_total c path q
get-changed c path (Link pool) q b = absurd (cc b)
get-changed c path (Write refs needed added) q b = get-at_repo c path (λ r. record r { refs = with_refs r.refs refs; own = with_added r.own added }) q
get-changed c path (Repack file dropped) q b = absurd (cc b)
get-changed c path (Prune file dropped) q b = absurd (cc b)
get-changed c path (PackRefs file) q b = absurd (cc b)
get-changed c path (Unlink file) q b = absurd (cc b)

get-after : (c : Content) (e : Entry) (q : List ℕ) → IsBuilt e → map.get (after c e) q ≡ cond (same_name e.path q) (stepped (map.get c q) e.change) (map.get c q)
get-after c e q b = get-changed c e.path e.change q b ∙ ap (λ (t : Bool). cond t (stepped (map.get c q) e.change) (map.get c q)) (sym (same_test e.path q))

-- The content at a path is the course of the path's own entries.
pub get-after_all : (c : Content) (entries : List Entry) (q : List ℕ) → AllByRecursion IsBuilt entries → map.get (after_all c entries) q ≡ course (map.get c q) (at_path q entries)
get-after_all c [] q built = refl
get-after_all c (e ∷ es) q built =
    get-after_all (after c e) es q built.1 ∙ ap (λ (o : Option Repo). course o (at_path q es)) (get-after c e q built.0) ∙ by (same_name e.path q)
  where
    by : (b : Bool) → course (cond b (stepped (map.get c q) e.change) (map.get c q)) (at_path q es) ≡ course (map.get c q) (cond b (e ∷ at_path q es) (at_path q es))
    by true = refl
    by false = refl

pub course-append : (o : Option Repo) (one two : List Entry) → course o (one ++ two) ≡ course (course o one) two
course-append o [] two = refl
course-append o (e ∷ one) two = course-append (stepped o e.change) one two

-- ---- what fits

-- The repository is there, and has none of these records.
abbrev pub IsNewIn : Option Repo → List Added → Type 0
IsNewIn None added = ⊥
IsNewIn (Some r) added = AreNew r.own added

-- What is created isn't there yet, and what is written to is, without the records that come.
abbrev pub FitsHere : Option Repo → Change → Type 0
FitsHere o (Create pool) = o ≡ None
FitsHere o (Write refs needed added) = IsNewIn o added
FitsHere o change = Unit {0}

abbrev pub Legal : Option Repo → List Entry → Type 0
Legal o [] = Unit {0}
Legal o (e ∷ es) = FitsHere o e.change × Legal (stepped o e.change) es

pub legal-append : (o : Option Repo) (one two : List Entry) → Legal o (one ++ two) → Legal o one × Legal (course o one) two
legal-append o [] two legal = (tt, legal)
legal-append o (e ∷ one) two legal = let rest = legal-append (stepped o e.change) one two legal.1 in ((legal.0, rest.0), rest.1)

pub none_there : {A : Type 0} (o : Option A) → not (is_some o) ≡ true → o ≡ None
none_there None h = refl
none_there (Some a) h = absurd (cc h)

none_first : {A : Type 0} (o p : Option A) → not (is_some (option_or o p)) ≡ true → o ≡ None
none_first None p h = refl
none_first (Some a) p h = absurd (cc h)

module _ (c : Content) (path : List ℕ) where
  new_here : (r : Repo) (added : List Added) → map.get c path ≡ Some r → list_all (λ a. not (is_visible c path a.name)) added ≡ true → AreNew r.own added
  new_here r [] is h = tt
  new_here r (a ∷ added) is h =
      let parts = and_parts (not (is_visible c path a.name)) (list_all (λ a. not (is_visible c path a.name)) added) h in
      (ap (λ (o : Option Repo). and_then o (λ r. map.get r.own a.name)) (sym is) ∙ none_first (own c path a.name) _ parts.0, new_here r added is parts.1)

  write_here : (refs : List RefUpdate) (added : List Added) → ((has_repo c path && list_all (finds_old c path) refs) && list_all (λ a. not (is_visible c path a.name)) added) ≡ true → IsNewIn (map.get c path) added
  write_here refs added h =
      let one = and_parts (has_repo c path && list_all (finds_old c path) refs) (list_all (λ a. not (is_visible c path a.name)) added) h in
      let two = and_parts (has_repo c path) (list_all (finds_old c path) refs) one.0 in
      by (map.get c path) refl two.0 one.1
    where
      by : (o : Option Repo) → map.get c path ≡ o → is_some o ≡ true → list_all (λ a. not (is_visible c path a.name)) added ≡ true → IsNewIn o added
      by None is there new = absurd (cc there)
      by (Some r) is there new = new_here r added is new

  fits_here : (change : Change) → IsTrue (change_fits c path change) → FitsHere (map.get c path) change
  fits_here (Create pool) h = none_there (map.get c path) h
  fits_here Delete h = tt
  fits_here (Link pool) h = tt
  fits_here (Write refs needed added) h = write_here refs added h
  fits_here (Repack file dropped) h = tt
  fits_here (Prune file dropped) h = tt
  fits_here (PackRefs file) h = tt
  fits_here (Unlink file) h = tt

pub legal_here : (c : Content) (p : ℕ) (entries : List Entry) (q : List ℕ) → AllByRecursion IsBuilt entries → IsLegal c p entries → Legal (map.get c q) (at_path q entries)
legal_here c p [] q built legal = tt
legal_here c p (e ∷ es) q built legal =
    let P : Option Repo → Type 0 = λ o. Legal o (at_path q es) in
    by (same_name e.path q) refl (subst P (get-after c e q built.0) (legal_here (after c e) (p + 1) es q built.1 legal.2))
  where
    by : (b : Bool) → same_name e.path q ≡ b → Legal (cond b (stepped (map.get c q) e.change) (map.get c q)) (at_path q es) → Legal (map.get c q) (cond b (e ∷ at_path q es) (at_path q es))
    by true t rest =
        let same : q ≡ e.path = one_path q e.path (sym (same_test e.path q) ∙ t) in
        (subst (λ (x : List ℕ). FitsHere (map.get c x) e.change) (sym same) (fits_here c e.path e.change legal.1), rest)
    by false t rest = rest

-- ---- writes

-- It is built, and no deletion.
abbrev pub IsQuiet : Entry → Type 0
IsQuiet e = (is_built e.change ≡ true) × (is_deletion e.change ≡ false)

none_before : (m : Names) (added : List Added) (q : List ℕ) → map.get (with_added m added) q ≡ None → map.get m q ≡ None
none_before m [] q h = h
none_before m (a ∷ added) q h = by (eq_by_cmp key_cmp q a.name) (sym (get-insert nat_list_cmp_total m a.name a.whole q) ∙ none_before (map.insert m a.name a.whole) added q h)
  where
    by : (b : Bool) → cond b (Some a.whole) (map.get m q) ≡ None → map.get m q ≡ None
    by true h = absurd (cc h)
    by false h = h

new_before : (m : Names) (added later : List Added) → AreNew (with_added m added) later → AreNew m later
new_before m added [] h = tt
new_before m added (a ∷ later) h = (none_before m added a.name h.0, new_before m added later h.1)

abbrev records : List Entry → List Added
records es = flat_map (λ e. added_by e.change) es

abbrev updates : List Entry → List RefUpdate
updates es = flat_map (λ e. updates_by e.change) es

refs_join : (m : Names) (one two : List RefUpdate) → with_refs (with_refs m one) two ≡ with_refs m (one ++ two)
refs_join m [] two = refl
refs_join m (u ∷ one) two = refs_join (with_value m u.name u.new) one two

added_join : (m : Names) (one two : List Added) → with_added (with_added m one) two ≡ with_added m (one ++ two)
added_join m [] two = refl
added_join m (a ∷ one) two = added_join (map.insert m a.name a.whole) one two

-- A course without a creation and a deletion writes, and only what is new.
pub course_writes : (x : Repo) (es : List Entry) → AllByRecursion IsQuiet es → Legal (Some x) es → (course (Some x) es ≡ Some (wrote x es)) × AreNew x.own (records es)
course_writes x [] quiet legal = (refl, tt)
course_writes x (e ∷ es) quiet legal = by e.change quiet.0.0 quiet.0.1 legal.0 legal.1 (λ y l. course_writes y es quiet.1 l)
  where
    by : (change : Change) → is_built change ≡ true → is_deletion change ≡ false → FitsHere (Some x) change → Legal (stepped (Some x) change) es
        → ((y : Repo) → Legal (Some y) es → (course (Some y) es ≡ Some (wrote y es)) × AreNew y.own (records es))
        → (course (stepped (Some x) change) es ≡ Some (record x { refs = with_refs x.refs (updates_by change ++ updates es); own = with_added x.own (added_by change ++ records es) })) × AreNew x.own (added_by change ++ records es)
    by (Create pool) b d fits legal rest = absurd (cc fits)
    by Delete b d fits legal rest = absurd (cc d)
    by (Link pool) b d fits legal rest = absurd (cc b)
    by (Write refs needed added) b d fits legal rest =
        let y : Repo = record x { refs = with_refs x.refs refs; own = with_added x.own added } in
        let r = rest y legal in
        (r.0 ∙ (λ i. Some (record x { refs = refs_join x.refs refs (updates es) i; own = added_join x.own added (records es) i })), all_append (λ (a : Added). map.get x.own a.name ≡ None) added (records es) fits (new_before x.own added (records es) r.1))
    by (Repack file dropped) b d fits legal rest = absurd (cc b)
    by (Prune file dropped) b d fits legal rest = absurd (cc b)
    by (PackRefs file) b d fits legal rest = absurd (cc b)
    by (Unlink file) b d fits legal rest = absurd (cc b)
