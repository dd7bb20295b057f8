-- The records that the entries of one repository add: of a name, one entry alone adds some.
use Rattle.std.proofs.Common.{◌≡◌, ◌⊎◌, inl, inr, ⊎_elim, ℕ, Bool, true, false, cond, List, [], ◌∷◌, ◌++◌, filter, flat_map, Option, Some, None, refl, sym, ap, ◌∙◌, subst, append_assoc, map as map_list}
use Rattle.std.proofs.lemmas.List.{append-nil}
use Rattle.std.specs.List.{AllByRecursion}
use Rattle.std.specs.List.Sorted.{IsStrictlySortedBy}
use Rattle.std.specs.Ordering.{eq_by_cmp, is_eq}
use Rattle.std.specs.declared.cmp.Ordering.TheVariants.{Less}
use Rattle.std.specs.Cmp.Lexicographic.{nat_list_cmp_total}
use Rattle.std.specs.FinMap as map
use Rattle.std.specs.FinMap.{get-insert, get-empty}
use Rattle.gt_applied.proofs.Courses.{stepped, course, at_path, FitsHere, Legal, legal-append, legal_here, IsQuiet, course_writes}
use Rattle.gt_applied.proofs.Objects.{AreNew}
use Rattle.gt_applied.proofs.Filing.{all_push}
use Rattle.gt_apply.specs.Plan.{added_by, records_of}
use Rattle.gt_apply.proofs.Lists.{In, in-append, in-flat, to-flat, each, all-filter}
use Rattle.gt_base.specs.Built.{is_built, IsBuilt}
use Rattle.gt_base.proofs.Finding.{same_test, one_path}
use Rattle.gt_entry.specs.Fits.{HasChangeSpelling}
use Rattle.gt_model.proofs.Values.{itself}
use Rattle.gt_model.specs.Batches.{is_deletion, cut, repos_at}
use Rattle.gt_model.specs.Contents.{key_cmp, Names, Repo, Content, new_repo, with_refs, with_added, IsLegal}
use Rattle.gt_model.specs.Verdicts.{same_name}
use Rattle.gt_model.specs.declared.added.Added.{Added}
use Rattle.gt_model.specs.declared.change.Change.{Change}
use Rattle.gt_model.specs.declared.change.Change.TheVariants.{Create, Delete, Link, Write, Repack, Prune, PackRefs, Unlink}
use Rattle.gt_model.specs.declared.entry.Entry.{Entry}
use Rattle.gt_moves.specs.Standing.{last_added, AddsOne}

abbrev records : List Entry → List Added
records es = flat_map (λ e. added_by e.change) es

-- ---- names with records that are added

-- what was there under an added name doesn't matter
over : (q : List ℕ) (m n : Names) (added : List Added) → (map.get m q ≡ map.get n q) ⊎ ((a : Added) × In added a × (a.name ≡ q)) → map.get (with_added m added) q ≡ map.get (with_added n added) q
over q m n [] h = ⊎_elim (λ e. e) (λ r. absurd r.1) h
over q m n (a ∷ added) h = over q (map.insert m a.name a.whole) (map.insert n a.name a.whole) added (by (eq_by_cmp key_cmp q a.name) refl h)
  where
    by : (b : Bool) → eq_by_cmp key_cmp q a.name ≡ b → (map.get m q ≡ map.get n q) ⊎ ((x : Added) × In (a ∷ added) x × (x.name ≡ q))
        → (map.get (map.insert m a.name a.whole) q ≡ map.get (map.insert n a.name a.whole) q) ⊎ ((x : Added) × In added x × (x.name ≡ q))
    by true t h = inl (get-insert nat_list_cmp_total m a.name a.whole q ∙ ap (λ (b : Bool). cond b (Some a.whole) (map.get m q)) t ∙ sym (get-insert nat_list_cmp_total n a.name a.whole q ∙ ap (λ (b : Bool). cond b (Some a.whole) (map.get n q)) t))
    by false t h =
        ⊎_elim
        (λ e. inl (get-insert nat_list_cmp_total m a.name a.whole q ∙ ap (λ (o : Option (List ℕ)). cond (eq_by_cmp key_cmp q a.name) (Some a.whole) o) e ∙ sym (get-insert nat_list_cmp_total n a.name a.whole q)))
        (λ r. ⊎_elim (λ s. absurd (cc (sym t ∙ ap (λ (x : List ℕ). eq_by_cmp key_cmp q x) (ap (λ (y : Added). y.name) (sym s) ∙ r.2) ∙ itself q))) (λ i. inr (r.0, i, r.2)) r.1) h

-- none of these names
abbrev pub NoneNamed : List ℕ → List Added → Type 0
NoneNamed q added = (a : Added) → In added a → eq_by_cmp key_cmp q a.name ≡ false

beside : (q : List ℕ) (m : Names) (added : List Added) → NoneNamed q added → map.get (with_added m added) q ≡ map.get m q
beside q m [] none = refl
beside q m (a ∷ added) none =
    beside q (map.insert m a.name a.whole) added (λ b i. none b (inr i))
    ∙ get-insert nat_list_cmp_total m a.name a.whole q
    ∙ ap (λ (b : Bool). cond b (Some a.whole) (map.get m q)) (none a (inl refl))

stays : (q : List ℕ) (m : Names) (added : List Added) (v : List ℕ) → map.get m q ≡ Some v → (w : List ℕ) × (map.get (with_added m added) q ≡ Some w)
stays q m [] v h = (v, h)
stays q m (a ∷ added) v h = by (eq_by_cmp key_cmp q a.name) (get-insert nat_list_cmp_total m a.name a.whole q) (λ w e. stays q (map.insert m a.name a.whole) added w e)
  where
    by : (t : Bool) → map.get (map.insert m a.name a.whole) q ≡ cond t (Some a.whole) (map.get m q) → ((u : List ℕ) → map.get (map.insert m a.name a.whole) q ≡ Some u → (w : List ℕ) × (map.get (with_added (map.insert m a.name a.whole) added) q ≡ Some w))
        → (w : List ℕ) × (map.get (with_added (map.insert m a.name a.whole) added) q ≡ Some w)
    by true e more = more a.whole e
    by false e more = more v (e ∙ h)

-- an added name has a record
some_added : (m : Names) (added : List Added) (a : Added) → In added a → (w : List ℕ) × (map.get (with_added m added) a.name ≡ Some w)
some_added m [] a i = absurd i
some_added m (b ∷ added) a i =
    ⊎_elim
    (λ s. subst (λ (x : Added). (w : List ℕ) × (map.get (with_added (map.insert m b.name b.whole) added) x.name ≡ Some w)) (sym s)
    (stays b.name (map.insert m b.name b.whole) added b.whole (get-insert nat_list_cmp_total m b.name b.whole b.name ∙ ap (λ (t : Bool). cond t (Some b.whole) (map.get m b.name)) (itself b.name))))
    (λ j. some_added (map.insert m b.name b.whole) added a j) i

pub has_last : (change : Change) (a : Added) → In (added_by change) a → (w : List ℕ) × (last_added change a.name ≡ Some w)
has_last change a i = some_added map.empty (added_by change) a i

-- ---- entries apart

-- No later entry adds a name that an entry adds.
abbrev pub Apart : List Entry → Type 0
Apart [] = Unit {0}
Apart (e ∷ es) = ((a : Added) → In (added_by e.change) a → NoneNamed a.name (records es)) × Apart es

joined : (m : Names) (one two : List Added) → with_added m (one ++ two) ≡ with_added (with_added m one) two
joined m [] two = refl
joined m (a ∷ one) two = joined (map.insert m a.name a.whole) one two

-- The last record of a name is the last one that the one entry adds.
last_there : (m : Names) (es : List Entry) (e : Entry) (a : Added) → Apart es → In es e → In (added_by e.change) a → map.get (with_added m (records es)) a.name ≡ last_added e.change a.name
last_there m [] e a apart i j = absurd i
last_there m (x ∷ es) e a apart i j =
    ap (λ (n : Names). map.get n a.name) (joined m (added_by x.change) (records es))
    ∙ ⊎_elim
    (λ s. let here : In (added_by x.change) a = subst (λ (y : Entry). In (added_by y.change) a) s j in
    beside a.name (with_added m (added_by x.change)) (records es) (apart.0 a here)
    ∙ over a.name m map.empty (added_by x.change) (inr (a, here, refl))
    ∙ ap (λ (y : Entry). last_added y.change a.name) (sym s))
    (λ k. last_there (with_added m (added_by x.change)) es e a apart.1 k j) i

pub last_of : (own : List Entry) (e : Entry) (a : Added) → Apart own → In own e → In (added_by e.change) a → map.get (records_of own) a.name ≡ last_added e.change a.name
last_of own e a apart i j = last_there map.empty own e a apart i j

-- ---- legal entries are apart

new_apart : (m : Names) (added later : List Added) → AreNew (with_added m added) later → (a : Added) → In added a → NoneNamed a.name later
new_apart m added later new a i b j = by (eq_by_cmp key_cmp a.name b.name) refl
  where
    by : (t : Bool) → eq_by_cmp key_cmp a.name b.name ≡ t → t ≡ false
    by false t = refl
    by true t =
        let some = some_added m added a i in
        absurd (cc (sym some.1 ∙ ap (λ (q : List ℕ). map.get (with_added m added) q) (one_path a.name b.name t) ∙ each (λ c. map.get (with_added m added) c.name ≡ None) later b new j))

apart_some : (x : Repo) (es : List Entry) → AllByRecursion IsQuiet es → Legal (Some x) es → Apart es
apart_some x [] quiet legal = tt
apart_some x (e ∷ es) quiet legal = by e.change quiet.0.0 quiet.0.1 legal.0 legal.1 (λ y l. apart_some y es quiet.1 l)
  where
    by : (change : Change) → is_built change ≡ true → is_deletion change ≡ false → FitsHere (Some x) change → Legal (stepped (Some x) change) es → ((y : Repo) → Legal (Some y) es → Apart es) → ((a : Added) → In (added_by change) a → NoneNamed a.name (records es)) × Apart es
    by (Create pool) b d fits rest more = absurd (cc fits)
    by Delete b d fits rest more = absurd (cc d)
    by (Link pool) b d fits rest more = absurd (cc b)
    by (Write refs needed added) b d fits rest more =
        let y : Repo = record x { refs = with_refs x.refs refs; own = with_added x.own added } in
        (new_apart x.own added (records es) (course_writes y es quiet.1 rest).1, more y rest)
    by (Repack file dropped) b d fits rest more = absurd (cc b)
    by (Prune file dropped) b d fits rest more = absurd (cc b)
    by (PackRefs file) b d fits rest more = absurd (cc b)
    by (Unlink file) b d fits rest more = absurd (cc b)

apart_any : (o : Option Repo) (es : List Entry) → AllByRecursion IsQuiet es → Legal o es → Apart es
apart_any (Some x) es quiet legal = apart_some x es quiet legal
apart_any None [] quiet legal = tt
apart_any None (e ∷ es) quiet legal = by e.change quiet.0.0 quiet.0.1 legal.0 legal.1
  where
    by : (change : Change) → is_built change ≡ true → is_deletion change ≡ false → FitsHere None change → Legal (stepped None change) es → ((a : Added) → In (added_by change) a → NoneNamed a.name (records es)) × Apart es
    by (Create pool) b d fits rest = (λ a i. absurd i, apart_some (new_repo pool) es quiet.1 rest)
    by Delete b d fits rest = absurd (cc d)
    by (Link pool) b d fits rest = absurd (cc b)
    by (Write refs needed added) b d fits rest = absurd fits
    by (Repack file dropped) b d fits rest = absurd (cc b)
    by (Prune file dropped) b d fits rest = absurd (cc b)
    by (PackRefs file) b d fits rest = absurd (cc b)
    by (Unlink file) b d fits rest = absurd (cc b)

-- a deletion adds nothing
none_by : (change : Change) → is_deletion change ≡ true → (a : Added) → In (added_by change) a → ⊥
none_by (Create pool) d a i = i
none_by Delete d a i = i
none_by (Link pool) d a i = i
none_by (Write refs needed added) d a i = absurd (cc d)
none_by (Repack file dropped) d a i = i
none_by (Prune file dropped) d a i = i
none_by (PackRefs file) d a i = i
none_by (Unlink file) d a i = i

before_last : (es : List Entry) (e : Entry) → is_deletion e.change ≡ true → (a : Added) → In (records (es ++ e ∷ [])) a → In (records es) a
before_last es e d a i =
    let (f, here, adds) = in-flat (λ (x : Entry). added_by x.change) (es ++ e ∷ []) a i in
    ⊎_elim (λ j. to-flat (λ (x : Entry). added_by x.change) es f a j adds)
    (λ j. ⊎_elim (λ s. absurd (none_by e.change d a (subst (λ (x : Entry). In (added_by x.change) a) s adds))) absurd j) (in-append es (e ∷ []) f here)

apart_push : (es : List Entry) (e : Entry) → is_deletion e.change ≡ true → Apart es → Apart (es ++ e ∷ [])
apart_push [] e d apart = (λ a i b j. absurd j, tt)
apart_push (x ∷ es) e d apart = (λ a i b j. apart.0 a i b (before_last es e d b j), apart_push es e d apart.1)

gone : (o : Option Repo) (change : Change) → is_deletion change ≡ true → stepped o change ≡ None
gone o (Create pool) d = absurd (cc d)
gone o Delete d = refl
gone o (Link pool) d = absurd (cc d)
gone o (Write refs needed added) d = absurd (cc d)
gone o (Repack file dropped) d = absurd (cc d)
gone o (Prune file dropped) d = absurd (cc d)
gone o (PackRefs file) d = absurd (cc d)
gone o (Unlink file) d = absurd (cc d)

cut_apart : (o : Option Repo) (first es : List Entry) → AllByRecursion IsQuiet first → AllByRecursion IsBuilt es → Legal o (first ++ es) → AllByRecursion Apart (cut first es)
cut_apart o first [] quiet built legal = (apart_any o first quiet (subst (Legal o) (append-nil first) legal), tt)
cut_apart o first (e ∷ es) quiet built legal =
    by (is_deletion e.change) refl (λ l. cut_apart None [] es tt built.1 l) (λ q. cut_apart o (first ++ e ∷ []) es q built.1 (subst (Legal o) (sym (append_assoc first (e ∷ []) es)) legal))
  where
    by : (d : Bool) → is_deletion e.change ≡ d → (Legal None es → AllByRecursion Apart (cut [] es)) → (AllByRecursion IsQuiet (first ++ e ∷ []) → AllByRecursion Apart (cut (first ++ e ∷ []) es)) → AllByRecursion Apart (cond d ((first ++ e ∷ []) ∷ cut [] es) (cut (first ++ e ∷ []) es))
    by true d ends goes =
        let parts = legal-append o first (e ∷ es) legal in
        (apart_push first e d (apart_any o first quiet parts.0), ends (subst (λ (x : Option Repo). Legal x es) (gone (course o first) e.change d) parts.1.1))
    by false d ends goes = goes (all_push IsQuiet first e quiet (built.0, d))

pub repos_apart : (c : Content) (p : ℕ) (entries : List Entry) (path : List ℕ) → AllByRecursion IsBuilt entries → IsLegal c p entries → AllByRecursion Apart (repos_at path entries)
repos_apart c p entries path built legal =
    cut_apart (map.get c path) [] (at_path path entries) tt (all-filter IsBuilt (λ e. same_name e.path path) entries built) (legal_here c p entries path built legal)

-- ---- a name once in a change

abbrev named : List Added → List (List ℕ)
named added = map_list (λ a. a.name) added

none_filter : (q : List ℕ) (added : List Added) → NoneNamed q added → filter (λ a. same_name a.name q) added ≡ []
none_filter q [] none = refl
none_filter q (a ∷ added) none =
    ap (λ (b : Bool). cond b (a ∷ filter (λ a. same_name a.name q) added) (filter (λ a. same_name a.name q) added)) (same_test a.name q ∙ none a (inl refl))
    ∙ none_filter q added (λ b i. none b (inr i))

less_named : (x q : List ℕ) (added : List Added) → q ≡ x → AllByRecursion (λ y. key_cmp x y ≡ Less) (named added) → NoneNamed q added
less_named x q [] same less a i = absurd i
less_named x q (b ∷ added) same less a i =
    ⊎_elim (λ s. ap (λ (y : List ℕ). eq_by_cmp key_cmp y a.name) same ∙ ap (λ (y : Added). eq_by_cmp key_cmp x y.name) s ∙ ap is_eq less.0) (λ j. less_named x q added same less.1 a j) i

one_added : (m : Names) (added : List Added) (q w : List ℕ) → IsStrictlySortedBy key_cmp (named added) → map.get m q ≡ None → map.get (with_added m added) q ≡ Some w → filter (λ a. same_name a.name q) added ≡ record { name = q; whole = w } ∷ []
unfolding IsStrictlySortedBy
one_added m [] q w sorted none is = absurd (cc (sym none ∙ is))
one_added m (a ∷ added) q w sorted none is = by (eq_by_cmp key_cmp q a.name) refl (λ gone. one_added (map.insert m a.name a.whole) added q w sorted.1 gone is)
  where
    here : (b : Bool) → eq_by_cmp key_cmp q a.name ≡ b → map.get (map.insert m a.name a.whole) q ≡ cond b (Some a.whole) (map.get m q)
    here b t = get-insert nat_list_cmp_total m a.name a.whole q ∙ ap (λ (c : Bool). cond c (Some a.whole) (map.get m q)) t

    found : (b : Bool) → eq_by_cmp key_cmp q a.name ≡ b → filter (λ a. same_name a.name q) (a ∷ added) ≡ cond b (a ∷ filter (λ a. same_name a.name q) added) (filter (λ a. same_name a.name q) added)
    found b t = ap (λ (c : Bool). cond c (a ∷ filter (λ a. same_name a.name q) added) (filter (λ a. same_name a.name q) added)) (same_test a.name q ∙ t)

    by : (b : Bool) → eq_by_cmp key_cmp q a.name ≡ b → (map.get (map.insert m a.name a.whole) q ≡ None → filter (λ a. same_name a.name q) added ≡ record { name = q; whole = w } ∷ []) → filter (λ a. same_name a.name q) (a ∷ added) ≡ record { name = q; whole = w } ∷ []
    by true t more =
        let same : q ≡ a.name = one_path q a.name t in
        let others : NoneNamed q added = less_named a.name q added same sorted.0 in
        let whole : Some a.whole ≡ Some w = sym (here true t) ∙ sym (beside q (map.insert m a.name a.whole) added others) ∙ is in
        let is_w : a.whole ≡ w = cc whole in
        found true t ∙ ap (λ (l : List Added). a ∷ l) (none_filter q added others) ∙ (λ i. record { name = sym same i; whole = is_w i } ∷ [])
    by false t more = found false t ∙ more (here false t ∙ none)

pub adds_one : (change : Change) (q w : List ℕ) → HasChangeSpelling change → last_added change q ≡ Some w → AddsOne change q w
unfolding IsStrictlySortedBy
adds_one (Create pool) q w h is = one_added map.empty [] q w tt (get-empty key_cmp q) is
adds_one Delete q w h is = one_added map.empty [] q w tt (get-empty key_cmp q) is
adds_one (Link pool) q w h is = one_added map.empty [] q w tt (get-empty key_cmp q) is
adds_one (Write refs needed added) q w h is = one_added map.empty added q w h.added_ascend (get-empty key_cmp q) is
adds_one (Repack file dropped) q w h is = one_added map.empty [] q w tt (get-empty key_cmp q) is
adds_one (Prune file dropped) q w h is = one_added map.empty [] q w tt (get-empty key_cmp q) is
adds_one (PackRefs file) q w h is = one_added map.empty [] q w tt (get-empty key_cmp q) is
adds_one (Unlink file) q w h is = one_added map.empty [] q w tt (get-empty key_cmp q) is
