-- Laws of the sets of candidates.
use Rattle.std.proofs.Common.{◌≡◌, ℕ, ◌+◌, ◌<◌, ◌≤◌, ◌⊎◌, inl, inr, Bool, true, false, cond, ◌&&◌, is_some, List, [], ◌∷◌, Option, Some, None, Result, Ok, Err, OnOk, OnErr, refl, sym, ap, ◌∙◌, subst, filter, find as list_find, map as list_map, nat_eq, arith}
use Rattle.std.specs.Cmp.Lexicographic.{pointwise}
use Rattle.std.proofs.lemmas.Bool.{eqb-true, cases_lt}
use Rattle.std.specs.BTreeSet.{BTreeSet}
use Rattle.std.specs.Ordering.{eq_by_cmp, is_eq}
use Rattle.std.specs.declared.cmp.Ordering.{Ordering}
use Rattle.std.specs.declared.cmp.Ordering.TheVariants.{Less, Equal, Greater}
use Rattle.std.specs.FinMap as map
use Rattle.std.specs.FinMap.{from_entries}
use Rattle.std.specs.List.Sorted.{IsStrictlySortedBy}
use Rattle.gt_model.specs.declared.change.Change.{Change}
use Rattle.gt_model.specs.declared.change.Change.TheVariants.{Create, Delete, Link, Write, Repack, Prune, PackRefs, Unlink}
use Rattle.gt_model.specs.declared.entry.Entry.{Entry}
use Rattle.gt_model.specs.Contents.{key_cmp, is_this}
use Rattle.gt_versions.proofs.Keys.{key_cmp-IsAntisymmetric, at_key, get_key, spread}
use Rattle.gt_objset.specs.declared.head.HeadChange.{HeadChange}
use Rattle.gt_objset.specs.Places.{Head, pool_in, head_here, head_after}
use Rattle.gt_objset.specs.Track.{Track}
use Rattle.gt_objset.specs.Table.{head_in_slot, head_at, head_change, IsSlotUpTo, AllUpTo, SameSlot, IsSameTable, IsPrepared, Adds}
use Rattle.gt_objset.specs.Members.{Sets, has_path, is_noted, notes, NotesMore}
use Rattle.gt_objset.specs.Kept.{Covers, CoversFrom, IsKept}
use Rattle.gt_objset.specs.declared.place.Place.{Place}
use Rattle.gt_objset.specs.Seeds.{SeedsRepo, SeedsObject}
use Rattle.gt_objset.proofs.TableLaws.{PoolSets, table, slots, same_up, notes_at}
use Rattle.gt_objset.proofs.TrackLaws.{head_past}
use Rattle.gt_objset.proofs.ListLaws.{first, find-first, same_where}

is_eq-true : (o : Ordering) → is_eq o ≡ true → o ≡ Equal
is_eq-true Less e = cc
is_eq-true Equal e = refl
is_eq-true Greater e = cc

pub same_key : (a b : List ℕ) → eq_by_cmp key_cmp a b ≡ true → a ≡ b
same_key a b t = key_cmp-IsAntisymmetric a b (is_eq-true (key_cmp a b) t)

same_list : (a b : List ℕ) → pointwise nat_eq a b ≡ true → a ≡ b
same_list [] [] e = refl
same_list [] (y ∷ ys) e = cc
same_list (x ∷ xs) [] e = cc
same_list (x ∷ xs) (y ∷ ys) e = by (nat_eq x y) refl (same_list xs ys) e
  where
    by : (b : Bool) → nat_eq x y ≡ b → (pointwise nat_eq xs ys ≡ true → xs ≡ ys) → (b && pointwise nat_eq xs ys) ≡ true → (x ∷ xs) ≡ (y ∷ ys)
    by true t tail h =
        let first : x ≡ y = eqb-true x y t in
        let rest : xs ≡ ys = tail h in
        cc
    by false t tail h = cc

this_one : (o : Option (List ℕ)) (pool : List ℕ) → is_this o pool ≡ true → o ≡ Some pool
this_one None pool e = cc
this_one (Some w) pool e = ap (λ v. Some v) (same_list w pool e)

-- what is noted of what a repository is given, for its pool
noted_pool : (m : Sets) (path : List ℕ) (given : Option (List ℕ)) (pool : List ℕ) → notes m path (Some given) ≡ true → is_this given pool ≡ true → is_noted m pool path ≡ true
noted_pool m path given pool n t = let P : Option (List ℕ) → Type 0 = λ o. notes m path (Some o) ≡ true in subst P (this_one given pool t) n

module _ (floor : ℕ) where
  pub more_cover : (old new : Sets) (f : List ℕ → Option Track) → NotesMore old new → CoversFrom floor old f → CoversFrom floor new f
  more_cover old new f n h = λ p low pool path is. n pool path (h p low pool path is)

  pub same_cover : (m : Sets) (f g : List ℕ → Option Track) → ((path : List ℕ) → SameSlot (f path) (g path)) → CoversFrom floor m f → CoversFrom floor m g
  same_cover m f g s h = λ p low pool path is. h p low pool path (ap (λ o. is_this (pool_in o) pool) (sym ((s path).head p)) ∙ is)

  -- ---- what is seeded

  pub heads_cover : (m : Sets) (f g : List ℕ → Option Track) → ((q : List ℕ) → IsSlotUpTo floor (g q)) → ((q : List ℕ) → head_in_slot (g q) floor ≡ head_in_slot (f q) floor) → CoversFrom floor m f → CoversFrom floor m g
  heads_cover m f g up heads h = λ p low pool q is. h floor (omega arith) pool q (ap (λ o. is_this (pool_in o) pool) (sym (head_past floor p (g q) low (up q) ∙ heads q)) ∙ is)

  pub seed_cover : (m : Sets) (f g : List ℕ → Option Track) (path : List ℕ) (what : Head) → ((q : List ℕ) → IsSlotUpTo floor (g q))
      → ((q : List ℕ) → head_in_slot (g q) floor ≡ cond (eq_by_cmp key_cmp q path) (Some what) (head_in_slot (f q) floor))
      → notes m path (Some what.pool) ≡ true → CoversFrom floor m f → CoversFrom floor m g
  seed_cover m f g path what up heads n h = λ p low pool q is.
      by pool q (eq_by_cmp key_cmp q path) refl (ap (λ o. is_this (pool_in o) pool) (sym (head_past floor p (g q) low (up q) ∙ heads q)) ∙ is)
    where
      by : (pool q : List ℕ) (b : Bool) → eq_by_cmp key_cmp q path ≡ b → is_this (pool_in (cond b (Some what) (head_in_slot (f q) floor))) pool ≡ true → is_noted m pool q ≡ true
      by pool q true t is = ap (is_noted m pool) (same_key q path t) ∙ noted_pool m path what.pool pool n is
      by pool q false t is = h floor (omega arith) pool q is

-- ---- an entry that is added

-- whoever has a pool after a change had it before, or is given it
kept_or_given : (ch : Change) (o : Option Head) (pool : List ℕ) → is_this (pool_in (head_here ch o)) pool ≡ true → (is_this (pool_in o) pool ≡ true) ⊎ ((head_change ch).pool ≡ Some (Some pool))
kept_or_given (Create p) o pool is = let no : ⊥ = cc in absurd no
kept_or_given Delete o pool is = let no : ⊥ = cc in absurd no
kept_or_given (Link w) None pool is = let no : ⊥ = cc in absurd no
kept_or_given (Link w) (Some h) pool is = inr (ap (λ v. Some (Some v)) (same_list w pool is))
kept_or_given (Write refs needed added) o pool is = inl is
kept_or_given (Repack file dropped) o pool is = inl is
kept_or_given (Prune file dropped) o pool is = inl is
kept_or_given (PackRefs file) o pool is = inl is
kept_or_given (Unlink file) None pool is = let no : ⊥ = cc in absurd no
kept_or_given (Unlink file) (Some h) pool is = let no : ⊥ = cc in absurd no

module _ (floor front : ℕ) (order : floor ≤ front) (m : Sets) (e : Entry) (given : HeadChange) (is_given : given ≡ head_change e.change) (noted : notes m e.path given.pool ≡ true)
    (f g : List ℕ → Option Track) (up : (q : List ℕ) → IsSlotUpTo (front + 1) (g q))
    (next : (q : List ℕ) → head_in_slot (g q) (front + 1) ≡ head_after e q (head_in_slot (f q) front))
    (before : (p : ℕ) (q : List ℕ) → p ≤ front → head_in_slot (g q) p ≡ head_in_slot (f q) p) (h : CoversFrom floor m f) where
  given_here : (pool : List ℕ) → (head_change e.change).pool ≡ Some (Some pool) → is_noted m pool e.path ≡ true
  given_here pool is = let P : Option (Option (List ℕ)) → Type 0 = λ o. notes m e.path o ≡ true in subst P (ap (λ (c : HeadChange). c.pool) is_given ∙ is) noted

  has_after : (pool q : List ℕ) (b : Bool) → eq_by_cmp key_cmp q e.path ≡ b → is_this (pool_in (cond b (head_here e.change (head_in_slot (f q) front)) (head_in_slot (f q) front))) pool ≡ true → is_noted m pool q ≡ true
  has_after pool q true t is = by (kept_or_given e.change (head_in_slot (f q) front) pool is)
    where
      by : (is_this (pool_in (head_in_slot (f q) front)) pool ≡ true) ⊎ ((head_change e.change).pool ≡ Some (Some pool)) → is_noted m pool q ≡ true
      by (inl k) = h front order pool q k
      by (inr k) = ap (is_noted m pool) (same_key q e.path t) ∙ given_here pool k
  has_after pool q false t is = h front order pool q is

  pub added_cover : CoversFrom floor m g
  added_cover p low pool q is = by (cases_lt front p)
    where
      by : (front < p) ⊎ (p ≤ front) → is_noted m pool q ≡ true
      by (inr l) = h p low pool q (ap (λ o. is_this (pool_in o) pool) (sym (before p q l)) ∙ is)
      by (inl l) = has_after pool q (eq_by_cmp key_cmp q e.path) refl (ap (λ o. is_this (pool_in o) pool) (sym (head_past (front + 1) p (g q) (omega arith) (up q) ∙ next q)) ∙ is)

-- ---- what is kept

-- the sets and the repositories of these entries
abbrev sets_of : PoolSets → Sets
sets_of ss w = map.get (from_entries {R = key_cmp} ss) w

abbrev slots_of : List (List ℕ × Track) → List ℕ → Option Track
slots_of es q = map.get (from_entries {R = key_cmp} es) q

more_sets : (ss ts : PoolSets) → NotesMore (λ w. at_key ss w) (λ w. at_key ts w) → NotesMore (sets_of ss) (sets_of ts)
more_sets ss ts more pool path is = notes_at ts path (Some (Some pool)) ∙ more pool path (sym (notes_at ss path (Some (Some pool))) ∙ is)

pub none_cover : (floor : ℕ) (ss : PoolSets) (es : List (List ℕ × Track)) → es ≡ [] → CoversFrom floor (sets_of ss) (slots_of es)
none_cover floor ss es e p low pool q is =
    let none : slots_of es q ≡ None = get_key es q ∙ ap (λ fs. at_key fs q) e in
    let no : false ≡ true = ap (λ s. is_this (pool_in (head_in_slot s p)) pool) (sym none) ∙ is in
    cc

pub kept_more : (floor front : ℕ) (ss ts : PoolSets) (es : List (List ℕ × Track)) → NotesMore (λ w. at_key ss w) (λ w. at_key ts w) → IsKept floor front (from_entries ss) (from_entries es) → IsKept floor front (from_entries ts) (from_entries es)
kept_more floor front ss ts es more k = record { order = k.order; newest = k.newest; covers = more_cover floor (sets_of ss) (sets_of ts) (slots_of es) (more_sets ss ts more) k.covers }

pub kept_same : (floor front : ℕ) (ss : PoolSets) (es fs : List (List ℕ × Track)) → ((q : List ℕ) → SameSlot (at_key es q) (at_key fs q)) → IsKept floor front (from_entries ss) (from_entries es) → IsKept floor front (from_entries ss) (from_entries fs)
kept_same floor front ss es fs s k = record {
  order = k.order;
  newest = same_up floor front es fs s k.newest;
  covers = same_cover floor (sets_of ss) (slots_of es) (slots_of fs) (slots floor front es fs s) k.covers;
}

-- where nothing stands past the floor
up_floor : (floor front : ℕ) (fs : List (List ℕ × Track)) → front ≡ floor → AllUpTo front (from_entries fs) → (q : List ℕ) → IsSlotUpTo floor (slots_of fs q)
up_floor floor front fs e up q = let P : ℕ → Type 0 = λ n. IsSlotUpTo n (slots_of fs q) in subst P e (up q)

module _ {T E : Type 0} (res : Result T E) (floor front : ℕ) (at_floor : front ≡ floor) (es fs : List (List ℕ × Track)) (sets more : PoolSets) (head : HeadChange) (puts : List (List ℕ × Option Place)) (path : List ℕ)
    (up : AllUpTo front (from_entries fs)) (k : IsKept floor front (from_entries more) (from_entries es)) where
  abbrev Same : Type 0
  Same = IsSameTable (table floor front es sets head puts) (table floor front fs more head puts)

  pub repo_kept : (what : Head) → OnOk res (SeedsRepo path what (table floor front es sets head puts) (table floor front fs more head puts)) → OnErr res Same → notes (λ w. at_key more w) path (Some what.pool) ≡ true → IsKept floor front (from_entries more) (from_entries fs)
  repo_kept what ok err n = record { order = k.order; newest = up; covers = by res ok err }
    where
      by : (res : Result T E) → OnOk res (SeedsRepo path what (table floor front es sets head puts) (table floor front fs more head puts)) → OnErr res Same → CoversFrom floor (sets_of more) (slots_of fs)
      by (Ok r) ok err = seed_cover floor (sets_of more) (slots_of es) (slots_of fs) path what (up_floor floor front fs at_floor up) ok.heads (notes_at more path (Some what.pool) ∙ n) k.covers
      by (Err r) ok err = heads_cover floor (sets_of more) (slots_of es) (slots_of fs) (up_floor floor front fs at_floor up) (err.heads floor) k.covers

  pub object_kept : (name : List ℕ) (place : Place) → OnOk res (SeedsObject path name place (table floor front es sets head puts) (table floor front fs more head puts)) → OnErr res Same → IsKept floor front (from_entries more) (from_entries fs)
  object_kept name place ok err = record { order = k.order; newest = up; covers = heads_cover floor (sets_of more) (slots_of es) (slots_of fs) (up_floor floor front fs at_floor up) (by res ok err) k.covers }
    where
      by : (res : Result T E) → OnOk res (SeedsObject path name place (table floor front es sets head puts) (table floor front fs more head puts)) → OnErr res Same → (q : List ℕ) → head_at (table floor front fs more head puts) floor q ≡ head_at (table floor front es sets head puts) floor q
      by (Ok r) ok err = ok.heads
      by (Err r) ok err = err.heads floor

pub added_kept : (floor front n : ℕ) (es fs : List (List ℕ × Track)) (sets : PoolSets) (head next : HeadChange) (puts : List (List ℕ × Option Place)) (e : Entry) → n ≡ front + 1 → AllUpTo n (from_entries fs)
    → Adds e (table floor front es sets head puts) (table floor n fs sets next puts) → IsPrepared (table floor front es sets head puts) e
    → IsKept floor front (from_entries sets) (from_entries es) → IsKept floor n (from_entries sets) (from_entries fs)
added_kept floor front n es fs sets head next puts e at_n up adds prepared k = record {
  order = let l = k.order in omega arith;
  newest = up;
  covers = added_cover floor front k.order (sets_of sets) e head prepared.head prepared.noted (slots_of es) (slots_of fs)
      (λ q. let P : ℕ → Type 0 = λ i. IsSlotUpTo i (slots_of fs q) in subst P at_n (up q)) adds.head_next adds.head_before k.covers;
}

-- what the sets have of a table that is kept
pub covered : (floor front p : ℕ) (ss : PoolSets) (es : List (List ℕ × Track)) → floor ≤ p → IsKept floor front (from_entries ss) (from_entries es) → Covers (λ w. at_key ss w) p (λ q. at_key es q)
covered floor front p ss es low k pool q is = sym (notes_at ss q (Some (Some pool))) ∙ k.covers p low pool q (ap (λ s. is_this (pool_in (head_in_slot s p)) pool) (get_key es q) ∙ is)

-- ---- the candidates are enough

pub true_some : (s : Option Track) (p : ℕ) (pool : List ℕ) → is_this (pool_in (head_in_slot s p)) pool ≡ true → is_some s ≡ true
true_some None p pool e = let no : ⊥ = cc in absurd no
true_some (Some t) p pool e = refl

module _ (sets : PoolSets) (es : List (List ℕ × Track)) (p : ℕ) (pool : List ℕ) (covers : Covers (λ w. at_key sets w) p (λ q. at_key es q)) (ordered : IsStrictlySortedBy key_cmp (list_map (λ e. e.0) es)) where
  abbrev test : List ℕ → Bool
  test q = is_this (pool_in (head_in_slot (at_key es q) p)) pool

  in_set : (o : Option (BTreeSet (List ℕ))) → o ≡ at_key sets pool → (q : List ℕ) → test q ≡ true → has_path o q ≡ is_some (at_key es q)
  in_set o e q t = ap (λ s. has_path s q) e ∙ covers pool q t ∙ sym (true_some (at_key es q) p pool t)

  pub none_in_pool : None ≡ at_key sets pool → [] ≡ filter test (list_map (λ e. e.0) es)
  unfolding IsStrictlySortedBy
  none_in_pool e = same_where [] es test tt ordered (in_set None e)

  pub some_in_pool : (s : BTreeSet (List ℕ)) → Some s ≡ at_key sets pool → IsStrictlySortedBy key_cmp s.keys → filter test s.keys ≡ filter test (list_map (λ e. e.0) es)
  some_in_pool s e o = same_where s.keys es test o ordered (in_set (Some s) e)

  pub none_least : None ≡ at_key sets pool → None ≡ list_find test (list_map (λ e. e.0) es)
  none_least e = ap first (none_in_pool e) ∙ sym (find-first test (list_map (λ e. e.0) es))

  pub some_least : (s : BTreeSet (List ℕ)) → Some s ≡ at_key sets pool → IsStrictlySortedBy key_cmp s.keys → list_find test s.keys ≡ list_find test (list_map (λ e. e.0) es)
  some_least s e o = find-first test s.keys ∙ ap first (some_in_pool s e o) ∙ sym (find-first test (list_map (λ e. e.0) es))

-- ---- a set that is put in, and one that grows

module _ (es fs : List (List ℕ × BTreeSet (List ℕ))) (pool : List ℕ) (others : (x : List ℕ) → eq_by_cmp key_cmp pool x ≡ false → at_key fs x ≡ at_key es x) where
  pub set_added : at_key es pool ≡ None → ((q : List ℕ) → has_path (at_key fs pool) q ≡ false) → (w q : List ℕ) → has_path (at_key fs w) q ≡ has_path (at_key es w) q
  set_added none here w q = spread es fs pool (λ a b. (x : List ℕ) → has_path b x ≡ has_path a x) (λ x. here x ∙ sym (ap (λ s. has_path s x) none)) (λ s x. refl) others w q

  pub set_grown : ((q : List ℕ) → has_path (at_key es pool) q ≡ true → has_path (at_key fs pool) q ≡ true) → (w q : List ℕ) → has_path (at_key es w) q ≡ true → has_path (at_key fs w) q ≡ true
  set_grown here w q h = spread es fs pool (λ a b. (x : List ℕ) → has_path a x ≡ true → has_path b x ≡ true) here (λ s x i. i) others w q h
