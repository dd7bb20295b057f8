-- Entries of the kinds that are built keep pools pools.
use Rattle.std.proofs.Common.{◌≡◌, ℕ, ◌+◌, Bool, true, false, cond, List, [], ◌∷◌, find, Option, Some, None, refl, sym, ap, ◌∙◌, subst, IsTrue, All}
use Rattle.std.proofs.lemmas.Bool.{and_parts}
use Rattle.std.proofs.lemmas.List.Elements.{recursion_from_All}
use Rattle.std.specs.Prelude.{is_none}
use Rattle.std.specs.List.{AllByRecursion}
use Rattle.std.specs.Option.{option_map}
use Rattle.std.specs.Ordering.{eq_by_cmp}
use Rattle.std.specs.Cmp.Lexicographic.{texts_ties}
use Rattle.std.specs.FinMap as map
use Rattle.std.specs.FinMap.{get-entries}
use Rattle.gt_base.specs.Built.{is_built, IsBuilt}
use Rattle.gt_model.specs.Contents.{key_cmp, Repo, Content, new_repo, has_repo, is_this, least_member, change_fits, IsLegal, with_refs, with_added, changed, after, after_all}
use Rattle.gt_model.specs.Soundness.{HasGoodPool}
use Rattle.gt_model.specs.declared.change.Change.{Change}
use Rattle.gt_model.specs.declared.change.Change.TheVariants.{Create, Delete, Link, Write, Repack, Prune, PackRefs, Unlink}
use Rattle.gt_model.specs.declared.entry.Entry.{Entry}
use Rattle.gt_model.proofs.Repositories.{get-alike}
use Rattle.gt_apply.specs.Fitting.{HasGoodPools}
use Rattle.gt_applied.proofs.Courses.{stepped, get-changed, none_there}

some_same : {A : Type 0} (x y : A) → Some x ≡ Some y → x ≡ y
some_same x y e = cc

-- It is there, and is a pool.
abbrev IsPool : Option Repo → Type 0
IsPool o = (p : Repo) × (o ≡ Some p) × (p.is_pool ≡ true)

-- ---- no member

-- a test that finds nothing, item by item
none_passes : {A : Type 0} (p : A → Bool) (xs : List A) → find p xs ≡ None → AllByRecursion (λ x. p x ≡ false) xs
none_passes p [] e = tt
none_passes p (x ∷ xs) e = by (p x) refl e (none_passes p xs)
  where
    by : (b : Bool) → p x ≡ b → cond b (Some x) (find p xs) ≡ None → (find p xs ≡ None → AllByRecursion (λ x. p x ≡ false) xs) → AllByRecursion (λ x. p x ≡ false) (x ∷ xs)
    by true t e rest = absurd (cc e)
    by false t e rest = (t, rest e)

-- what holds of each entry holds of the one that is found
found_entry : (P : Repo → Type 0) (es : List (List ℕ × Repo)) (q : List ℕ) (r : Repo) → AllByRecursion (λ e. P e.1) es → map.find key_cmp q es ≡ Some r → P r
found_entry P [] q r h e = absurd (cc e)
found_entry P (x ∷ es) q r h e = by (eq_by_cmp key_cmp q x.0) e (found_entry P es q r h.1)
  where
    by : (b : Bool) → cond b (Some x.1) (map.find key_cmp q es) ≡ Some r → (map.find key_cmp q es ≡ Some r → P r) → P r
    by true e later = subst P (some_same x.1 r e) h.0
    by false e later = later e

none_found : {A B : Type 0} (f : A → B) (o : Option A) → is_none (option_map f o) ≡ true → o ≡ None
none_found f None e = refl
none_found f (Some x) e = absurd (cc e)

-- A repository without a member is no repository's pool.
not_pool : (c : Content) (path q pool : List ℕ) (r : Repo) → is_none (least_member c path) ≡ true → map.get c q ≡ Some r → r.pool ≡ Some pool → eq_by_cmp key_cmp pool path ≡ false
not_pool c path q pool r unused e is =
    sym (texts_ties pool path) ∙ ap (λ (p : Option (List ℕ)). is_this p path) (sym is)
    ∙ found_entry (λ r. is_this r.pool path ≡ false) (map.entries c) q r (none_passes (λ e. is_this e.1.pool path) (map.entries c) (none_found (λ e. e.0) _ unused)) (sym (get-entries c q) ∙ e)

-- ---- one change

module _ (c : Content) (path : List ℕ) (change : Change) (built : is_built change ≡ true) (fits : IsTrue (change_fits c path change)) where
  -- a pool with a member stays one
  pool_stays : (q pool : List ℕ) (r : Repo) → map.get c q ≡ Some r → r.pool ≡ Some pool → IsPool (map.get c pool) → IsPool (map.get (changed c path change) pool)
  pool_stays q pool r e is h = subst IsPool (sym (get-changed c path change pool built)) (by (eq_by_cmp key_cmp pool path) refl)
    where
      here : (change : Change) → is_built change ≡ true → IsTrue (change_fits c path change) → eq_by_cmp key_cmp pool path ≡ true → IsPool (stepped (map.get c pool) change)
      here (Create kind) b fits t = let none : map.get c pool ≡ None = get-alike c path pool t ∙ none_there (map.get c path) fits in absurd (cc (none, h.1))
      here Delete b fits t = let other : eq_by_cmp key_cmp pool path ≡ false = not_pool c path q pool r (and_parts (has_repo c path) (is_none (least_member c path)) fits).1 e is in absurd (cc (t, other))
      here (Link p) b fits t = absurd (cc b)
      here (Write refs needed added) b fits t =
          let write : Repo → Repo = λ (r : Repo). record r { refs = with_refs r.refs refs; own = with_added r.own added } in
          (write h.0, ap (option_map write) h.1, h.2)
      here (Repack file dropped) b fits t = absurd (cc b)
      here (Prune file dropped) b fits t = absurd (cc b)
      here (PackRefs file) b fits t = absurd (cc b)
      here (Unlink file) b fits t = absurd (cc b)

      by : (b : Bool) → eq_by_cmp key_cmp pool path ≡ b → IsPool (cond b (stepped (map.get c pool) change) (map.get c pool))
      by true t = here change built fits t
      by false t = h

  -- a repository that was there keeps a good pool
  stays_good : (q : List ℕ) (r s : Repo) → map.get c q ≡ Some r → HasGoodPool c r → s.pool ≡ r.pool → s.is_pool ≡ r.is_pool → HasGoodPool (changed c path change) s
  stays_good q r s e good pool kind = record {
    none = λ t. pool ∙ good.none (sym kind ∙ t);
    some = λ p is. pool_stays q p r e (sym pool ∙ is) (good.some p (sym pool ∙ is));
  }

  good_after : HasGoodPools c → HasGoodPools (changed c path change)
  good_after good q s e = by (eq_by_cmp key_cmp q path) (sym (get-changed c path change q built) ∙ e)
    where
      stepped_good : (change_now : Change) → is_built change_now ≡ true → (o : Option Repo) → map.get c q ≡ o → stepped o change_now ≡ Some s → HasGoodPool (changed c path change) s
      stepped_good (Create kind) b o is e =
          let new : new_repo kind ≡ s = some_same (new_repo kind) s e in
          subst (λ (r : Repo). HasGoodPool (changed c path change) r) new (record { none = λ t. refl; some = λ pool has. absurd (cc has) })
      stepped_good Delete b o is e = absurd (cc e)
      stepped_good (Link p) b o is e = absurd (cc b)
      stepped_good (Write refs needed added) b None is e = absurd (cc e)
      stepped_good (Write refs needed added) b (Some r) is e =
          let same : record r { refs = with_refs r.refs refs; own = with_added r.own added } ≡ s = some_same _ s e in
          stays_good q r s is (good q r is) (ap (λ (x : Repo). x.pool) (sym same)) (ap (λ (x : Repo). x.is_pool) (sym same))
      stepped_good (Repack file dropped) b o is e = absurd (cc b)
      stepped_good (Prune file dropped) b o is e = absurd (cc b)
      stepped_good (PackRefs file) b o is e = absurd (cc b)
      stepped_good (Unlink file) b o is e = absurd (cc b)

      by : (b : Bool) → cond b (stepped (map.get c q) change) (map.get c q) ≡ Some s → HasGoodPool (changed c path change) s
      by true e = stepped_good change built (map.get c q) refl e
      by false e = stays_good q s s e (good q s e) refl refl

-- ---- all entries

good_all : (c : Content) (position : ℕ) (entries : List Entry) → AllByRecursion IsBuilt entries → IsLegal c position entries → HasGoodPools c → HasGoodPools (after_all c entries)
good_all c position [] built legal good = good
good_all c position (e ∷ es) built legal good = good_all (after c e) (position + 1) es built.1 legal.2 (good_after c e.path e.change built.0 legal.1 good)

pub pools_after : (c : Content) (position : ℕ) (entries : List Entry) → All IsBuilt entries → IsLegal c position entries → HasGoodPools c → HasGoodPools (after_all c entries)
pools_after c position entries built legal good = good_all c position entries (recursion_from_All IsBuilt entries built) legal good
