-- What a legal entry makes of own objects.
use Rattle.std.proofs.Common.{◌≡◌, ⊎_elim, ℕ, Bool, true, false, not, cond, is_some, List, [], ◌∷◌, Option, Some, None, refl, sym, ap, ◌∙◌, IsTrue}
use Rattle.std.proofs.lemmas.Bool.{and_parts}
use Rattle.std.specs.List.{AllByRecursion, list_all}
use Rattle.std.specs.Option.{option_map, option_or}
use Rattle.std.specs.Ordering.{eq_by_cmp}
use Rattle.std.specs.Cmp.Lexicographic.{nat_list_cmp_total}
use Rattle.std.specs.FinMap as map
use Rattle.std.specs.FinMap.{get-insert, get-remove, get-empty}
use Rattle.gt_apply.specs.Plan.{added_by}
use Rattle.gt_apply.proofs.Lists.{In, each}
use Rattle.gt_base.specs.Built.{is_built}
use Rattle.gt_model.specs.declared.added.Added.{Added}
use Rattle.gt_model.specs.declared.change.Change.{Change}
use Rattle.gt_model.specs.declared.change.Change.TheVariants.{Create, Delete, Link, Write, Repack, Prune, PackRefs, Unlink}
use Rattle.gt_model.specs.declared.update.RefUpdate.{RefUpdate}
use Rattle.gt_model.specs.Contents.{key_cmp, Names, Repo, Content, and_then, own, is_visible, new_repo, with_refs, with_added, changed, change_fits}
use Rattle.gt_model.proofs.Checks.{some_none}
use Rattle.gt_model.proofs.Repositories.{get-at_repo}
use Rattle.gt_model.proofs.Values.{itself, same_key, some_same, get-with_added_cases}
use Rattle.gt_moves.specs.Standing.{last_added}

-- ---- names with records that are added

-- what is added depends on nothing but what was there under the name
alike : (m n : Names) (q : List ℕ) (added : List Added) → map.get m q ≡ map.get n q → map.get (with_added m added) q ≡ map.get (with_added n added) q
alike m n q [] same = same
alike m n q (a ∷ added) same =
    alike (map.insert m a.name a.whole) (map.insert n a.name a.whole) q added
    (get-insert nat_list_cmp_total m a.name a.whole q ∙ ap (λ (o : Option (List ℕ)). cond (eq_by_cmp key_cmp q a.name) (Some a.whole) o) same ∙ sym (get-insert nat_list_cmp_total n a.name a.whole q))

-- ---- own objects after a change

own_made : (f : Repo → Repo) (x : List ℕ) (b : Bool) (s : Option Repo) → and_then (cond b (option_map f s) s) (λ r. map.get r.own x) ≡ cond b (and_then s (λ r. map.get (f r).own x)) (and_then s (λ r. map.get r.own x))
own_made f x true None = refl
own_made f x true (Some r) = refl
own_made f x false s = refl

created : (pool : Bool) (x : List ℕ) (b : Bool) (s : Option Repo) → and_then (cond b (Some (new_repo pool)) s) (λ r. map.get r.own x) ≡ cond b None (and_then s (λ r. map.get r.own x))
created pool x true s = get-empty key_cmp x
created pool x false s = refl

deleted : (x : List ℕ) (b : Bool) (s : Option Repo) → and_then (cond b None s) (λ (r : Repo). map.get r.own x) ≡ cond b None (and_then s (λ r. map.get r.own x))
deleted x true s = refl
deleted x false s = refl

module _ (c : Content) (path : List ℕ) where
  own_write : (refs : List RefUpdate) (needed : List (List ℕ)) (added : List Added) (q x : List ℕ)
      → own (changed c path (Write refs needed added)) q x ≡ cond (eq_by_cmp key_cmp q path) (and_then (map.get c q) (λ r. map.get (with_added r.own added) x)) (own c q x)
  unfolding changed
  own_write refs needed added q x =
      let f : Repo → Repo = λ r. record r { refs = with_refs r.refs refs; own = with_added r.own added } in
      ap (λ o. and_then o (λ r. map.get r.own x)) (get-at_repo c path f q) ∙ own_made f x (eq_by_cmp key_cmp q path) (map.get c q)

  own_create : (pool : Bool) (q x : List ℕ) → own (changed c path (Create pool)) q x ≡ cond (eq_by_cmp key_cmp q path) None (own c q x)
  unfolding changed
  own_create pool q x = ap (λ o. and_then o (λ r. map.get r.own x)) (get-insert nat_list_cmp_total c path (new_repo pool) q) ∙ created pool x (eq_by_cmp key_cmp q path) (map.get c q)

  own_delete : (q x : List ℕ) → own (changed c path Delete) q x ≡ cond (eq_by_cmp key_cmp q path) None (own c q x)
  unfolding changed
  own_delete q x = ap (λ o. and_then o (λ r. map.get r.own x)) (get-remove nat_list_cmp_total c path q) ∙ deleted x (eq_by_cmp key_cmp q path) (map.get c q)

  -- ---- what is added is new

  hidden : (o p : Option (List ℕ)) → not (is_some (option_or o p)) ≡ true → o ≡ None
  hidden None p h = refl
  hidden (Some w) p h = absurd (cc h)

  new_each : (added : List Added) → list_all (λ a. not (is_visible c path a.name)) added ≡ true → AllByRecursion (λ a. own c path a.name ≡ None) added
  new_each [] h = tt
  new_each (a ∷ added) h = let parts = and_parts _ _ h in (hidden (own c path a.name) _ parts.0, new_each added parts.1)

  pub added_new : (change : Change) → IsTrue (change_fits c path change) → (a : Added) → In (added_by change) a → own c path a.name ≡ None
  added_new (Create pool) fit a i = absurd i
  added_new Delete fit a i = absurd i
  added_new (Link pool) fit a i = absurd i
  added_new (Write refs needed added) fit a i = each (λ (b : Added). own c path b.name ≡ None) added a (new_each added (and_parts _ _ fit).1) i
  added_new (Repack file dropped) fit a i = absurd i
  added_new (Prune file dropped) fit a i = absurd i
  added_new (PackRefs file) fit a i = absurd i
  added_new (Unlink file) fit a i = absurd i

  write_made : (refs : List RefUpdate) (needed : List (List ℕ)) (added : List Added) → IsTrue (change_fits c path (Write refs needed added)) → (x : List ℕ) → own c path x ≡ None
      → own (changed c path (Write refs needed added)) path x ≡ map.get (with_added map.empty added) x
  write_made refs needed added fit x none =
      own_write refs needed added path x
      ∙ ap (λ (b : Bool). cond b (and_then (map.get c path) (λ r. map.get (with_added r.own added) x)) (own c path x)) (itself path)
      ∙ by (map.get c path) (and_parts _ _ (and_parts _ _ fit).0).0 none
    where
      by : (o : Option Repo) → is_some o ≡ true → and_then o (λ r. map.get r.own x) ≡ None → and_then o (λ r. map.get (with_added r.own added) x) ≡ map.get (with_added map.empty added) x
      by None there none = absurd (cc there)
      by (Some r) there none = alike r.own map.empty x added (none ∙ sym (get-empty key_cmp x))

  -- An added name has the last of its records then.
  pub added_made : (change : Change) → IsTrue (change_fits c path change) → (a : Added) → In (added_by change) a → own (changed c path change) path a.name ≡ last_added change a.name
  added_made (Create pool) fit a i = absurd i
  added_made Delete fit a i = absurd i
  added_made (Link pool) fit a i = absurd i
  added_made (Write refs needed added) fit a i = write_made refs needed added fit a.name (added_new (Write refs needed added) fit a i)
  added_made (Repack file dropped) fit a i = absurd i
  added_made (Prune file dropped) fit a i = absurd i
  added_made (PackRefs file) fit a i = absurd i
  added_made (Unlink file) fit a i = absurd i

  -- ---- what stays own has the record that it had

  where_not : (t : Bool) (q x w v : List ℕ) → own c q x ≡ Some w → cond t None (own c q x) ≡ Some v → v ≡ w
  where_not true q x w v before after = some_none v (sym after)
  where_not false q x w v before after = some_same v w (sym after ∙ before)

  write_stays : (refs : List RefUpdate) (needed : List (List ℕ)) (added : List Added) → IsTrue (change_fits c path (Write refs needed added)) → (q x w v : List ℕ) → own c q x ≡ Some w
      → own (changed c path (Write refs needed added)) q x ≡ Some v → v ≡ w
  write_stays refs needed added fit q x w v before after = by (eq_by_cmp key_cmp q path) refl (sym (own_write refs needed added q x) ∙ after)
    where
      clash : eq_by_cmp key_cmp q path ≡ true → (a : Added) × (own c path a.name ≡ None) × (a.name ≡ x) × (a.whole ≡ v) → v ≡ w
      clash t h = some_none w (sym before ∙ ap (λ (k : List ℕ). own c k x) (same_key q path t) ∙ ap (own c path) (sym h.2) ∙ h.1)

      here : eq_by_cmp key_cmp q path ≡ true → (o : Option Repo) → and_then o (λ r. map.get r.own x) ≡ Some w → and_then o (λ r. map.get (with_added r.own added) x) ≡ Some v → v ≡ w
      here t None was is = some_none v (sym is)
      here t (Some r) was is =
          ⊎_elim (λ (same : map.get r.own x ≡ Some v). some_same v w (sym same ∙ was)) (clash t)
          (get-with_added_cases (λ a. own c path a.name ≡ None) r.own added x v (new_each added (and_parts _ _ fit).1) is)

      by : (t : Bool) → eq_by_cmp key_cmp q path ≡ t → cond t (and_then (map.get c q) (λ r. map.get (with_added r.own added) x)) (own c q x) ≡ Some v → v ≡ w
      by false t is = some_same v w (sym is ∙ before)
      by true t is = here t (map.get c q) before is

  pub own_stays : (change : Change) → is_built change ≡ true → IsTrue (change_fits c path change) → (q x w v : List ℕ) → own c q x ≡ Some w → own (changed c path change) q x ≡ Some v → v ≡ w
  own_stays (Create pool) b fit q x w v before after = where_not (eq_by_cmp key_cmp q path) q x w v before (sym (own_create pool q x) ∙ after)
  own_stays Delete b fit q x w v before after = where_not (eq_by_cmp key_cmp q path) q x w v before (sym (own_delete q x) ∙ after)
  own_stays (Link pool) b fit q x w v before after = absurd (cc b)
  own_stays (Write refs needed added) b fit q x w v before after = write_stays refs needed added fit q x w v before after
  own_stays (Repack file dropped) b fit q x w v before after = absurd (cc b)
  own_stays (Prune file dropped) b fit q x w v before after = absurd (cc b)
  own_stays (PackRefs file) b fit q x w v before after = absurd (cc b)
  own_stays (Unlink file) b fit q x w v before after = absurd (cc b)
