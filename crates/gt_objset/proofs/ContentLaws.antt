-- What an entry makes of heads and places, against what it makes of the content.
use Rattle.std.proofs.Common.{◌≡◌, ℕ, ◌+◌, Bool, true, false, cond, ◌||◌, is_some, List, [], ◌∷◌, ◌++◌, length, Option, Some, None, refl, sym, ap, ◌∙◌}
use Rattle.std.specs.Option.{option_map, option_or, unwrap_or}
use Rattle.std.specs.Ordering.{eq_by_cmp}
use Rattle.std.specs.Cmp.Lexicographic.{nat_list_cmp_total}
use Rattle.std.specs.FinMap as map
use Rattle.std.specs.FinMap.{find, get-insert, get-remove, get-empty, get-entries, get-from_entries}
use Rattle.gt_model.specs.declared.added.Added.{Added}
use Rattle.gt_model.specs.declared.change.Change.{Change}
use Rattle.gt_model.specs.declared.change.Change.TheVariants.{Create, Delete, Link, Write, Repack, Prune, PackRefs, Unlink}
use Rattle.gt_model.specs.declared.entry.Entry.{Entry}
use Rattle.gt_model.specs.Contents.{key_cmp, Content, Repo, Names, and_then, own, own_of, pool_own, union, unlinked, new_repo, with_refs, with_added, without, changed, after}
use Rattle.gt_model.proofs.Repositories.{get-alike, get-at_repo}
use Rattle.gt_objset.specs.declared.place.Place.{Place}
use Rattle.gt_objset.specs.Places.{Head, head_in, placed, gone, last_put, added_begin, head_here, own_here, own_if, head_after, own_after}
use Rattle.gt_objset.specs.Agree.{ArePlaced}

-- ---- heads

abbrev pub head_of_repo : Repo → Head
head_of_repo r = record { is_pool = r.is_pool; pool = r.pool }

head_made : (b : Bool) (r : Repo) (s : Option Repo) → option_map head_of_repo (cond b (Some r) s) ≡ cond b (Some (head_of_repo r)) (option_map head_of_repo s)
head_made true r s = refl
head_made false r s = refl

head_gone : (b : Bool) (s : Option Repo) → option_map head_of_repo (cond b None s) ≡ cond b None (option_map head_of_repo s)
head_gone true s = refl
head_gone false s = refl

head_moved : (f : Repo → Repo) (g : Head → Head) → ((r : Repo) → head_of_repo (f r) ≡ g (head_of_repo r)) → (b : Bool) (s : Option Repo) → option_map head_of_repo (cond b (option_map f s) s) ≡ cond b (option_map g (option_map head_of_repo s)) (option_map head_of_repo s)
head_moved f g e true None = refl
head_moved f g e true (Some r) = ap Some (e r)
head_moved f g e false s = refl

head_kept : (f : Repo → Repo) → ((r : Repo) → head_of_repo (f r) ≡ head_of_repo r) → (b : Bool) (s : Option Repo) → option_map head_of_repo (cond b (option_map f s) s) ≡ cond b (option_map head_of_repo s) (option_map head_of_repo s)
head_kept f e true None = refl
head_kept f e true (Some r) = ap Some (e r)
head_kept f e false s = refl

same_both : (b : Bool) (s : Option Head) → s ≡ cond b s s
same_both true s = refl
same_both false s = refl

head_in-changed : (c : Content) (path : List ℕ) (ch : Change) (q : List ℕ) → head_in (changed c path ch) q ≡ cond (eq_by_cmp key_cmp q path) (head_here ch (head_in c q)) (head_in c q)
unfolding changed
head_in-changed c path (Create pool) q = ap (option_map head_of_repo) (get-insert nat_list_cmp_total c path (new_repo pool) q) ∙ head_made (eq_by_cmp key_cmp q path) (new_repo pool) (map.get c q)
head_in-changed c path Delete q = ap (option_map head_of_repo) (get-remove nat_list_cmp_total c path q) ∙ head_gone (eq_by_cmp key_cmp q path) (map.get c q)
head_in-changed c path (Link pool) q = ap (option_map head_of_repo) (get-at_repo c path (λ r. record r { pool = Some pool }) q) ∙ head_moved (λ r. record r { pool = Some pool }) (λ h. record { is_pool = h.is_pool; pool = Some pool }) (λ r. refl) (eq_by_cmp key_cmp q path) (map.get c q)
head_in-changed c path (Write refs needed added) q = ap (option_map head_of_repo) (get-at_repo c path (λ r. record r { refs = with_refs r.refs refs; own = with_added r.own added }) q) ∙ head_kept (λ r. record r { refs = with_refs r.refs refs; own = with_added r.own added }) (λ r. refl) (eq_by_cmp key_cmp q path) (map.get c q)
head_in-changed c path (Repack file dropped) q = ap (option_map head_of_repo) (get-at_repo c path (λ r. record r { own = without r.own dropped }) q) ∙ head_kept (λ r. record r { own = without r.own dropped }) (λ r. refl) (eq_by_cmp key_cmp q path) (map.get c q)
head_in-changed c path (Prune file dropped) q = ap (option_map head_of_repo) (get-at_repo c path (λ r. record r { own = without r.own dropped }) q) ∙ head_kept (λ r. record r { own = without r.own dropped }) (λ r. refl) (eq_by_cmp key_cmp q path) (map.get c q)
head_in-changed c path (PackRefs file) q = same_both (eq_by_cmp key_cmp q path) (head_in c q)
head_in-changed c path (Unlink file) q = ap (option_map head_of_repo) (get-at_repo c path (unlinked c) q) ∙ head_moved (unlinked c) (λ h. record { is_pool = h.is_pool; pool = None }) (λ r. refl) (eq_by_cmp key_cmp q path) (map.get c q)

pub head_in-after : (c : Content) (e : Entry) (q : List ℕ) → head_in (after c e) q ≡ head_after e q (head_in c q)
head_in-after c e q = head_in-changed c e.path e.change q

-- ---- own objects

-- what an own object is after a change, in the repository that changes
own_made : (f : Repo → Repo) (x : List ℕ) (b : Bool) (s : Option Repo) → and_then (cond b (option_map f s) s) (λ r. map.get r.own x) ≡ cond b (and_then s (λ r. map.get (f r).own x)) (and_then s (λ r. map.get r.own x))
own_made f x true None = refl
own_made f x true (Some r) = refl
own_made f x false s = refl

find-both : {X : Type 0} (xs ys : List (List ℕ × X)) (q : List ℕ) → find key_cmp q (xs ++ ys) ≡ option_or (find key_cmp q xs) (find key_cmp q ys)
find-both [] ys q = refl
find-both (x ∷ xs) ys q = by (eq_by_cmp key_cmp q x.0) (find-both xs ys q)
  where
    by : (b : Bool) → find key_cmp q (xs ++ ys) ≡ option_or (find key_cmp q xs) (find key_cmp q ys) → cond b (Some x.1) (find key_cmp q (xs ++ ys)) ≡ option_or (cond b (Some x.1) (find key_cmp q xs)) (find key_cmp q ys)
    by true h = refl
    by false h = h

pub get-union : (a b : Names) (q : List ℕ) → map.get (union a b) q ≡ option_or (map.get a q) (map.get b q)
get-union a b q =
    get-from_entries nat_list_cmp_total (map.entries a ++ map.entries b) q
    ∙ find-both (map.entries a) (map.entries b) q
    ∙ ap (λ o. option_or o (find key_cmp q (map.entries b))) (sym (get-entries a q))
    ∙ ap (option_or (map.get a q)) (sym (get-entries b q))

is_some-or : {A : Type 0} (o p : Option A) → is_some (option_or o p) ≡ (is_some o || is_some p)
is_some-or None p = refl
is_some-or (Some a) p = refl

written : (n begin : ℕ) (added : List Added) (x : List ℕ) (found : Option (Option Place)) (o : Option Place) (m : Names) → is_some (unwrap_or found o) ≡ is_some (map.get m x) → is_some (unwrap_or (last_put (placed n begin added) x found) o) ≡ is_some (map.get (with_added m added) x)
written n begin [] x found o m h = h
written n begin (a ∷ as') x found o m h =
    written n (begin + 24 + length a.whole) as' x (cond (eq_by_cmp key_cmp x a.name) (Some (Some (record { file = record { kind = 4; number = n }; at = begin + 24; len = length a.whole }))) found) o (map.insert m a.name a.whole)
    (by (eq_by_cmp key_cmp x a.name) ∙ ap is_some (sym (get-insert nat_list_cmp_total m a.name a.whole x)))
  where
    by : (b : Bool) → is_some (unwrap_or (cond b (Some (Some (record { file = record { kind = 4; number = n }; at = begin + 24; len = length a.whole }))) found) o) ≡ is_some (cond b (Some a.whole) (map.get m x))
    by true = refl
    by false = h

dropped_all : (names : List (List ℕ)) (x : List ℕ) (found : Option (Option Place)) (o : Option Place) (m : Names) → is_some (unwrap_or found o) ≡ is_some (map.get m x) → is_some (unwrap_or (last_put (gone names) x found) o) ≡ is_some (map.get (without m names) x)
dropped_all [] x found o m h = h
dropped_all (n ∷ ns) x found o m h =
    dropped_all ns x (cond (eq_by_cmp key_cmp x n) (Some None) found) o (map.remove m n) (by (eq_by_cmp key_cmp x n) ∙ ap is_some (sym (get-remove nat_list_cmp_total m n x)))
  where
    by : (b : Bool) → is_some (unwrap_or (cond b (Some None) found) o) ≡ is_some (cond b None (map.get m x))
    by true = refl
    by false = h

module _ (c : Content) (places : List ℕ → List ℕ → Option Place) (h : ArePlaced c places) where
  pool_placed : (pool : Option (List ℕ)) (x : List ℕ) → is_some (and_then pool (λ p. places p x)) ≡ is_some (map.get (pool_own c pool) x)
  pool_placed None x = ap is_some (sym (get-empty key_cmp x))
  pool_placed (Some p) x = h p x ∙ by (map.get c p)
    where
      by : (o : Option Repo) → is_some (and_then o (λ r. map.get r.own x)) ≡ is_some (map.get (own_of o) x)
      by None = ap is_some (sym (get-empty key_cmp x))
      by (Some r) = refl

  -- the record of an own object after a change of its repository
  abbrev own_now : Change → Repo → List ℕ → Option (List ℕ)
  own_now (Create pool) r x = None
  own_now Delete r x = None
  own_now (Link pool) r x = map.get r.own x
  own_now (Write refs needed added) r x = map.get (with_added r.own added) x
  own_now (Repack file dropped) r x = map.get (without r.own dropped) x
  own_now (Prune file dropped) r x = map.get (without r.own dropped) x
  own_now (PackRefs file) r x = map.get r.own x
  own_now (Unlink file) r x = map.get (union r.own (pool_own c r.pool)) x

  created : (pool : Bool) (x : List ℕ) (b : Bool) (s : Option Repo) → and_then (cond b (Some (new_repo pool)) s) (λ r. map.get r.own x) ≡ cond b None (and_then s (λ r. map.get r.own x))
  created pool x true s = get-empty key_cmp x
  created pool x false s = refl

  deleted : (x : List ℕ) (b : Bool) (s : Option Repo) → and_then (cond b None s) (λ r. map.get r.own x) ≡ cond b None (and_then s (λ r. map.get r.own x))
  deleted x true s = refl
  deleted x false s = refl

  none_after : (b : Bool) (s : Option Repo) (o : Option (List ℕ)) → cond b None o ≡ cond b (and_then s (λ (r : Repo). None)) o
  none_after true None o = refl
  none_after true (Some r) o = refl
  none_after false s o = refl

  kept_both : (b : Bool) (o : Option (List ℕ)) → o ≡ cond b o o
  kept_both true o = refl
  kept_both false o = refl

  own-changed : (path : List ℕ) (ch : Change) (q x : List ℕ) → own (changed c path ch) q x ≡ cond (eq_by_cmp key_cmp q path) (and_then (map.get c q) (λ r. own_now ch r x)) (own c q x)
  unfolding changed
  own-changed path (Create pool) q x = ap (λ o. and_then o (λ r. map.get r.own x)) (get-insert nat_list_cmp_total c path (new_repo pool) q) ∙ created pool x (eq_by_cmp key_cmp q path) (map.get c q) ∙ none_after (eq_by_cmp key_cmp q path) (map.get c q) (own c q x)
  own-changed path Delete q x = ap (λ o. and_then o (λ r. map.get r.own x)) (get-remove nat_list_cmp_total c path q) ∙ deleted x (eq_by_cmp key_cmp q path) (map.get c q) ∙ none_after (eq_by_cmp key_cmp q path) (map.get c q) (own c q x)
  own-changed path (Link pool) q x = ap (λ o. and_then o (λ r. map.get r.own x)) (get-at_repo c path (λ r. record r { pool = Some pool }) q) ∙ own_made (λ r. record r { pool = Some pool }) x (eq_by_cmp key_cmp q path) (map.get c q)
  own-changed path (Write refs needed added) q x = ap (λ o. and_then o (λ r. map.get r.own x)) (get-at_repo c path (λ r. record r { refs = with_refs r.refs refs; own = with_added r.own added }) q) ∙ own_made (λ r. record r { refs = with_refs r.refs refs; own = with_added r.own added }) x (eq_by_cmp key_cmp q path) (map.get c q)
  own-changed path (Repack file dropped) q x = ap (λ o. and_then o (λ r. map.get r.own x)) (get-at_repo c path (λ r. record r { own = without r.own dropped }) q) ∙ own_made (λ r. record r { own = without r.own dropped }) x (eq_by_cmp key_cmp q path) (map.get c q)
  own-changed path (Prune file dropped) q x = ap (λ o. and_then o (λ r. map.get r.own x)) (get-at_repo c path (λ r. record r { own = without r.own dropped }) q) ∙ own_made (λ r. record r { own = without r.own dropped }) x (eq_by_cmp key_cmp q path) (map.get c q)
  own-changed path (PackRefs file) q x = kept_both (eq_by_cmp key_cmp q path) (own c q x)
  own-changed path (Unlink file) q x = ap (λ o. and_then o (λ r. map.get r.own x)) (get-at_repo c path (unlinked c) q) ∙ own_made (unlinked c) x (eq_by_cmp key_cmp q path) (map.get c q)

  -- in a repository that is there
  here : (n : ℕ) (path : List ℕ) (r : Repo) → map.get c path ≡ Some r → (x : List ℕ) → is_some (places path x) ≡ is_some (map.get r.own x)
  here n path r e x = h path x ∙ ap (λ o. is_some (and_then o (λ r. map.get r.own x))) e

  changed_here : (ch : Change) (n : ℕ) (path : List ℕ) (r : Repo) → map.get c path ≡ Some r → (x : List ℕ) → is_some (own_here ch n path (Some (head_of_repo r)) places x) ≡ is_some (own_now ch r x)
  changed_here (Create pool) n path r e x = refl
  changed_here Delete n path r e x = refl
  changed_here (Link pool) n path r e x = here n path r e x
  changed_here (Write refs needed added) n path r e x = written n (added_begin path refs needed) added x None (places path x) r.own (here n path r e x)
  changed_here (Repack file dropped) n path r e x = dropped_all dropped x None (places path x) r.own (here n path r e x)
  changed_here (Prune file dropped) n path r e x = dropped_all dropped x None (places path x) r.own (here n path r e x)
  changed_here (PackRefs file) n path r e x = here n path r e x
  changed_here (Unlink file) n path r e x =
      is_some-or (places path x) (and_then r.pool (λ p. places p x))
      ∙ ap (λ b. b || is_some (and_then r.pool (λ p. places p x))) (here n path r e x)
      ∙ ap (λ b. is_some (map.get r.own x) || b) (pool_placed r.pool x)
      ∙ sym (is_some-or (map.get r.own x) (map.get (pool_own c r.pool) x))
      ∙ sym (ap is_some (get-union r.own (pool_own c r.pool) x))

  pub placed-after : (e : Entry) → ArePlaced (after c e) (own_after e (head_in c e.path) places)
  placed-after e q x = by (eq_by_cmp key_cmp q e.path) refl (map.get c e.path) refl ∙ sym (ap is_some (own-changed e.path e.change q x))
    where
      by : (b : Bool) → eq_by_cmp key_cmp q e.path ≡ b → (o : Option Repo) → map.get c e.path ≡ o
          → is_some (cond b (own_if (head_in c e.path) (own_here e.change e.position e.path (head_in c e.path) places x)) (places q x)) ≡ is_some (cond b (and_then (map.get c q) (λ r. own_now e.change r x)) (own c q x))
      by false t o i = h q x
      by true t None i =
          ap (λ s. is_some (own_if (option_map head_of_repo s) (own_here e.change e.position e.path (option_map head_of_repo s) places x))) i
          ∙ sym (ap (λ s. is_some (and_then s (λ r. own_now e.change r x))) (get-alike c e.path q t ∙ i))
      by true t (Some r) i =
          ap (λ s. is_some (own_if (option_map head_of_repo s) (own_here e.change e.position e.path (option_map head_of_repo s) places x))) i
          ∙ changed_here e.change e.position e.path r i x
          ∙ sym (ap (λ s. is_some (and_then s (λ r. own_now e.change r x))) (get-alike c e.path q t ∙ i))
