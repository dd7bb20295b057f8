-- A content stays sound where a repository is made or deleted.
use Rattle.std.proofs.Common.{◌≡◌, ◌⊎◌, inl, inr, ℕ, Bool, true, false, cond, is_some, List, [], ◌∷◌, find, Option, Some, None, refl, sym, ◌∙◌, ap, subst, true≢false}
use Rattle.std.specs.List.{AllByRecursion}
use Rattle.std.specs.Option.{option_map}
use Rattle.std.specs.Ordering.{eq_by_cmp}
use Rattle.std.specs.Cmp.Lexicographic.{nat_list_cmp_total, texts_ties}
use Rattle.std.specs.FinMap as map
use Rattle.std.specs.FinMap.{get-empty, get-entries, get-insert, get-remove}
use Rattle.gt_model.specs.declared.change.Change.TheVariants.{Create, Delete}
use Rattle.gt_model.specs.Contents.{Content, Repo, key_cmp, new_repo, and_then, has_repo, own, pool_of, is_this, least_member, changed}
use Rattle.gt_model.specs.Soundness.{HasGoodPool, IsSound}
use Rattle.gt_model.proofs.Repositories.{get-alike}
use Rattle.gt_model.proofs.Checks.{some_none}
use Rattle.gt_sound.proofs.Alike.{IsBare, IsAlike, alike_at, still_good, alike_sound}

some_repo : (x y : Repo) → Some x ≡ Some y → x ≡ y
some_repo x y e = ap (λ o. elim o as (λ o. Repo) [ None ↦ x | Some z ↦ z ]) e

-- ---- a new repository

module _ (c : Content) (path : List ℕ) (kind : Bool) (free : has_repo c path ≡ false) where
  abbrev made : Content
  made = map.insert c path (new_repo kind)

  none_there : (o : Option Repo) → is_some o ≡ false → o ≡ None
  none_there None e = refl
  none_there (Some r) e = absurd (true≢false e)

  -- no repository was there under this key
  was_free : (q : List ℕ) → eq_by_cmp key_cmp q path ≡ true → map.get c q ≡ None
  was_free q t = get-alike c path q t ∙ none_there (map.get c path) free

  made_here : (q : List ℕ) → eq_by_cmp key_cmp q path ≡ true → map.get made q ≡ Some (new_repo kind)
  made_here q t = get-insert nat_list_cmp_total c path (new_repo kind) q ∙ ap (λ b. cond b (Some (new_repo kind)) (map.get c q)) t

  made_elsewhere : (q : List ℕ) → eq_by_cmp key_cmp q path ≡ false → map.get made q ≡ map.get c q
  made_elsewhere q t = get-insert nat_list_cmp_total c path (new_repo kind) q ∙ ap (λ b. cond b (Some (new_repo kind)) (map.get c q)) t

  -- the new one owns nothing, as what wasn't there
  made_own : (q n : List ℕ) → own made q n ≡ own c q n
  made_own q n = by (eq_by_cmp key_cmp q path) refl
    where
      by : (b : Bool) → eq_by_cmp key_cmp q path ≡ b → own made q n ≡ own c q n
      by true t = ap (λ o. and_then o (λ r. map.get r.own n)) (made_here q t) ∙ get-empty key_cmp n ∙ sym (ap (λ o. and_then o (λ r. map.get r.own n)) (was_free q t))
      by false t = ap (λ o. and_then o (λ r. map.get r.own n)) (made_elsewhere q t)

  made_bare : (q : List ℕ) → eq_by_cmp key_cmp q path ≡ true → IsBare made q
  made_bare q t = record {
    values = λ n. ap (λ o. and_then o (λ r. map.get r.refs n)) (made_here q t) ∙ get-empty key_cmp n;
    owned = λ n. ap (λ o. and_then o (λ r. map.get r.own n)) (made_here q t) ∙ get-empty key_cmp n;
    seen = λ n. rw (made_here q t, get-empty key_cmp n);
  }

  made_paths : (q : List ℕ) → IsBare made q ⊎ IsAlike c made q
  made_paths q = by (eq_by_cmp key_cmp q path) refl
    where
      by : (b : Bool) → eq_by_cmp key_cmp q path ≡ b → IsBare made q ⊎ IsAlike c made q
      by true t = inl (made_bare q t)
      by false t = inr (alike_at c made q (made_elsewhere q t) (λ pool is n. made_own pool n))

  -- what was there is there
  made_keeps : (q : List ℕ) (r : Repo) → map.get c q ≡ Some r → map.get made q ≡ Some r
  made_keeps q r e = by (eq_by_cmp key_cmp q path) refl
    where
      by : (b : Bool) → eq_by_cmp key_cmp q path ≡ b → map.get made q ≡ Some r
      by true t = some_none r (sym e ∙ was_free q t)
      by false t = made_elsewhere q t ∙ e

  made_pools : IsSound c → (q : List ℕ) (r : Repo) → map.get made q ≡ Some r → HasGoodPool made r
  made_pools sound q r e = by (eq_by_cmp key_cmp q path) refl
    where
      by : (b : Bool) → eq_by_cmp key_cmp q path ≡ b → HasGoodPool made r
      by true t = subst (λ (r : Repo). HasGoodPool made r) (some_repo (new_repo kind) r (sym (made_here q t) ∙ e)) (record { none = λ h. refl; some = λ pool is. some_none pool (sym is) })
      by false t = still_good c made r (λ pool p is there. made_keeps pool p there) (sound.pools q r (sym (made_elsewhere q t) ∙ e))

  pub creation_sound : IsSound c → IsSound (changed c path (Create kind))
  unfolding changed
  creation_sound sound = alike_sound c made sound made_paths (made_pools sound)

-- ---- a repository that goes

-- a test that finds nothing, item by item
none_passes : {A : Type 0} (p : A → Bool) (xs : List A) → find p xs ≡ None → AllByRecursion (λ x. p x ≡ false) xs
none_passes p [] e = tt
none_passes p (x ∷ xs) e = by (none_passes p xs) (p x) refl e
  where
    by : (find p xs ≡ None → AllByRecursion (λ x. p x ≡ false) xs) → (b : Bool) → p x ≡ b → cond b (Some x) (find p xs) ≡ None → AllByRecursion (λ x. p x ≡ false) (x ∷ xs)
    by rest true t e = some_none x e
    by rest false t e = (t, rest e)

-- what holds of each entry holds of the one that is found
found_entry : (P : Repo → Type 0) (es : List (List ℕ × Repo)) (q : List ℕ) (r : Repo) → AllByRecursion (λ e. P e.1) es → map.find key_cmp q es ≡ Some r → P r
found_entry P [] q r h e = some_none r (sym e)
found_entry P (x ∷ es) q r h e = by (found_entry P es q r h.1) (eq_by_cmp key_cmp q x.0) e
  where
    by : (map.find key_cmp q es ≡ Some r → P r) → (b : Bool) → cond b (Some x.1) (map.find key_cmp q es) ≡ Some r → P r
    by later true e = subst P (some_repo x.1 r e) h.0
    by later false e = later e

module _ (c : Content) (path : List ℕ) (unused : least_member c path ≡ None) where
  abbrev left : Content
  left = map.remove c path

  no_match : (o : Option (List ℕ × Repo)) → option_map (λ e. e.0) o ≡ None → o ≡ None
  no_match None e = refl
  no_match (Some x) e = some_none x.0 e

  -- no repository has it as its pool
  not_pool : (q : List ℕ) (r : Repo) (pool : List ℕ) → map.get c q ≡ Some r → r.pool ≡ Some pool → eq_by_cmp key_cmp pool path ≡ false
  not_pool q r pool e is =
      sym (texts_ties pool path) ∙ ap (λ p. is_this p path) (sym is)
      ∙ found_entry (λ r. is_this r.pool path ≡ false) (map.entries c) q r (none_passes _ (map.entries c) (no_match _ unused)) (sym (get-entries c q) ∙ e)

  left_here : (q : List ℕ) → eq_by_cmp key_cmp q path ≡ true → map.get left q ≡ None
  left_here q t = get-remove nat_list_cmp_total c path q ∙ ap (λ b. cond b None (map.get c q)) t

  left_elsewhere : (q : List ℕ) → eq_by_cmp key_cmp q path ≡ false → map.get left q ≡ map.get c q
  left_elsewhere q t = get-remove nat_list_cmp_total c path q ∙ ap (λ b. cond b None (map.get c q)) t

  left_bare : (q : List ℕ) → eq_by_cmp key_cmp q path ≡ true → IsBare left q
  left_bare q t = record {
    values = λ n. ap (λ o. and_then o (λ r. map.get r.refs n)) (left_here q t);
    owned = λ n. ap (λ o. and_then o (λ r. map.get r.own n)) (left_here q t);
    seen = λ n. rw (left_here q t);
  }

  -- a repository's pool is still there
  left_pool : (q pool : List ℕ) → pool_of c q ≡ Some pool → map.get left pool ≡ map.get c pool
  left_pool q pool is = by (map.get c q) refl is
    where
      by : (o : Option Repo) → map.get c q ≡ o → and_then o (λ r. r.pool) ≡ Some pool → map.get left pool ≡ map.get c pool
      by None e is = some_none pool (sym is)
      by (Some r) e is = left_elsewhere pool (not_pool q r pool e is)

  left_paths : (q : List ℕ) → IsBare left q ⊎ IsAlike c left q
  left_paths q = by (eq_by_cmp key_cmp q path) refl
    where
      by : (b : Bool) → eq_by_cmp key_cmp q path ≡ b → IsBare left q ⊎ IsAlike c left q
      by true t = inl (left_bare q t)
      by false t = inr (alike_at c left q (left_elsewhere q t) (λ pool is n. ap (λ o. and_then o (λ r. map.get r.own n)) (left_pool q pool is)))

  left_pools : IsSound c → (q : List ℕ) (r : Repo) → map.get left q ≡ Some r → HasGoodPool left r
  left_pools sound q r e = by (eq_by_cmp key_cmp q path) refl
    where
      by : (b : Bool) → eq_by_cmp key_cmp q path ≡ b → HasGoodPool left r
      by true t = some_none r (sym e ∙ left_here q t)
      by false t =
          let was : map.get c q ≡ Some r = sym (left_elsewhere q t) ∙ e in
          still_good c left r (λ pool p is there. left_elsewhere pool (not_pool q r pool was is) ∙ there) (sound.pools q r was)

  pub deletion_sound : IsSound c → IsSound (changed c path Delete)
  unfolding changed
  deletion_sound sound = alike_sound c left sound left_paths (left_pools sound)
