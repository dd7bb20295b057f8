-- What is present stays present.
use Rattle.std.proofs.Common.{◌≡◌, ◌⊎◌, inl, inr, ⊎_elim, ℕ, Bool, true, false, cond, ◌||◌, is_some, List, [], ◌∷◌, Option, Some, None, Ok, refl, sym, ◌∙◌, ap, subst, All, IsTrue, true≢false}
use Rattle.std.specs.List.{AllByRecursion, IsAmong}
use Rattle.std.specs.Option.{option_map, option_or}
use Rattle.std.specs.Ordering.{eq_by_cmp}
use Rattle.std.specs.FinMap as map
use Rattle.std.proofs.lemmas.List.Elements.{recursion_from_All}
use Rattle.sha1.specs.Sha1.{sha1}
use Rattle.gt_object.specs.Whole.{deps}
use Rattle.gt_model.specs.declared.added.Added.{Added}
use Rattle.gt_model.specs.declared.change.Change.TheVariants.{Write}
use Rattle.gt_model.specs.declared.update.RefUpdate.{RefUpdate}
use Rattle.gt_model.specs.Contents.{Content, Repo, key_cmp, and_then, has_repo, value, own, pool_of, found, is_visible, with_refs, with_added, at_repo, changed}
use Rattle.gt_model.specs.Soundness.{Needs, IsWay, HasGoodPool, IsSound}
use Rattle.gt_model.specs.Verdicts.{Staged, Ready, target, is_staged, is_present, added_records, verdict}
use Rattle.gt_model.proofs.Repositories.{get-at_repo}
use Rattle.gt_model.proofs.Values.{same_key, itself, unchanged, get-with_refs_cases, get-with_added_cases, with_added_keeps}
use Rattle.gt_model.proofs.Checks.{some_none, every_weaker, Passed, passed, good, targets_present, deps_present, every_added, staged_laid}

-- where a way leads to is visible
pub way_visible : (c : Content) → IsSound c → (path name : List ℕ) (way : List (List ℕ)) → IsWay c path name way → IsTrue (is_visible c path name)
way_visible c sound path name [] (ref, is) = sound.referred path ref name is
way_visible c sound path name (needer ∷ way) (needs, rest) = sound.closed path needer name needs

or_kept : (a b x y : Option (List ℕ)) → (IsTrue (is_some a) → IsTrue (is_some x)) → (IsTrue (is_some b) → IsTrue (is_some y)) → IsTrue (is_some (option_or a b)) → IsTrue (is_some (option_or x y))
or_kept (Some a) b (Some x) y f g h = refl
or_kept (Some a) b None y f g h = absurd (true≢false (sym (f refl)))
or_kept None b (Some x) y f g h = refl
or_kept None b None y f g h = g h

module _ (c : Content) (path : List ℕ) (s : Staged) where
  -- what a good commit makes of the repository
  abbrev written : Repo → Repo
  written r = record r { refs = with_refs r.refs s.refs; own = with_added r.own (added_records c path s) }

  abbrev pub new : Content
  new = at_repo c path written

  -- ---- own records

  own_cases : (P : Added → Type 0) (q n w : List ℕ) → AllByRecursion P (added_records c path s) → own new q n ≡ Some w
      → (own c q n ≡ Some w) ⊎ ((q ≡ path) × ((a : Added) × P a × (a.name ≡ n) × (a.whole ≡ w)))
  own_cases P q n w all e = by (eq_by_cmp key_cmp q path) (map.get c q) refl (sym (ap (λ o. and_then o (λ r. map.get r.own n)) (get-at_repo c path written q)) ∙ e)
    where
      by : (b : Bool) (o : Option Repo) → eq_by_cmp key_cmp q path ≡ b → and_then (cond b (option_map written o) o) (λ r. map.get r.own n) ≡ Some w
          → (and_then o (λ r. map.get r.own n) ≡ Some w) ⊎ ((q ≡ path) × ((a : Added) × P a × (a.name ≡ n) × (a.whole ≡ w)))
      by false o t e = inl e
      by true None t e = inl e
      by true (Some r) t e = ⊎_elim inl (λ a. inr (same_key q path t, a)) (get-with_added_cases P r.own (added_records c path s) n w all e)

  own_kept : (q n : List ℕ) → IsTrue (is_some (own c q n)) → IsTrue (is_some (own new q n))
  own_kept q n h = ap (λ o. is_some (and_then o (λ r. map.get r.own n))) (get-at_repo c path written q) ∙ by (eq_by_cmp key_cmp q path) (map.get c q) h
    where
      by : (b : Bool) (o : Option Repo) → IsTrue (is_some (and_then o (λ r. map.get r.own n))) → IsTrue (is_some (and_then (cond b (option_map written o) o) (λ r. map.get r.own n)))
      by false o h = h
      by true None h = h
      by true (Some r) h = with_added_keeps r.own (added_records c path s) n h

  pool_same : (q : List ℕ) → pool_of new q ≡ pool_of c q
  pool_same q = ap (λ o. and_then o (λ r. r.pool)) (get-at_repo c path written q) ∙ unchanged (eq_by_cmp key_cmp q path) (map.get c q) written (λ r. r.pool) (λ r. refl)

  -- ---- what is seen

  pub visible_kept : (q n : List ℕ) → IsTrue (is_visible c q n) → IsTrue (is_visible new q n)
  visible_kept q n h =
      subst (λ (p : Option (List ℕ)). IsTrue (is_some (option_or (own new q n) (and_then p (λ pool. own new pool n))))) (sym (pool_same q))
      (or_kept (own c q n) (and_then (pool_of c q) (λ pool. own c pool n)) (own new q n) (and_then (pool_of c q) (λ pool. own new pool n)) (own_kept q n) (through (pool_of c q)) h)
    where
      through : (p : Option (List ℕ)) → IsTrue (is_some (and_then p (λ pool. own c pool n))) → IsTrue (is_some (and_then p (λ pool. own new pool n)))
      through None h = h
      through (Some pool) h = own_kept pool n h

  -- what is seen was seen before, or it was added here or to the pool
  found_cases : (P : Added → Type 0) (q n w : List ℕ) → AllByRecursion P (added_records c path s) → found new q n ≡ Some w
      → (found c q n ≡ Some w) ⊎ (((q ≡ path) ⊎ (pool_of c q ≡ Some path)) × ((a : Added) × P a × (a.name ≡ n) × (a.whole ≡ w)))
  found_cases P q n w all e = by (own new q n) refl e
    where
      not_own : own new q n ≡ None → own c q n ≡ None
      not_own none = old (own c q n) refl
        where
          old : (o : Option (List ℕ)) → own c q n ≡ o → o ≡ None
          old None is = refl
          old (Some x) is = absurd (true≢false (sym (own_kept q n (ap is_some is)) ∙ ap is_some none))

      through : (p : Option (List ℕ)) → own new q n ≡ None → pool_of c q ≡ p → and_then p (λ pool. own new pool n) ≡ Some w
          → (found c q n ≡ Some w) ⊎ (((q ≡ path) ⊎ (pool_of c q ≡ Some path)) × ((a : Added) × P a × (a.name ≡ n) × (a.whole ≡ w)))
      through None none is e = some_none w (sym e)
      through (Some pool) none is e =
          ⊎_elim (λ old. inl (ap (λ o. option_or o (and_then (pool_of c q) (λ p. own c p n))) (not_own none) ∙ ap (λ o. and_then o (λ p. own c p n)) is ∙ old))
          (λ a. inr (inr (is ∙ ap Some a.0), a.1)) (own_cases P pool n w all e)

      by : (o : Option (List ℕ)) → own new q n ≡ o → option_or o (and_then (pool_of new q) (λ pool. own new pool n)) ≡ Some w
          → (found c q n ≡ Some w) ⊎ (((q ≡ path) ⊎ (pool_of c q ≡ Some path)) × ((a : Added) × P a × (a.name ≡ n) × (a.whole ≡ w)))
      by (Some x) is e = ⊎_elim (λ old. inl (ap (λ o. option_or o (and_then (pool_of c q) (λ pool. own c pool n))) old)) (λ a. inr (inl a.0, a.1)) (own_cases P q n w all (is ∙ e))
      by None is e = through (pool_of c q) is refl (subst (λ (p : Option (List ℕ)). and_then p (λ pool. own new pool n) ≡ Some w) (pool_same q) e)

  -- ---- pools

  good_pool : (r : Repo) → HasGoodPool c r → HasGoodPool new r
  good_pool r g = record { none = g.none; some = λ pool is. let p = g.some pool is in by pool p.0 p.1 p.2 (eq_by_cmp key_cmp pool path) (sym (get-at_repo c path written pool)) }
    where
      by : (pool : List ℕ) (p : Repo) → map.get c pool ≡ Some p → p.is_pool ≡ true → (b : Bool) → cond b (option_map written (map.get c pool)) (map.get c pool) ≡ map.get new pool → (p : Repo) × (map.get new pool ≡ Some p) × (p.is_pool ≡ true)
      by pool p is good true e = (written p, sym e ∙ ap (option_map written) is, good)
      by pool p is good false e = (p, sym e ∙ is, good)

  new_pools : IsSound c → (q : List ℕ) (r : Repo) → map.get new q ≡ Some r → HasGoodPool new r
  new_pools sound q r e = by (eq_by_cmp key_cmp q path) (map.get c q) refl (sym (get-at_repo c path written q) ∙ e)
    where
      some_repo : (x y : Repo) → Some x ≡ Some y → x ≡ y
      some_repo x y e = ap (λ o. elim o as (λ o. Repo) [ None ↦ x | Some z ↦ z ]) e

      by : (b : Bool) (o : Option Repo) → map.get c q ≡ o → cond b (option_map written o) o ≡ Some r → HasGoodPool new r
      by false o is e = good_pool r (sound.pools q r (is ∙ e))
      by true None is e = some_none r (sym e)
      by true (Some x) is e =
          let g = good_pool x (sound.pools q x is) in
          subst (λ (r : Repo). HasGoodPool new r) (some_repo (written x) r e) (record { none = g.none; some = g.some })

  -- what is seen in a pool is seen in its members
  through_pool : IsSound c → (q n : List ℕ) → pool_of c q ≡ Some path → IsTrue (is_visible new path n) → IsTrue (is_visible new q n)
  through_pool sound q n is seen = member (pool_of_path (map.get c q) refl is)
    where
      pool_of_path : (o : Option Repo) → map.get c q ≡ o → and_then o (λ r. r.pool) ≡ Some path → pool_of new path ≡ None
      pool_of_path None e is = some_none path (sym is)
      pool_of_path (Some r) e is =
          let g = (sound.pools q r e).some path is in
          pool_same path ∙ ap (λ o. and_then o (λ r. r.pool)) g.1 ∙ (sound.pools path g.0 g.1).none g.2

      or_nothing : (o : Option (List ℕ)) → option_or o None ≡ o
      or_nothing None = refl
      or_nothing (Some x) = refl

      or_some : (o p : Option (List ℕ)) → IsTrue (is_some p) → IsTrue (is_some (option_or o p))
      or_some None p h = h
      or_some (Some x) p h = refl

      member : pool_of new path ≡ None → IsTrue (is_visible new q n)
      member none =
          let here : IsTrue (is_some (own new path n)) = sym (ap is_some (ap (λ p. option_or (own new path n) (and_then p (λ pool. own new pool n))) none ∙ or_nothing (own new path n))) ∙ seen in
          subst (λ (p : Option (List ℕ)). IsTrue (is_some (option_or (own new q n) (and_then p (λ pool. own new pool n))))) (sym (pool_same q ∙ is)) (or_some (own new q n) (own new path n) here)

  -- ---- what will be there is there

  present_there : IsTrue (has_repo c path) → (n : List ℕ) → IsTrue (is_present c path s n) → IsTrue (is_visible new path n)
  present_there there n h = by (is_visible c path n) refl h
    where
      laid_here : is_visible c path n ≡ false → IsTrue (is_staged s n) → (o : Option Repo) → map.get c path ≡ o → IsTrue (is_some o) → IsTrue (is_some (and_then (option_map written o) (λ r. map.get r.own n)))
      laid_here hidden staged None is there = absurd (true≢false (sym there))
      laid_here hidden staged (Some r) is there = staged_laid c path s n r.own staged hidden

      mine : is_visible c path n ≡ false → IsTrue (is_staged s n) → IsTrue (is_some (own new path n))
      mine hidden staged =
          ap (λ o. is_some (and_then o (λ r. map.get r.own n))) (get-at_repo c path written path ∙ ap (λ b. cond b (option_map written (map.get c path)) (map.get c path)) (itself path))
          ∙ laid_here hidden staged (map.get c path) refl there

      or_own : (o p : Option (List ℕ)) → IsTrue (is_some o) → IsTrue (is_some (option_or o p))
      or_own None p h = absurd (true≢false (sym h))
      or_own (Some x) p h = refl

      by : (b : Bool) → is_visible c path n ≡ b → (b || is_staged s n) ≡ true → IsTrue (is_visible new path n)
      by true is h = visible_kept path n is
      by false is h = or_own (own new path n) _ (mine is h)

  -- ---- the whole

  new_named : IsSound c → AllByRecursion (λ a. sha1 a.whole ≡ a.name) s.records → (q n w : List ℕ) → own new q n ≡ Some w → sha1 w ≡ n
  new_named sound named q n w e =
      ⊎_elim (sound.named q n w) (λ a. ap sha1 (sym a.1.3) ∙ a.1.1 ∙ a.1.2) (own_cases (λ a. sha1 a.whole ≡ a.name) q n w (every_added c path s _ named) e)

  new_referred : IsSound c → Passed c path s → (q ref n : List ℕ) → value new q ref ≡ Some n → IsTrue (is_visible new q n)
  new_referred sound p q ref n e = by (eq_by_cmp key_cmp q path) (map.get c q) refl refl (sym (ap (λ o. and_then o (λ r. map.get r.refs ref)) (get-at_repo c path written q)) ∙ e)
    where
      there : AllByRecursion (λ u. (n : List ℕ) → target u ≡ Some n → IsTrue (is_visible new path n)) s.refs
      there = every_weaker _ _ (λ u present n is. present_there p.there n (present n is)) s.refs (targets_present c path s p.values)

      by : (b : Bool) (o : Option Repo) → eq_by_cmp key_cmp q path ≡ b → map.get c q ≡ o → and_then (cond b (option_map written o) o) (λ r. map.get r.refs ref) ≡ Some n → IsTrue (is_visible new q n)
      by false o t is e = visible_kept q n (sound.referred q ref n (ap (λ o. and_then o (λ r. map.get r.refs ref)) is ∙ e))
      by true None t is e = some_none n (sym e)
      by true (Some r) t is e =
          ⊎_elim (λ old. visible_kept q n (sound.referred q ref n (ap (λ o. and_then o (λ r. map.get r.refs ref)) is ∙ old)))
          (λ u. subst (λ (q : List ℕ). IsTrue (is_visible new q n)) (sym (same_key q path t)) (u.1 n u.2)) (get-with_refs_cases _ r.refs s.refs ref n there e)

  new_closed : IsSound c → Passed c path s → (q n dep : List ℕ) → Needs new q n dep → IsTrue (is_visible new q dep)
  new_closed sound p q n dep needs =
      ⊎_elim (λ old. visible_kept q dep (sound.closed q n dep (record { whole = needs.whole; seen = old; mentions = needs.mentions })))
      (λ a. place a.0 (a.1.1 dep (subst (λ (w : List ℕ). IsAmong (deps w) dep) (sym a.1.3) needs.mentions))) (found_cases _ q n needs.whole there needs.seen)
    where
      there : AllByRecursion (λ a. (dep : List ℕ) → IsAmong (deps a.whole) dep → IsTrue (is_visible new path dep)) (added_records c path s)
      there = every_weaker _ _ (λ a present dep is. present_there p.there dep (present dep is)) (added_records c path s) (deps_present c path s p.deps)

      place : (q ≡ path) ⊎ (pool_of c q ≡ Some path) → IsTrue (is_visible new path dep) → IsTrue (is_visible new q dep)
      place (inl is) h = subst (λ (q : List ℕ). IsTrue (is_visible new q dep)) (sym is) h
      place (inr is) h = through_pool sound q dep is h

  new_sound : IsSound c → AllByRecursion (λ a. sha1 a.whole ≡ a.name) s.records → Passed c path s → IsSound new
  new_sound sound named p = record { pools = new_pools sound; named = new_named sound named; referred = new_referred sound p; closed = new_closed sound p }

pub commit_sound : (c : Content) (path : List ℕ) (s : Staged) (ready : Ready) → IsSound c → All (λ a. sha1 a.whole ≡ a.name) s.records → verdict c path s ≡ Ok ready
    → IsSound (changed c path (Write ready.refs ready.needed (added_records c path s)))
unfolding changed
commit_sound c path s ready sound named is =
    let g = good c path s ready is in
    subst (λ (refs : List RefUpdate). IsSound (at_repo c path (λ r. record r { refs = with_refs r.refs refs; own = with_added r.own (added_records c path s) }))) (sym g.1)
    (new_sound c path s sound (recursion_from_All _ s.records named) (passed c path s g.0))
