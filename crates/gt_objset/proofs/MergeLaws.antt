-- Laws of two lists of names in one.
use Rattle.std.proofs.Common.{◌≡◌, ℕ, ◌≤◌, Bool, true, false, cond, ◌||◌, is_some, length, drop, zero, suc, List, [], ◌∷◌, Option, Some, None, Result, Ok, Err, IfOk, refl, sym, ap, ◌∙◌, arith}
use Rattle.std.specs.Option.{option_or}
use Rattle.std.specs.List.{list_any}
use Rattle.std.specs.List.Sorted.{IsStrictlySortedBy}
use Rattle.std.specs.Ordering.{eq_by_cmp}
use Rattle.std.specs.FinMap as map
use Rattle.std.specs.FinMap.{contains_key-keys, get-empty}
use Rattle.gt_model.specs.declared.entry.Entry.{Entry}
use Rattle.gt_model.specs.Contents.{key_cmp, Content, own_of, pool_own, pool_of, union}
use Rattle.gt_objset.specs.Lists.{own_names, visible_names}
use Rattle.gt_objset.proofs.ContentLaws.{get-union}
use Rattle.gt_objset.proofs.ListLaws.{same_keys, names_are_keys}

abbrev pub has : List ℕ → List (List ℕ) → Bool
has x names = list_any (λ n. eq_by_cmp key_cmp x n) names

-- one more name
pub one_more : (x n : List ℕ) (rest names : List (List ℕ)) (b c d : Bool) → b ≡ cond (eq_by_cmp key_cmp x n) true c → (has x (n ∷ rest) || c) ≡ d → (has x rest || b) ≡ d
one_more x n rest names b c d e h = ap (λ w. has x rest || w) e ∙ by (eq_by_cmp key_cmp x n) (has x rest) c ∙ h
  where
    by : (t r c : Bool) → (r || cond t true c) ≡ ((t || r) || c)
    by true true c = refl
    by true false c = refl
    by false r c = refl

pub none_left : (x : List ℕ) (names : List (List ℕ)) (i : ℕ) (b : Bool) → length names ≤ i → (has x (drop i names) || b) ≡ b
none_left x [] zero b l = refl
none_left x [] (suc i) b l = refl
none_left x (n ∷ names) zero b l = let no : ⊥ = omega arith in absurd no
none_left x (n ∷ names) (suc i) b l = none_left x names i b (omega arith)

is_some-or : {A : Type 0} (o p : Option A) → is_some (option_or o p) ≡ (is_some o || is_some p)
is_some-or None p = refl
is_some-or (Some a) p = refl

or_flip : (a b : Bool) → (a || b) ≡ (b || a)
or_flip true true = refl
or_flip true false = refl
or_flip false true = refl
or_flip false false = refl

or_none : (o : Option (List ℕ)) → option_or o None ≡ o
or_none None = refl
or_none (Some a) = refl

-- where there is no pool
pub alone : (c : Content) (path : List ℕ) → None ≡ pool_of c path → own_names c path ≡ visible_names c path
alone c path e =
    same_keys (own_of (map.get c path)) (union (own_of (map.get c path)) (pool_own c (pool_of c path))) (λ q.
    sym (ap is_some (get-union (own_of (map.get c path)) (pool_own c (pool_of c path)) q
    ∙ ap (λ p. option_or (map.get (own_of (map.get c path)) q) (map.get (pool_own c p) q)) (sym e)
    ∙ ap (option_or (map.get (own_of (map.get c path)) q)) (get-empty key_cmp q)
    ∙ or_none (map.get (own_of (map.get c path)) q))))

-- with those of its pool
pub together : (c : Content) (path pool : List ℕ) (names own shared : List (List ℕ)) → Some pool ≡ pool_of c path → own ≡ own_names c path → shared ≡ own_names c pool → IsStrictlySortedBy key_cmp names
    → ((x : List ℕ) → has x names ≡ (has x shared || has x own)) → names ≡ visible_names c path
together c path pool names own shared e f g s h =
    names_are_keys names (union (own_of (map.get c path)) (pool_own c (pool_of c path))) s (λ q.
    h q
    ∙ ap (λ l. has q l || has q own) g
    ∙ ap (λ l. has q (own_names c pool) || has q l) f
    ∙ or_flip (has q (own_names c pool)) (has q (own_names c path))
    ∙ sym (ap (λ b. b || has q (own_names c pool)) (contains_key-keys (own_of (map.get c path)) q))
    ∙ sym (ap (λ b. is_some (map.get (own_of (map.get c path)) q) || b) (contains_key-keys (own_of (map.get c pool)) q))
    ∙ sym (is_some-or (map.get (own_of (map.get c path)) q) (map.get (own_of (map.get c pool)) q))
    ∙ ap (λ p. is_some (option_or (map.get (own_of (map.get c path)) q) (map.get (pool_own c p) q))) e
    ∙ sym (ap is_some (get-union (own_of (map.get c path)) (pool_own c (pool_of c path)) q)))

pub ok_together : {E : Type 0} (res : Result (List (List ℕ)) E) (D : Content → List Entry → Type 0) (c : Content → List Entry → Content) (path pool : List ℕ) (own shared own_now shared_now : List (List ℕ))
    → own_now ≡ own → shared_now ≡ shared
    → ((base : Content) (log : List Entry) → D base log → Some pool ≡ pool_of (c base log) path)
    → ((base : Content) (log : List Entry) → D base log → own ≡ own_names (c base log) path)
    → ((base : Content) (log : List Entry) → D base log → shared ≡ own_names (c base log) pool)
    → IfOk res (λ names. IsStrictlySortedBy key_cmp names) → IfOk res (λ names. (x : List ℕ) → has x names ≡ (has x shared_now || has x own_now))
    → IfOk res (λ names. (base : Content) (log : List Entry) → D base log → names ≡ visible_names (c base log) path)
ok_together (Err e) D c path pool own shared own_now shared_now f g p o t s h = tt
ok_together (Ok names) D c path pool own shared own_now shared_now f g p o t s h = λ base log d. together (c base log) path pool names own_now shared_now (p base log d) (f ∙ o base log d) (g ∙ t base log d) s h
