-- What each reference names, and which record each name has, after the updates and the records of a write.
use Rattle.std.proofs.Common.{◌≡◌, ◌⊎◌, inl, inr, ⊎_elim, ℕ, Bool, true, false, cond, is_some, List, [], ◌∷◌, Option, Some, None, refl, sym, ◌∙◌, ap, IsTrue}
use Rattle.std.specs.Option.{option_map, unwrap_or}
use Rattle.std.specs.Ordering.{eq_by_cmp}
use Rattle.std.specs.Cmp.{eq_by_cmp_equiv}
use Rattle.std.specs.Cmp.Lexicographic.{nat_list_cmp_total}
use Rattle.std.specs.List.{AllByRecursion}
use Rattle.std.specs.FinMap as map
use Rattle.std.specs.FinMap.{get-insert, get-remove, slice_cmp-IsAntisymmetric, nat_cmp-IsAntisymmetric}
use Rattle.gt_model.specs.declared.added.Added.{Added}
use Rattle.gt_model.specs.declared.change.Change.TheVariants.{Write}
use Rattle.gt_model.specs.declared.update.RefUpdate.{RefUpdate}
use Rattle.gt_model.specs.Contents.{Content, Repo, Names, key_cmp, is_zero, and_then, value, with_value, with_refs, with_added, changed}
use Rattle.gt_model.specs.Verdicts.{target}
use Rattle.gt_model.proofs.Repositories.{is_eq-true, get-at_repo}

-- ---- keys

-- keys that tie are equal
pub same_key : (q p : List ℕ) → eq_by_cmp key_cmp q p ≡ true → q ≡ p
same_key q p t = slice_cmp-IsAntisymmetric nat_cmp-IsAntisymmetric q p (is_eq-true (key_cmp q p) t)

pub itself : (p : List ℕ) → eq_by_cmp key_cmp p p ≡ true
itself p = (eq_by_cmp_equiv nat_list_cmp_total).refl p

pub some_same : (x y : List ℕ) → Some x ≡ Some y → x ≡ y
some_same x y e = ap (λ o. unwrap_or o x) e

-- ---- references

-- what an update or a check makes of the value at its reference
abbrev pub given : Option (List ℕ) → Option (List ℕ) → Option (List ℕ)
given None old = old
given (Some new) old = cond (is_zero new) None (Some new)

pub get-with_value : (m : Names) (name : List ℕ) (new : Option (List ℕ)) (q : List ℕ) → map.get (with_value m name new) q ≡ cond (eq_by_cmp key_cmp q name) (given new (map.get m q)) (map.get m q)
get-with_value m name None q = kept q
  where
    kept : (q : List ℕ) → map.get m q ≡ cond (eq_by_cmp key_cmp q name) (map.get m q) (map.get m q)
    kept q = elim (eq_by_cmp key_cmp q name) as (λ b. map.get m q ≡ cond b (map.get m q) (map.get m q)) [ true ↦ refl | false ↦ refl ]
get-with_value m name (Some new) q =
    elim (is_zero new) as (λ b. map.get (cond b (map.remove m name) (map.insert m name new)) q ≡ cond (eq_by_cmp key_cmp q name) (cond b None (Some new)) (map.get m q)) [
      | true ↦ get-remove nat_list_cmp_total m name q
      | false ↦ get-insert nat_list_cmp_total m name new q
    ]

pub get-with_refs_other : (m : Names) (us : List RefUpdate) (q : List ℕ) → AllByRecursion (λ u. eq_by_cmp key_cmp q u.name ≡ false) us → map.get (with_refs m us) q ≡ map.get m q
get-with_refs_other m [] q h = refl
get-with_refs_other m (u ∷ us) q h =
    get-with_refs_other (with_value m u.name u.new) us q h.1 ∙ get-with_value m u.name u.new q ∙ ap (λ b. cond b (given u.new (map.get m q)) (map.get m q)) h.0

-- a reference has its old value, or an update moved it there
pub get-with_refs_cases : (P : RefUpdate → Type 0) (m : Names) (us : List RefUpdate) (q v : List ℕ) → AllByRecursion P us → map.get (with_refs m us) q ≡ Some v
    → (map.get m q ≡ Some v) ⊎ ((u : RefUpdate) × P u × (target u ≡ Some v))
get-with_refs_cases P m [] q v h e = inl e
get-with_refs_cases P m (u ∷ us) q v h e =
    ⊎_elim (λ before. by (eq_by_cmp key_cmp q u.name) u h.0 (sym (get-with_value m u.name u.new q) ∙ before)) inr (get-with_refs_cases P (with_value m u.name u.new) us q v h.1 e)
  where
    moved : (o new : Option (List ℕ)) (u : RefUpdate) → u.new ≡ new → P u → given new o ≡ Some v → (o ≡ Some v) ⊎ ((u : RefUpdate) × P u × (target u ≡ Some v))
    moved o None u is p e = inl e
    moved o (Some new) u is p e = inr (u, p, ap (λ n. and_then n (λ new. cond (is_zero new) None (Some new))) is ∙ e)

    by : (b : Bool) (u : RefUpdate) → P u → cond b (given u.new (map.get m q)) (map.get m q) ≡ Some v → (map.get m q ≡ Some v) ⊎ ((u : RefUpdate) × P u × (target u ≡ Some v))
    by true u p e = moved (map.get m q) u.new u refl p e
    by false u p e = inl e

-- ---- records

-- a name has its old record, or that of an added one
pub get-with_added_cases : (P : Added → Type 0) (m : Names) (list : List Added) (q w : List ℕ) → AllByRecursion P list → map.get (with_added m list) q ≡ Some w
    → (map.get m q ≡ Some w) ⊎ ((a : Added) × P a × (a.name ≡ q) × (a.whole ≡ w))
get-with_added_cases P m [] q w h e = inl e
get-with_added_cases P m (a ∷ rest) q w h e =
    ⊎_elim (λ before. by (eq_by_cmp key_cmp q a.name) refl (sym (get-insert nat_list_cmp_total m a.name a.whole q) ∙ before)) inr (get-with_added_cases P (map.insert m a.name a.whole) rest q w h.1 e)
  where
    by : (b : Bool) → eq_by_cmp key_cmp q a.name ≡ b → cond b (Some a.whole) (map.get m q) ≡ Some w → (map.get m q ≡ Some w) ⊎ ((a : Added) × P a × (a.name ≡ q) × (a.whole ≡ w))
    by true t e = inr (a, h.0, sym (same_key q a.name t), some_same a.whole w e)
    by false t e = inl e

-- what was there is there
pub with_added_keeps : (m : Names) (list : List Added) (q : List ℕ) → IsTrue (is_some (map.get m q)) → IsTrue (is_some (map.get (with_added m list) q))
with_added_keeps m [] q h = h
with_added_keeps m (a ∷ rest) q h =
    with_added_keeps (map.insert m a.name a.whole) rest q (ap is_some (get-insert nat_list_cmp_total m a.name a.whole q) ∙ by (eq_by_cmp key_cmp q a.name))
  where
    by : (b : Bool) → is_some (cond b (Some a.whole) (map.get m q)) ≡ true
    by true = refl
    by false = h

-- ---- a write

-- what a change of a repository leaves is as before
pub unchanged : {B : Type 0} (b : Bool) (o : Option Repo) (f : Repo → Repo) (g : Repo → Option B) → ((r : Repo) → g (f r) ≡ g r) → and_then (cond b (option_map f o) o) g ≡ and_then o g
unchanged false o f g h = refl
unchanged true None f g h = refl
unchanged true (Some r) f g h = h r

pub value-write_named : (c : Content) (path other name : List ℕ) (refs : List RefUpdate) (needed : List (List ℕ)) (added : List Added) → AllByRecursion (λ u. eq_by_cmp key_cmp name u.name ≡ false) refs
    → value (changed c path (Write refs needed added)) other name ≡ value c other name
unfolding changed
value-write_named c path other name refs needed added h =
    let f : Repo → Repo = λ r. record r { refs = with_refs r.refs refs; own = with_added r.own added } in
    ap (λ o. and_then o (λ r. map.get r.refs name)) (get-at_repo c path f other)
    ∙ unchanged (eq_by_cmp key_cmp other path) (map.get c other) f (λ r. map.get r.refs name) (λ r. get-with_refs_other r.refs refs name h)

pub value-write_elsewhere : (c : Content) (path other name : List ℕ) (refs : List RefUpdate) (needed : List (List ℕ)) (added : List Added) → eq_by_cmp key_cmp other path ≡ false
    → value (changed c path (Write refs needed added)) other name ≡ value c other name
unfolding changed
value-write_elsewhere c path other name refs needed added h =
    let f : Repo → Repo = λ r. record r { refs = with_refs r.refs refs; own = with_added r.own added } in
    ap (λ o. and_then o (λ r. map.get r.refs name)) (get-at_repo c path f other ∙ ap (λ b. cond b (option_map f (map.get c other)) (map.get c other)) h)
