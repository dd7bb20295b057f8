-- What a change makes of the repository at a path, and that it leaves the others.
use Rattle.std.proofs.Common.{◌≡◌, ℕ, Bool, true, false, cond, is_some, List, Option, Some, None, refl, sym, ◌∙◌, ap}
use Rattle.std.specs.Option.{option_map}
use Rattle.std.specs.Ordering.{eq_by_cmp, is_eq}
use Rattle.std.specs.Cmp.Lexicographic.{nat_list_cmp_total}
use Rattle.std.specs.declared.cmp.Ordering.{Ordering}
use Rattle.std.specs.declared.cmp.Ordering.TheVariants.{Less, Equal, Greater}
use Rattle.std.specs.FinMap as map
use Rattle.std.specs.FinMap.{get-insert, get-remove, get-empty, get_tied}
use Rattle.gt_model.specs.declared.change.Change.{Change}
use Rattle.gt_model.specs.declared.change.Change.TheVariants.{Create, Delete, Link, Write, Repack, Prune, PackRefs, Unlink}
use Rattle.gt_model.specs.declared.entry.Entry.{Entry}
use Rattle.gt_model.specs.Contents.{Content, Repo, nothing, key_cmp, new_repo, has_repo, with_refs, with_added, without, unlinked, change_repo, at_repo, changed, after}

pub is_eq-true : (o : Ordering) → is_eq o ≡ true → o ≡ Equal
is_eq-true Less e = cc
is_eq-true Equal e = refl
is_eq-true Greater e = cc

-- equal keys have equal values
pub get-alike : {X : Type 0} (m : map.FinMap key_cmp X) (p q : List ℕ) → eq_by_cmp key_cmp q p ≡ true → map.get m q ≡ map.get m p
get-alike m p q t = sym (get_tied nat_list_cmp_total m q p (is_eq-true (key_cmp q p) t))

-- what a content has at a path once the repository at another was changed
pub get-at_repo : (c : Content) (p : List ℕ) (f : Repo → Repo) (q : List ℕ) → map.get (at_repo c p f) q ≡ cond (eq_by_cmp key_cmp q p) (option_map f (map.get c q)) (map.get c q)
get-at_repo c p f q = by (map.get c p) refl
  where
    none : (b : Bool) → eq_by_cmp key_cmp q p ≡ b → map.get c p ≡ None → map.get c q ≡ cond b (option_map f (map.get c q)) (map.get c q)
    none true t e = let n : map.get c q ≡ None = get-alike c p q t ∙ e in n ∙ ap (option_map f) (sym n)
    none false t e = refl

    some : (b : Bool) (r : Repo) → eq_by_cmp key_cmp q p ≡ b → map.get c p ≡ Some r → cond b (Some (f r)) (map.get c q) ≡ cond b (option_map f (map.get c q)) (map.get c q)
    some true r t e = sym (ap (option_map f) (get-alike c p q t ∙ e))
    some false r t e = refl

    by : (o : Option Repo) → map.get c p ≡ o → map.get (change_repo o c p f) q ≡ cond (eq_by_cmp key_cmp q p) (option_map f (map.get c q)) (map.get c q)
    by None e = none _ refl e
    by (Some r) e = get-insert nat_list_cmp_total c p (f r) q ∙ some _ r refl e

-- whether a repository is there after a change of it
abbrev pub is_there : Change → Bool → Bool
is_there (Create pool) before = true
is_there Delete before = false
is_there (Link pool) before = before
is_there (Write refs needed added) before = before
is_there (Repack file dropped) before = before
is_there (Prune file dropped) before = before
is_there (PackRefs file) before = before
is_there (Unlink file) before = before

some_by : (b : Bool) (r : Repo) (o : Option Repo) → is_some (cond b (Some r) o) ≡ cond b true (is_some o)
some_by true r o = refl
some_by false r o = refl

none_by : (b : Bool) (o : Option Repo) → is_some (cond b None o) ≡ cond b false (is_some o)
none_by true o = refl
none_by false o = refl

same_by : (b : Bool) (f : Repo → Repo) (o : Option Repo) → is_some (cond b (option_map f o) o) ≡ cond b (is_some o) (is_some o)
same_by true f None = refl
same_by true f (Some r) = refl
same_by false f o = refl

kept_by : (b x : Bool) → x ≡ cond b x x
kept_by true x = refl
kept_by false x = refl

has_repo-at_repo : (c : Content) (p : List ℕ) (f : Repo → Repo) (q : List ℕ) → has_repo (at_repo c p f) q ≡ cond (eq_by_cmp key_cmp q p) (has_repo c q) (has_repo c q)
has_repo-at_repo c p f q = ap is_some (get-at_repo c p f q) ∙ same_by (eq_by_cmp key_cmp q p) f (map.get c q)

has_repo-changed : (c : Content) (path : List ℕ) (change : Change) (q : List ℕ) → has_repo (changed c path change) q ≡ cond (eq_by_cmp key_cmp q path) (is_there change (has_repo c q)) (has_repo c q)
unfolding changed
has_repo-changed c path (Create pool) q = ap is_some (get-insert nat_list_cmp_total c path (new_repo pool) q) ∙ some_by (eq_by_cmp key_cmp q path) (new_repo pool) (map.get c q)
has_repo-changed c path Delete q = ap is_some (get-remove nat_list_cmp_total c path q) ∙ none_by (eq_by_cmp key_cmp q path) (map.get c q)
has_repo-changed c path (Link pool) q = has_repo-at_repo c path (λ r. record r { pool = Some pool }) q
has_repo-changed c path (Write refs needed added) q = has_repo-at_repo c path (λ r. record r { refs = with_refs r.refs refs; own = with_added r.own added }) q
has_repo-changed c path (Repack file dropped) q = has_repo-at_repo c path (λ r. record r { own = without r.own dropped }) q
has_repo-changed c path (Prune file dropped) q = has_repo-at_repo c path (λ r. record r { own = without r.own dropped }) q
has_repo-changed c path (PackRefs file) q = kept_by (eq_by_cmp key_cmp q path) (has_repo c q)
has_repo-changed c path (Unlink file) q = has_repo-at_repo c path (unlinked c) q

-- what an entry makes is there, what it deletes isn't, and the rest is as it was
pub has_repo-after : (c : Content) (e : Entry) (q : List ℕ) → has_repo (after c e) q ≡ cond (eq_by_cmp key_cmp q e.path) (is_there e.change (has_repo c q)) (has_repo c q)
has_repo-after c e q = has_repo-changed c e.path e.change q

pub has_repo-nothing : (q : List ℕ) → has_repo nothing q ≡ false
has_repo-nothing q = ap is_some (get-empty key_cmp q)
