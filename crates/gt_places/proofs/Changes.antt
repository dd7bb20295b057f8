-- Records stand where they are placed after an entry, where they did before it.
use Rattle.std.proofs.Common.{◌≡◌, ℕ, ◌+◌, Bool, true, false, cond, is_some, List, Option, Some, None, refl, sym, ◌∙◌, ap, slice_get}
use Rattle.std.specs.Option.{option_map}
use Rattle.std.specs.Ordering.{eq_by_cmp}
use Rattle.std.specs.Cmp.Lexicographic.{nat_list_cmp_total}
use Rattle.std.specs.FinMap as map
use Rattle.std.specs.FinMap.{get-empty, get-insert, get-remove}
use Rattle.std.proofs.lemmas.List.Elements.{recursion_from_All}
use Rattle.gt_model.specs.declared.change.Change.{Change}
use Rattle.gt_model.specs.declared.change.Change.TheVariants.{Create, Delete, Link, Write, Repack, Prune, PackRefs, Unlink}
use Rattle.gt_model.specs.declared.entry.Entry.{Entry}
use Rattle.gt_model.specs.Contents.{Content, Repo, key_cmp, new_repo, and_then, own, own_of, pool_own, with_refs, with_added, without, unlinked, at_repo, changed, after}
use Rattle.gt_model.proofs.Repositories.{get-alike, get-at_repo}
use Rattle.gt_model.proofs.Values.{itself}
use Rattle.gt_model.proofs.Checks.{some_none}
use Rattle.gt_entry.specs.Fits.{IsName, IsUpdate, IsAdded, IsChange, IsEntry}
use Rattle.gt_objset.specs.declared.place.Place.{Place}
use Rattle.gt_objset.specs.Places.{added_begin, head_in, own_here, own_if, own_after}
use Rattle.gt_objset.specs.Agree.{ArePlaced}
use Rattle.gt_objset.proofs.ContentLaws.{head_of_repo, get-union}
use Rattle.gt_places.proofs.Lengths.{before_added, before_length, write_spelling}
use Rattle.gt_places.proofs.Cases.{AreGood, either_good, dropped_good}
use Rattle.gt_places.proofs.Records.{Bases, IsGood, added_good}

-- ---- contents

-- a changed repository's own objects
own_moved : (c : Content) (path : List ℕ) (f : Repo → Repo) (r : Repo) → map.get c path ≡ Some r → (x : List ℕ) → own (at_repo c path f) path x ≡ map.get (f r).own x
own_moved c path f r is x =
    ap (λ o. and_then o (λ r. map.get r.own x)) (get-at_repo c path f path ∙ ap (λ b. cond b (option_map f (map.get c path)) (map.get c path)) (itself path) ∙ ap (option_map f) is)

moved_elsewhere : (c : Content) (path : List ℕ) (f : Repo → Repo) (q : List ℕ) → eq_by_cmp key_cmp q path ≡ false → map.get (at_repo c path f) q ≡ map.get c q
moved_elsewhere c path f q t = get-at_repo c path f q ∙ ap (λ b. cond b (option_map f (map.get c q)) (map.get c q)) t

-- a change leaves the other repositories
elsewhere : (c : Content) (path : List ℕ) (change : Change) (q : List ℕ) → eq_by_cmp key_cmp q path ≡ false → map.get (changed c path change) q ≡ map.get c q
unfolding changed
elsewhere c path (Create pool) q t = get-insert nat_list_cmp_total c path (new_repo pool) q ∙ ap (λ b. cond b (Some (new_repo pool)) (map.get c q)) t
elsewhere c path Delete q t = get-remove nat_list_cmp_total c path q ∙ ap (λ b. cond b None (map.get c q)) t
elsewhere c path (Link pool) q t = moved_elsewhere c path (λ r. record r { pool = Some pool }) q t
elsewhere c path (Write refs needed added) q t = moved_elsewhere c path (λ r. record r { refs = with_refs r.refs refs; own = with_added r.own added }) q t
elsewhere c path (Repack file dropped) q t = moved_elsewhere c path (λ r. record r { own = without r.own dropped }) q t
elsewhere c path (Prune file dropped) q t = moved_elsewhere c path (λ r. record r { own = without r.own dropped }) q t
elsewhere c path (PackRefs file) q t = refl
elsewhere c path (Unlink file) q t = moved_elsewhere c path (unlinked c) q t

-- ---- a change

-- the record of each own object stands where the object is placed
abbrev pub AllGood : Bases → ℕ → List Entry → Content → (List ℕ → List ℕ → Option Place) → Type 0
AllGood Base start log c places = (path x : List ℕ) → AreGood (IsGood Base start log) (own c path x) (places path x)

module _ (Base : Bases) (start : ℕ) (log : List Entry) (c : Content) (places : List ℕ → List ℕ → Option Place) (placed : ArePlaced c places) (good : AllGood Base start log c places) where
  pool_good : (pool : Option (List ℕ)) (x : List ℕ) → AreGood (IsGood Base start log) (map.get (pool_own c pool) x) (and_then pool (λ p. places p x))
  pool_good None x = λ whole at is here. some_none at (sym here)
  pool_good (Some pool) x = λ whole at is here. good pool x whole at (sym (by (map.get c pool)) ∙ is) here
    where
      by : (o : Option Repo) → map.get (own_of o) x ≡ and_then o (λ r. map.get r.own x)
      by None = get-empty key_cmp x
      by (Some r) = refl

  module _ (path : List ℕ) (r : Repo) (is : map.get c path ≡ Some r) where
    own_is : (x : List ℕ) → own c path x ≡ map.get r.own x
    own_is x = ap (λ o. and_then o (λ r. map.get r.own x)) is

    mine : (x : List ℕ) → AreGood (IsGood Base start log) (map.get r.own x) (places path x)
    mine x whole at has here = good path x whole at (own_is x ∙ has) here

    -- what is good of the changed repository
    moved : (f : Repo → Repo) (x : List ℕ) (place : Option Place) → AreGood (IsGood Base start log) (map.get (f r).own x) place → AreGood (IsGood Base start log) (own (at_repo c path f) path x) place
    moved f x place h whole at has here = h whole at (sym (own_moved c path f r is x) ∙ has) here

    with_pool : (x : List ℕ) → AreGood (IsGood Base start log) (map.get (unlinked c r).own x) (own_here (Unlink 0) 0 path (Some (head_of_repo r)) places x)
    with_pool x whole at has here =
        either_good (IsGood Base start log) (map.get r.own x) (map.get (pool_own c r.pool) x) (places path x) (and_then r.pool (λ p. places p x))
        (placed path x ∙ ap is_some (own_is x)) (mine x) (pool_good r.pool x) whole at (sym (get-union r.own (pool_own c r.pool) x) ∙ has) here

    change_good : (change : Change) (position index : ℕ) → slice_get log index ≡ Some (record { position = position; path = path; change = change }) → position ≡ index + (start + 1) → IsChange change
        → (x : List ℕ) → AreGood (IsGood Base start log) (own (changed c path change) path x) (own_here change position path (Some (head_of_repo r)) places x)
    unfolding changed
    change_good (Create pool) position index there numbered typed x = λ whole at has here. some_none at (sym here)
    change_good Delete position index there numbered typed x = λ whole at has here. some_none at (sym here)
    change_good (Link pool) position index there numbered typed x = moved (λ r. record r { pool = Some pool }) x (places path x) (mine x)
    change_good (Write refs needed added) position index there numbered typed x =
        moved (λ r. record r { refs = with_refs r.refs refs; own = with_added r.own added }) x _
        (added_good Base start log index position (record { position = position; path = path; change = Write refs needed added }) there numbered added (before_added position path refs needed added) (added_begin path refs needed)
        (recursion_from_All IsAdded added typed.added) (sym (before_length position path refs needed added (recursion_from_All IsUpdate refs typed.refs) (recursion_from_All IsName needed typed.needed)))
        (write_spelling position path refs needed added) r.own x None (places path x) (mine x))
    change_good (Repack file dropped) position index there numbered typed x = moved (λ r. record r { own = without r.own dropped }) x _ (dropped_good (IsGood Base start log) dropped r.own x None (places path x) (mine x))
    change_good (Prune file dropped) position index there numbered typed x = moved (λ r. record r { own = without r.own dropped }) x _ (dropped_good (IsGood Base start log) dropped r.own x None (places path x) (mine x))
    change_good (PackRefs file) position index there numbered typed x = good path x
    change_good (Unlink file) position index there numbered typed x = moved (unlinked c) x _ (with_pool x)

  pub entry_good : (e : Entry) (index : ℕ) → slice_get log index ≡ Some e → e.position ≡ index + (start + 1) → IsEntry e → AllGood Base start log (after c e) (own_after e (head_in c e.path) places)
  entry_good e index there numbered typed q x whole at has here = by (eq_by_cmp key_cmp q e.path) refl here
    where
      in_repo : (o : Option Repo) → map.get c e.path ≡ o → own (after c e) e.path x ≡ Some whole
          → own_if (option_map head_of_repo o) (own_here e.change e.position e.path (option_map head_of_repo o) places x) ≡ Some at → IsGood Base start log whole at
      in_repo None is has here = some_none at (sym here)
      in_repo (Some r) is has here = change_good e.path r is e.change e.position index there numbered typed.change x whole at has here

      by : (b : Bool) → eq_by_cmp key_cmp q e.path ≡ b → cond b (own_if (head_in c e.path) (own_here e.change e.position e.path (head_in c e.path) places x)) (places q x) ≡ Some at → IsGood Base start log whole at
      by false t here = good q x whole at (sym (ap (λ o. and_then o (λ r. map.get r.own x)) (elsewhere c e.path e.change q t)) ∙ has) here
      by true t here = in_repo (map.get c e.path) refl (sym (ap (λ o. and_then o (λ r. map.get r.own x)) (get-alike (after c e) e.path q t)) ∙ has) here
