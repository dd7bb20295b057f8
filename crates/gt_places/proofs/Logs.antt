-- Records stand where they are placed at each position of a log.
use Rattle.std.proofs.Common.{◌≡◌, ℕ, ◌+◌, ◌-◌, zero, suc, List, [], ◌∷◌, take, Option, Some, None, inr, refl, sym, subst, arith, slice_get, All}
use Rattle.std.specs.List.{AllByRecursion}
use Rattle.std.specs.Option.{option_map}
use Rattle.std.specs.FinMap as map
use Rattle.std.proofs.lemmas.List.Elements.{recursion_from_All}
use Rattle.gt_model.specs.declared.entry.Entry.{Entry}
use Rattle.gt_model.specs.Contents.{Content, Repo, and_then, own, pool_of, found, after, after_all, at, IsLegal}
use Rattle.gt_model.proofs.Checks.{some_none}
use Rattle.gt_entry.specs.Fits.{IsEntry}
use Rattle.gt_objset.specs.declared.place.Place.{Place}
use Rattle.gt_objset.specs.Places.{head_in, pool_in, seen, own_after, places_after, places_at}
use Rattle.gt_objset.specs.Agree.{ArePlaced}
use Rattle.gt_places.specs.Standing.{IsBased}
use Rattle.gt_objset.proofs.ContentLaws.{head_of_repo, placed-after}
use Rattle.gt_objset.proofs.AgreeLaws.{placed_all}
use Rattle.gt_places.proofs.Cases.{AreGood, either_good}
use Rattle.gt_places.proofs.Records.{Bases, IsGood}
use Rattle.gt_places.proofs.Changes.{AllGood, entry_good}

-- ---- own objects

-- behind entries whose records stand in place, those of so many more do too
entries_good : (Base : Bases) (start : ℕ) (log : List Entry) (n : ℕ) (rest : List Entry) (index : ℕ) (c : Content) (places : List ℕ → List ℕ → Option Place)
    → ((k : ℕ) (e : Entry) → slice_get rest k ≡ Some e → slice_get log (index + k) ≡ Some e) → IsLegal c (index + (start + 1)) rest → AllByRecursion IsEntry rest
    → ArePlaced c places → AllGood Base start log c places → AllGood Base start log (after_all c (take n rest)) (places_after c places (take n rest))
entries_good Base start log zero rest index c places at_log legal typed placed good = good
entries_good Base start log (suc n) [] index c places at_log legal typed placed good = good
entries_good Base start log (suc n) (e ∷ rest) index c places at_log legal typed placed good =
    entries_good Base start log n rest (index + 1) (after c e) (own_after e (head_in c e.path) places)
    (λ k f is. subst (λ (i : ℕ). slice_get log i ≡ Some f) (let same : index + suc k ≡ index + 1 + k = omega arith in same) (at_log (suc k) f is))
    (subst (λ (p : ℕ). IsLegal (after c e) p rest) (let same : index + (start + 1) + 1 ≡ index + 1 + (start + 1) = omega arith in same) legal.2) typed.1 (placed-after c places placed e)
    (entry_good Base start log c places placed good e index (subst (λ (i : ℕ). slice_get log i ≡ Some e) (let same : index + 0 ≡ index = omega arith in same) (at_log 0 e refl)) legal.0 typed.0)

module _ (start : ℕ) (base : Content) (based : List ℕ → List ℕ → Option Place) (placed : ArePlaced base based) (log : List Entry) (position : ℕ) (legal : IsLegal base (start + 1) log) (typed : All IsEntry log) where
  abbrev Base : Bases
  Base whole place = IsBased base based place whole

  abbrev content : Content
  content = at start base log position

  abbrev places : List ℕ → List ℕ → Option Place
  places = places_at start base based log position

  pub own_good : AllGood Base start log content places
  own_good =
      entries_good Base start log (position - start) log 0 base based
      (λ k e is. subst (λ (i : ℕ). slice_get log i ≡ Some e) (let same : k ≡ 0 + k = omega arith in same) is)
      (subst (λ (p : ℕ). IsLegal base p log) (let same : start + 1 ≡ 0 + (start + 1) = omega arith in same) legal) (recursion_from_All IsEntry log typed)
      placed (λ path x whole place has here. inr (record { path = path; name = x; owned = has; placed = here }))

  -- ---- what is seen

  through_pool : (x : List ℕ) (o : Option Repo)
      → AreGood (IsGood Base start log) (and_then (and_then o (λ r. r.pool)) (λ pool. own content pool x)) (and_then (pool_in (option_map head_of_repo o)) (λ pool. places pool x))
  through_pool x None = λ whole place has here. some_none place (sym here)
  through_pool x (Some r) = by r.pool
    where
      by : (pool : Option (List ℕ)) → AreGood (IsGood Base start log) (and_then pool (λ pool. own content pool x)) (and_then pool (λ pool. places pool x))
      by None = λ whole place has here. some_none place (sym here)
      by (Some pool) = own_good pool x

  pub seen_good : (path x : List ℕ) → AreGood (IsGood Base start log) (found content path x) (seen (head_in content path) places path x)
  seen_good path x =
      either_good (IsGood Base start log) (own content path x) (and_then (pool_of content path) (λ pool. own content pool x)) (places path x) (and_then (pool_in (head_in content path)) (λ pool. places pool x))
      (placed_all base based (take (position - start) log) placed path x) (own_good path x) (through_pool x (map.get content path))
