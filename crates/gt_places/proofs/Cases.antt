-- A record and a place that are each found in one of two ways.
use Rattle.std.proofs.Common.{◌≡◌, ℕ, Bool, true, false, cond, is_some, List, [], ◌∷◌, Option, Some, None, sym, ◌∙◌, true≢false}
use Rattle.std.specs.Option.{option_or, unwrap_or}
use Rattle.std.specs.Ordering.{eq_by_cmp}
use Rattle.std.specs.Cmp.Lexicographic.{nat_list_cmp_total}
use Rattle.std.specs.FinMap as map
use Rattle.std.specs.FinMap.{get-remove}
use Rattle.gt_model.specs.Contents.{Names, key_cmp, without}
use Rattle.gt_model.proofs.Checks.{some_none}
use Rattle.gt_objset.specs.declared.place.Place.{Place}
use Rattle.gt_objset.specs.Places.{gone, last_put}

module _ (Good : List ℕ → Place → Type 0) where
  -- each record that is found here is good at the place that is found here
  abbrev pub AreGood : Option (List ℕ) → Option Place → Type 0
  AreGood record_ place = (whole : List ℕ) (at : Place) → record_ ≡ Some whole → place ≡ Some at → Good whole at

  -- the first ones, else the second ones
  pub either_good : (a b : Option (List ℕ)) (s t : Option Place) → is_some s ≡ is_some a → AreGood a s → AreGood b t → AreGood (option_or a b) (option_or s t)
  either_good None b None t same first second = second
  either_good (Some w) b (Some p) t same first second = first
  either_good None b (Some p) t same first second = absurd (true≢false same)
  either_good (Some w) b None t same first second = absurd (true≢false (sym same))

  -- names that are dropped have no place any more, and the others are as before
  pub dropped_good : (names : List (List ℕ)) (m : Names) (x : List ℕ) (found : Option (Option Place)) (old : Option Place) → AreGood (map.get m x) (unwrap_or found old)
      → AreGood (map.get (without m names) x) (unwrap_or (last_put (gone names) x found) old)
  dropped_good [] m x found old good = good
  dropped_good (n ∷ names) m x found old good = dropped_good names (map.remove m n) x (cond (eq_by_cmp key_cmp x n) (Some None) found) old by_name
    where
      by : (b : Bool) → AreGood (cond b None (map.get m x)) (unwrap_or (cond b (Some None) found) old)
      by true = λ whole at is placed. some_none whole (sym is)
      by false = good

      by_name : AreGood (map.get (map.remove m n) x) (unwrap_or (cond (eq_by_cmp key_cmp x n) (Some None) found) old)
      by_name whole at is placed = by (eq_by_cmp key_cmp x n) whole at (sym (get-remove nat_list_cmp_total m n x) ∙ is) placed
