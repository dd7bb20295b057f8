-- A component is what stands before the first slash, and a scan of what is left gives the same place as a scan of the whole.
use Rattle.std.proofs.Common.{◌≡◌, ℕ, Bool, true, false, not, cond, ltb, List, length, take, Some, None, position, unwrap_or, refl, ap, arith}
use Rattle.std.proofs.lemmas.Bool.Decides.{nat_tests}
use Rattle.std.proofs.lemmas.List.Sums.{prefix_len-le-length}
use Rattle.std.specs.List.{position_or_len, before_first}

-- what stands before the first element that passes, cut by its place or by the whole length
pub take-position : (p : ℕ → Bool) (r : List ℕ) → take (unwrap_or (position p r) (length r)) r ≡ before_first p r
take-position p r = by (ltb (position_or_len p r) (length r)) refl
  where
    by : (b : Bool) → ltb (position_or_len p r) (length r) ≡ b → take (unwrap_or (cond b (Some (position_or_len p r)) None) (length r)) r ≡ take (position_or_len p r) r
    by true e = refl
    by false e =
        let least = prefix_len-le-length (λ x. not (p x)) r in
        let same : length r ≡ position_or_len p r = grind (arith, nat_tests, least) in
        ap (λ n. take n r) same
