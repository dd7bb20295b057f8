-- Laws of what begins anew.
use Rattle.std.proofs.Common.{◌≡◌, ℕ, ◌<◌, ◌≤◌, Bool, true, false, cond, nat_le, List, [], ◌∷◌, Option, Some, None, IfSome, refl, ap, ◌∙◌, arith}
use Rattle.std.proofs.lemmas.Bool.Decides.{nat_tests}
use Rattle.gt_versions.specs.Versions.{last_at, IsUpTo, put_at}
use Rattle.gt_versions.specs.Lives.{since, lives_since, start_of, value_since}
use Rattle.gt_versions.proofs.VersionLaws.{put_later}

-- a life that stands at a position begins at the newest or before
since_le : (q p : ℕ) (es : List (ℕ × Bool)) (found : Option (ℕ × Bool)) → IsUpTo q es → ((c : ℕ) → since found ≡ Some c → c ≤ q) → (c : ℕ) → since (last_at es p found) ≡ Some c → c ≤ q
since_le q p [] found u f c e = f c e
since_le q p (x ∷ es) found u f c e = since_le q p es (cond (nat_le x.0 p) (Some x) found) u.1 (later (nat_le x.0 p)) c e
  where
    begins : (b : Bool) (c : ℕ) → since (Some (x.0, b)) ≡ Some c → c ≤ q
    begins true c e = let a : x.0 ≤ q = u.0 in let same : x.0 ≡ c = cc in omega arith
    begins false c e = let no : ⊥ = cc in absurd no

    later : (b : Bool) (c : ℕ) → since (cond b (Some x) found) ≡ Some c → c ≤ q
    later true = begins x.1
    later false = f

pub lives_since-le : (q p : ℕ) (es : List (ℕ × Bool)) → IsUpTo q es → (c : ℕ) → lives_since es p ≡ Some c → c ≤ q
lives_since-le q p es u c e = since_le q p es None u (λ c e. let no : ⊥ = cc in absurd no) c e

module _ {V : Type 0} where
  -- what was found begins at the newest or before
  pub found_le : (q p : ℕ) (es : List (ℕ × V)) (found : Option (ℕ × V)) → IsUpTo q es → IfSome found (λ e. e.0 ≤ q) → IfSome (last_at es p found) (λ e. e.0 ≤ q)
  found_le q p [] found u h = h
  found_le q p (e ∷ es) found u h = found_le q p es (cond (nat_le e.0 p) (Some e) found) u.1 (either (nat_le e.0 p))
    where
      either : (b : Bool) → IfSome (cond b (Some e) found) (λ e'. e'.0 ≤ q)
      either true = u.0
      either false = h

  start_le : (q : ℕ) (found : Option (ℕ × V)) → IfSome found (λ e. e.0 ≤ q) → start_of found ≤ q
  start_le q None h = omega arith
  start_le q (Some e) h = h

  pub start_of-le : (q p : ℕ) (es : List (ℕ × V)) → IsUpTo q es → start_of (last_at es p None) ≤ q
  start_of-le q p es u = start_le q (last_at es p None) (found_le q p es None u tt)

module _ {V : Type 0} where
  -- a version from before a start doesn't count
  pub older : (c q : ℕ) (v : Option (ℕ × Option V)) → q < c → IfSome v (λ e. e.0 ≤ q) → value_since c v ≡ None
  older c q None l h = refl
  older c q (Some e) l h = let off : nat_le c e.0 ≡ false = grind (arith, nat_tests) in ap (λ b. cond b e.1 None) off

  -- what is put at a position counts from there on, for a start that isn't later
  pub value_since-put : (c q p : ℕ) (v : Option V) (es : List (ℕ × Option V)) → c ≤ q → q ≤ p → value_since c (last_at (put_at q v es) p None) ≡ v
  value_since-put c q p v es l m = ap (value_since c) (put_later q p v es m) ∙ (let on : nat_le c q ≡ true = grind (arith, nat_tests) in ap (λ b. cond b v None) on)

  -- after a new start nothing counts until it is put anew
  pub value_since-new : (c q p : ℕ) (es : List (ℕ × Option V)) → q < c → IsUpTo q es → value_since c (last_at es p None) ≡ None
  value_since-new c q p es l u = older c q (last_at es p None) l (found_le q p es None u tt)
