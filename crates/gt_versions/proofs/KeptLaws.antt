-- Laws of versions that were raised to a floor: from there on they read as before.
use Rattle.std.proofs.Common.{◌≡◌, ℕ, suc, ◌<◌, ◌≤◌, Bool, true, false, cond, ◌&&◌, is_some, nat_le, List, [], ◌∷◌, ◌++◌, Option, Some, None, IfSome, refl, sym, ap, ◌∙◌, arith}
use Rattle.std.proofs.lemmas.Bool.Decides.{nat_tests}
use Rattle.gt_versions.specs.Ascending.{IsFrom, IsAscending}
use Rattle.gt_versions.specs.Versions.{last_at, IsUpTo}
use Rattle.gt_versions.specs.Lives.{since, lives_since, value_since}
use Rattle.gt_versions.specs.Raised.{past, kept_life, kept_value, raised_lives, raised_values}
use Rattle.gt_versions.proofs.LifeLaws.{found_le}
use Rattle.gt_versions.proofs.RaisedLaws.{past-from, past-upto, past-ascending, from_less, last_at-split, last_at-read, found_before}

module _ {V : Type 0} where
  -- the one that was found before, in front
  in_front : (p : ℕ) (e : ℕ × V) (xs : List (ℕ × V)) → e.0 ≤ p → last_at (e ∷ xs) p None ≡ last_at xs p (Some e)
  in_front p e xs l = let on : nat_le e.0 p ≡ true = grind (arith, nat_tests) in ap (λ b. last_at xs p (cond b (Some e) None)) on

  front_upto : (q : ℕ) (b : Bool) (e : ℕ × V) (xs : List (ℕ × V)) → e.0 ≤ q → IsUpTo q xs → IsUpTo q (cond b (e ∷ []) [] ++ xs)
  front_upto q true e xs l h = (l, h)
  front_upto q false e xs l h = h

  front_ascending : (b : Bool) (e : ℕ × V) (xs : List (ℕ × V)) → IsFrom e.0 xs → IsAscending xs → IsAscending (cond b (e ∷ []) [] ++ xs)
  front_ascending true e xs l h = (l, h)
  front_ascending false e xs l h = h

  -- a start that none is before makes no difference
  value_from : (c p : ℕ) (es : List (ℕ × Option V)) (f : Option (ℕ × Option V)) → IsFrom c es → value_since 0 f ≡ value_since c f → value_since 0 (last_at es p f) ≡ value_since c (last_at es p f)
  value_from c p [] f h r = r
  value_from c p (e ∷ es) f h r = value_from c p es (cond (nat_le e.0 p) (Some e) f) h.1 (by (nat_le e.0 p))
    where
      here : value_since 0 (Some e) ≡ value_since c (Some e)
      here =
          let low : c ≤ e.0 = h.0 in
          let on : nat_le c e.0 ≡ true = grind (arith, nat_tests) in
          let all : nat_le 0 e.0 ≡ true = grind (arith, nat_tests) in
          ap (λ b. cond b e.1 None) (all ∙ sym on)

      by : (b : Bool) → value_since 0 (cond b (Some e) f) ≡ value_since c (cond b (Some e) f)
      by true = here
      by false = r

  pub value_since-from : (c p : ℕ) (es : List (ℕ × Option V)) → IsFrom c es → value_since 0 (last_at es p None) ≡ value_since c (last_at es p None)
  value_since-from c p es h = value_from c p es None h refl

-- ---- lives

life_kept : (to p : ℕ) (f : Option (ℕ × Bool)) (xs : List (ℕ × Bool)) → to ≤ p → IfSome f (λ e. e.0 ≤ to) → since (last_at (kept_life f ++ xs) p None) ≡ since (last_at xs p f)
life_kept to p None xs l h = refl
life_kept to p (Some (q, true)) xs l h = ap since (in_front p (q, true) xs (omega arith))
life_kept to p (Some (q, false)) xs l h = last_at-read since xs p None (Some (q, false)) refl

pub lives_since-raised : (to p : ℕ) (es : List (ℕ × Bool)) → to ≤ p → IsAscending es → lives_since (raised_lives to es) p ≡ lives_since es p
lives_since-raised to p es l h = life_kept to p (last_at es to None) (past to es) l (found_before to es) ∙ sym (ap since (last_at-split to p es None l h))

kept_life-upto : (q : ℕ) (f : Option (ℕ × Bool)) (xs : List (ℕ × Bool)) → IfSome f (λ e. e.0 ≤ q) → IsUpTo q xs → IsUpTo q (kept_life f ++ xs)
kept_life-upto q None xs h u = u
kept_life-upto q (Some e) xs h u = front_upto q e.1 e xs h u

pub lives-upto : (q to : ℕ) (es : List (ℕ × Bool)) → IsUpTo q es → IsUpTo q (raised_lives to es)
lives-upto q to es u = kept_life-upto q (last_at es to None) (past to es) (found_le q to es None u tt) (past-upto q to es u)

kept_life-ascending : (to : ℕ) (f : Option (ℕ × Bool)) (xs : List (ℕ × Bool)) → IfSome f (λ e. e.0 ≤ to) → IsFrom (suc to) xs → IsAscending xs → IsAscending (kept_life f ++ xs)
kept_life-ascending to None xs h l a = a
kept_life-ascending to (Some e) xs h l a = front_ascending e.1 e xs (from_less e.0 (suc to) xs (let low : e.0 ≤ to = h in omega arith) l) a

pub lives-ascending : (to : ℕ) (es : List (ℕ × Bool)) → IsAscending es → IsAscending (raised_lives to es)
lives-ascending to es a = kept_life-ascending to (last_at es to None) (past to es) (found_before to es) (past-from to es) (past-ascending to es a)

-- ---- values

module _ {V : Type 0} where
  kept_front : (s start to p : ℕ) (e : ℕ × Option V) (xs : List (ℕ × Option V)) → to ≤ p → e.0 ≤ to → (b : Bool) → (b ≡ false → None ≡ value_since s (Some e)) → value_since s (last_at (cond b (e ∷ []) [] ++ xs) p None) ≡ value_since s (last_at xs p (Some e))
  kept_front s start to p e xs l h true n = ap (value_since s) (in_front p e xs (omega arith))
  kept_front s start to p e xs l h false n = last_at-read (value_since s) xs p None (Some e) (n refl)

  nothing : (b : Bool) (o : Option V) → None ≡ o → None ≡ cond b o None
  nothing true o h = h
  nothing false o h = refl

  -- what isn't kept doesn't count from the start on, and what stands before a start doesn't
  not_kept : (s start : ℕ) (e : ℕ × Option V) → start ≤ s → (nat_le start e.0 && is_some e.1) ≡ false → None ≡ value_since s (Some e)
  not_kept s start (q, None) l n = nothing (nat_le s q) None refl
  not_kept s start (q, Some v) l n = by (nat_le start q) refl n
    where
      by : (b : Bool) → nat_le start q ≡ b → (b && true) ≡ false → None ≡ value_since s (Some (q, Some v))
      by true t m = let no : ⊥ = cc in absurd no
      by false t m = let off : nat_le s q ≡ false = grind (arith, nat_tests) in sym (ap (λ b. cond b (Some v) None) off)

  too_early : (s : ℕ) (e : ℕ × Option V) → e.0 < s → None ≡ value_since s (Some e)
  too_early s e l = let off : nat_le s e.0 ≡ false = grind (arith, nat_tests) in sym (ap (λ b. cond b e.1 None) off)

  value_kept : (s start to p : ℕ) (f : Option (ℕ × Option V)) (xs : List (ℕ × Option V)) → to ≤ p → IfSome f (λ e. e.0 ≤ to) → start ≤ s → value_since s (last_at (kept_value start f ++ xs) p None) ≡ value_since s (last_at xs p f)
  value_kept s start to p None xs l h c = refl
  value_kept s start to p (Some e) xs l h c = kept_front s start to p e xs l h (nat_le start e.0 && is_some e.1) (not_kept s start e c)

  value_late : (s start to p : ℕ) (f : Option (ℕ × Option V)) (xs : List (ℕ × Option V)) → to ≤ p → IfSome f (λ e. e.0 ≤ to) → to < s → value_since s (last_at (kept_value start f ++ xs) p None) ≡ value_since s (last_at xs p f)
  value_late s start to p None xs l h c = refl
  value_late s start to p (Some e) xs l h c = kept_front s start to p e xs l h (nat_le start e.0 && is_some e.1) (λ _. too_early s e (let low : e.0 ≤ to = h in omega arith))

  -- from this start on the same counts
  pub value_since-raised : (s start to p : ℕ) (es : List (ℕ × Option V)) → start ≤ s → to ≤ p → IsAscending es → value_since s (last_at (raised_values start to es) p None) ≡ value_since s (last_at es p None)
  value_since-raised s start to p es c l a = value_kept s start to p (last_at es to None) (past to es) l (found_before to es) c ∙ sym (ap (value_since s) (last_at-split to p es None l a))

  -- from a start past the floor on the same counts
  pub value_since-late : (s start to p : ℕ) (es : List (ℕ × Option V)) → to < s → to ≤ p → IsAscending es → value_since s (last_at (raised_values start to es) p None) ≡ value_since s (last_at es p None)
  value_since-late s start to p es c l a = value_late s start to p (last_at es to None) (past to es) l (found_before to es) c ∙ sym (ap (value_since s) (last_at-split to p es None l a))

  kept_value-upto : (q start : ℕ) (f : Option (ℕ × Option V)) (xs : List (ℕ × Option V)) → IfSome f (λ e. e.0 ≤ q) → IsUpTo q xs → IsUpTo q (kept_value start f ++ xs)
  kept_value-upto q start None xs h u = u
  kept_value-upto q start (Some e) xs h u = front_upto q (nat_le start e.0 && is_some e.1) e xs h u

  pub values-upto : (q start to : ℕ) (es : List (ℕ × Option V)) → IsUpTo q es → IsUpTo q (raised_values start to es)
  values-upto q start to es u = kept_value-upto q start (last_at es to None) (past to es) (found_le q to es None u tt) (past-upto q to es u)

  kept_value-ascending : (start to : ℕ) (f : Option (ℕ × Option V)) (xs : List (ℕ × Option V)) → IfSome f (λ e. e.0 ≤ to) → IsFrom (suc to) xs → IsAscending xs → IsAscending (kept_value start f ++ xs)
  kept_value-ascending start to None xs h l a = a
  kept_value-ascending start to (Some e) xs h l a = front_ascending (nat_le start e.0 && is_some e.1) e xs (from_less e.0 (suc to) xs (let low : e.0 ≤ to = h in omega arith) l) a

  pub values-ascending : (start to : ℕ) (es : List (ℕ × Option V)) → IsAscending es → IsAscending (raised_values start to es)
  values-ascending start to es a = kept_value-ascending start to (last_at es to None) (past to es) (found_before to es) (past-from to es) (past-ascending to es a)

  kept_value-from : (start : ℕ) (f : Option (ℕ × Option V)) (xs : List (ℕ × Option V)) → IsFrom start xs → IsFrom start (kept_value start f ++ xs)
  kept_value-from start None xs l = l
  kept_value-from start (Some e) xs l = by (nat_le start e.0) (is_some e.1) refl
    where
      by : (a b : Bool) → nat_le start e.0 ≡ a → IsFrom start (cond (a && b) (e ∷ []) [] ++ xs)
      by true true t = (grind (arith, nat_tests), l)
      by true false t = l
      by false b t = l

  -- none that is kept is from before the start
  pub values-from : (start to : ℕ) (es : List (ℕ × Option V)) → start ≤ suc to → IsFrom start (raised_values start to es)
  values-from start to es l = kept_value-from start (last_at es to None) (past to es) (from_less start (suc to) (past to es) l (past-from to es))
