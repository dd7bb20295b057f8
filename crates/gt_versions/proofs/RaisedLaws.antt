-- Laws of what is left of versions past a floor.
use Rattle.std.proofs.Common.{◌≡◌, ◌⊎◌, inl, inr, ℕ, suc, zero, ◌+◌, ◌-◌, ◌<◌, ◌≤◌, Bool, true, false, cond, nat_le, List, [], ◌∷◌, ◌++◌, length, drop, slice_index_or, Option, Some, None, IfSome, refl, sym, ap, ◌∙◌, arith}
use Rattle.std.specs.List.Sorted.{IsPartitionPoint}
use Rattle.std.proofs.lemmas.Bool.Decides.{nat_tests}
use Rattle.std.proofs.lemmas.List.{drop_more}
use Rattle.gt_versions.specs.Ascending.{IsFrom, IsAscending}
use Rattle.gt_versions.specs.Versions.{last_at, IsUpTo}
use Rattle.gt_versions.specs.Raised.{past}
use Rattle.gt_versions.proofs.VersionLaws.{some_found, none_found}

module _ {V : Type 0} where
  -- ---- where the rest begins

  past_all : (es : List (ℕ × V)) (to : ℕ) → ((k : ℕ) (d : ℕ × V) → 0 ≤ k → k < length es → nat_le (slice_index_or es k d).0 to ≡ false) → past to es ≡ es
  past_all [] to h = refl
  past_all (e ∷ es) to h =
      ap (λ b. cond b (past to es) (e ∷ past to es)) (h 0 e (omega arith) (omega arith))
      ∙ ap (λ l. e ∷ l) (past_all es to (λ k d low high. h (suc k) d (omega arith) (omega arith)))

  pub past_drop : (es : List (ℕ × V)) (to n : ℕ) → n ≤ length es → ((k : ℕ) (d : ℕ × V) → 0 ≤ k → k < n → nat_le (slice_index_or es k d).0 to ≡ true) → ((k : ℕ) (d : ℕ × V) → n ≤ k → k < length es → nat_le (slice_index_or es k d).0 to ≡ false) → drop n es ≡ past to es
  past_drop [] to zero l below above = refl
  past_drop [] to (suc n) l below above = absurd (omega arith)
  past_drop (e ∷ es) to zero l below above = sym (past_all (e ∷ es) to above)
  past_drop (e ∷ es) to (suc n) l below above =
      past_drop es to n (omega arith) (λ k d low high. below (suc k) d (omega arith) (omega arith)) (λ k d low high. above (suc k) d (omega arith) (omega arith))
      ∙ sym (ap (λ b. cond b (past to es) (e ∷ past to es)) (below 0 e (omega arith) (omega arith)))

  module _ (es : List (ℕ × V)) (to n : ℕ) (l : n ≤ length es) (parts : IsPartitionPoint (λ (e : ℕ × V). nat_le e.0 to ≡ true) (λ (e : ℕ × V). nat_le e.0 to ≡ false) es n) where
    pub past_here : drop n es ≡ past to es
    past_here = past_drop es to n l parts.0 parts.1

    none_here : n ≡ 0 → last_at es to None ≡ None
    none_here z = none_found es to None (λ k d low high. parts.1 k d (omega arith) high)

    some_here : (n ≡ 0 → ⊥) → (e d : ℕ × V) → e ≡ slice_index_or es (n - 1) d → last_at es to None ≡ Some e
    some_here some e d is = some_found es to (n - 1) d None (omega arith) (λ k d low high. parts.0 k d low (omega arith)) (λ k d low high. parts.1 k d (omega arith) high) ∙ ap Some (sym is)

    -- nothing is kept of those up to the floor
    pub none_kept : (kept : Option (ℕ × V) → List (ℕ × V)) → kept None ≡ [] → n ≡ 0 → drop n es ≡ kept (last_at es to None) ++ past to es
    none_kept kept h z = past_here ∙ sym (ap (λ k. k ++ past to es) (ap kept (none_here z) ∙ h))

    pub last_dropped : (kept : Option (ℕ × V) → List (ℕ × V)) → (n ≡ 0 → ⊥) → (e d : ℕ × V) → e ≡ slice_index_or es (n - 1) d → kept (Some e) ≡ [] → drop n es ≡ kept (last_at es to None) ++ past to es
    last_dropped kept some e d is h = past_here ∙ sym (ap (λ k. k ++ past to es) (ap kept (some_here some e d is) ∙ h))

    pub last_kept : (kept : Option (ℕ × V) → List (ℕ × V)) → (n ≡ 0 → ⊥) → (e d : ℕ × V) → e ≡ slice_index_or es (n - 1) d → kept (Some e) ≡ e ∷ [] → drop (n - 1) es ≡ kept (last_at es to None) ++ past to es
    last_kept kept some e d is h =
        drop_more es (n - 1) d (omega arith)
        ∙ ap (λ x. x ∷ drop (n - 1 + 1) es) (sym is)
        ∙ ap (λ k. e ∷ drop k es) (omega arith)
        ∙ ap (λ r. e ∷ r) past_here
        ∙ sym (ap (λ k. k ++ past to es) (ap kept (some_here some e d is) ∙ h))

  pub drop-ascending : (n : ℕ) (es : List (ℕ × V)) → IsAscending es → IsAscending (drop n es)
  drop-ascending zero es h = h
  drop-ascending (suc n) [] h = tt
  drop-ascending (suc n) (e ∷ es) h = drop-ascending n es h.1

  -- ---- what is past a floor

  pub past-from : (to : ℕ) (es : List (ℕ × V)) → IsFrom (suc to) (past to es)
  past-from to [] = tt
  past-from to (e ∷ es) = by (past-from to es) (nat_le e.0 to) refl
    where
      by : IsFrom (suc to) (past to es) → (b : Bool) → nat_le e.0 to ≡ b → IsFrom (suc to) (cond b (past to es) (e ∷ past to es))
      by rest true t = rest
      by rest false t = (grind (arith, nat_tests), rest)

  pub past-upto : (q to : ℕ) (es : List (ℕ × V)) → IsUpTo q es → IsUpTo q (past to es)
  past-upto q to [] h = tt
  past-upto q to (e ∷ es) h = elim (nat_le e.0 to) as (λ b. IsUpTo q (cond b (past to es) (e ∷ past to es))) [ true ↦ past-upto q to es h.1 | false ↦ (h.0, past-upto q to es h.1) ]

  past-from_kept : (q to : ℕ) (es : List (ℕ × V)) → IsFrom q es → IsFrom q (past to es)
  past-from_kept q to [] h = tt
  past-from_kept q to (e ∷ es) h = elim (nat_le e.0 to) as (λ b. IsFrom q (cond b (past to es) (e ∷ past to es))) [ true ↦ past-from_kept q to es h.1 | false ↦ (h.0, past-from_kept q to es h.1) ]

  pub past-ascending : (to : ℕ) (es : List (ℕ × V)) → IsAscending es → IsAscending (past to es)
  past-ascending to [] h = tt
  past-ascending to (e ∷ es) h = elim (nat_le e.0 to) as (λ b. IsAscending (cond b (past to es) (e ∷ past to es))) [ true ↦ past-ascending to es h.1 | false ↦ (past-from_kept e.0 to es h.0, past-ascending to es h.1) ]

  pub from_less : (q r : ℕ) (es : List (ℕ × V)) → q ≤ r → IsFrom r es → IsFrom q es
  from_less q r [] l h = tt
  from_less q r (e ∷ es) l h = let a : r ≤ e.0 = h.0 in (omega arith, from_less q r es l h.1)

  -- where all are past the floor, nothing is dropped and nothing is found at it
  past_same : (to : ℕ) (es : List (ℕ × V)) → IsFrom (suc to) es → past to es ≡ es
  past_same to [] h = refl
  past_same to (e ∷ es) h =
      let a : suc to ≤ e.0 = h.0 in
      let off : nat_le e.0 to ≡ false = grind (arith, nat_tests) in
      ap (λ b. cond b (past to es) (e ∷ past to es)) off ∙ ap (λ l. e ∷ l) (past_same to es h.1)

  past_none : (to : ℕ) (es : List (ℕ × V)) (found : Option (ℕ × V)) → IsFrom (suc to) es → last_at es to found ≡ found
  past_none to [] found h = refl
  past_none to (e ∷ es) found h =
      let a : suc to ≤ e.0 = h.0 in
      let off : nat_le e.0 to ≡ false = grind (arith, nat_tests) in
      ap (λ b. last_at es to (cond b (Some e) found)) off ∙ past_none to es found h.1

  -- what is found is found past the floor, or else at it
  pub last_at-split : (to p : ℕ) (es : List (ℕ × V)) (found : Option (ℕ × V)) → to ≤ p → IsAscending es → last_at es p found ≡ last_at (past to es) p (last_at es to found)
  last_at-split to p [] found l h = refl
  last_at-split to p (e ∷ es) found l h = by (last_at-split to p es (Some e) l h.1) (nat_le e.0 to) refl
    where
      by : last_at es p (Some e) ≡ last_at (past to es) p (last_at es to (Some e)) → (b : Bool) → nat_le e.0 to ≡ b → last_at es p (cond (nat_le e.0 p) (Some e) found) ≡ last_at (cond b (past to es) (e ∷ past to es)) p (last_at es to (cond b (Some e) found))
      by rest true t =
          let on : nat_le e.0 p ≡ true = grind (arith, nat_tests) in
          ap (λ b. last_at es p (cond b (Some e) found)) on ∙ rest
      by rest false t =
          let late : IsFrom (suc to) es = from_less (suc to) e.0 es (grind (arith, nat_tests)) h.0 in
          sym (ap (λ l. last_at l p (cond (nat_le e.0 p) (Some e) (last_at es to found))) (past_same to es late) ∙ ap (λ f. last_at es p (cond (nat_le e.0 p) (Some e) f)) (past_none to es found late))

  -- what reads the same of what was found before reads the same in the end
  pub last_at-read : {X : Type 0} (read : Option (ℕ × V) → X) (es : List (ℕ × V)) (p : ℕ) (f g : Option (ℕ × V)) → read f ≡ read g → read (last_at es p f) ≡ read (last_at es p g)
  last_at-read read [] p f g h = h
  last_at-read read (e ∷ es) p f g h =
      let rest = last_at-read read es p f g h in
      elim (nat_le e.0 p) as (λ b. read (last_at es p (cond b (Some e) f)) ≡ read (last_at es p (cond b (Some e) g))) [ true ↦ refl | false ↦ rest ]

  -- Whatever was found before, this version is found, and it isn't from before q.
  record Finds (q p : ℕ) (es : List (ℕ × V)) : Type 0 where
    version : ℕ × V
    late : q ≤ version.0
    found : (f : Option (ℕ × V)) → last_at es p f ≡ Some version

  -- a version is found, or else what was found before
  last_at-either : (q p : ℕ) (es : List (ℕ × V)) → IsFrom q es → Finds q p es ⊎ ((f : Option (ℕ × V)) → last_at es p f ≡ f)
  last_at-either q p [] h = inr (λ f. refl)
  last_at-either q p (e ∷ es) h = by (last_at-either q p es h.1) (nat_le e.0 p) refl
    where
      by : Finds q p es ⊎ ((f : Option (ℕ × V)) → last_at es p f ≡ f) → (b : Bool) → nat_le e.0 p ≡ b → Finds q p (e ∷ es) ⊎ ((f : Option (ℕ × V)) → last_at es p (cond (nat_le e.0 p) (Some e) f) ≡ f)
      by (inl s) b t = inl (record { version = s.version; late = s.late; found = λ f. s.found (cond (nat_le e.0 p) (Some e) f) })
      by (inr n) true t = inl (record { version = e; late = h.0; found = λ f. ap (λ b. last_at es p (cond b (Some e) f)) t ∙ n (Some e) })
      by (inr n) false t = inr (λ f. ap (λ b. last_at es p (cond b (Some e) f)) t ∙ n f)

  -- a version, where it is past the floor
  abbrev pub if_past : ℕ → Option (ℕ × V) → Option (ℕ × V)
  if_past to None = None
  if_past to (Some e) = cond (nat_le e.0 to) None (Some e)

  -- What is found at a position stands past the floor and is found there alone too, or it is what is found at the floor.
  pub record IsPast (to p : ℕ) (es : List (ℕ × V)) : Type 0 where
    pub version : ℕ × V
    pub late : to < version.0
    pub rest : last_at (past to es) p None ≡ Some version
    pub found : last_at es p None ≡ Some version

  pub record IsAtFloor (to p : ℕ) (es : List (ℕ × V)) : Type 0 where
    pub rest : last_at (past to es) p None ≡ None
    pub found : last_at es p None ≡ last_at es to None

  pub past_either : (to p : ℕ) (es : List (ℕ × V)) → to ≤ p → IsAscending es → IsPast to p es ⊎ IsAtFloor to p es
  past_either to p es l h = by (last_at-either (suc to) p (past to es) (past-from to es))
    where
      by : Finds (suc to) p (past to es) ⊎ ((f : Option (ℕ × V)) → last_at (past to es) p f ≡ f) → IsPast to p es ⊎ IsAtFloor to p es
      by (inl s) = inl (record { version = s.version; late = s.late; rest = s.found None; found = last_at-split to p es None l h ∙ s.found (last_at es to None) })
      by (inr n) = inr (record { rest = n None; found = last_at-split to p es None l h ∙ n (last_at es to None) })

  found_up_to : (to : ℕ) (es : List (ℕ × V)) (f : Option (ℕ × V)) → IfSome f (λ e. e.0 ≤ to) → IfSome (last_at es to f) (λ e. e.0 ≤ to)
  found_up_to to [] f h = h
  found_up_to to (e ∷ es) f h = found_up_to to es (cond (nat_le e.0 to) (Some e) f) (either (nat_le e.0 to) refl)
    where
      either : (b : Bool) → nat_le e.0 to ≡ b → IfSome (cond b (Some e) f) (λ e'. e'.0 ≤ to)
      either true t = grind (arith, nat_tests)
      either false t = h

  -- what is found at a position stands at or before it
  pub found_before : (to : ℕ) (es : List (ℕ × V)) → IfSome (last_at es to None) (λ e. e.0 ≤ to)
  found_before to es = found_up_to to es None tt

  if_past_floor : (to : ℕ) (f : Option (ℕ × V)) → IfSome f (λ e. e.0 ≤ to) → if_past to f ≡ None
  if_past_floor to None h = refl
  if_past_floor to (Some e) h = let on : nat_le e.0 to ≡ true = grind (arith, nat_tests) in ap (λ b. cond b None (Some e)) on

  -- past the floor the same is found, where that stands past it
  pub last_at-past_floor : (to p : ℕ) (es : List (ℕ × V)) → to ≤ p → IsAscending es → last_at (past to es) p None ≡ if_past to (last_at es p None)
  last_at-past_floor to p es l h = by (past_either to p es l h)
    where
      by : IsPast to p es ⊎ IsAtFloor to p es → last_at (past to es) p None ≡ if_past to (last_at es p None)
      by (inl s) =
          let e = s.version in
          let late : to < e.0 = s.late in
          let off : nat_le e.0 to ≡ false = grind (arith, nat_tests) in
          s.rest ∙ sym (ap (if_past to) s.found ∙ ap (λ b. cond b None (Some e)) off)
      by (inr s) = s.rest ∙ sym (ap (if_past to) s.found ∙ if_past_floor to (last_at es to None) (found_before to es))
