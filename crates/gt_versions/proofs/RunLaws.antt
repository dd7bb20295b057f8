-- Laws of a value that counts for as long as one counts.
use Rattle.std.proofs.Common.{◌≡◌, ◌⊎◌, ⊎_elim, inl, inr, ℕ, ◌-◌, ◌<◌, ◌≤◌, Bool, true, false, cond, ◌&&◌, nat_le, nat_lt, is_some, List, Option, Some, None, IfSome, IsSome, refl, sym, ap, ◌∙◌, subst, arith}
use Rattle.std.proofs.lemmas.Bool.Decides.{nat_tests}
use Rattle.gt_model.specs.Contents.{and_then}
use Rattle.gt_versions.specs.Ascending.{IsUpTo, IsAscending}
use Rattle.gt_versions.specs.Versions.{last_at}
use Rattle.gt_versions.specs.Lives.{since, lives_since, start_of, value_since}
use Rattle.gt_versions.specs.Runs.{next_after, set_at, value_at, IsRun, SetsRun}
use Rattle.gt_versions.proofs.SetLaws.{at_or_before, settled, within, next_more, next_begins, put_value, set_found_at, set_later, set_earlier, set_next, set_upto}

pub below : (p n : ℕ) → (p < n) ⊎ (n ≤ p)
below p n = by (nat_le n p) refl
  where
    by : (b : Bool) → nat_le n p ≡ b → (p < n) ⊎ (n ≤ p)
    by true t = let h : n ≤ p = grind (arith, nat_tests) in inr h
    by false t = let h : p < n = grind (arith, nat_tests) in inl h

-- a life that stands at a position stands at each from its beginning on
pub life_settled : (lives : List (ℕ × Bool)) (p q c : ℕ) → IsAscending lives → q ≤ p → lives_since lives p ≡ Some c → c ≤ q → lives_since lives q ≡ Some c
life_settled lives p q c a l e m = by (last_at lives p None) refl e
  where
    by : (o : Option (ℕ × Bool)) → last_at lives p None ≡ o → since o ≡ Some c → lives_since lives q ≡ Some c
    by None i e = let no : ⊥ = cc in absurd no
    by (Some (s, false)) i e = let no : ⊥ = cc in absurd no
    by (Some (s, true)) i e = let same : s ≡ c = cc in ap since (settled lives p q (s, true) a l i (omega arith)) ∙ e

module _ {V : Type 0} where
  -- ---- a value that counts

  pub record Counted (lives : List (ℕ × Bool)) (es : List (ℕ × Option V)) (p : ℕ) : Type 0 where
    pub life : ℕ
    pub start : ℕ
    pub value : V
    pub there : lives_since lives p ≡ Some life
    pub found : last_at es p None ≡ Some (start, Some value)
    pub order : life ≤ start

  both_none : (b : Bool) (o : Option V) → o ≡ None → is_some (cond b o None) ≡ false
  both_none true o e = ap is_some e
  both_none false o e = refl

  counted : (lives : List (ℕ × Bool)) (es : List (ℕ × Option V)) (p : ℕ) → IsSome (value_at lives es p) → Counted lives es p
  counted lives es p h = by (lives_since lives p) refl (last_at es p None) refl h
    where
      by : (life : Option ℕ) → lives_since lives p ≡ life → (o : Option (ℕ × Option V)) → last_at es p None ≡ o → is_some (and_then life (λ c. value_since c o)) ≡ true → Counted lives es p
      by None i o j h = let no : ⊥ = cc in absurd no
      by (Some c) i None j h = let no : ⊥ = cc in absurd no
      by (Some c) i (Some (s, None)) j h = let none = both_none (nat_le c s) None refl in let no : ⊥ = cc in absurd no
      by (Some c) i (Some (s, Some w)) j h = in_order (nat_le c s) refl h
        where
          in_order : (b : Bool) → nat_le c s ≡ b → is_some (cond b (Some w) None) ≡ true → Counted lives es p
          in_order true t h = let l : c ≤ s = grind (arith, nat_tests) in record { life = c; start = s; value = w; there = i; found = j; order = l }
          in_order false t h = let no : ⊥ = cc in absurd no

  same_start : (a b : ℕ × Option V) → Some a ≡ Some b → a.0 ≡ b.0
  same_start a b e = ap start_of e

  abbrev of_version : Option ℕ → ℕ → V → Option V
  of_version life s w = and_then life (λ c. cond (nat_le c s) (Some w) None)

  value_of : (lives : List (ℕ × Bool)) (es : List (ℕ × Option V)) (p s : ℕ) (w : V) → last_at es p None ≡ Some (s, Some w) → value_at lives es p ≡ of_version (lives_since lives p) s w
  value_of lives es p s w e = ap (λ o. and_then (lives_since lives p) (λ c. value_since c o)) e

  other_value : (life : Option ℕ) (s : ℕ) (v w : V) → is_some (of_version life s w) ≡ true → of_version life s v ≡ Some v
  other_value None s v w h = let no : ⊥ = cc in absurd no
  other_value (Some c) s v w h = by (nat_le c s) h
    where
      by : (b : Bool) → is_some (cond b (Some w) None) ≡ true → cond b (Some v) None ≡ Some v
      by true h = refl
      by false h = let no : ⊥ = cc in absurd no

  no_value : (life : Option ℕ) (s : ℕ) (v w : V) → is_some (of_version life s w) ≡ false → of_version life s v ≡ None
  no_value None s v w h = refl
  no_value (Some c) s v w h = by (nat_le c s) h
    where
      by : (b : Bool) → is_some (cond b (Some w) None) ≡ false → cond b (Some v) None ≡ None
      by true h = let no : ⊥ = cc in absurd no
      by false h = refl

  absent : (o : Option V) → is_some o ≡ false → o ≡ None
  absent None h = refl
  absent (Some a) h = let no : ⊥ = cc in absurd no

  -- ---- one version gets the value

  module _ (lives : List (ℕ × Bool)) (old now : List (ℕ × Option V)) (h : ℕ) (v : V) (life_order : IsAscending lives) (order : IsAscending now)
      (same : (p : ℕ) → h ≤ p → last_at now p None ≡ last_at old p None) (k : Counted lives now h) where
    new_found : (p : ℕ) → h ≤ p → IfSome (next_after now h) (λ n. p < n) → last_at (set_at h (Some v) now) p None ≡ Some (k.start, Some v)
    new_found p l m = set_found_at (Some v) now h p None order l m ∙ ap (λ o. put_value (Some v) o None) k.found

    old_found : (p : ℕ) → h ≤ p → IfSome (next_after now h) (λ n. p < n) → last_at old p None ≡ Some (k.start, Some k.value)
    old_found p l m = sym (same p l) ∙ within now h p None order l m ∙ k.found

    pub run_new : (p : ℕ) → h ≤ p → IfSome (next_after now h) (λ n. p < n) → IsSome (value_at lives old p) → value_at lives (set_at h (Some v) now) p ≡ Some v
    run_new p l m s =
        value_of lives (set_at h (Some v) now) p k.start v (new_found p l m)
        ∙ other_value (lives_since lives p) k.start v k.value (sym (ap is_some (value_of lives old p k.start k.value (old_found p l m))) ∙ s)

    pub none_new : (p : ℕ) → h ≤ p → IfSome (next_after now h) (λ n. p < n) → is_some (value_at lives old p) ≡ false → value_at lives (set_at h (Some v) now) p ≡ value_at lives old p
    none_new p l m s =
        value_of lives (set_at h (Some v) now) p k.start v (new_found p l m)
        ∙ no_value (lives_since lives p) k.start v k.value (sym (ap is_some (value_of lives old p k.start k.value (old_found p l m))) ∙ s)
        ∙ sym (absent (value_at lives old p) s)

    pub back : (p : ℕ) → h ≤ p → IfSome (next_after now h) (λ n. p < n) → IsSome (value_at lives (set_at h (Some v) now) p) → IsSome (value_at lives old p)
    back p l m s = by (is_some (value_at lives old p)) refl
      where
        by : (b : Bool) → is_some (value_at lives old p) ≡ b → b ≡ true
        by true e = refl
        by false e = sym e ∙ sym (ap is_some (none_new p l m e)) ∙ s

    still_before : (p q : ℕ) (o : Option ℕ) → q ≤ p → IfSome o (λ n. p < n) → IfSome o (λ n. q < n)
    still_before p q None l m = tt
    still_before p q (Some n) l m = let a : p < n = m in let b : q < n = omega arith in b

    pub run_back : (p q : ℕ) → h ≤ q → q ≤ p → IfSome (next_after now h) (λ n. p < n) → IsSome (value_at lives old p) → IsSome (value_at lives old q)
    run_back p q low l m s =
        let j : Counted lives old p = counted lives old p s in
        let here : last_at old p None ≡ Some (k.start, Some k.value) = old_found p (omega arith) m in
        let start_same : j.start ≡ k.start = same_start (j.start, Some j.value) (k.start, Some k.value) (sym j.found ∙ here) in
        let first : k.start ≤ h = at_or_before now h (k.start, Some k.value) k.found in
        let ordered : j.life ≤ j.start = j.order in
        let begun : lives_since lives q ≡ Some j.life = life_settled lives p q j.life life_order l j.there (omega arith) in
        let both : value_at lives old q ≡ value_at lives old p =
        ap (λ o. and_then (lives_since lives q) (λ c. value_since c o)) (old_found q low (still_before p q (next_after now h) l m) ∙ sym here)
        ∙ ap (λ o. and_then o (λ c. value_since c (last_at old p None))) (begun ∙ sym j.there) in
        ap is_some both ∙ s

  -- ---- so far

  -- Up to this position a value counts, and is this one now; from there on nothing has changed.
  pub record SoFar (floor position here : ℕ) (v : V) (lives : List (ℕ × Bool)) (old now : List (ℕ × Option V)) : Type 0 where
    pub from : position ≤ here
    pub same : (p : ℕ) → here ≤ p → last_at now p None ≡ last_at old p None
    pub done : (p : ℕ) → position ≤ p → p < here → IsSome (value_at lives old p) × (value_at lives now p ≡ Some v)
    pub before : (p : ℕ) → floor ≤ p → p < position → value_at lives now p ≡ value_at lives old p
    pub begins : (x : ℕ × Option V) → floor < here → last_at old here None ≡ Some x → x.0 ≡ here
    pub newest : (q : ℕ) → IsUpTo q old → IsUpTo q now

  pub nothing_yet : (floor position : ℕ) (v : V) (lives : List (ℕ × Bool)) (old : List (ℕ × Option V)) → (nat_lt floor position && nat_lt (start_of (last_at old position None)) position) ≡ false → SoFar floor position position v lives old old
  nothing_yet floor position v lives old t = record {
    from = omega arith;
    same = λ p l. refl;
    done = λ p l m. let no : ⊥ = omega arith in absurd no;
    before = λ p l m. refl;
    begins = λ x l e.
        let low : x.0 ≤ position = at_or_before old position x e in
        let P : Option (ℕ × Option V) → Type 0 = λ o. position ≤ start_of o in
        let high : position ≤ x.0 = subst P e (late (nat_lt floor position) (nat_lt (start_of (last_at old position None)) position) refl refl t l) in
        omega arith;
    newest = λ q u. u;
  }
    where
      late : (a b : Bool) → nat_lt floor position ≡ a → nat_lt (start_of (last_at old position None)) position ≡ b → (a && b) ≡ false → floor < position → position ≤ start_of (last_at old position None)
      late true true f g t l = let no : ⊥ = cc in absurd no
      late true false f g t l = grind (arith, nat_tests)
      late false b f g t l = let no : ⊥ = grind (arith, nat_tests) in absurd no

  -- where a version begins earlier, the same counts at the position before
  pub nothing_begins : (floor position : ℕ) (v : V) (lives : List (ℕ × Bool)) (old : List (ℕ × Option V)) → IsAscending lives → IsAscending old → (nat_lt floor position && nat_lt (start_of (last_at old position None)) position) ≡ true → SetsRun floor position v lives old old
  nothing_begins floor position v lives old life_order order t = record {
    set = λ begins p low run. let no : ⊥ = begins (both (nat_lt floor position) (nat_lt (start_of (last_at old position None)) position) refl refl t).0 (continued (run position (omega arith) low)) in absurd no;
    either = λ p low. inl refl;
    newest = λ q u. u;
  }
    where
      both : (a b : Bool) → nat_lt floor position ≡ a → nat_lt (start_of (last_at old position None)) position ≡ b → (a && b) ≡ true → (floor < position) × (start_of (last_at old position None) < position)
      both true true f g t = (grind (arith, nat_tests), grind (arith, nat_tests))
      both true false f g t = let no : ⊥ = cc in absurd no
      both false b f g t = let no : ⊥ = cc in absurd no

      continued : IsSome (value_at lives old position) → value_at lives old (position - 1) ≡ value_at lives old position
      continued s =
          let k : Counted lives old position = counted lives old position s in
          let P : Option (ℕ × Option V) → Type 0 = λ o. start_of o < position in
          let early : k.start < position = subst P k.found (both (nat_lt floor position) (nat_lt (start_of (last_at old position None)) position) refl refl t).1 in
          let ordered : k.life ≤ k.start = k.order in
          ap (λ o. and_then (lives_since lives (position - 1)) (λ c. value_since c o)) (settled old position (position - 1) (k.start, Some k.value) order (omega arith) k.found (omega arith) ∙ sym k.found)
          ∙ ap (λ o. and_then o (λ c. value_since c (last_at old position None))) (life_settled lives position (position - 1) k.life life_order (omega arith) k.there (omega arith) ∙ sym k.there)

  module _ (floor position here : ℕ) (v : V) (lives : List (ℕ × Bool)) (old now : List (ℕ × Option V)) (low : floor ≤ position) (so : SoFar floor position here v lives old now) where
    -- where none counts it is done
    pub ends_here : is_some (value_at lives now here) ≡ false → SetsRun floor position v lives old now
    ends_here none = record {
      set = λ begins p l run. ⊎_elim (λ (m : p < here). (so.done p l m).1) (λ (m : here ≤ p). let some : is_some (value_at lives old here) ≡ true = run here so.from m in let off : is_some (value_at lives old here) ≡ false = none_old in let no : ⊥ = cc in absurd no) (below p here);
      either = λ p l. ⊎_elim (λ (m : p < position). inl (so.before p l m)) (λ (m : position ≤ p).
          ⊎_elim (λ (n : p < here). inr (m, (λ q a b. (so.done q a (omega arith)).0), (so.done p m n).1))
          (λ (n : here ≤ p). inl (ap (λ o. and_then (lives_since lives p) (λ c. value_since c o)) (so.same p n))) (below p here)) (below p position);
      newest = so.newest;
    }
      where
        none_old : is_some (value_at lives old here) ≡ false
        none_old = sym (ap (λ o. is_some (and_then (lives_since lives here) (λ c. value_since c o))) (so.same here (omega arith))) ∙ none

    module _ (life_order : IsAscending lives) (order : IsAscending now) (some : IsSome (value_at lives now here)) where
      k : Counted lives now here
      k = counted lives now here some

      set_before : (p : ℕ) → floor ≤ p → p < here → value_at lives (set_at here (Some v) now) p ≡ value_at lives now p
      set_before p l m =
          let first : k.start ≡ here = so.begins (k.start, Some k.value) (omega arith) (sym (so.same here (omega arith)) ∙ k.found) in
          ap (λ o. and_then (lives_since lives p) (λ c. value_since c o)) (set_earlier (Some v) now here p None (k.start, Some k.value) k.found (omega arith))

      -- what was done stays done
      done_before : (p : ℕ) → position ≤ p → p < here → value_at lives (set_at here (Some v) now) p ≡ Some v
      done_before p l m = set_before p (omega arith) m ∙ (so.done p l m).1

      run_to : (p q : ℕ) → position ≤ q → q ≤ p → here ≤ p → IfSome (next_after now here) (λ n. p < n) → IsSome (value_at lives old p) → IsSome (value_at lives old q)
      run_to p q a b l m s = ⊎_elim (λ (n : q < here). (so.done q a n).0) (λ (n : here ≤ q). run_back lives old now here v life_order order so.same k p q n b m s) (below q here)

      module _ (far : (p : ℕ) → here ≤ p → IfSome (next_after now here) (λ n. p < n) ⊎ ((last_at (set_at here (Some v) now) p None ≡ last_at old p None) × (IsRun lives old position p → ⊥))) where
        set_far : (p : ℕ) → position ≤ p → here ≤ p → IsRun lives old position p → value_at lives (set_at here (Some v) now) p ≡ Some v
        set_far p l n run = ⊎_elim (λ (m : IfSome (next_after now here) (λ n. p < n)). run_new lives old now here v life_order order so.same k p n m (run p l (omega arith)))
            (λ (m : (last_at (set_at here (Some v) now) p None ≡ last_at old p None) × (IsRun lives old position p → ⊥)). absurd (m.1 run)) (far p n)

        either_near : (p : ℕ) → position ≤ p → here ≤ p → IfSome (next_after now here) (λ n. p < n) → (b : Bool) → is_some (value_at lives old p) ≡ b
            → (value_at lives (set_at here (Some v) now) p ≡ value_at lives old p) ⊎ (position ≤ p) × IsRun lives old position p × (value_at lives (set_at here (Some v) now) p ≡ Some v)
        either_near p l n m true e = inr (l, (λ q a b. run_to p q a b n m e), run_new lives old now here v life_order order so.same k p n m e)
        either_near p l n m false e = inl (none_new lives old now here v life_order order so.same k p n m e)

        either_far : (p : ℕ) → position ≤ p → here ≤ p → (value_at lives (set_at here (Some v) now) p ≡ value_at lives old p) ⊎ (position ≤ p) × IsRun lives old position p × (value_at lives (set_at here (Some v) now) p ≡ Some v)
        either_far p l n = ⊎_elim (λ (m : IfSome (next_after now here) (λ n. p < n)). either_near p l n m (is_some (value_at lives old p)) refl)
            (λ (m : (last_at (set_at here (Some v) now) p None ≡ last_at old p None) × (IsRun lives old position p → ⊥)). inl (ap (λ o. and_then (lives_since lives p) (λ c. value_since c o)) m.0)) (far p n)

        ends_after : SetsRun floor position v lives old (set_at here (Some v) now)
        ends_after = record {
          set = λ begins p l run. ⊎_elim (λ (m : p < here). done_before p l m) (λ (m : here ≤ p). set_far p l m run) (below p here);
          either = λ p l. ⊎_elim (λ (m : p < position). let n : p < here = let f : position ≤ here = so.from in omega arith in inl (set_before p l n ∙ so.before p l m)) (λ (m : position ≤ p).
              ⊎_elim (λ (n : p < here). inr (m, (λ q a b. (so.done q a (omega arith)).0), done_before p m n)) (λ (n : here ≤ p). either_far p m n) (below p here)) (below p position);
          newest = λ q u. set_upto (Some v) now here q (so.newest q u);
        }

      -- where no version is left it is done
      pub ends_last : next_after (set_at here (Some v) now) here ≡ None → SetsRun floor position v lives old (set_at here (Some v) now)
      ends_last e = ends_after (λ p l. let P : Option ℕ → Type 0 = λ o. IfSome o (λ n. p < n) in inl (subst P (sym (sym (set_next (Some v) now here here) ∙ e)) tt))

      module _ (n : ℕ) (e : next_after (set_at here (Some v) now) here ≡ Some n) where
        next_now : next_after now here ≡ Some n
        next_now = sym (set_next (Some v) now here here) ∙ e

        past : here < n
        past = next_more now here n next_now

        near : (p : ℕ) → p < n → IfSome (next_after now here) (λ n. p < n)
        near p l = let P : Option ℕ → Type 0 = λ o. IfSome o (λ n. p < n) in subst P (sym next_now) l

        -- where none counts just before the next version
        pub ends_between : is_some (value_at lives (set_at here (Some v) now) (n - 1)) ≡ false → SetsRun floor position v lives old (set_at here (Some v) now)
        ends_between none = ends_after (λ p l. ⊎_elim (λ (m : p < n). inl (near p m)) (λ (m : n ≤ p). inr (set_later (Some v) now here n p None order next_now m ∙ so.same p l, stopped p m)) (below p n))
          where
            stopped : (p : ℕ) → n ≤ p → IsRun lives old position p → ⊥
            stopped p m run =
                let x : here < n = past in
                let y : position ≤ here = so.from in
                let is : value_at lives (set_at here (Some v) now) (n - 1) ≡ Some v = run_new lives old now here v life_order order so.same k (n - 1) (omega arith) (near (n - 1) (omega arith)) (run (n - 1) (omega arith) (omega arith)) in
                cc

        pub goes_on : IsSome (value_at lives (set_at here (Some v) now) (n - 1)) → SoFar floor position n v lives old (set_at here (Some v) now)
        goes_on s = record {
          from = let x : here < n = past in let y : position ≤ here = so.from in omega arith;
          same = λ p l. let x : here < n = past in set_later (Some v) now here n p None order next_now l ∙ so.same p (omega arith);
          done = λ p l m. ⊎_elim (λ (b : p < here). ((so.done p l b).0, done_before p l b)) (λ (b : here ≤ p). let i : IsSome (value_at lives old p) = counts_to p l b m in (i, run_new lives old now here v life_order order so.same k p b (near p m) i)) (below p here);
          before = λ p l m. let y : position ≤ here = so.from in set_before p l (omega arith) ∙ so.before p l m;
          begins = λ x l i.
              let z : here < n = past in
              let there : last_at now n None ≡ Some x = so.same n (omega arith) ∙ i in
              let a : n ≤ x.0 = next_begins now here n None x order next_now there in
              let b : x.0 ≤ n = at_or_before now n x there in
              omega arith;
          newest = λ q u. set_upto (Some v) now here q (so.newest q u);
        }
          where
            counts_to : (p : ℕ) → position ≤ p → here ≤ p → p < n → IsSome (value_at lives old p)
            counts_to p l b m =
                let x : here < n = past in
                run_back lives old now here v life_order order so.same k (n - 1) p b (omega arith) (near (n - 1) (omega arith)) (back lives old now here v life_order order so.same k (n - 1) (omega arith) (near (n - 1) (omega arith)) s)
