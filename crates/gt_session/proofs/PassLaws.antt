-- The numbers of live passes, before and after a line.
use Rattle.std.proofs.Common.{◌≡◌, ◌⊎◌, ℕ, zero, suc, ◌<◌, Bool, true, false, cond, not, nat_eq, List, [], ◌∷◌, ◌++◌, length, get_or, Option, Some, None, Result, Ok, Err, refl, sym, ap, ap₂, ◌∙◌, subst, inl, inr, arith}
use Rattle.std.specs.List.{IsAmong}
use Rattle.std.specs.Option.{option_map, is_some, IfSome}
use Rattle.std.proofs.lemmas.Bool.Decides.{nat_tests}
use Rattle.gt_model.specs.declared.done.Done.{Done}
use Rattle.gt_model.specs.declared.event.Event.TheVariants.{Begin}
use Rattle.gt_model.specs.declared.refusal.Refusal.{Refusal}
use Rattle.gt_stage.specs.Staging.{Holding}
use Rattle.gt_pins.specs.Ends.{ends}
use Rattle.gt_session.specs.Courses.{begins}
use Rattle.gt_session.specs.Pieces.{open_with}
use Rattle.gt_session.specs.Calls.{without, with_live, ended, GivesPass, IsHeld, LeavesOthers}

-- ---- what is among a list

among_head : (x : ℕ) (xs : List ℕ) → IsAmong (x ∷ xs) x
among_head x xs = (zero, (omega arith, refl))

among_tail : (x n : ℕ) (xs : List ℕ) → IsAmong xs n → IsAmong (x ∷ xs) n
among_tail x n xs h = let l : h.0 < length xs = h.1.0 in (suc h.0, (omega arith, h.1.1))

among_parts : (x n : ℕ) (xs : List ℕ) (i : ℕ) → i < length (x ∷ xs) → n ≡ get_or (x ∷ xs) i n → (n ≡ x) ⊎ IsAmong xs n
among_parts x n xs zero l e = inl e
among_parts x n xs (suc i) l e = inr (i, (omega arith, e))

among_append : (n : ℕ) (xs ys : List ℕ) → IsAmong xs n → IsAmong (xs ++ ys) n
among_append n [] ys h = absurd (omega (arith, h.1.0))
among_append n (x ∷ xs) ys h =
    elim (among_parts x n xs h.0 h.1.0 h.1.1) [
      | inl e ↦ let P : ℕ → Type 0 = λ m. IsAmong (x ∷ (xs ++ ys)) m in subst P (sym e) (among_head x (xs ++ ys))
      | inr more ↦ among_tail x n (xs ++ ys) (among_append n xs ys more)
    ]

among_last : (n : ℕ) (xs : List ℕ) → IsAmong (xs ++ n ∷ []) n
among_last n [] = among_head n []
among_last n (x ∷ xs) = among_tail x n (xs ++ n ∷ []) (among_last n xs)

among_without : (n p : ℕ) (xs : List ℕ) → (n ≡ p → ⊥) → IsAmong xs n → IsAmong (without xs p) n
among_without n p [] apart h = absurd (omega (arith, h.1.0))
among_without n p (x ∷ xs) apart h = by_test (among_without n p xs apart) (nat_eq x p) refl
  where
    by_test : (IsAmong xs n → IsAmong (without xs p) n) → (b : Bool) → nat_eq x p ≡ b → IsAmong (cond (not b) (x ∷ without xs p) (without xs p)) n
    by_test more true t =
        let e : x ≡ p = grind (arith, nat_tests) in
        more (elim (among_parts x n xs h.0 h.1.0 h.1.1) [ inl is ↦ absurd (apart (is ∙ e)) | inr later ↦ later ])
    by_test more false t =
        elim (among_parts x n xs h.0 h.1.0 h.1.1) [
          | inl is ↦ let P : ℕ → Type 0 = λ m. IsAmong (x ∷ without xs p) m in subst P (sym is) (among_head x (without xs p))
          | inr later ↦ among_tail x n (without xs p) (more later)
        ]

-- ---- what is live, by partition

-- what is among one partition's passes is among those that this one has now, or is with another partition
with_live-at : (p q n : ℕ) (old : ℕ → List ℕ) (numbers : List ℕ) → (q ≡ p → IsAmong numbers n) → ((q ≡ p → ⊥) → IsAmong (old q) n) → IsAmong (with_live old p numbers q) n
with_live-at p q n old numbers here there = by_test (nat_eq q p) refl
  where
    by_test : (b : Bool) → nat_eq q p ≡ b → IsAmong (cond b numbers (old q)) n
    by_test true t = here (grind (arith, nat_tests))
    by_test false t = there (λ same. let e : q ≡ p = same in absurd (grind (arith, nat_tests)))

among_ended : (p m q n : ℕ) (old : ℕ → List ℕ) → (◌≡◌ {A = Option (ℕ × ℕ)} (Some (p, m)) (Some (q, n)) → ⊥) → IsAmong (old q) n → IsAmong (ended old p m q) n
among_ended p m q n old apart h =
    with_live-at p q n old (without (old p) m) (λ same. among_without n m (old p) (λ is. apart (ap₂ (λ (a b : ℕ). Some (a, b)) (sym same) (sym is))) (subst (λ (r : ℕ). IsAmong (old r) n) same h)) (λ other. h)

among_given : (p m q n : ℕ) (old : ℕ → List ℕ) → IsAmong (old q) n → IsAmong (with_live old p (old p ++ m ∷ []) q) n
among_given p m q n old h = with_live-at p q n old (old p ++ m ∷ []) (λ same. among_append n (old p) (m ∷ []) (subst (λ (r : ℕ). IsAmong (old r) n) same h)) (λ other. h)

given_among : (p m : ℕ) (old : ℕ → List ℕ) → IsAmong (with_live old p (old p ++ m ∷ []) p) m
given_among p m old = with_live-at p p m old (old p ++ m ∷ []) (λ same. among_last m (old p)) (λ other. absurd (other refl))

-- ---- the passes of a line

-- a line that leaves its pass
pub same_pass : (held holds : Option (ℕ × ℕ)) (old new : ℕ → List ℕ) → IsHeld held old → holds ≡ held → new ≡ old → LeavesOthers held holds old new
same_pass held holds old new h e same = record {
  others = λ p n among apart. subst (λ (l : ℕ → List ℕ). IsAmong (l p) n) (sym same) among;
  own = subst (λ (o : Option (ℕ × ℕ)). IsHeld o new) (sym e) (subst (λ (l : ℕ → List ℕ). IsHeld held l) (sym same) h);
  fresh = λ p n is. inl (sym e ∙ is);
}

-- a line that ends what its pass has
pub ended_pass : (p m : ℕ) (held holds : Option (ℕ × ℕ)) (old new : ℕ → List ℕ) → held ≡ Some (p, m) → holds ≡ None → new ≡ ended old p m → LeavesOthers held holds old new
ended_pass p m held holds old new is e gone = record {
  others = λ q n among apart. subst (λ (l : ℕ → List ℕ). IsAmong (l q) n) (sym gone) (among_ended p m q n old (λ same. apart (is ∙ same)) among);
  own = subst (λ (o : Option (ℕ × ℕ)). IsHeld o new) (sym e) tt;
  fresh = λ q n found. absurd cc;
}

-- the pass that is given, with its partition
abbrev pub pass_at : ℕ → Option ℕ → Option (ℕ × ℕ)
pass_at p given = option_map (λ n. (p, n)) given

-- a line that begins
pub given_pass : (answer : Result Done Refusal) (given : Option ℕ) (p : ℕ) (held holds : Option (ℕ × ℕ)) (old new : ℕ → List ℕ) → held ≡ None → holds ≡ pass_at p given → GivesPass answer given p old new → LeavesOthers held holds old new
given_pass (Ok done) given p held holds old new is e h =
    let has : holds ≡ Some (p, h.number) = e ∙ ap (pass_at p) h.given in
    record {
      others = λ q n among apart. subst (λ (l : ℕ → List ℕ). IsAmong (l q) n) (sym h.live) (among_given p h.number q n old among);
      own = subst (λ (o : Option (ℕ × ℕ)). IsHeld o new) (sym has) (subst (λ (l : ℕ → List ℕ). IsAmong (l p) h.number) (sym h.live) (given_among p h.number old));
      fresh = λ q n found.
          let same : ◌≡◌ {A = Option (ℕ × ℕ)} (Some (p, h.number)) (Some (q, n)) = sym has ∙ found in
          let number : h.number ≡ n = ap (λ (o : Option (ℕ × ℕ)). elim o [ None ↦ 0 | Some x ↦ x.1 ]) same in
          let partition : p ≡ q = ap (λ (o : Option (ℕ × ℕ)). elim o [ None ↦ 0 | Some x ↦ x.0 ]) same in
          inr (λ among. h.free (subst (λ (r : ℕ). IsAmong (old r) h.number) (sym partition) (subst (λ (m : ℕ). IsAmong (old q) m) (sym number) among)));
    }
given_pass (Err refusal) given p held holds old new is e h =
    let none : holds ≡ None = e ∙ ap (pass_at p) h.none in
    record {
      others = λ q n among apart. subst (λ (l : ℕ → List ℕ). IsAmong (l q) n) (sym h.live) among;
      own = subst (λ (o : Option (ℕ × ℕ)). IsHeld o new) (sym none) tt;
      fresh = λ q n found. absurd (let no : ◌≡◌ {A = Option (ℕ × ℕ)} None (Some (q, n)) = sym none ∙ found in cc);
    }

-- a pass is given exactly where a transaction begins
pub gives_begins : (answer : Result Done Refusal) (given : Option ℕ) (p : ℕ) (old new : ℕ → List ℕ) (path : List ℕ) (seen : ℕ) → GivesPass answer given p old new → is_some given ≡ begins (Begin path seen) answer
gives_begins (Ok done) given p old new path seen h = ap (λ (o : Option ℕ). is_some o) h.given
gives_begins (Err refusal) given p old new path seen h = ap (λ (o : Option ℕ). is_some o) h.none

-- ---- the number that is seen of a pass

module _ {Q : Type 0} (number_of : Q → ℕ) (p : ℕ) where
  abbrev pub pass_seen : Holding → Option Q → Option (ℕ × ℕ)
  pass_seen stage pass = option_map (λ o. (o.partition, o.pin)) (option_map (λ q. open_with p (number_of q) stage) pass)

  pub pass_seen-is : (stage : Holding) (pass : Option Q) → pass_seen stage pass ≡ pass_at p (option_map number_of pass)
  pass_seen-is stage None = refl
  pass_seen-is stage (Some q) = refl

  -- a commit that was asked
  pub committed_pass : (stage : Holding) (pass after : Option Q) (answer : Result Done Refusal) (held : Option (ℕ × ℕ)) (old new : ℕ → List ℕ) → held ≡ pass_seen stage pass → IsHeld held old → is_some pass ≡ true
      → (ends answer ≡ true → (after ≡ None) × IfSome pass (λ q. new ≡ ended old p (number_of q))) → (ends answer ≡ false → (option_map number_of after ≡ option_map number_of pass) × (new ≡ old)) → LeavesOthers held (pass_seen stage after) old new
  committed_pass stage None after answer held old new e h some gone open' = absurd cc
  committed_pass stage (Some q) after answer held old new e h some gone open' = by_test (ends answer) refl
    where
      by_test : (b : Bool) → ends answer ≡ b → LeavesOthers held (pass_seen stage after) old new
      by_test true t = ended_pass p (number_of q) held (pass_seen stage after) old new e (ap (pass_seen stage) (gone t).0) (gone t).1
      by_test false t = same_pass held (pass_seen stage after) old new h (pass_seen-is stage after ∙ ap (pass_at p) (open' t).0 ∙ sym e) (open' t).1
