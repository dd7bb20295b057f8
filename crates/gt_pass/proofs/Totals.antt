-- Totals over lists of passes and of hands.
use Rattle.std.proofs.Common.{◌≡◌, ◌≢◌, inl, inr, ⊎_elim, ℕ, zero, suc, ◌+◌, ◌≤◌, eq-eqb, ne_eqb, ◌==◌, List, [], ◌∷◌, ◌++◌, length, set, refl, sym, ap, subst, ◌∙◌, arith}
use mathlib.Core.Option.{some, some-ne-none, some-injective}
use mathlib.Core.Logic.{dite}
use native.Mathlib.Decide.{ℕ_discrete}
use lib.ListN.{get_elem?}
use Rattle.gt_pass.specs.Hands.{pick, total, has, times, without, IsIn, first_of, rest_of}

module _ {A : Type 0} where
  pub set_at : (l : List A) (i : ℕ) (a b : A) → get_elem? l i ≡ some a → get_elem? (set l i b) i ≡ some b
  set_at [] i a b e = absurd (some-ne-none a (sym e))
  set_at (x ∷ xs) zero a b e = refl
  set_at (x ∷ xs) (suc i) a b e = set_at xs i a b e

  pub total_set : (f : A → ℕ) (l : List A) (i : ℕ) (a b : A) → get_elem? l i ≡ some a → total f (set l i b) + f a ≡ total f l + f b
  total_set f [] i a b e = absurd (some-ne-none a (sym e))
  total_set f (x ∷ xs) zero a b e = let s : f x ≡ f a = ap f (some-injective _ _ e) in omega (arith, s)
  total_set f (x ∷ xs) (suc i) a b e = let r = total_set f xs i a b e in omega (arith, r)

  pub total_append : (f : A → ℕ) (xs ys : List A) → total f (xs ++ ys) ≡ total f xs + total f ys
  total_append f [] ys = omega arith
  total_append f (x ∷ xs) ys = let r = total_append f xs ys in omega (arith, r)

  pub total_at : (f : A → ℕ) (l : List A) (i : ℕ) (a : A) → get_elem? l i ≡ some a → f a ≤ total f l
  total_at f [] i a e = absurd (some-ne-none a (sym e))
  total_at f (x ∷ xs) zero a e = let s : f x ≡ f a = ap f (some-injective _ _ e) in omega (arith, s)
  total_at f (x ∷ xs) (suc i) a e = let r = total_at f xs i a e in omega (arith, r)

pub total_parts : (h : ℕ × ℕ → ℕ) (ps : List (ℕ × ℕ)) → total h (first_of ps) + total h (rest_of ps) ≡ total h ps
total_parts h [] = refl
total_parts h (p ∷ ps) = omega arith

pub first_short : (ps : List (ℕ × ℕ)) → length (first_of ps) ≤ 1
first_short [] = omega arith
first_short (p ∷ ps) = omega arith

-- 1 where the passes are the same
abbrev pub same : ℕ × ℕ → ℕ × ℕ → ℕ
same p q = pick (p.0 == q.0) (pick (p.1 == q.1) 1 0) 0

same_self : (p : ℕ × ℕ) → same p p ≡ 1
same_self p = ap (λ b. pick b (pick (p.1 == p.1) 1 0) 0) (eq-eqb p.0 p.0 refl) ∙ ap (λ b. pick b 1 0) (eq-eqb p.1 p.1 refl)

same_of : (p q : ℕ × ℕ) → 1 ≤ same p q → p ≡ q
same_of p q le =
    dite (ℕ_discrete p.0 q.0)
    (λ e. dite (ℕ_discrete p.1 q.1) (λ f i. (e i, f i))
    (λ n. let z : same p q ≡ 0 = ap (λ b. pick b (pick (p.1 == q.1) 1 0) 0) (eq-eqb p.0 q.0 e) ∙ ap (λ b. pick b 1 0) (ne_eqb p.1 q.1 n) in absurd (omega (arith, z, le))))
    (λ n. let z : same p q ≡ 0 = ap (λ b. pick b (pick (p.1 == q.1) 1 0) 0) (ne_eqb p.0 q.0 n) in absurd (omega (arith, z, le)))

pub in_weighs : (p : ℕ × ℕ) (ps : List (ℕ × ℕ)) → IsIn p ps → 1 ≤ total (same p) ps
in_weighs p [] i = absurd i
in_weighs p (q ∷ qs) i = ⊎_elim
    (λ (e : p ≡ q). let s : same p q ≡ 1 = subst (λ r. same p r ≡ 1) e (same_self p) in omega (arith, s))
    (λ (j : IsIn p qs). let r = in_weighs p qs j in omega (arith, r)) i

pub weighs_in : (p : ℕ × ℕ) (ps : List (ℕ × ℕ)) → 1 ≤ total (same p) ps → IsIn p ps
weighs_in p [] le = absurd (omega (arith, le))
weighs_in p (q ∷ qs) le =
    dite (ℕ_discrete (same p q) 0)
    (λ z. inr (weighs_in p qs (omega (arith, z, le))))
    (λ n. inl (same_of p q (omega (arith, n))))

has_self : (n : ℕ) (p : ℕ × ℕ) → p.0 ≡ n → has n p ≡ 1
has_self n p e = ap (λ b. pick b 1 0) (eq-eqb p.0 n e)

-- a number that stands twice isn't there once at most
pub not_twice : (n : ℕ) (p q : ℕ × ℕ) (ps : List (ℕ × ℕ)) → p.0 ≡ n → q.0 ≡ n → times n (p ∷ q ∷ ps) ≤ 1 → ⊥
not_twice n p q ps e f le = omega (arith, has_self n p e, has_self n q f, le)

has_other : (n : ℕ) (p : ℕ × ℕ) → p.0 ≢ n → has n p ≡ 0
has_other n p e = ap (λ b. pick b 1 0) (ne_eqb p.0 n e)

pub in_times : (p : ℕ × ℕ) (ps : List (ℕ × ℕ)) → IsIn p ps → 1 ≤ times p.0 ps
in_times p [] i = absurd i
in_times p (q ∷ qs) i = ⊎_elim
    (λ (e : p ≡ q). let s : has p.0 q ≡ 1 = has_self p.0 q (ap (λ r. r.0) (sym e)) in omega (arith, s))
    (λ (j : IsIn p qs). let r = in_times p qs j in omega (arith, r)) i

pub has_at_most : (n : ℕ) (p : ℕ × ℕ) (before : ℕ) → (p.0 ≡ n → before ≡ 0) → before ≤ 1 → before + has n p ≤ 1
has_at_most n p before free le = dite (ℕ_discrete p.0 n) (λ e. omega (arith, free e, has_self n p e)) (λ ne. omega (arith, has_other n p ne, le))

without_none : (n : ℕ) (ps : List (ℕ × ℕ)) → times n ps ≡ 0 → without n ps ≡ ps
without_none n [] z = refl
without_none n (q ∷ qs) z =
    dite (ℕ_discrete q.0 n)
    (λ e. absurd (omega (arith, z, has_self n q e)))
    (λ ne. ap (λ b. pick b (without n qs) (q ∷ without n qs)) (ne_eqb q.0 n ne) ∙ ap (λ l. q ∷ l) (without_none n qs (omega (arith, z))))

-- what is left weighs less by the one that left
pub without_total : (h : ℕ × ℕ → ℕ) (p : ℕ × ℕ) (ps : List (ℕ × ℕ)) → IsIn p ps → times p.0 ps ≤ 1 → total h (without p.0 ps) + h p ≡ total h ps
without_total h p [] i le = absurd i
without_total h p (q ∷ qs) i le =
    dite (ℕ_discrete q.0 p.0)
    (λ (e : q.0 ≡ p.0).
    let one : has p.0 q ≡ 1 = has_self p.0 q e in
    let gone : times p.0 qs ≡ 0 = omega (arith, le, one) in
    let is : without p.0 (q ∷ qs) ≡ qs = ap (λ b. pick b (without p.0 qs) (q ∷ without p.0 qs)) (eq-eqb q.0 p.0 e) ∙ without_none p.0 qs gone in
    let t = ap (total h) is in
    ⊎_elim (λ (w : p ≡ q). omega (arith, t, ap h w)) (λ (j : IsIn p qs). absurd (omega (arith, in_times p qs j, gone))) i)
    (λ (ne : q.0 ≢ p.0).
    let zip : has p.0 q ≡ 0 = has_other p.0 q ne in
    let is : without p.0 (q ∷ qs) ≡ q ∷ without p.0 qs = ap (λ b. pick b (without p.0 qs) (q ∷ without p.0 qs)) (ne_eqb q.0 p.0 ne) in
    let t = ap (total h) is in
    ⊎_elim (λ (w : p ≡ q). absurd (ne (ap (λ r. r.0) (sym w)))) (λ (j : IsIn p qs). omega (arith, t, without_total h p qs j (omega (arith, le)))) i)

pub without_less : (n m : ℕ) (ps : List (ℕ × ℕ)) → times n (without m ps) ≤ times n ps
without_less n m [] = omega arith
without_less n m (q ∷ qs) =
    dite (ℕ_discrete q.0 m)
    (λ e. let t = ap (times n) (ap (λ b. pick b (without m qs) (q ∷ without m qs)) (eq-eqb q.0 m e)) in omega (arith, t, without_less n m qs))
    (λ ne. let t = ap (times n) (ap (λ b. pick b (without m qs) (q ∷ without m qs)) (ne_eqb q.0 m ne)) in omega (arith, t, without_less n m qs))
