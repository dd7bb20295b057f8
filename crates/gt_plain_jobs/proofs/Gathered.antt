-- A list of pairs that has the roots and is closed under what records mention has just the marked pairs.
use Rattle.std.proofs.Common.{◌≡◌, ◌⊎◌, inl, inr, ℕ, zero, suc, ◌+◌, ◌≤◌, List, [], ◌∷◌, ◌++◌, length, take, slice_get, Option, Some, None, refl, sym, ap, subst, ◌∙◌, arith}
use Rattle.std.specs.List.{IsAmong, IsDistinct}
use Rattle.std.specs.FinMap as map
use Rattle.std.proofs.lemmas.List.{take-append-le}
use Rattle.gt_model.specs.Contents.{Content}
use Rattle.gt_model.specs.Soundness.{Needs}
use Rattle.gt_model.specs.Jobs.{IsRoot, IsMarkWay, Marks, IsMarked, same_pair}
use Rattle.gt_model.proofs.Members.{first, there, cases, none, parts}
use Rattle.gt_plain_jobs.specs.Marking.{Pairs, mentioned, with_names, with_roots, followed}
use Rattle.gt_plain_jobs.proofs.Gathering.{Pair, Extends, stays, once_names, longer_names, here_names, each_names, once_roots, here_roots, each_roots}
use Rattle.gt_plain_jobs.proofs.Roots.{needed, needs_mentioned, is_root, all_roots, root_stands}

-- what is gathered where the pairs before this index were followed
pub record IsGathered (c : Content) (path : List ℕ) (index : ℕ) (pairs : Pairs) : Type 0 where
  pub once : IsDistinct same_pair pairs
  pub marked : (q : Pair) → IsAmong pairs q → Marks c path q.0 q.1
  pub roots : (at name : List ℕ) → IsRoot c path at name → IsAmong pairs (at, name)
  pub closed : (q : Pair) → IsAmong (take index pairs) q → (dep : List ℕ) → Needs c q.0 q.1 dep → IsAmong pairs (q.0, dep)

-- one element more is taken
take_one : {X : Type 0} (xs : List X) (i : ℕ) (x : X) → slice_get xs i ≡ Some x → take (suc i) xs ≡ take i xs ++ x ∷ []
take_one [] i x e = cc
take_one (y ∷ ys) zero x e = let is : y ≡ x = cc in ap (λ z. z ∷ []) is
take_one (y ∷ ys) (suc i) x e = ap (λ zs. y ∷ zs) (take_one ys i x e)

within : {X : Type 0} (xs : List X) (i : ℕ) (x : X) → slice_get xs i ≡ Some x → suc i ≤ length xs
within [] i x e = cc
within (y ∷ ys) zero x e = omega arith
within (y ∷ ys) (suc i) x e = let rest : suc i ≤ length ys = within ys i x e in omega arith

among : {X : Type 0} (xs : List X) (i : ℕ) (x : X) → slice_get xs i ≡ Some x → IsAmong xs x
among [] i x e = cc
among (y ∷ ys) zero x e = let is : x ≡ y = cc in first y ys x is
among (y ∷ ys) (suc i) x e = there y ys x (among ys i x e)

take_none : {X : Type 0} (xs : List X) (i : ℕ) → slice_get xs i ≡ None → take i xs ≡ take (suc i) xs
take_none [] zero e = refl
take_none [] (suc i) e = refl
take_none (y ∷ ys) zero e = cc
take_none (y ∷ ys) (suc i) e = ap (λ zs. y ∷ zs) (take_none ys i e)

take_all : {X : Type 0} (xs : List X) (i : ℕ) → length xs ≤ i → take i xs ≡ xs
take_all [] zero h = refl
take_all [] (suc i) h = refl
take_all (x ∷ xs) zero h = absurd (omega arith)
take_all (x ∷ xs) (suc i) h = ap (λ zs. x ∷ zs) (take_all xs i (omega arith))

module _ (c : Content) (path : List ℕ) where
  pub begins : IsGathered c path 0 (with_roots c path [] (map.keys c))
  unfolding IsDistinct
  begins = record {
    once = once_roots c path [] (map.keys c) tt;
    marked = each_roots c path (λ q. Marks c path q.0 q.1) [] (map.keys c) (λ q h. absurd (none q h)) (λ at n h. ([], is_root c path at n h));
    roots = λ at name root. here_roots c path [] (map.keys c) at name (root_stands c path at name root) (all_roots c path at name root);
    closed = λ q h dep n. absurd (none q h);
  }

  -- the pairs behind that of the index
  goes_on : (index : ℕ) (pairs : Pairs) (pair : Pair) → slice_get pairs index ≡ Some pair → IsGathered c path index pairs
      → IsGathered c path (suc index) (with_names pair.0 pairs (mentioned c pair.0 pair.1))
  goes_on index pairs pair e g =
      let names : List (List ℕ) = mentioned c pair.0 pair.1 in
      let after : Pairs = with_names pair.0 pairs names in
      record {
        once = once_names pair.0 pairs names g.once;
        marked = each_names pair.0 (λ q. Marks c path q.0 q.1) pairs names g.marked new;
        roots = λ at name root. stays pairs after (at, name) longer (g.roots at name root);
        closed = λ q h dep n. split q dep n (parts (take index pairs) (pair ∷ []) q (subst (λ (ps : Pairs). IsAmong ps q) (front longer) h));
      }
    where
      longer : Extends pairs (with_names pair.0 pairs (mentioned c pair.0 pair.1))
      longer = longer_names pair.0 pairs (mentioned c pair.0 pair.1)

      this_marked : Marks c path pair.0 pair.1
      this_marked = g.marked pair (among pairs index pair e)

      new : (n : List ℕ) → IsAmong (mentioned c pair.0 pair.1) n → Marks c path pair.0 n
      new n h = (pair.1 ∷ this_marked.0, (needed c pair.0 pair.1 n h, this_marked.1))

      front : Extends pairs (with_names pair.0 pairs (mentioned c pair.0 pair.1)) → take (suc index) (with_names pair.0 pairs (mentioned c pair.0 pair.1)) ≡ take index pairs ++ pair ∷ []
      front (more, is) =
          ap (λ (ps : Pairs). take (suc index) ps) is ∙ take-append-le (suc index) pairs more (within pairs index pair e) ∙ take_one pairs index pair e

      last : (q : Pair) (dep : List ℕ) → Needs c q.0 q.1 dep → (q ≡ pair) ⊎ IsAmong [] q → IsAmong (with_names pair.0 pairs (mentioned c pair.0 pair.1)) (q.0, dep)
      last q dep n (inl is) =
          subst (λ (r : Pair). Needs c r.0 r.1 dep → IsAmong (with_names pair.0 pairs (mentioned c pair.0 pair.1)) (r.0, dep)) (sym is)
          (λ n. here_names pair.0 pairs (mentioned c pair.0 pair.1) dep (needs_mentioned c pair.0 pair.1 dep n)) n
      last q dep n (inr h) = absurd (none q h)

      split : (q : Pair) (dep : List ℕ) → Needs c q.0 q.1 dep → IsAmong (take index pairs) q ⊎ IsAmong (pair ∷ []) q → IsAmong (with_names pair.0 pairs (mentioned c pair.0 pair.1)) (q.0, dep)
      split q dep n (inl h) = stays pairs (with_names pair.0 pairs (mentioned c pair.0 pair.1)) (q.0, dep) (longer_names pair.0 pairs (mentioned c pair.0 pair.1)) (g.closed q h dep n)
      split q dep n (inr h) = last q dep n (cases pair [] q h)

  pub goes : (index : ℕ) (pairs : Pairs) → IsGathered c path index pairs → IsGathered c path (index + 1) (followed c pairs (slice_get pairs index))
  goes index pairs g = subst (λ (n : ℕ). IsGathered c path n (followed c pairs (slice_get pairs index))) (let e : suc index ≡ index + 1 = omega arith in e) (by (slice_get pairs index) refl)
    where
      by : (o : Option Pair) → slice_get pairs index ≡ o → IsGathered c path (suc index) (followed c pairs o)
      by None e = record { once = g.once; marked = g.marked; roots = g.roots; closed = λ q h dep n. g.closed q (subst (λ (ps : Pairs). IsAmong ps q) (sym (take_none pairs index e)) h) dep n }
      by (Some pair) e = goes_on index pairs pair e g

  -- the last of a way that begins at a root is there
  way_there : (index : ℕ) (pairs : Pairs) → length pairs ≤ index → IsGathered c path index pairs → (at name : List ℕ) (way : List (List ℕ)) → IsMarkWay c path at name way → IsAmong pairs (at, name)
  way_there index pairs all g at name [] root = g.roots at name root
  way_there index pairs all g at name (needer ∷ way) (n, rest) =
      g.closed (at, needer) (subst (λ (ps : Pairs). IsAmong ps (at, needer)) (sym (take_all pairs index all)) (way_there index pairs all g at needer way rest)) name n

  pub done : (index : ℕ) (pairs : Pairs) → length pairs ≤ index → IsGathered c path index pairs → IsMarked c path pairs
  done index pairs all g = record {
    once = g.once;
    marked = λ at name h. g.marked (at, name) h;
    whole = λ at name m. way_there index pairs all g at name m.0 m.1;
  }
