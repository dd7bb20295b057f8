-- Pairs that are added to a list where they aren't there.
use Rattle.std.proofs.Common.{◌≡◌, ◌⊎◌, inl, inr, ℕ, Bool, true, false, cond, ◌&&◌, ◌||◌, List, [], ◌∷◌, ◌++◌, refl, sym, ap, subst, ◌∙◌, append_assoc, true≢false}
use Rattle.std.specs.List.{IsAmong, IsDistinct, AllByRecursion, list_any}
use Rattle.std.specs.Cmp.Lexicographic.{nat_list_eq_equiv, same_text}
use Rattle.std.proofs.lemmas.List.{append-nil}
use Rattle.gt_model.specs.Contents.{Content}
use Rattle.gt_model.specs.Verdicts.{same_name}
use Rattle.gt_model.specs.Jobs.{same_pair}
use Rattle.gt_model.proofs.Members.{first, there, cases, none, parts, in_front, in_back}
use Rattle.gt_plain_jobs.specs.Marking.{Pairs, with_pair, with_names, root_names, with_roots}

abbrev pub Pair : Type 0
Pair = List ℕ × List ℕ

-- ---- one pair

both : (a b : Bool) → (a && b) ≡ true → (a ≡ true) × (b ≡ true)
both true b e = (refl, e)
both false b e = absurd (true≢false (sym e))

neither : (a b : Bool) → (a || b) ≡ false → (a ≡ false) × (b ≡ false)
neither true b e = absurd (true≢false e)
neither false b e = (refl, e)

pair_is : (x y : Pair) → same_pair x y ≡ true → x ≡ y
pair_is x y e =
    let p = both (same_name x.0 y.0) (same_name x.1 y.1) e in
    λ i. (same_text x.0 y.0 (sym p.0) i, same_text x.1 y.1 (sym p.1) i)

flipped : (x y : Pair) → same_pair x y ≡ same_pair y x
flipped x y = λ i. nat_list_eq_equiv.symm x.0 y.0 i && nat_list_eq_equiv.symm x.1 y.1 i

-- a pair that the test finds is there
found_there : (q : Pair) (ps : Pairs) → list_any (same_pair q) ps ≡ true → IsAmong ps q
found_there q [] e = absurd (true≢false (sym e))
found_there q (x ∷ xs) e = by (λ e. found_there q xs e) (same_pair q x) refl e
  where
    by : (list_any (same_pair q) xs ≡ true → IsAmong xs q) → (b : Bool) → same_pair q x ≡ b → (b || list_any (same_pair q) xs) ≡ true → IsAmong (x ∷ xs) q
    by rest true t e = first x xs q (pair_is q x t)
    by rest false t e = there x xs q (rest e)

all_end : (P : Pair → Type 0) (ps : Pairs) (q : Pair) → AllByRecursion P ps → P q → AllByRecursion P (ps ++ q ∷ [])
all_end P [] q all this = (this, tt)
all_end P (x ∷ ps) q all this = (all.0, all_end P ps q all.1 this)

once_end : (ps : Pairs) (q : Pair) → IsDistinct same_pair ps → list_any (same_pair q) ps ≡ false → IsDistinct same_pair (ps ++ q ∷ [])
unfolding IsDistinct
once_end [] q once new = (tt, tt)
once_end (x ∷ ps) q once new =
    let apart = neither (same_pair q x) (list_any (same_pair q) ps) new in
    (all_end (λ y. same_pair x y ≡ false) ps q once.0 (flipped x q ∙ apart.0), once_end ps q once.1 apart.1)

once_pair : (ps : Pairs) (q : Pair) → IsDistinct same_pair ps → IsDistinct same_pair (with_pair ps q)
once_pair ps q once = by (list_any (same_pair q) ps) refl
  where
    by : (b : Bool) → list_any (same_pair q) ps ≡ b → IsDistinct same_pair (cond b ps (ps ++ q ∷ []))
    by true t = once
    by false t = once_end ps q once t

-- new is old with more behind it
abbrev pub Extends : Pairs → Pairs → Type 0
Extends old new = (more : Pairs) × (new ≡ old ++ more)

pub onward : (a b c : Pairs) → Extends a b → Extends b c → Extends a c
onward a b c (more, is) (rest, ends) = (more ++ rest, ends ∙ ap (λ (ps : Pairs). ps ++ rest) is ∙ append_assoc a more rest)

pub same : (a : Pairs) → Extends a a
same a = ([], sym (append-nil a))

pub stays : (a b : Pairs) (q : Pair) → Extends a b → IsAmong a q → IsAmong b q
stays a b q (more, is) h = subst (λ (ps : Pairs). IsAmong ps q) (sym is) (in_front a more q h)

longer_pair : (ps : Pairs) (q : Pair) → Extends ps (with_pair ps q)
longer_pair ps q = by (list_any (same_pair q) ps)
  where
    by : (b : Bool) → Extends ps (cond b ps (ps ++ q ∷ []))
    by true = same ps
    by false = (q ∷ [], refl)

here_pair : (ps : Pairs) (q : Pair) → IsAmong (with_pair ps q) q
here_pair ps q = by (list_any (same_pair q) ps) refl
  where
    by : (b : Bool) → list_any (same_pair q) ps ≡ b → IsAmong (cond b ps (ps ++ q ∷ [])) q
    by true t = found_there q ps t
    by false t = in_back ps (q ∷ []) q (first q [] q refl)

each_pair : (P : Pair → Type 0) (ps : Pairs) (q : Pair) → ((r : Pair) → IsAmong ps r → P r) → P q → (r : Pair) → IsAmong (with_pair ps q) r → P r
each_pair P ps q old this r h = by (list_any (same_pair q) ps) h
  where
    last : (r ≡ q) ⊎ IsAmong [] r → P r
    last (inl is) = subst P (sym is) this
    last (inr h) = absurd (none r h)

    split : IsAmong ps r ⊎ IsAmong (q ∷ []) r → P r
    split (inl h) = old r h
    split (inr h) = last (cases q [] r h)

    by : (b : Bool) → IsAmong (cond b ps (ps ++ q ∷ [])) r → P r
    by true h = old r h
    by false h = split (parts ps (q ∷ []) r h)

-- ---- names of one repository

module _ (at : List ℕ) where
  pub once_names : (ps : Pairs) (names : List (List ℕ)) → IsDistinct same_pair ps → IsDistinct same_pair (with_names at ps names)
  once_names ps [] once = once
  once_names ps (n ∷ ns) once = once_names (with_pair ps (at, n)) ns (once_pair ps (at, n) once)

  pub longer_names : (ps : Pairs) (names : List (List ℕ)) → Extends ps (with_names at ps names)
  longer_names ps [] = same ps
  longer_names ps (n ∷ ns) = onward ps (with_pair ps (at, n)) (with_names at (with_pair ps (at, n)) ns) (longer_pair ps (at, n)) (longer_names (with_pair ps (at, n)) ns)

  pub here_names : (ps : Pairs) (names : List (List ℕ)) (n : List ℕ) → IsAmong names n → IsAmong (with_names at ps names) (at, n)
  here_names ps [] n h = absurd (none n h)
  here_names ps (x ∷ ns) n h = by (λ h. here_names (with_pair ps (at, x)) ns n h) (cases x ns n h)
    where
      by : (IsAmong ns n → IsAmong (with_names at (with_pair ps (at, x)) ns) (at, n)) → (n ≡ x) ⊎ IsAmong ns n → IsAmong (with_names at (with_pair ps (at, x)) ns) (at, n)
      by rest (inl is) =
          subst (λ (m : List ℕ). IsAmong (with_names at (with_pair ps (at, x)) ns) (at, m)) (sym is)
          (stays (with_pair ps (at, x)) (with_names at (with_pair ps (at, x)) ns) (at, x) (longer_names (with_pair ps (at, x)) ns) (here_pair ps (at, x)))
      by rest (inr h) = rest h

  pub each_names : (P : Pair → Type 0) (ps : Pairs) (names : List (List ℕ)) → ((r : Pair) → IsAmong ps r → P r) → ((n : List ℕ) → IsAmong names n → P (at, n)) → (r : Pair) → IsAmong (with_names at ps names) r → P r
  each_names P ps [] old new = old
  each_names P ps (n ∷ ns) old new = each_names P (with_pair ps (at, n)) ns (each_pair P ps (at, n) old (new n (first n ns n refl))) (λ m h. new m (there n ns m h))

-- ---- roots

module _ (c : Content) (path : List ℕ) where
  pub once_roots : (ps : Pairs) (paths : List (List ℕ)) → IsDistinct same_pair ps → IsDistinct same_pair (with_roots c path ps paths)
  once_roots ps [] once = once
  once_roots ps (a ∷ rest) once = once_roots (with_names a ps (root_names c path a)) rest (once_names a ps (root_names c path a) once)

  longer_roots : (ps : Pairs) (paths : List (List ℕ)) → Extends ps (with_roots c path ps paths)
  longer_roots ps [] = same ps
  longer_roots ps (a ∷ rest) =
      let next : Pairs = with_names a ps (root_names c path a) in
      onward ps next (with_roots c path next rest) (longer_names a ps (root_names c path a)) (longer_roots next rest)

  pub here_roots : (ps : Pairs) (paths : List (List ℕ)) (at n : List ℕ) → IsAmong paths at → IsAmong (root_names c path at) n → IsAmong (with_roots c path ps paths) (at, n)
  here_roots ps [] at n h root = absurd (none at h)
  here_roots ps (a ∷ rest) at n h root = by (λ h. here_roots (with_names a ps (root_names c path a)) rest at n h root) (cases a rest at h)
    where
      by : (IsAmong rest at → IsAmong (with_roots c path (with_names a ps (root_names c path a)) rest) (at, n)) → (at ≡ a) ⊎ IsAmong rest at → IsAmong (with_roots c path (with_names a ps (root_names c path a)) rest) (at, n)
      by later (inl is) =
          subst (λ (b : List ℕ). IsAmong (with_roots c path (with_names a ps (root_names c path a)) rest) (b, n)) (sym is)
          (stays (with_names a ps (root_names c path a)) (with_roots c path (with_names a ps (root_names c path a)) rest) (a, n) (longer_roots (with_names a ps (root_names c path a)) rest)
          (here_names a ps (root_names c path a) n (subst (λ (b : List ℕ). IsAmong (root_names c path b) n) is root)))
      by later (inr h) = later h

  pub each_roots : (P : Pair → Type 0) (ps : Pairs) (paths : List (List ℕ)) → ((r : Pair) → IsAmong ps r → P r) → ((at n : List ℕ) → IsAmong (root_names c path at) n → P (at, n)) → (r : Pair) → IsAmong (with_roots c path ps paths) r → P r
  each_roots P ps [] old new = old
  each_roots P ps (a ∷ rest) old new = each_roots P (with_names a ps (root_names c path a)) rest (each_names a P ps (root_names c path a) old (λ n h. new a n h)) new
