-- The folders of a name.
use Rattle.std.proofs.Common.{◌≡◌, ℕ, zero, suc, ◌+◌, ◌<◌, ◌≤◌, nat_eq, Bool, true, false, cond, ◌&&◌, ◌||◌, is_some, List, [], ◌∷◌, ◌++◌, length, take, drop, drop-cons, add-one, slice_index_or, Option, Some, None, refl, sym, ap, ◌∙◌, arith, map}
use Rattle.std.proofs.lemmas.Bool.Decides.{nat_tests}
use Rattle.std.proofs.lemmas.List.{append-nil}
use Rattle.std.specs.List.{list_any, cons_option}
use Rattle.std.specs.Option.{option_map, option_or}
use Rattle.std.specs.declared.cmp.Ordering.TheVariants.{Equal}
use Rattle.std.specs.Ordering.{is_lt, ordering_then}
use Rattle.std.specs.Cmp.{nat_cmp_is}
use Rattle.gt_model.specs.Contents.{key_cmp}
use Rattle.gt_model.specs.Verdicts.{same_name, is_under, first_some}
use Rattle.gt_slots.specs.Clashing.{folders}

-- ---- equal names

pub same_refl : (a : List ℕ) → same_name a a ≡ true
same_refl [] = refl
same_refl (x ∷ xs) = let on : nat_eq x x ≡ true = grind (arith, nat_tests) in ap (λ b. b && same_name xs xs) on ∙ same_refl xs

and_left : (a b : Bool) → (a && b) ≡ true → a ≡ true
and_left true b h = refl
and_left false b h = h

and_right : (a b : Bool) → (a && b) ≡ true → b ≡ true
and_right true b h = h
and_right false b h = let no : ⊥ = cc in absurd no

pub same_is : (a b : List ℕ) → same_name a b ≡ true → a ≡ b
same_is [] [] h = refl
same_is [] (y ∷ ys) h = let no : ⊥ = cc in absurd no
same_is (x ∷ xs) [] h = let no : ⊥ = cc in absurd no
same_is (x ∷ xs) (y ∷ ys) h =
    let t : nat_eq x y ≡ true = and_left (nat_eq x y) (same_name xs ys) h in
    let e : x ≡ y = grind (arith, nat_tests) in
    ap (λ n. n ∷ xs) e ∙ ap (λ l. y ∷ l) (same_is xs ys (and_right (nat_eq x y) (same_name xs ys) h))

pub none_copied : {A B : Type 0} (f : A → B) (o : Option A) → is_some o ≡ false → is_some (option_map f o) ≡ false
none_copied f None h = refl
none_copied f (Some x) h = h

-- ---- they ascend

abbrev pub Above : List ℕ → List (List ℕ) → Type 0
Above a [] = Unit {0}
Above a (f ∷ fs) = (is_lt (key_cmp a f) ≡ true) × Above a fs

abbrev pub Ascends : List (List ℕ) → Type 0
Ascends [] = Unit {0}
Ascends (f ∷ fs) = Above f fs × Ascends fs

above_cons : (b : ℕ) (a : List ℕ) (fs : List (List ℕ)) → Above a fs → Above (b ∷ a) (map (λ f. b ∷ f) fs)
above_cons b a [] h = tt
above_cons b a (f ∷ fs) h = (ap (λ o. is_lt (ordering_then o (key_cmp a f))) (sym (nat_cmp_is b b Equal refl)) ∙ h.0, above_cons b a fs h.1)

above_nil : (b : ℕ) (fs : List (List ℕ)) → Above [] (map (λ f. b ∷ f) fs)
above_nil b [] = tt
above_nil b (f ∷ fs) = (refl, above_nil b fs)

ascends_cons : (b : ℕ) (fs : List (List ℕ)) → Ascends fs → Ascends (map (λ f. b ∷ f) fs)
ascends_cons b [] h = tt
ascends_cons b (f ∷ fs) h = (above_cons b f fs h.0, ascends_cons b fs h.1)

pub folders_ascend : (name : List ℕ) → Ascends (folders name)
folders_ascend [] = tt
folders_ascend (b ∷ bs) = by (folders_ascend bs) (nat_eq 47 b)
  where
    by : Ascends (folders bs) → (c : Bool) → Ascends (cons_option (cond c (Some []) None) (map (λ f. b ∷ f) (folders bs)))
    by h true = (above_nil b (folders bs), ascends_cons b (folders bs) h)
    by h false = ascends_cons b (folders bs) h

-- ---- they are what the name stands in

none_nil : (b : ℕ) (fs : List (List ℕ)) → list_any (same_name []) (map (λ f. b ∷ f) fs) ≡ false
none_nil b [] = refl
none_nil b (f ∷ fs) = none_nil b fs

any_cons : (x b : ℕ) (xs : List ℕ) (fs : List (List ℕ)) → list_any (same_name (x ∷ xs)) (map (λ f. b ∷ f) fs) ≡ (nat_eq x b && list_any (same_name xs) fs)
any_cons x b xs [] = by (nat_eq x b)
  where
    by : (c : Bool) → false ≡ (c && false)
    by true = refl
    by false = refl
any_cons x b xs (f ∷ fs) = ap (λ c. (nat_eq x b && same_name xs f) || c) (any_cons x b xs fs) ∙ by (nat_eq x b)
  where
    by : (c : Bool) → ((c && same_name xs f) || (c && list_any (same_name xs) fs)) ≡ (c && (same_name xs f || list_any (same_name xs) fs))
    by true = refl
    by false = refl

pub in_folders : (o name : List ℕ) → list_any (same_name o) (folders name) ≡ is_under name o
in_folders [] [] = refl
in_folders (x ∷ xs) [] = refl
in_folders [] (b ∷ bs) = by (nat_eq 47 b)
  where
    by : (c : Bool) → list_any (same_name []) (cons_option (cond c (Some []) None) (map (λ f. b ∷ f) (folders bs))) ≡ (c && true)
    by true = refl
    by false = none_nil b (folders bs)
in_folders (x ∷ xs) (b ∷ bs) = by (nat_eq 47 b) ∙ any_cons x b xs (folders bs) ∙ ap (λ c. nat_eq x b && c) (in_folders xs bs)
  where
    by : (c : Bool) → list_any (same_name (x ∷ xs)) (cons_option (cond c (Some []) None) (map (λ f. b ∷ f) (folders bs))) ≡ list_any (same_name (x ∷ xs)) (map (λ f. b ∷ f) (folders bs))
    by true = refl
    by false = refl

-- ---- one after the other

module _ {B : Type 0} (g : List ℕ → Option B) where
  abbrev pub ahead : List ℕ → ℕ → Option B
  ahead name i = first_some g (map (λ f. take i name ++ f) (folders (drop i name)))

  first_map : (h k : List ℕ → List ℕ) → ((f : List ℕ) → h f ≡ k f) → (fs : List (List ℕ)) → first_some g (map h fs) ≡ first_some g (map k fs)
  first_map h k e [] = refl
  first_map h k e (f ∷ fs) = ap (λ o. option_or o (first_some g (map h fs))) (ap g (e f)) ∙ ap (option_or (g (k f))) (first_map h k e fs)

  map_twice : (h k : List ℕ → List ℕ) (fs : List (List ℕ)) → map h (map k fs) ≡ map (λ f. h (k f)) fs
  map_twice h k [] = refl
  map_twice h k (f ∷ fs) = ap (λ l. h (k f) ∷ l) (map_twice h k fs)

  take_more : (name : List ℕ) (i b : ℕ) (rest f : List ℕ) → drop i name ≡ b ∷ rest → take i name ++ b ∷ f ≡ take (suc i) name ++ f
  take_more [] zero b rest f h = let no : ⊥ = cc in absurd no
  take_more [] (suc i) b rest f h = let no : ⊥ = cc in absurd no
  take_more (x ∷ xs) zero b rest f h = let same : x ≡ b = cc in ap (λ n. n ∷ f) (sym same)
  take_more (x ∷ xs) (suc i) b rest f h = ap (λ l. x ∷ l) (take_more xs i b rest f h)

  first_same : (fs : List (List ℕ)) → first_some g fs ≡ first_some g (map (λ f. [] ++ f) fs)
  first_same [] = refl
  first_same (f ∷ fs) = ap (option_or (g f)) (first_same fs)

  pub start_ahead : (name : List ℕ) → ahead name 0 ≡ first_some g (folders name)
  start_ahead [] = refl
  start_ahead (b ∷ bs) = sym (first_same (folders (b ∷ bs)))

  pub step_ahead : (name : List ℕ) (i b : ℕ) (rest : List ℕ) → drop i name ≡ b ∷ rest → rest ≡ drop (suc i) name → ahead name i ≡ cond (nat_eq 47 b) (option_or (g (take i name)) (ahead name (suc i))) (ahead name (suc i))
  step_ahead name i b rest h r = ap (λ l. first_some g (map (λ f. take i name ++ f) (folders l))) h ∙ by (nat_eq 47 b)
    where
      tail : first_some g (map (λ f. take i name ++ f) (map (λ f. b ∷ f) (folders rest))) ≡ ahead name (suc i)
      tail =
          ap (first_some g) (map_twice (λ f. take i name ++ f) (λ f. b ∷ f) (folders rest))
          ∙ first_map (λ f. take i name ++ b ∷ f) (λ f. take (suc i) name ++ f) (λ f. take_more name i b rest f h) (folders rest)
          ∙ ap (λ l. first_some g (map (λ f. take (suc i) name ++ f) (folders l))) r

      by : (c : Bool) → first_some g (map (λ f. take i name ++ f) (cons_option (cond c (Some []) None) (map (λ f. b ∷ f) (folders rest)))) ≡ cond c (option_or (g (take i name)) (ahead name (suc i))) (ahead name (suc i))
      by true = ap (λ o. option_or o (first_some g (map (λ f. take i name ++ f) (map (λ f. b ∷ f) (folders rest))))) (ap g (append-nil (take i name))) ∙ ap (option_or (g (take i name))) tail
      by false = tail

  pub end_ahead : (name : List ℕ) (i : ℕ) → length name ≤ i → ahead name i ≡ None
  end_ahead name i l = ap (λ r. first_some g (map (λ f. take i name ++ f) (folders r))) (dropped name i l)
    where
      dropped : (xs : List ℕ) (i : ℕ) → length xs ≤ i → drop i xs ≡ []
      dropped [] zero l = refl
      dropped [] (suc i) l = refl
      dropped (x ∷ xs) zero l = absurd (omega arith)
      dropped (x ∷ xs) (suc i) l = dropped xs i (omega arith)

  -- what stands in the way here, or further on
  pub next_ahead : (name : List ℕ) (i : ℕ) → i < length name → ahead name i ≡ option_or (cond (nat_eq 47 (slice_index_or name i 0)) (g (take i name)) None) (ahead name (i + 1))
  next_ahead name i l =
      step_ahead name i (slice_index_or name i 0) (drop (suc i) name) (drop-cons name i 0 l) refl
      ∙ by (nat_eq 47 (slice_index_or name i 0))
      ∙ ap (λ n. option_or (cond (nat_eq 47 (slice_index_or name i 0)) (g (take i name)) None) (ahead name n)) (sym (add-one i))
    where
      by : (c : Bool) → cond c (option_or (g (take i name)) (ahead name (suc i))) (ahead name (suc i)) ≡ option_or (cond c (g (take i name)) None) (ahead name (suc i))
      by true = refl
      by false = refl

  pub ahead_found : (name : List ℕ) (i : ℕ) (o : Option B) (whole : Option B) → i < length name → o ≡ cond (nat_eq 47 (slice_index_or name i 0)) (g (take i name)) None → ahead name i ≡ whole → is_some o ≡ true → o ≡ whole
  ahead_found name i None whole l e inv h = let no : ⊥ = cc in absurd no
  ahead_found name i (Some x) whole l e inv h = sym (sym inv ∙ next_ahead name i l ∙ ap (λ r. option_or r (ahead name (i + 1))) (sym e))

  pub ahead_more : (name : List ℕ) (i : ℕ) (o : Option B) (whole : Option B) → i < length name → o ≡ cond (nat_eq 47 (slice_index_or name i 0)) (g (take i name)) None → ahead name i ≡ whole → is_some o ≡ false → ahead name (i + 1) ≡ whole
  ahead_more name i None whole l e inv h = sym (next_ahead name i l ∙ ap (λ r. option_or r (ahead name (i + 1))) (sym e)) ∙ inv
  ahead_more name i (Some x) whole l e inv h = let no : ⊥ = cc in absurd no
