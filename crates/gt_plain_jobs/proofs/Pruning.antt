-- The own names of no marked pair, and how many units they leave.
use Rattle.std.proofs.Common.{◌≡◌, ◌⊎◌, inl, inr, ℕ, ◌+◌, Bool, true, false, not, ◌||◌, List, [], ◌∷◌, length, map as map_list, is_some, IsTrue, refl, sym, ap, subst, ◌∙◌, arith, true≢false}
use Rattle.std.specs.List.{IsAmong}
use Rattle.std.specs.List.Sorted.{IsStrictlySortedBy}
use Rattle.std.specs.Cmp.Lexicographic.{nat_list_eq_equiv, same_text}
use Rattle.std.specs.FinMap as map
use Rattle.std.proofs.lemmas.List.Filters.{length-filter_both}
use Rattle.std.proofs.lemmas.List.Kept.{IsStrictlySortedBy-filter}
use Rattle.gt_model.specs.Contents.{Content, key_cmp, own, own_of}
use Rattle.gt_model.specs.Verdicts.{same_name, ascending}
use Rattle.gt_model.specs.Jobs.{owned, IsKept, IsPruned, IsMarked, ArePruneUnits}
use Rattle.gt_model.proofs.Members.{first, there, cases, none, in_filter}
use Rattle.gt_plain.proofs.Maps.{keys_of}
use Rattle.gt_plain_jobs.specs.Marking.{Pairs, own_names, is_kept, kept, unkept}
use Rattle.gt_plain_jobs.proofs.Entries.{filtered, keys_rise}
use Rattle.gt_plain_jobs.proofs.Gathering.{Pair}
use Rattle.gt_plain_jobs.proofs.Roots.{is_own, all_own}

-- ---- names in order

same_again : (d : List (List ℕ)) → map_list (λ (e : List ℕ × List ℕ). e.0) (map_list (λ name. (name, name)) d) ≡ d
same_again [] = refl
same_again (x ∷ d) = ap (λ (rest : List (List ℕ)). x ∷ rest) (same_again d)

-- names that rise are in order
in_order : (d : List (List ℕ)) → IsStrictlySortedBy key_cmp d → ascending d ≡ d
in_order d rise =
    sym (keys_of (map_list (λ name. (name, name)) d) (subst (λ (names : List (List ℕ)). IsStrictlySortedBy key_cmp names) (sym (same_again d)) rise)) ∙ same_again d

-- ---- names of pairs

kept_pair : (pairs : Pairs) (name : List ℕ) → is_kept pairs name ≡ true → (at : List ℕ) × IsAmong pairs (at, name)
kept_pair [] name e = absurd (true≢false (sym e))
kept_pair (x ∷ xs) name e = by (λ e. kept_pair xs name e) (same_name name x.1) refl e
  where
    later : (at : List ℕ) × IsAmong xs (at, name) → (at : List ℕ) × IsAmong (x ∷ xs) (at, name)
    later (at, h) = (at, there x xs (at, name) h)

    by : (is_kept xs name ≡ true → (at : List ℕ) × IsAmong xs (at, name)) → (b : Bool) → same_name name x.1 ≡ b → (b || is_kept xs name) ≡ true → (at : List ℕ) × IsAmong (x ∷ xs) (at, name)
    by rest true t e = (x.0, first x xs (x.0, name) (ap (λ (n : List ℕ). (x.0, n)) (same_text name x.1 (sym t))))
    by rest false t e = later (rest e)

pair_kept : (pairs : Pairs) (at name : List ℕ) → IsAmong pairs (at, name) → is_kept pairs name ≡ true
pair_kept [] at name h = absurd (none (at, name) h)
pair_kept (x ∷ xs) at name h = by (λ h. pair_kept xs at name h) (same_name name x.1) refl (cases x xs (at, name) h)
  where
    by : (IsAmong xs (at, name) → is_kept xs name ≡ true) → (b : Bool) → same_name name x.1 ≡ b → ((at, name) ≡ x) ⊎ IsAmong xs (at, name) → (b || is_kept xs name) ≡ true
    by rest true t h = refl
    by rest false t (inr h) = rest h
    by rest false t (inl is) = absurd (true≢false (sym (nat_list_eq_equiv.refl name) ∙ ap (λ (p : Pair). same_name name p.1) is ∙ t))

module _ (c : Content) (path : List ℕ) (pairs : Pairs) (m : IsMarked c path pairs) where
  kept_is : (name : List ℕ) → is_kept pairs name ≡ true → IsKept c path name
  kept_is name e = by (kept_pair pairs name e)
    where
      by : (at : List ℕ) × IsAmong pairs (at, name) → IsKept c path name
      by (at, h) = (at, m.marked at name h)

  is_in_pairs : (name : List ℕ) → IsKept c path name → is_kept pairs name ≡ true
  is_in_pairs name (at, marks) = pair_kept pairs at name (m.whole at name marks)

  no_more : (b : Bool) → not b ≡ true → b ≡ true → ⊥
  no_more true a b = absurd (true≢false (sym a))
  no_more false a b = absurd (true≢false (sym b))

  pub is_pruned : IsPruned c path (unkept pairs (own_names c path))
  is_pruned = record {
    in_order = in_order (unkept pairs (own_names c path)) (IsStrictlySortedBy-filter key_cmp (λ name. not (is_kept pairs name)) (own_names c path) (keys_rise (own_of (map.get c path))));
    unkept = λ name h. dropped name (filtered (λ n. not (is_kept pairs n)) (own_names c path) name h);
    whole = λ name h. by name h (is_kept pairs name) refl;
  }
    where
      dropped : (name : List ℕ) → IsAmong (own_names c path) name × (not (is_kept pairs name) ≡ true) → IsTrue (is_some (own c path name)) × (IsKept c path name → ⊥)
      dropped name (h, out) = (is_own c path name h, λ keeps. no_more (is_kept pairs name) out (is_in_pairs name keeps))

      by : (name : List ℕ) → IsTrue (is_some (own c path name)) → (b : Bool) → is_kept pairs name ≡ b → IsAmong (unkept pairs (own_names c path)) name ⊎ IsKept c path name
      by name h true t = inr (kept_is name t)
      by name h false t = inl (in_filter (λ n. not (is_kept pairs n)) (own_names c path) name (ap not t) (all_own c path name h))

  long : {X Y : Type 0} (f : X → Y) (xs : List X) → length (map_list f xs) ≡ length xs
  long f [] = refl
  long f (x ∷ xs) = let rest : length (map_list f xs) ≡ length xs = long f xs in omega arith

  pub are_units : (units : ℕ) → units ≡ length pairs + length (kept pairs (own_names c path)) → ArePruneUnits c path units
  are_units units is =
      let all : length (kept pairs (own_names c path)) + length (unkept pairs (own_names c path)) ≡ length (own_names c path) = length-filter_both (is_kept pairs) (λ name. not (is_kept pairs name)) (λ _. refl) (own_names c path) in
      let same : length (own_names c path) ≡ length (owned c path) = long (λ o. o.0) (owned c path) in
      record { pairs = pairs; dropped = unkept pairs (own_names c path); marked = m; pruned = is_pruned; count = omega arith }
