-- A job has so many units once, and drops these names once.
use Rattle.std.proofs.Common.{◌≡◌, ◌⊎◌, inl, inr, ⊎_elim, ℕ, Bool, true, false, cond, ◌&&◌, ◌||◌, List, [], ◌∷◌, length, map as map_list, Some, None, refl, sym, ◌∙◌, ap, arith, true≢false}
use Rattle.std.specs.Cmp.{IsEquivalence}
use Rattle.std.specs.List.{IsAmong, list_any}
use Rattle.std.specs.Ordering.{eq_by_cmp, is_eq}
use Rattle.std.specs.Cmp.Lexicographic.{nat_list_cmp_total, nat_list_eq_equiv, texts_ties, same_text}
use Rattle.std.specs.FinMap as map
use Rattle.std.specs.FinMap.{get-from_entries, same_map}
use Rattle.std.proofs.lemmas.Map.Made.{length-from_same_keys}
use Rattle.gt_model.specs.declared.job.Job.{Job}
use Rattle.gt_model.specs.declared.job.Job.TheVariants.{Repack, Prune, PackRefs, Unlink}
use Rattle.gt_model.specs.Contents.{Content, key_cmp}
use Rattle.gt_model.specs.Verdicts.{same_name, ascending}
use Rattle.gt_model.specs.Jobs.{IsPruned, IsMarked, AreUnits, Drops, same_pair}
use Rattle.gt_model.proofs.Values.{same_key}
use Rattle.gt_model.proofs.Members.{first, there, cases, none}

-- two tests that pass together
both_ways : (a b : Bool) → (a ≡ true → b ≡ true) → (b ≡ true → a ≡ true) → a ≡ b
both_ways true b there back = sym (there refl)
both_ways false true there back = back refl
both_ways false false there back = refl

-- ---- names that are dropped

itself : (q : List ℕ) → eq_by_cmp key_cmp q q ≡ true
itself q = sym (texts_ties q q) ∙ nat_list_eq_equiv.refl q

listed : (q : List ℕ) (d : List (List ℕ)) → list_any (eq_by_cmp key_cmp q) d ≡ true → IsAmong d q
listed q [] e = absurd (true≢false (sym e))
listed q (x ∷ xs) e = by (λ e. listed q xs e) (eq_by_cmp key_cmp q x) refl e
  where
    by : (list_any (eq_by_cmp key_cmp q) xs ≡ true → IsAmong xs q) → (b : Bool) → eq_by_cmp key_cmp q x ≡ b → (b || list_any (eq_by_cmp key_cmp q) xs) ≡ true → IsAmong (x ∷ xs) q
    by rest true t e = first x xs q (same_key q x t)
    by rest false t e = there x xs q (rest e)

tested : (q : List ℕ) (d : List (List ℕ)) → IsAmong d q → list_any (eq_by_cmp key_cmp q) d ≡ true
tested q [] h = absurd (none q h)
tested q (x ∷ xs) h = by (λ h. tested q xs h) (eq_by_cmp key_cmp q x) refl (cases x xs q h)
  where
    by : (IsAmong xs q → list_any (eq_by_cmp key_cmp q) xs ≡ true) → (b : Bool) → eq_by_cmp key_cmp q x ≡ b → (q ≡ x) ⊎ IsAmong xs q → (b || list_any (eq_by_cmp key_cmp q) xs) ≡ true
    by rest true t h = refl
    by rest false t (inr h) = rest h
    by rest false t (inl is) = absurd (true≢false (sym (itself q) ∙ ap (eq_by_cmp key_cmp q) is ∙ t))

abbrev pairs : List (List ℕ) → List (List ℕ × List ℕ)
pairs d = map_list (λ name. (name, name)) d

find_pair : (q : List ℕ) (d : List (List ℕ)) → map.find key_cmp q (pairs d) ≡ cond (list_any (eq_by_cmp key_cmp q) d) (Some q) None
find_pair q [] = refl
find_pair q (x ∷ xs) = by (find_pair q xs) (eq_by_cmp key_cmp q x) refl
  where
    by : map.find key_cmp q (pairs xs) ≡ cond (list_any (eq_by_cmp key_cmp q) xs) (Some q) None → (b : Bool) → eq_by_cmp key_cmp q x ≡ b
        → cond b (Some x) (map.find key_cmp q (pairs xs)) ≡ cond (b || list_any (eq_by_cmp key_cmp q) xs) (Some q) None
    by rest true t = ap Some (sym (same_key q x t))
    by rest false t = rest

-- lists with the same members have the same names in order
ascending_once : (one two : List (List ℕ)) → ((q : List ℕ) → IsAmong one q → IsAmong two q) → ((q : List ℕ) → IsAmong two q → IsAmong one q) → ascending one ≡ ascending two
ascending_once one two there back = ap map.keys (same_map nat_list_cmp_total (λ x y tie. same_key x y (ap is_eq tie)) (map.from_entries {R = key_cmp} (pairs one)) (map.from_entries {R = key_cmp} (pairs two)) each)
  where
    each : (q : List ℕ) → map.get (map.from_entries {R = key_cmp} (pairs one)) q ≡ map.get (map.from_entries {R = key_cmp} (pairs two)) q
    each q =
        get-from_entries nat_list_cmp_total (pairs one) q ∙ find_pair q one
        ∙ ap (λ b. cond b (Some q) None) (both_ways (list_any (eq_by_cmp key_cmp q) one) (list_any (eq_by_cmp key_cmp q) two) (λ e. tested q two (there q (listed q one e))) (λ e. tested q one (back q (listed q two e))))
        ∙ sym (get-from_entries nat_list_cmp_total (pairs two) q ∙ find_pair q two)

pruned_within : (c : Content) (path : List ℕ) (one two : List (List ℕ)) → IsPruned c path one → IsPruned c path two → (q : List ℕ) → IsAmong one q → IsAmong two q
pruned_within c path one two a b q h = let u = a.unkept q h in ⊎_elim (λ is. is) (λ kept. absurd (u.1 kept)) (b.whole q u.0)

pub pruned_once : (c : Content) (path : List ℕ) (one two : List (List ℕ)) → IsPruned c path one → IsPruned c path two → one ≡ two
pruned_once c path one two a b = sym a.in_order ∙ ascending_once one two (pruned_within c path one two a b) (pruned_within c path two one b a) ∙ b.in_order

pub drops_once : (c : Content) (path : List ℕ) (job : Job) (one two : List (List ℕ)) → Drops c path job one → Drops c path job two → one ≡ two
drops_once c path Repack one two a b = a ∙ sym b
drops_once c path Prune one two a b = pruned_once c path one two a b
drops_once c path PackRefs one two a b = a ∙ sym b
drops_once c path Unlink one two a b = a ∙ sym b

-- ---- pairs that are marked

abbrev Pair : Type 0
Pair = List ℕ × List ℕ

pair_symm : (x y : Pair) → same_pair x y ≡ same_pair y x
pair_symm x y = λ i. nat_list_eq_equiv.symm x.0 y.0 i && nat_list_eq_equiv.symm x.1 y.1 i

pair_refl : (x : Pair) → same_pair x x ≡ true
pair_refl x = (λ i. nat_list_eq_equiv.refl x.0 i && nat_list_eq_equiv.refl x.1 i) ∙ refl

both : (a b : Bool) → (a && b) ≡ true → (a ≡ true) × (b ≡ true)
both true b e = (refl, e)
both false b e = absurd (true≢false (sym e))

pair_congr : (x y z : Pair) → same_pair x y ≡ true → same_pair x z ≡ same_pair y z
pair_congr x y z e =
    let p = both (same_name x.0 y.0) (same_name x.1 y.1) e in
    λ i. nat_list_eq_equiv.congr x.0 y.0 z.0 p.0 i && nat_list_eq_equiv.congr x.1 y.1 z.1 p.1 i

pair_equiv : IsEquivalence same_pair
pair_equiv = record { refl = pair_refl; symm = pair_symm; congr = pair_congr }

pair_is : (x y : Pair) → same_pair x y ≡ true → x ≡ y
pair_is x y e =
    let p = both (same_name x.0 y.0) (same_name x.1 y.1) e in
    λ i. (same_text x.0 y.0 (sym p.0) i, same_text x.1 y.1 (sym p.1) i)

pair_listed : (q : Pair) (d : List Pair) → list_any (same_pair q) d ≡ true → IsAmong d q
pair_listed q [] e = absurd (true≢false (sym e))
pair_listed q (x ∷ xs) e = by (λ e. pair_listed q xs e) (same_pair q x) refl e
  where
    by : (list_any (same_pair q) xs ≡ true → IsAmong xs q) → (b : Bool) → same_pair q x ≡ b → (b || list_any (same_pair q) xs) ≡ true → IsAmong (x ∷ xs) q
    by rest true t e = first x xs q (pair_is q x t)
    by rest false t e = there x xs q (rest e)

pair_tested : (q : Pair) (d : List Pair) → IsAmong d q → list_any (same_pair q) d ≡ true
pair_tested q [] h = absurd (none q h)
pair_tested q (x ∷ xs) h = by (λ h. pair_tested q xs h) (same_pair q x) refl (cases x xs q h)
  where
    by : (IsAmong xs q → list_any (same_pair q) xs ≡ true) → (b : Bool) → same_pair q x ≡ b → (q ≡ x) ⊎ IsAmong xs q → (b || list_any (same_pair q) xs) ≡ true
    by rest true t h = refl
    by rest false t (inr h) = rest h
    by rest false t (inl is) = absurd (true≢false (sym (pair_refl q) ∙ ap (same_pair q) is ∙ t))

marked_within : (c : Content) (path : List ℕ) (one two : List Pair) → IsMarked c path one → IsMarked c path two → (q : Pair) → IsAmong one q → IsAmong two q
marked_within c path one two a b q h = b.whole q.0 q.1 (a.marked q.0 q.1 h)

marked_count : (c : Content) (path : List ℕ) (one two : List Pair) → IsMarked c path one → IsMarked c path two → length one ≡ length two
marked_count c path one two a b = length-from_same_keys pair_equiv one two a.once b.once (λ q. both_ways (list_any (same_pair q) one) (list_any (same_pair q) two)
    (λ e. pair_tested q two (marked_within c path one two a b q (pair_listed q one e)))
    (λ e. pair_tested q one (marked_within c path two one b a q (pair_listed q two e))))

pub units_once : (c : Content) (path : List ℕ) (job : Job) (u v : ℕ) → AreUnits c path job u → AreUnits c path job v → u ≡ v
units_once c path Repack u v a b = a ∙ sym b
units_once c path Prune u v a b =
    omega (arith, a.count, b.count, marked_count c path a.pairs b.pairs a.marked b.marked, ap length (pruned_once c path a.dropped b.dropped a.pruned b.pruned))
units_once c path PackRefs u v a b = a ∙ sym b
units_once c path Unlink u v a b = a ∙ sym b
