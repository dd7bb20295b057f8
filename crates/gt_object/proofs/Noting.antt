-- Names, each once: a set beside the list, and a loop that notes what it reads.
use Rattle.std.proofs.Common.{◌≡◌, ℕ, ◌<◌, ◌≤◌, Bool, true, false, cond, not, ◌||◌, List, [], ◌∷◌, ◌++◌, length, Result, Ok, Err, refl, sym, ap, ◌∙◌, arith, map, filter}
use Rattle.std.specs.Prelude.{fold}
use Rattle.std.specs.List.{list_any}
use Rattle.std.specs.Ordering.{nat_cmp, eq_by_cmp}
use Rattle.std.specs.Cmp.{eq_by_cmp_equiv}
use Rattle.std.specs.Cmp.Lexicographic.{slice_cmp, nat_list_cmp_total}
use Rattle.std.specs.BTreeSet.{BTreeSet, contains}
use Rattle.std.specs.BTreeMap.{is_at}
use Rattle.std.proofs.lemmas.List.Folds.{list_any-append}
use Rattle.gt_bytes.specs.Reading.{while_at}
use Rattle.gt_bytes.proofs.Steps.{bind_ok, ok_is}
use Rattle.gt_object.specs.Agrees.{Agrees}
use Rattle.gt_object.specs.Trees.{TreeEntry, is_submodule, mentioned, more_entries, entry_at, tree_entries, tree_ids}
use Rattle.gt_object.specs.Mentions.{noted, noted_entry, distinct}
use Rattle.gt_object.proofs.Rest.{RestIs, rest_on, rest_end, rest_bad}

-- ---- the set beside the list

abbrev has : List ℕ → List (List ℕ) → Bool
has q names = list_any (λ y. eq_by_cmp (slice_cmp nat_cmp) q y) names

or_cond : (a b : Bool) → (a || (b || false)) ≡ cond b true a
or_cond true true = refl
or_cond true false = refl
or_cond false true = refl
or_cond false false = refl

-- one name more in both
pub agrees_more : (s n : BTreeSet (List ℕ)) (names : List (List ℕ)) (x : List ℕ) → Agrees s names → ((q : List ℕ) → contains (slice_cmp nat_cmp) n q ≡ cond (is_at (slice_cmp nat_cmp x) q) true (contains (slice_cmp nat_cmp) s q)) → Agrees n (names ++ x ∷ [])
agrees_more s n names x a u = λ q.
    let turned : eq_by_cmp (slice_cmp nat_cmp) x q ≡ eq_by_cmp (slice_cmp nat_cmp) q x = (eq_by_cmp_equiv nat_list_cmp_total).symm x q in
    u q ∙ ap (λ (b : Bool). cond b true (contains (slice_cmp nat_cmp) s q)) turned ∙ ap (cond (eq_by_cmp (slice_cmp nat_cmp) q x) true) (a q) ∙ sym (or_cond (has q names) (eq_by_cmp (slice_cmp nat_cmp) q x)) ∙ sym (list_any-append (λ y. eq_by_cmp (slice_cmp nat_cmp) q y) names (x ∷ []))

-- ---- a loop that reads items and notes each

module _ {A B : Type 0} (more : ℕ → Bool) (item : ℕ → Result (A × ℕ) ℕ) (len : ℕ) (step : B → A → B) where
  -- What is to come makes of the value so far what all items make of the first value.
  abbrev pub Doing : ℕ → B → ℕ → B → Type 0
  Doing from start at now = (all : List A) → while_at more item len from ≡ Ok all → (rest : List A) × RestIs more item len at rest × (fold step now rest ≡ fold step start all)

  pub doing_begins : (from : ℕ) (start : B) → Doing from start from start
  doing_begins from start = λ all e. (all, (len, omega arith, e), refl)

  pub doing_on : (from : ℕ) (start : B) (at next : ℕ) (x : A) (now new : B) → more at ≡ true → item at ≡ Ok (x, next) → at < next → next ≤ len → new ≡ step now x → Doing from start at now → Doing from start next new
  doing_on from start at next x now new m i lt within made d = λ all h.
      let r = d all h in
      let s = rest_on more item len at next x r.0 m i lt within r.1 in
      (s.0, s.2, ap (λ (n : B). fold step n s.0) made ∙ ap (λ (xs : List A). fold step now xs) (sym s.1) ∙ r.2)

  pub doing_ends : (from : ℕ) (start : B) (at : ℕ) (now : B) → more at ≡ false → Doing from start at now → (all : List A) → while_at more item len from ≡ Ok all → now ≡ fold step start all
  doing_ends from start at now m d all h =
      let r = d all h in
      let none = rest_end more item len at r.0 m r.1 in
      ap (λ (xs : List A). fold step now xs) (sym none) ∙ r.2

  pub doing_bad : (from : ℕ) (start : B) (at : ℕ) (now : B) → more at ≡ true → item at ≡ Err at → Doing from start at now → (all : List A) → while_at more item len from ≡ Ok all → ⊥
  doing_bad from start at now m i d all h = let r = d all h in rest_bad more item len at r.0 m i r.1

-- ---- trees

-- noting an entry
abbrev pub note_one : List (List ℕ) → TreeEntry → List (List ℕ)
note_one names e = noted_entry names (is_submodule e.mode) e.id

mentioned_fold : (names : List (List ℕ)) (es : List TreeEntry) → fold note_one names es ≡ fold noted names (mentioned es)
mentioned_fold names [] = refl
mentioned_fold names (e ∷ es) =
    elim (is_submodule e.mode) as (λ b. fold note_one (noted_entry names b e.id) es ≡ fold noted names (map (λ e. e.id) (cond (not b) (e ∷ filter (λ e. not (is_submodule e.mode)) es) (filter (λ e. not (is_submodule e.mode)) es)))) [
      | true ↦ mentioned_fold names es
      | false ↦ mentioned_fold (noted names e.id) es
    ]

abbrev pub TreeDoing : List ℕ → ℕ → List (List ℕ) → Type 0
TreeDoing c at names = Doing (more_entries c) (entry_at c) (length c) note_one 0 [] at names

-- all entries were noted
pub tree_done : (c : List ℕ) (names : List (List ℕ)) → ((all : List TreeEntry) → while_at (more_entries c) (entry_at c) (length c) 0 ≡ Ok all → names ≡ fold note_one [] all) → (ids : List (List ℕ)) → tree_ids c ≡ Ok ids → names ≡ distinct ids
unfolding tree_entries
tree_done c names all ids e =
    let f : List TreeEntry → Result (List (List ℕ)) ℕ = λ es. Ok (mentioned es) in
    let b = bind_ok (tree_entries c) f ids e in
    all b.0 b.1 ∙ mentioned_fold [] b.0 ∙ ap distinct (ok_is (mentioned b.0) ids b.2)
