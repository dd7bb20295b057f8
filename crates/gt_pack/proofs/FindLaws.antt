-- What a binary search finds among items in order of their names.
use Rattle.std.proofs.Common.{◌≡◌, ℕ, zero, suc, ◌+◌, ◌<◌, ◌≤◌, Bool, true, false, List, [], ◌∷◌, length, get_or, Option, Some, None, Result, Ok, Err, IfOk, OnErr, refl, sym, ap, ◌∙◌, subst, arith, inl, inr}
use Rattle.std.specs.Prelude.{◌≢◌, bytes_eq, slice_get}
use Rattle.std.proofs.lemmas.Slice.Eq.{bytes_eq-Decides}
use Rattle.std.specs.Ordering.{nat_cmp, is_lt, is_eq, ordering_index, ordering_reverse}
use Rattle.std.specs.declared.cmp.Ordering.{Ordering}
use Rattle.std.specs.declared.cmp.Ordering.TheVariants.{Less, Equal, Greater}
use Rattle.std.specs.Cmp.Lexicographic.{slice_cmp}
use Rattle.std.proofs.lemmas.Bool.{cases_lt}
use Rattle.std.proofs.lemmas.Cmp.{nat_list_cmp_total}
use Rattle.std.proofs.lemmas.Map.Text.{is_eq-slice_cmp}
use Rattle.std.proofs.lemmas.List.Sorted.{IsNonDecreasingBy-from_default}
use Rattle.std.specs.List.Sorted.{IsSearchInRange, IsBinarySearchResult, IsNonDecreasingBy}
use Rattle.gt_pack.specs.declared.placed.Placed.{Placed}
use Rattle.gt_pack.specs.Spelling.{Packed, places}
use Rattle.gt_pack.specs.Index.{Rises, find_in, IsFound}

-- no item
abbrev none : Placed
none = record { name = []; place = 0; len = 0 }

abbrev cmp : List ℕ → List ℕ → Ordering
cmp x y = slice_cmp nat_cmp x y

-- the name of the item of this index
abbrev name_of : List Placed → ℕ → List ℕ
name_of es i = (get_or es i none).name

is_less : (o : Ordering) → is_lt o ≡ true → o ≡ Less
is_less Less e = refl
is_less Equal e = absurd cc
is_less Greater e = absurd cc

-- each name is greater than the one before the first
first_less : (y : List ℕ) (es : List Placed) → Rises (Some y) es → (j : ℕ) → j < length es → cmp y (name_of es j) ≡ Less
first_less y [] r j lt = absurd (omega arith)
first_less y (e ∷ es) r zero lt = is_less _ r.0
first_less y (e ∷ es) r (suc j) lt = nat_list_cmp_total.trans y e.name (name_of es j) (is_less _ r.0) (first_less e.name es r.1 j (omega arith))

-- a later name is greater
later_less : (before : Option (List ℕ)) (es : List Placed) → Rises before es → (i j : ℕ) → i < j → j < length es → cmp (name_of es i) (name_of es j) ≡ Less
later_less before [] r i j lt inside = absurd (omega arith)
later_less before (e ∷ es) r i zero lt inside = absurd (omega arith)
later_less before (e ∷ es) r zero (suc j) lt inside = first_less e.name es r.1 j (omega arith)
later_less before (e ∷ es) r (suc i) (suc j) lt inside = later_less (Some e.name) es r.1 i j (omega arith) (omega arith)

-- the lesser of two names compares no greater
compares : (a b k : List ℕ) → cmp a b ≡ Less → (o : Ordering) → cmp b k ≡ o → ordering_index (cmp a k) ≤ ordering_index o
compares a b k lt Less e = rw (nat_list_cmp_total.trans a b k lt e) (omega arith)
compares a b k lt Equal e =
    let back : cmp b a ≡ cmp k a = nat_list_cmp_total.congr b k a e in
    let same : cmp a b ≡ cmp a k = nat_list_cmp_total.antisymm a b ∙ ap ordering_reverse back ∙ sym (nat_list_cmp_total.antisymm a k) in
    rw (← same, lt) (omega arith)
compares a b k lt Greater e = most (cmp a k)
  where
    most : (o : Ordering) → ordering_index o ≤ 2
    most Less = omega arith
    most Equal = omega arith
    most Greater = omega arith

tested : (a k : List ℕ) (o : Ordering) → cmp a k ≡ o → bytes_eq a k ≡ is_eq o
tested a k o e = sym (is_eq-slice_cmp a k) ∙ ap is_eq e

-- where no name is the one that is sought, none is found
none_found : (es : List Placed) (k : List ℕ) → ((j : ℕ) → j < length es → bytes_eq (name_of es j) k ≡ false) → find_in es k ≡ None
none_found [] k h = refl
none_found (e ∷ es) k h =
    let here : bytes_eq e.name k ≡ false = h 0 (omega arith) in
    rw here (none_found es k (λ j lt. h (suc j) (omega arith)))

-- the first of this name is found
first_found : (es : List Placed) (k : List ℕ) (i : ℕ) (other : Placed) → i < length es → ((j : ℕ) → j < i → bytes_eq (name_of es j) k ≡ false) → bytes_eq (name_of es i) k ≡ true
    → find_in es k ≡ Some ((get_or es i other).place, (get_or es i other).len)
first_found [] k i other lt h e = absurd (omega arith)
first_found (x ∷ es) k zero other lt h e = rw e refl
first_found (x ∷ es) k (suc i) other lt h e =
    let here : bytes_eq x.name k ≡ false = h 0 (omega arith) in
    rw here (first_found es k i other (omega arith) (λ j l. h (suc j) (omega arith)) e)

module _ (es : List Placed) (rises : Rises None es) (k : List ℕ) where
  comparisons_rise : IsNonDecreasingBy (λ e. ordering_index (cmp e.name k)) es
  comparisons_rise = IsNonDecreasingBy-from_default (λ e. ordering_index (cmp e.name k)) es none (λ i j le inside.
      elim (cases_lt i j) [
        | inl lt ↦ compares (name_of es i) (name_of es j) k (later_less None es rises i j lt inside) (cmp (name_of es j) k) refl
        | inr ge ↦ (let same : i ≡ j = omega arith in rw same (omega arith))
      ])

  -- what the search answers
  pub searched : (r : Result ℕ ℕ) → IsSearchInRange r (length es) → IsBinarySearchResult (λ e. cmp e.name k) es r → record { found : IfOk r (IsFound es k); absent : OnErr r (find_in es k ≡ None) }
  searched (Ok at) inside equal =
      let here : cmp (name_of es at) k ≡ Equal = equal none in
      record {
        found = record {
          within = inside;
          found = λ other. first_found es k at other inside
              (λ j lt.
              let less : cmp (name_of es j) k ≡ Less = less_than j lt here in
              tested (name_of es j) k Less less)
              (tested (name_of es at) k Equal here);
        };
        absent = tt;
      }
    where
      less_than : (j : ℕ) → j < at → cmp (name_of es at) k ≡ Equal → cmp (name_of es j) k ≡ Less
      less_than j lt here =
          let below : cmp (name_of es j) (name_of es at) ≡ Less = later_less None es rises j at lt inside in
          let back : cmp (name_of es at) (name_of es j) ≡ cmp k (name_of es j) = nat_list_cmp_total.congr (name_of es at) k (name_of es j) here in
          nat_list_cmp_total.antisymm (name_of es j) k ∙ ap ordering_reverse (sym back) ∙ sym (nat_list_cmp_total.antisymm (name_of es j) (name_of es at)) ∙ below
  searched (Err at) inside parted = record {
    found = tt;
    absent = none_found es k (λ j lt. elim (cases_lt j at) [
      | inl before ↦ tested (name_of es j) k Less ((parted comparisons_rise).0 j none (omega arith) before)
      | inr after ↦ tested (name_of es j) k Greater ((parted comparisons_rise).1 j none after lt)
    ]);
  }

-- ---- by an index

later_than : (y : List ℕ) (es : List Placed) (i : ℕ) (e : Placed) → Rises (Some y) es → slice_get es i ≡ Some e → cmp y e.name ≡ Less
later_than y [] i e r g = absurd cc
later_than y (x ∷ es) zero e r g =
    let is : x ≡ e = cc in
    subst (λ (z : Placed). cmp y z.name ≡ Less) is (is_less _ r.0)
later_than y (x ∷ es) (suc i) e r g = nat_list_cmp_total.trans y x.name e.name (is_less _ r.0) (later_than x.name es i e r.1 g)

-- an item is found by its name
pub found_at : (before : Option (List ℕ)) (es : List Placed) (i : ℕ) (e : Placed) → Rises before es → slice_get es i ≡ Some e → find_in es e.name ≡ Some (e.place, e.len)
found_at before [] i e r g = absurd cc
found_at before (x ∷ es) zero e r g =
    let is : x ≡ e = cc in
    let same : bytes_eq e.name e.name ≡ true = (bytes_eq-Decides e.name e.name).1 refl in
    rw (is, same) refl
found_at before (x ∷ es) (suc i) e r g =
    let other : bytes_eq x.name e.name ≡ false = tested x.name e.name Less (later_than x.name es i e r.1 g) in
    rw other (found_at (Some x.name) es i e r.1 g)

other_name : (a b : List ℕ) → a ≢ b → bytes_eq a b ≡ false
other_name a b ne = by (bytes_eq a b) refl
  where
    by : (t : Bool) → bytes_eq a b ≡ t → t ≡ false
    by true e = absurd (ne ((bytes_eq-Decides a b).0 e))
    by false e = refl

-- by another name none is found
pub absent_in : (at : ℕ) (ps : List Packed) (name : List ℕ) → ((i : ℕ) (p : Packed) → slice_get ps i ≡ Some p → p.name ≢ name) → find_in (places at ps) name ≡ None
absent_in at [] name h = refl
absent_in at (p ∷ ps) name h =
    let here : bytes_eq p.name name ≡ false = other_name p.name name (h 0 p refl) in
    rw here (absent_in (at + 24 + length p.whole) ps name (λ i q g. h (suc i) q g))
