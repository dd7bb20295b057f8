-- Lists of references.
use Rattle.std.proofs.Common.{◌≡◌, ℕ, zero, suc, ◌+◌, ◌<◌, ◌≤◌, nat_eq, nat_lt, Bool, true, false, cond, ◌&&◌, T, List, [], ◌∷◌, ◌++◌, length, drop, drop-cons, add-one, slice_index_or, filter, Option, Some, None, Result, Ok, Err, OnOk, refl, sym, ap, ◌∙◌, arith, append_assoc, map}
use Rattle.std.proofs.lemmas.Bool.Decides.{nat_tests}
use Rattle.std.proofs.lemmas.List.{append-nil, map-append}
use Rattle.std.proofs.lemmas.List.Elements.{filter-append, filter_map-append}
use Rattle.std.specs.List.{starts_with, cons_option, filter_map}
use Rattle.std.specs.Option.{option_map}
use Rattle.std.specs.declared.cmp.Ordering.TheVariants.{Less, Equal, Greater}
use Rattle.std.specs.Ordering.{is_lt, ordering_then}
use Rattle.std.specs.Cmp.{nat_cmp_is}
use Rattle.std.specs.Cmp.Lexicographic.{nat_list_cmp_total}
use Rattle.std.specs.FinMap.{is_sorted, entries, from_entries, from_sorted, entries-from_sorted, get-from_entries, get-from_sorted, same_map}
use Rattle.std.specs.FinMap.Entries.{below_all}
use Rattle.gt_model.specs.Contents.{key_cmp}
use Rattle.gt_model.specs.declared.reference.RefValue.{RefValue}
use Rattle.gt_versions.specs.Versions.{last_at}
use Rattle.gt_versions.specs.Lives.{value_since}
use Rattle.gt_slots.specs.Pages.{is_before, all, AllBefore, NoneBefore, IsWell, page, front, rest, IsPlace}
use Rattle.gt_model.specs.Machine.{references}
use Rattle.gt_versions.proofs.Keys.{key_cmp-IsAntisymmetric}
use Rattle.gt_slots.specs.Present.{present, refs_since}
use Rattle.gt_slots.specs.Listing.{begins, taken, all_begin, values_of}
use Rattle.gt_slots.proofs.SortLaws.{both, front_of, back_of}
use Rattle.gt_slots.proofs.PlaceLaws.{front_rest, rest_end}
use Rattle.gt_slots.proofs.LookLaws.{sorted_rest_of}
use Rattle.gt_slots.proofs.ProbeLaws.{first_true, second_true}

truth : (b : Bool) → T b → b ≡ true
truth true h = refl
truth false h = absurd h

pub entries_sorted_of : {X : Type 0} (es : List (List ℕ × X)) → T (is_sorted key_cmp es) → entries (from_entries {R = key_cmp} es) ≡ es
entries_sorted_of es h =
    ap (λ m. entries m) (same_map nat_list_cmp_total key_cmp-IsAntisymmetric (from_entries es) (from_sorted es) (λ q. get-from_entries nat_list_cmp_total es q ∙ sym (get-from_sorted key_cmp es q h)))
    ∙ entries-from_sorted key_cmp es h

-- ---- what the values give, under their keys

module _ {X Y : Type 0} (g : X → Option Y) where
  -- in order, where they give something
  abbrev pub given : List (List ℕ × X) → List (List ℕ × Y)
  given es = filter_map (λ e. option_map (λ v. (e.0, v)) (g e.1)) es

  below_given : (k : List ℕ) (es : List (List ℕ × X)) → T (below_all key_cmp k es) → T (below_all key_cmp k (given es))
  below_given k [] h = tt
  below_given k (x ∷ xs) h = by (below_given k xs (back_of (is_lt (key_cmp k x.0)) (below_all key_cmp k xs) h)) (g x.1)
    where
      by : T (below_all key_cmp k (given xs)) → (o : Option Y) → T (below_all key_cmp k (cons_option (option_map (λ v. (x.0, v)) o) (given xs)))
      by more None = more
      by more (Some v) = both (is_lt (key_cmp k x.0)) (below_all key_cmp k (given xs)) (front_of (is_lt (key_cmp k x.0)) (below_all key_cmp k xs) h) more

  pub sorted_given : (es : List (List ℕ × X)) → T (is_sorted key_cmp es) → T (is_sorted key_cmp (given es))
  sorted_given [] h = tt
  sorted_given (x ∷ xs) h = by (sorted_given xs (back_of (below_all key_cmp x.0 xs) (is_sorted key_cmp xs) h)) (g x.1)
    where
      by : T (is_sorted key_cmp (given xs)) → (o : Option Y) → T (is_sorted key_cmp (cons_option (option_map (λ v. (x.0, v)) o) (given xs)))
      by more None = more
      by more (Some v) = both (below_all key_cmp x.0 (given xs)) (is_sorted key_cmp (given xs)) (below_given x.0 xs (front_of (below_all key_cmp x.0 xs) (is_sorted key_cmp xs) h)) more

-- ---- names that begin so stand together

begins_all : (x y : ℕ) (xs ys : List ℕ) → starts_with nat_eq (x ∷ xs) (y ∷ ys) ≡ true → (nat_eq y x ≡ true) × (starts_with nat_eq xs ys ≡ true)
begins_all x y xs ys h = (first_true (nat_eq y x) (starts_with nat_eq xs ys) h, second_true (nat_eq y x) (starts_with nat_eq xs ys) h)

-- what is before a prefix doesn't begin with it
pub before_begins : (prefix name : List ℕ) → is_before name prefix ≡ true → starts_with nat_eq name prefix ≡ false
before_begins [] [] h = let no : ⊥ = cc in absurd no
before_begins [] (x ∷ xs) h = let no : ⊥ = cc in absurd no
before_begins (y ∷ ys) [] h = refl
before_begins (y ∷ ys) (x ∷ xs) h = by (before_begins ys xs) (nat_eq y x) refl
  where
    by : (is_before xs ys ≡ true → starts_with nat_eq xs ys ≡ false) → (b : Bool) → nat_eq y x ≡ b → (b && starts_with nat_eq xs ys) ≡ false
    by more false t = refl
    by more true t =
        let same : x ≡ y = grind (arith, nat_tests) in
        more (ap (λ o. is_lt (ordering_then o (key_cmp xs ys))) (nat_cmp_is x y Equal same) ∙ h)

-- between a prefix and a name that begins with it, each name begins with it
between : (prefix e f : List ℕ) → is_before e prefix ≡ false → starts_with nat_eq f prefix ≡ true → is_lt (key_cmp e f) ≡ true → starts_with nat_eq e prefix ≡ true
between [] e f a b l = refl
between (p ∷ ps) [] f a b l = let no : ⊥ = cc in absurd no
between (p ∷ ps) (x ∷ xs) [] a b l = let no : ⊥ = cc in absurd no
between (p ∷ ps) (x ∷ xs) (y ∷ ys) a b l = by (between ps xs ys) (nat_lt x p) refl (nat_eq p x) refl
  where
    h : (nat_eq p y ≡ true) × (starts_with nat_eq ys ps ≡ true)
    h = begins_all y p ys ps b

    by : (is_before xs ps ≡ false → starts_with nat_eq ys ps ≡ true → is_lt (key_cmp xs ys) ≡ true → starts_with nat_eq xs ps ≡ true) → (c : Bool) → nat_lt x p ≡ c → (d : Bool) → nat_eq p x ≡ d → (d && starts_with nat_eq xs ps) ≡ true
    by more true s d t =
        let below : x < p = grind (arith, nat_tests) in
        let yes : is_before (x ∷ xs) (p ∷ ps) ≡ true = ap (λ o. is_lt (ordering_then o (key_cmp xs ps))) (sym (nat_cmp_is x p Less below)) in
        let no : ⊥ = cc in absurd no
    by more false s true t =
        let same : x ≡ p = grind (arith, nat_tests) in
        let also : x ≡ y = let q : nat_eq p y ≡ true = h.0 in grind (arith, nat_tests) in
        more
        (ap (λ o. is_lt (ordering_then o (key_cmp xs ps))) (nat_cmp_is x p Equal same) ∙ a)
        h.1
        (ap (λ o. is_lt (ordering_then o (key_cmp xs ys))) (nat_cmp_is x y Equal also) ∙ l)
    by more false s false t =
        let above : y < x = let q : nat_eq p y ≡ true = h.0 in grind (arith, nat_tests) in
        let no : is_lt (key_cmp (x ∷ xs) (y ∷ ys)) ≡ false = ap (λ o. is_lt (ordering_then o (key_cmp xs ys))) (sym (nat_cmp_is x y Greater above)) in
        let bad : ⊥ = cc in absurd bad

-- behind one that doesn't begin so, and isn't before the prefix, none does
pub apart_begins : (prefix e f : List ℕ) → is_before e prefix ≡ false → starts_with nat_eq e prefix ≡ false → T (is_lt (key_cmp e f)) → starts_with nat_eq f prefix ≡ false
apart_begins prefix e f a b l = by (starts_with nat_eq f prefix) refl
  where
    by : (d : Bool) → starts_with nat_eq f prefix ≡ d → d ≡ false
    by false h = refl
    by true h = let yes : starts_with nat_eq e prefix ≡ true = between prefix e f a h (truth (is_lt (key_cmp e f)) l) in let no : ⊥ = cc in absurd no

-- ---- what is present

module _ (c p : ℕ) where
  pub present-append : (xs ys : List (List ℕ × (List (ℕ × Option (List ℕ)) × ℕ))) → present c p (xs ++ ys) ≡ present c p xs ++ present c p ys
  present-append xs ys = filter_map-append (λ (e : List ℕ × (List (ℕ × Option (List ℕ)) × ℕ)). option_map (λ v. (e.0, v)) (value_since c (last_at e.1.0 p None))) xs ys

  pub values-append : (xs ys : List (List ℕ × (List (ℕ × Option (List ℕ)) × ℕ))) → values_of c p (xs ++ ys) ≡ values_of c p xs ++ values_of c p ys
  values-append xs ys = ap (map (λ e. record { name = e.0; value = e.1 })) (present-append xs ys) ∙ map-append (λ (e : List ℕ × List ℕ). record { name = e.0; value = e.1 }) (present c p xs) (present c p ys)

  -- ---- what is taken

  module _ (prefix : List ℕ) where
    taken_all : (xs ys : List (List ℕ × (List (ℕ × Option (List ℕ)) × ℕ))) → all_begin prefix xs ≡ true → taken prefix (xs ++ ys) ≡ xs ++ taken prefix ys
    taken_all [] ys h = refl
    taken_all (x ∷ xs) ys h = ap (λ b. cond b (x ∷ taken prefix (xs ++ ys)) []) (first_true (begins prefix x) (all_begin prefix xs) h) ∙ ap (λ l. x ∷ l) (taken_all xs ys (second_true (begins prefix x) (all_begin prefix xs) h))

    taken_whole : (xs : List (List ℕ × (List (ℕ × Option (List ℕ)) × ℕ))) → all_begin prefix xs ≡ true → taken prefix xs ≡ xs
    taken_whole xs h = ap (taken prefix) (sym (append-nil xs)) ∙ taken_all xs [] h ∙ append-nil xs

    pub taken_more : (xs ys : List (List ℕ × (List (ℕ × Option (List ℕ)) × ℕ))) → all_begin prefix xs ≡ true → values_of c p (taken prefix (xs ++ ys)) ≡ values_of c p (taken prefix xs) ++ values_of c p (taken prefix ys)
    taken_more xs ys h = ap (values_of c p) (taken_all xs ys h) ∙ values-append xs (taken prefix ys) ∙ ap (λ l. values_of c p l ++ values_of c p (taken prefix ys)) (sym (taken_whole xs h))

    pub taken_end : (xs ys : List (List ℕ × (List (ℕ × Option (List ℕ)) × ℕ))) → all_begin prefix xs ≡ false → taken prefix (xs ++ ys) ≡ taken prefix xs
    taken_end [] ys h = let no : ⊥ = cc in absurd no
    taken_end (x ∷ xs) ys h = by (taken_end xs ys) (begins prefix x) h
      where
        by : (all_begin prefix xs ≡ false → taken prefix (xs ++ ys) ≡ taken prefix xs) → (b : Bool) → (b && all_begin prefix xs) ≡ false → cond b (x ∷ taken prefix (xs ++ ys)) [] ≡ cond b (x ∷ taken prefix xs) []
        by more true h = ap (λ l. x ∷ l) (more h)
        by more false h = refl

    -- ---- only what is taken begins so

    NoneBegin : List (List ℕ × (List (ℕ × Option (List ℕ)) × ℕ)) → Type 0
    NoneBegin [] = Unit {0}
    NoneBegin (e ∷ es) = (begins prefix e ≡ false) × NoneBegin es

    abbrev keep : List (List ℕ × List ℕ) → List (List ℕ × List ℕ)
    keep l = filter (λ e. starts_with nat_eq e.0 prefix) l

    abbrev shown : List ℕ × (List (ℕ × Option (List ℕ)) × ℕ) → Option (List ℕ × List ℕ)
    shown x = option_map (λ v. (x.0, v)) (value_since c (last_at x.1.0 p None))

    kept_by : (b : Bool) (k : List ℕ) (o : Option (List ℕ)) (l : List (List ℕ × List ℕ)) → starts_with nat_eq k prefix ≡ b
        → keep (cons_option (option_map (λ v. (k, v)) o) l) ≡ cond b (cons_option (option_map (λ v. (k, v)) o) (keep l)) (keep l)
    kept_by true k None l h = refl
    kept_by true k (Some v) l h = ap (λ b. cond b ((k, v) ∷ keep l) (keep l)) h
    kept_by false k None l h = refl
    kept_by false k (Some v) l h = ap (λ b. cond b ((k, v) ∷ keep l) (keep l)) h

    none_kept : (es : List (List ℕ × (List (ℕ × Option (List ℕ)) × ℕ))) → NoneBegin es → keep (present c p es) ≡ []
    unfolding NoneBegin
    none_kept [] h = refl
    none_kept (x ∷ xs) h = kept_by false x.0 (value_since c (last_at x.1.0 p None)) (present c p xs) h.0 ∙ none_kept xs h.1

    before_none : (es : List (List ℕ × (List (ℕ × Option (List ℕ)) × ℕ))) → AllBefore prefix es → NoneBegin es
    unfolding NoneBegin
    before_none [] h = tt
    before_none (x ∷ xs) h = (before_begins prefix x.0 h.0, before_none xs h.1)

    behind_none : (k : List ℕ) (es : List (List ℕ × (List (ℕ × Option (List ℕ)) × ℕ))) → is_before k prefix ≡ false → starts_with nat_eq k prefix ≡ false → T (below_all key_cmp k es) → NoneBegin es
    unfolding NoneBegin
    behind_none k [] a b h = tt
    behind_none k (x ∷ xs) a b h = (apart_begins prefix k x.0 a b (front_of (is_lt (key_cmp k x.0)) (below_all key_cmp k xs) h), behind_none k xs a b (back_of (is_lt (key_cmp k x.0)) (below_all key_cmp k xs) h))

    kept_taken : (es : List (List ℕ × (List (ℕ × Option (List ℕ)) × ℕ))) → T (is_sorted key_cmp es) → NoneBefore prefix es → keep (present c p es) ≡ present c p (taken prefix es)
    kept_taken [] s n = refl
    kept_taken (x ∷ xs) s n = by (kept_taken xs (back_of (below_all key_cmp x.0 xs) (is_sorted key_cmp xs) s) n.1) (begins prefix x) refl
      where
        by : keep (present c p xs) ≡ present c p (taken prefix xs) → (b : Bool) → begins prefix x ≡ b → keep (present c p (x ∷ xs)) ≡ present c p (cond b (x ∷ taken prefix xs) [])
        by more true h = kept_by true x.0 (value_since c (last_at x.1.0 p None)) (present c p xs) h ∙ ap (cons_option (shown x)) more
        by more false h = kept_by false x.0 (value_since c (last_at x.1.0 p None)) (present c p xs) h ∙ none_kept xs (behind_none x.0 xs n.0 h (front_of (below_all key_cmp x.0 xs) (is_sorted key_cmp xs) s))

    pub kept_at : (ps : List (List (List ℕ × (List (ℕ × Option (List ℕ)) × ℕ)))) (i j : ℕ) → IsWell ps → IsPlace prefix ps i j → keep (present c p (all ps)) ≡ present c p (taken prefix (rest ps i j))
    kept_at ps i j w place =
        ap (λ l. keep (present c p l)) (sym (front_rest ps i j))
        ∙ ap keep (present-append (front ps i j) (rest ps i j))
        ∙ filter-append (λ (e : List ℕ × List ℕ). starts_with nat_eq e.0 prefix) (present c p (front ps i j)) (present c p (rest ps i j))
        ∙ ap (λ l. l ++ keep (present c p (rest ps i j))) (none_kept (front ps i j) (before_none (front ps i j) place.before))
        ∙ kept_taken (rest ps i j) (sorted_rest_of ps i j w.sorted) place.after

  -- ---- the entries of the map

  pub entries_are : (ps : List (List (List ℕ × (List (ℕ × Option (List ℕ)) × ℕ)))) → IsWell ps → entries (refs_since c p (from_entries (all ps))) ≡ present c p (all ps)
  entries_are ps w =
      ap (λ l. entries (from_entries {R = key_cmp} (present c p l))) (entries_sorted_of (all ps) w.sorted)
      ∙ entries_sorted_of (present c p (all ps)) (sorted_given (λ (s : List (ℕ × Option (List ℕ)) × ℕ). value_since c (last_at s.0 p None)) (all ps) w.sorted)

  pub listed : (prefix : List ℕ) (ps : List (List (List ℕ × (List (ℕ × Option (List ℕ)) × ℕ)))) (i j : ℕ) → IsWell ps → IsPlace prefix ps i j → references (refs_since c p (from_entries (all ps))) prefix ≡ values_of c p (taken prefix (rest ps i j))
  listed prefix ps i j w place =
      ap (λ l. map (λ (e : List ℕ × List ℕ). record { name = e.0; value = e.1 }) (filter (λ (e : List ℕ × List ℕ). starts_with nat_eq e.0 prefix) l)) (entries_are ps w)
      ∙ ap (map (λ (e : List ℕ × List ℕ). record { name = e.0; value = e.1 })) (kept_at prefix ps i j w place)

-- ---- the loops

pub item_of : {A : Type 0} (xs : List A) (i : ℕ) (x : A) → i < length xs → x ≡ slice_index_or xs i x → drop i xs ≡ x ∷ drop (i + 1) xs
item_of xs i x l e = rw (add-one, drop-cons xs i x l) (ap (λ w. w ∷ drop (suc i) xs) (sym e))

pub drop_end : {A : Type 0} (xs : List A) (i : ℕ) → length xs ≤ i → drop i xs ≡ []
drop_end [] zero l = refl
drop_end [] (suc i) l = refl
drop_end (x ∷ xs) zero l = absurd (omega arith)
drop_end (x ∷ xs) (suc i) l = drop_end xs i (omega arith)

module _ (c p : ℕ) (prefix : List ℕ) where
  module _ (ps : List (List (List ℕ × (List (ℕ × Option (List ℕ)) × ℕ)))) (i : ℕ) (item slots : List (List ℕ × (List (ℕ × Option (List ℕ)) × ℕ))) (l : i < length ps) (is : item ≡ slice_index_or ps i item) (same : slots ≡ item)
      (first out new : List RefValue) (inv : out ++ values_of c p (taken prefix (all (drop i ps))) ≡ first ++ values_of c p (taken prefix (all ps))) (list : new ≡ out ++ values_of c p (taken prefix slots)) where
    here : all (drop i ps) ≡ slots ++ all (drop (i + 1) ps)
    here = ap all (item_of ps i item l is) ∙ ap (λ q. q ++ all (drop (i + 1) ps)) (sym same)

    pub pages_more : all_begin prefix slots ≡ true → new ++ values_of c p (taken prefix (all (drop (i + 1) ps))) ≡ first ++ values_of c p (taken prefix (all ps))
    pages_more h =
        ap (λ q. q ++ values_of c p (taken prefix (all (drop (i + 1) ps)))) list
        ∙ append_assoc out (values_of c p (taken prefix slots)) (values_of c p (taken prefix (all (drop (i + 1) ps))))
        ∙ ap (λ q. out ++ q) (sym (taken_more c p prefix slots (all (drop (i + 1) ps)) h))
        ∙ ap (λ q. out ++ values_of c p (taken prefix q)) (sym here)
        ∙ inv

    pub pages_end : all_begin prefix slots ≡ false → new ≡ first ++ values_of c p (taken prefix (all ps))
    pages_end h =
        list
        ∙ ap (λ q. out ++ values_of c p q) (sym (taken_end c p prefix slots (all (drop (i + 1) ps)) h))
        ∙ ap (λ q. out ++ values_of c p (taken prefix q)) (sym here)
        ∙ inv

  pub rest_is : (ps : List (List (List ℕ × (List (ℕ × Option (List ℕ)) × ℕ)))) (i j : ℕ) → i < length ps → rest ps i j ≡ drop j (page ps i) ++ all (drop (suc i) ps)
  rest_is [] i j l = absurd (omega arith)
  rest_is (p ∷ ps) zero j l = refl
  rest_is (p ∷ ps) (suc i) j l = rest_is ps i j (omega arith)

  pub rest_split : (ps : List (List (List ℕ × (List (ℕ × Option (List ℕ)) × ℕ)))) (i j : ℕ) (slots : List (List ℕ × (List (ℕ × Option (List ℕ)) × ℕ))) (tail : List (List (List ℕ × (List (ℕ × Option (List ℕ)) × ℕ)))) → i < length ps → slots ≡ drop j (page ps i) → tail ≡ drop (i + 1) ps → rest ps i j ≡ slots ++ all tail
  rest_split ps i j slots tail l a b = rest_is ps i j l ∙ ap (λ q. q ++ all (drop (suc i) ps)) (sym a) ∙ ap (λ q. slots ++ all q) (ap (λ n. drop n ps) (sym (add-one i)) ∙ sym b)

  pub from_more : {T E : Type 0} (res : Result T E) (ps : List (List (List ℕ × (List (ℕ × Option (List ℕ)) × ℕ)))) (i j : ℕ) (slots : List (List ℕ × (List (ℕ × Option (List ℕ)) × ℕ))) (tail : List (List (List ℕ × (List (ℕ × Option (List ℕ)) × ℕ)))) (first out new : List RefValue) → i < length ps → slots ≡ drop j (page ps i) → tail ≡ drop (i + 1) ps
      → all_begin prefix slots ≡ true → out ≡ first ++ values_of c p (taken prefix slots) → OnOk res (new ≡ out ++ values_of c p (taken prefix (all tail))) → OnOk res (new ≡ first ++ values_of c p (taken prefix (rest ps i j)))
  from_more (Err e) ps i j slots tail first out new l a b h d ok = tt
  from_more (Ok r) ps i j slots tail first out new l a b h d ok =
      ok
      ∙ ap (λ q. q ++ values_of c p (taken prefix (all tail))) d
      ∙ append_assoc first (values_of c p (taken prefix slots)) (values_of c p (taken prefix (all tail)))
      ∙ ap (λ q. first ++ q) (sym (taken_more c p prefix slots (all tail) h))
      ∙ ap (λ q. first ++ values_of c p (taken prefix q)) (sym (rest_split ps i j slots tail l a b))

  pub from_end : (ps : List (List (List ℕ × (List (ℕ × Option (List ℕ)) × ℕ)))) (i j : ℕ) (slots : List (List ℕ × (List (ℕ × Option (List ℕ)) × ℕ))) (first out : List RefValue) → i < length ps → slots ≡ drop j (page ps i)
      → all_begin prefix slots ≡ false → out ≡ first ++ values_of c p (taken prefix slots) → out ≡ first ++ values_of c p (taken prefix (rest ps i j))
  from_end ps i j slots first out l a h d =
      d ∙ ap (λ q. first ++ values_of c p q) (sym (taken_end c p prefix slots (all (drop (suc i) ps)) h))
      ∙ ap (λ q. first ++ values_of c p (taken prefix q)) (ap (λ q. q ++ all (drop (suc i) ps)) a ∙ sym (rest_is ps i j l))

  pub from_none : (ps : List (List (List ℕ × (List (ℕ × Option (List ℕ)) × ℕ)))) (i j : ℕ) (first : List RefValue) → length ps ≤ i → first ≡ first ++ values_of c p (taken prefix (rest ps i j))
  from_none ps i j first l = sym (append-nil first) ∙ ap (λ q. first ++ values_of c p (taken prefix q)) (sym (rest_end ps i j l))
