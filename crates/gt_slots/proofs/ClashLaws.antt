-- The least reference that clashes with a name.
use Rattle.std.proofs.Common.{◌≡◌, ℕ, zero, suc, ◌<◌, length, nat_eq, Bool, true, false, cond, not, ◌&&◌, ◌||◌, is_some, T, List, [], ◌∷◌, ◌++◌, codes, Option, Some, None, find, refl, sym, ap, ◌∙◌, subst, arith, map}
use Rattle.std.proofs.lemmas.Bool.Decides.{nat_tests}
use Rattle.std.specs.List.{list_any, cons_option, HoldsAt}
use Rattle.std.proofs.Math.Bool.{or-true}
use Rattle.std.specs.Option.{option_map, option_or}
use Rattle.std.specs.declared.cmp.Ordering.{Ordering}
use Rattle.std.specs.declared.cmp.Ordering.TheVariants.{Less, Equal, Greater}
use Rattle.std.specs.Ordering.{is_lt, is_eq, eq_by_cmp, ordering_then}
use Rattle.std.specs.Cmp.{nat_cmp_is, eq_by_cmp_equiv}
use Rattle.std.specs.Cmp.Lexicographic.{nat_list_cmp_total}
use Rattle.std.specs.FinMap as map_of
use Rattle.std.specs.FinMap.{is_sorted, from_entries}
use Rattle.std.specs.FinMap.Entries.{below_all}
use Rattle.gt_model.specs.Contents.{key_cmp}
use Rattle.gt_model.specs.Verdicts.{same_name, is_under, clashes, first_some}
use Rattle.gt_versions.specs.Versions.{last_at}
use Rattle.gt_versions.specs.Lives.{value_since}
use Rattle.gt_versions.proofs.Keys.{at_key, flip, key_cmp-IsAntisymmetric}
use Rattle.gt_slots.specs.Pages.{is_before, all, AllBefore, NoneBefore, IsWell, front, rest, IsPlace}
use Rattle.gt_slots.specs.Present.{present, refs_since}
use Rattle.gt_slots.specs.Clashing.{is_gone, stands, folders, standing, seek, sought}
use Rattle.gt_slots.proofs.SortLaws.{front_of, back_of, before_less}
use Rattle.gt_slots.proofs.PlaceLaws.{front_rest}
use Rattle.gt_slots.proofs.LookLaws.{sorted_rest_of, is_eq-of}
use Rattle.gt_slots.proofs.FolderLaws.{same_refl, same_is, Above, Ascends, folders_ascend, in_folders}
use Rattle.gt_slots.proofs.ListLaws.{before_begins, apart_begins, entries_are}

-- ---- finding

find-append : {A : Type 0} (t : A → Bool) (xs ys : List A) → find t (xs ++ ys) ≡ option_or (find t xs) (find t ys)
find-append t [] ys = refl
find-append t (x ∷ xs) ys = by (find-append t xs ys) (t x)
  where
    by : find t (xs ++ ys) ≡ option_or (find t xs) (find t ys) → (b : Bool) → cond b (Some x) (find t (xs ++ ys)) ≡ option_or (cond b (Some x) (find t xs)) (find t ys)
    by more true = refl
    by more false = more

or_map : {A B : Type 0} (f : A → B) (a b : Option A) → option_map f (option_or a b) ≡ option_or (option_map f a) (option_map f b)
or_map f None b = refl
or_map f (Some x) b = refl

or_none : {A : Type 0} (a : Option A) → option_or a None ≡ a
or_none None = refl
or_none (Some x) = refl

module _ (c p : ℕ) (gone : List (List ℕ)) where
  abbrev is_there : List ℕ × (List (ℕ × Option (List ℕ)) × ℕ) → Bool
  is_there e = is_some (value_since c (last_at e.1.0 p None))

  -- the first of the present ones by their names
  find_present : (t : List ℕ → Bool) (es : List (List ℕ × (List (ℕ × Option (List ℕ)) × ℕ))) → find t (map (λ (e : List ℕ × List ℕ). e.0) (present c p es)) ≡ option_map (λ (e : List ℕ × (List (ℕ × Option (List ℕ)) × ℕ)). e.0) (find (λ e. is_there e && t e.0) es)
  find_present t [] = refl
  find_present t (x ∷ xs) = by (find_present t xs) (value_since c (last_at x.1.0 p None)) (t x.0) refl
    where
      by : find t (map (λ (e : List ℕ × List ℕ). e.0) (present c p xs)) ≡ option_map (λ (e : List ℕ × (List (ℕ × Option (List ℕ)) × ℕ)). e.0) (find (λ e. is_there e && t e.0) xs) → (o : Option (List ℕ)) (b : Bool) → t x.0 ≡ b
          → find t (map (λ (e : List ℕ × List ℕ). e.0) (cons_option (option_map (λ v. (x.0, v)) o) (present c p xs))) ≡ option_map (λ (e : List ℕ × (List (ℕ × Option (List ℕ)) × ℕ)). e.0) (cond (is_some o && t x.0) (Some x) (find (λ e. is_there e && t e.0) xs))
      by more None b h = more
      by more (Some v) true h = ap (λ b. cond b (Some x.0) (find t (map (λ (e : List ℕ × List ℕ). e.0) (present c p xs)))) h ∙ sym (ap (λ b. option_map (λ (e : List ℕ × (List (ℕ × Option (List ℕ)) × ℕ)). e.0) (cond b (Some x) (find (λ e. is_there e && t e.0) xs))) h)
      by more (Some v) false h = ap (λ b. cond b (Some x.0) (find t (map (λ (e : List ℕ × List ℕ). e.0) (present c p xs)))) h ∙ more ∙ sym (ap (λ b. option_map (λ (e : List ℕ × (List (ℕ × Option (List ℕ)) × ℕ)). e.0) (cond b (Some x) (find (λ e. is_there e && t e.0) xs))) h)

  module _ (name : List ℕ) where
    abbrev slash : List ℕ
    slash = name ++ codes "/"

    -- it stands and clashes; the name stands in its folder; it stands in the name's folder
    abbrev hits : List ℕ × (List (ℕ × Option (List ℕ)) × ℕ) → Bool
    hits e = is_there e && (clashes name e.0 && not (is_gone gone e.0))

    abbrev outside : List ℕ × (List (ℕ × Option (List ℕ)) × ℕ) → Bool
    outside e = stands c p gone e && is_under name e.0

    abbrev inside : List ℕ × (List (ℕ × Option (List ℕ)) × ℕ) → Bool
    inside e = stands c p gone e && is_under e.0 name

    plain_left : (a x y : Bool) → (a && ((x || false) && y)) ≡ ((a && y) && x)
    plain_left true true true = refl
    plain_left true true false = refl
    plain_left true false true = refl
    plain_left true false false = refl
    plain_left false x y = refl

    regroup_left : (a b x y : Bool) → b ≡ false → (a && ((x || b) && y)) ≡ ((a && y) && x)
    regroup_left a b x y h = ap (λ z. a && ((x || z) && y)) h ∙ plain_left a x y

    plain_right : (a b y : Bool) → (a && (b && y)) ≡ ((a && y) && b)
    plain_right true true true = refl
    plain_right true true false = refl
    plain_right true false true = refl
    plain_right true false false = refl
    plain_right false b y = refl

    regroup_right : (a b x y : Bool) → x ≡ false → (a && ((x || b) && y)) ≡ ((a && y) && b)
    regroup_right a b x y h = ap (λ z. a && ((z || b) && y)) h ∙ plain_right a b y

    -- what the name stands in is before it
    under_before : (o n : List ℕ) → is_under n o ≡ true → is_before o (n ++ codes "/") ≡ true
    under_before [] [] h = let no : ⊥ = cc in absurd no
    under_before [] (y ∷ ys) h = refl
    under_before (x ∷ xs) [] h = let no : ⊥ = cc in absurd no
    under_before (x ∷ xs) (y ∷ ys) h =
        let t : nat_eq x y ≡ true = left (nat_eq x y) (is_under ys xs) h in
        let same : x ≡ y = grind (arith, nat_tests) in
        ap (λ o. is_lt (ordering_then o (key_cmp xs (ys ++ codes "/")))) (sym (nat_cmp_is x y Equal same)) ∙ under_before xs ys (right (nat_eq x y) (is_under ys xs) h)
      where
        left : (a b : Bool) → (a && b) ≡ true → a ≡ true
        left true b h = refl
        left false b h = h

        right : (a b : Bool) → (a && b) ≡ true → b ≡ true
        right true b h = h
        right false b h = let no : ⊥ = cc in absurd no

    not_outside : (o : List ℕ) → is_before o slash ≡ false → is_under name o ≡ false
    not_outside o h = by (is_under name o) refl
      where
        by : (b : Bool) → is_under name o ≡ b → b ≡ false
        by false e = refl
        by true e = let yes : is_before o slash ≡ true = under_before o name e in let no : ⊥ = cc in absurd no

    -- before the place only folders of the name clash
    find_before : (es : List (List ℕ × (List (ℕ × Option (List ℕ)) × ℕ))) → AllBefore slash es → find hits es ≡ find outside es
    find_before [] h = refl
    find_before (x ∷ xs) h =
        ap (λ b. cond b (Some x) (find hits xs)) (regroup_left (is_there x) (is_under x.0 name) (is_under name x.0) (not (is_gone gone x.0)) (before_begins slash x.0 h.0))
        ∙ ap (cond (outside x) (Some x)) (find_before xs h.1)

    -- from the place on only what stands in its folder does
    find_after : (es : List (List ℕ × (List (ℕ × Option (List ℕ)) × ℕ))) → NoneBefore slash es → find hits es ≡ find inside es
    find_after [] h = refl
    find_after (x ∷ xs) h =
        ap (λ b. cond b (Some x) (find hits xs)) (regroup_right (is_there x) (is_under x.0 name) (is_under name x.0) (not (is_gone gone x.0)) (not_outside x.0 h.0))
        ∙ ap (cond (inside x) (Some x)) (find_after xs h.1)

    and_off : (a b : Bool) → b ≡ false → (a && b) ≡ false
    and_off true b h = h
    and_off false b h = refl

    none_outside : (es : List (List ℕ × (List (ℕ × Option (List ℕ)) × ℕ))) → NoneBefore slash es → find outside es ≡ None
    none_outside [] h = refl
    none_outside (x ∷ xs) h = ap (λ b. cond b (Some x) (find outside xs)) (and_off (stands c p gone x) (is_under name x.0) (not_outside x.0 h.0)) ∙ none_outside xs h.1

    -- ---- inside: the search

    none_inside : (k : List ℕ) (es : List (List ℕ × (List (ℕ × Option (List ℕ)) × ℕ))) → is_before k slash ≡ false → is_under k name ≡ false → T (below_all key_cmp k es) → find inside es ≡ None
    none_inside k [] a b h = refl
    none_inside k (x ∷ xs) a b h =
        ap (λ b. cond b (Some x) (find inside xs)) (and_off (stands c p gone x) (is_under x.0 name) (apart_begins slash k x.0 a b (front_of (is_lt (key_cmp k x.0)) (below_all key_cmp k xs) h)))
        ∙ none_inside k xs a b (back_of (is_lt (key_cmp k x.0)) (below_all key_cmp k xs) h)

    abbrev name_of : List ℕ × (List (ℕ × Option (List ℕ)) × ℕ) → List ℕ
    name_of e = e.0

    find_seek : (es : List (List ℕ × (List (ℕ × Option (List ℕ)) × ℕ))) → T (is_sorted key_cmp es) → NoneBefore slash es → option_map name_of (find inside es) ≡ sought (seek c p gone slash es)
    find_seek [] s n = refl
    find_seek (x ∷ xs) s n = by (find_seek xs (back_of (below_all key_cmp x.0 xs) (is_sorted key_cmp xs) s) n.1) (is_under x.0 name) refl (stands c p gone x)
      where
        by : option_map name_of (find inside xs) ≡ sought (seek c p gone slash xs) → (a : Bool) → is_under x.0 name ≡ a → (b : Bool)
            → option_map name_of (cond (b && a) (Some x) (find inside xs)) ≡ sought (cond a (cond b (Some (Some x.0)) (seek c p gone slash xs)) (Some None))
        by more true h true = refl
        by more true h false = more
        by more false h true = ap (option_map name_of) (none_inside x.0 xs n.0 h (front_of (below_all key_cmp x.0 xs) (is_sorted key_cmp xs) s))
        by more false h false = ap (option_map name_of) (none_inside x.0 xs n.0 h (front_of (below_all key_cmp x.0 xs) (is_sorted key_cmp xs) s))

  -- ---- outside: the folders

  abbrev among : List (List ℕ) → List ℕ × (List (ℕ × Option (List ℕ)) × ℕ) → Bool
  among fs e = stands c p gone e && list_any (same_name e.0) fs

  find_none : (es : List (List ℕ × (List (ℕ × Option (List ℕ)) × ℕ))) → find (among []) es ≡ None
  find_none [] = refl
  find_none (x ∷ xs) = ap (λ b. cond b (Some x) (find (among []) xs)) (off (stands c p gone x)) ∙ find_none xs
    where
      off : (a : Bool) → (a && false) ≡ false
      off true = refl
      off false = refl

  -- each entry is what is found under its name
  Own : List (List ℕ × (List (ℕ × Option (List ℕ)) × ℕ)) → List (List ℕ × (List (ℕ × Option (List ℕ)) × ℕ)) → Type 0
  Own all [] = Unit {0}
  Own all (e ∷ es) = (at_key all e.0 ≡ Some e.1) × Own all es

  less_not : (o : Ordering) → T (is_lt o) → is_eq o ≡ false
  less_not Less h = refl
  less_not Equal h = absurd h
  less_not Greater h = refl

  own_more : (x : List ℕ × (List (ℕ × Option (List ℕ)) × ℕ)) (all es : List (List ℕ × (List (ℕ × Option (List ℕ)) × ℕ))) → T (below_all key_cmp x.0 es) → Own all es → Own (x ∷ all) es
  unfolding Own
  own_more x all [] b h = tt
  own_more x all (e ∷ es) b h = (
    ap (λ b. cond b (Some x.1) (at_key all e.0)) (flip e.0 x.0 ∙ less_not (key_cmp x.0 e.0) (front_of (is_lt (key_cmp x.0 e.0)) (below_all key_cmp x.0 es) b)) ∙ h.0,
    own_more x all es (back_of (is_lt (key_cmp x.0 e.0)) (below_all key_cmp x.0 es) b) h.1,
  )

  own_all : (es : List (List ℕ × (List (ℕ × Option (List ℕ)) × ℕ))) → T (is_sorted key_cmp es) → Own es es
  unfolding Own
  own_all [] s = tt
  own_all (x ∷ xs) s = (
    ap (λ b. cond b (Some x.1) (at_key xs x.0)) ((eq_by_cmp_equiv nat_list_cmp_total).refl x.0),
    own_more x xs xs (front_of (below_all key_cmp x.0 xs) (is_sorted key_cmp xs) s) (own_all xs (back_of (below_all key_cmp x.0 xs) (is_sorted key_cmp xs) s)),
  )

  -- one that doesn't stand can be left out
  skip_folder : (all : List (List ℕ × (List (ℕ × Option (List ℕ)) × ℕ))) (f : List ℕ) (fs : List (List ℕ)) → standing c p gone f (at_key all f) ≡ None → (es : List (List ℕ × (List (ℕ × Option (List ℕ)) × ℕ))) → Own all es → find (among (f ∷ fs)) es ≡ find (among fs) es
  unfolding Own
  skip_folder all f fs none [] o = refl
  skip_folder all f fs none (x ∷ xs) o =
      ap (λ b. cond b (Some x) (find (among (f ∷ fs)) xs)) (by (same_name x.0 f) refl (stands c p gone x) refl)
      ∙ ap (cond (among fs x) (Some x)) (skip_folder all f fs none xs o.1)
    where
      by : (a : Bool) → same_name x.0 f ≡ a → (b : Bool) → stands c p gone x ≡ b → (b && (a || list_any (same_name x.0) fs)) ≡ (b && list_any (same_name x.0) fs)
      by false e b h = refl
      by true e false h = refl
      by true e true h =
          let is : x.0 ≡ f = same_is x.0 f e in
          let found : standing c p gone f (at_key all f) ≡ Some f =
          ap (standing c p gone f) (ap (at_key all) (sym is) ∙ o.0) ∙ ap (λ b. cond b (Some f) None) (ap (λ n. stands c p gone (n, x.1)) (sym is) ∙ h) in
          let no : ⊥ = cc in absurd no

  above_any : (k f : List ℕ) (fs : List (List ℕ)) → is_lt (key_cmp k f) ≡ true → Above f fs → list_any (same_name k) fs ≡ false
  above_any k f [] l h = refl
  above_any k f (g ∷ gs) l h = ap (λ b. b || list_any (same_name k) gs) (by (same_name k g) refl) ∙ above_any k f gs l h.1
    where
      both_no : (o : Ordering) → is_lt o ≡ true → is_eq o ≡ true → ⊥
      both_no Less a b = cc
      both_no Equal a b = cc
      both_no Greater a b = cc

      by : (b : Bool) → same_name k g ≡ b → b ≡ false
      by false e = refl
      by true e =
          let is : k ≡ g = same_is k g e in
          let less : is_before k g ≡ true = before_less k f g (subst T (sym l) tt) h.0 in
          let loop : is_lt (key_cmp g g) ≡ true = subst (λ (n : List ℕ). is_lt (key_cmp n g) ≡ true) is less in
          let same : is_eq (key_cmp g g) ≡ true = (eq_by_cmp_equiv nat_list_cmp_total).refl g in
          absurd (both_no (key_cmp g g) loop same)

  below_found : (k f : List ℕ) (s : List (ℕ × Option (List ℕ)) × ℕ) (es : List (List ℕ × (List (ℕ × Option (List ℕ)) × ℕ))) → T (below_all key_cmp k es) → at_key es f ≡ Some s → is_lt (key_cmp k f) ≡ true
  below_found k f s [] b h = let no : ⊥ = cc in absurd no
  below_found k f s (x ∷ xs) b h = by (below_found k f s xs (back_of (is_lt (key_cmp k x.0)) (below_all key_cmp k xs) b)) (eq_by_cmp key_cmp f x.0) refl h
    where
      truth : (b : Bool) → T b → b ≡ true
      truth true h = refl
      truth false h = absurd h

      by : (at_key xs f ≡ Some s → is_lt (key_cmp k f) ≡ true) → (a : Bool) → eq_by_cmp key_cmp f x.0 ≡ a → cond a (Some x.1) (at_key xs f) ≡ Some s → is_lt (key_cmp k f) ≡ true
      by more true e h =
          let is : f ≡ x.0 = key_cmp-IsAntisymmetric f x.0 (is_eq-of (key_cmp f x.0) e) in
          ap (λ n. is_lt (key_cmp k n)) is ∙ truth (is_lt (key_cmp k x.0)) (front_of (is_lt (key_cmp k x.0)) (below_all key_cmp k xs) b)
      by more false e h = more h

  -- one that stands is the first
  hit_folder : (f : List ℕ) (fs : List (List ℕ)) (s : List (ℕ × Option (List ℕ)) × ℕ) → stands c p gone (f, s) ≡ true → Above f fs → (es : List (List ℕ × (List (ℕ × Option (List ℕ)) × ℕ))) → T (is_sorted key_cmp es) → at_key es f ≡ Some s → option_map (λ (e : List ℕ × (List (ℕ × Option (List ℕ)) × ℕ)). e.0) (find (among (f ∷ fs)) es) ≡ Some f
  hit_folder f fs s t a [] o h = let no : ⊥ = cc in absurd no
  hit_folder f fs s t a (x ∷ xs) o h = by (hit_folder f fs s t a xs (back_of (below_all key_cmp x.0 xs) (is_sorted key_cmp xs) o)) (eq_by_cmp key_cmp f x.0) refl h
    where
      and_off2 : (a b : Bool) → b ≡ false → (a && b) ≡ false
      and_off2 true b h = h
      and_off2 false b h = refl

      on : f ≡ x.0 → x.1 ≡ s → among (f ∷ fs) x ≡ true
      on is same =
          ap (λ b. b && (same_name x.0 f || list_any (same_name x.0) fs)) (ap (λ n. stands c p gone (n, x.1)) (sym is) ∙ ap (λ v. stands c p gone (f, v)) same ∙ t)
          ∙ ap (λ b. b || list_any (same_name x.0) fs) (ap (same_name x.0) is ∙ same_refl x.0)

      differs : (b : Bool) → same_name x.0 f ≡ b → eq_by_cmp key_cmp f x.0 ≡ false → b ≡ false
      differs false e off = refl
      differs true e off =
          let is : x.0 ≡ f = same_is x.0 f e in
          let same : eq_by_cmp key_cmp f f ≡ true = (eq_by_cmp_equiv nat_list_cmp_total).refl f in
          let no : eq_by_cmp key_cmp f f ≡ false = sym (ap (eq_by_cmp key_cmp f) is) ∙ off in
          let bad : ⊥ = cc in absurd bad

      by : (at_key xs f ≡ Some s → option_map (λ (e : List ℕ × (List (ℕ × Option (List ℕ)) × ℕ)). e.0) (find (among (f ∷ fs)) xs) ≡ Some f) → (b : Bool) → eq_by_cmp key_cmp f x.0 ≡ b → cond b (Some x.1) (at_key xs f) ≡ Some s
          → option_map (λ (e : List ℕ × (List (ℕ × Option (List ℕ)) × ℕ)). e.0) (cond (among (f ∷ fs) x) (Some x) (find (among (f ∷ fs)) xs)) ≡ Some f
      by more true e h =
          let is : f ≡ x.0 = key_cmp-IsAntisymmetric f x.0 (is_eq-of (key_cmp f x.0) e) in
          let same : x.1 ≡ s = cc in
          ap (λ b. option_map (λ (e : List ℕ × (List (ℕ × Option (List ℕ)) × ℕ)). e.0) (cond b (Some x) (find (among (f ∷ fs)) xs))) (on is same) ∙ ap Some (sym is)
      by more false e h =
          let l : is_lt (key_cmp x.0 f) ≡ true = below_found x.0 f s xs (front_of (below_all key_cmp x.0 xs) (is_sorted key_cmp xs) o) h in
          let off : among (f ∷ fs) x ≡ false = and_off2 (stands c p gone x) (same_name x.0 f || list_any (same_name x.0) fs) (ap (λ b. b || list_any (same_name x.0) fs) (differs (same_name x.0 f) refl e) ∙ above_any x.0 f fs l a) in
          ap (λ b. option_map (λ (e : List ℕ × (List (ℕ × Option (List ℕ)) × ℕ)). e.0) (cond b (Some x) (find (among (f ∷ fs)) xs))) off ∙ more h

  first_standing : (es : List (List ℕ × (List (ℕ × Option (List ℕ)) × ℕ))) → T (is_sorted key_cmp es) → (fs : List (List ℕ)) → Ascends fs → option_map (λ (e : List ℕ × (List (ℕ × Option (List ℕ)) × ℕ)). e.0) (find (among fs) es) ≡ first_some (λ f. standing c p gone f (at_key es f)) fs
  first_standing es s [] a = ap (option_map (λ (e : List ℕ × (List (ℕ × Option (List ℕ)) × ℕ)). e.0)) (find_none es)
  first_standing es s (f ∷ fs) a = by (first_standing es s fs a.1) (at_key es f) refl
    where
      by : option_map (λ (e : List ℕ × (List (ℕ × Option (List ℕ)) × ℕ)). e.0) (find (among fs) es) ≡ first_some (λ f. standing c p gone f (at_key es f)) fs → (o : Option (List (ℕ × Option (List ℕ)) × ℕ)) → at_key es f ≡ o
          → option_map (λ (e : List ℕ × (List (ℕ × Option (List ℕ)) × ℕ)). e.0) (find (among (f ∷ fs)) es) ≡ option_or (standing c p gone f o) (first_some (λ f. standing c p gone f (at_key es f)) fs)
      by more None h = ap (option_map (λ (e : List ℕ × (List (ℕ × Option (List ℕ)) × ℕ)). e.0)) (skip_folder es f fs (ap (standing c p gone f) h) es (own_all es s)) ∙ more
      by more (Some v) h = stood (stands c p gone (f, v)) refl
        where
          stood : (b : Bool) → stands c p gone (f, v) ≡ b → option_map (λ (e : List ℕ × (List (ℕ × Option (List ℕ)) × ℕ)). e.0) (find (among (f ∷ fs)) es) ≡ option_or (cond b (Some f) None) (first_some (λ f. standing c p gone f (at_key es f)) fs)
          stood true t = hit_folder f fs v t a.0 es s h
          stood false t = ap (option_map (λ (e : List ℕ × (List (ℕ × Option (List ℕ)) × ℕ)). e.0)) (skip_folder es f fs (ap (standing c p gone f) h ∙ ap (λ b. cond b (Some f) None) t) es (own_all es s)) ∙ more

  outside_among : (name : List ℕ) (es : List (List ℕ × (List (ℕ × Option (List ℕ)) × ℕ))) → find (outside name) es ≡ find (among (folders name)) es
  outside_among name [] = refl
  outside_among name (x ∷ xs) = ap (λ b. cond (stands c p gone x && b) (Some x) (find (outside name) xs)) (sym (in_folders x.0 name)) ∙ ap (cond (among (folders name) x) (Some x)) (outside_among name xs)

  -- ---- both

  pub clash_is : (name : List ℕ) (ps : List (List (List ℕ × (List (ℕ × Option (List ℕ)) × ℕ)))) (i j : ℕ) → IsWell ps → IsPlace (name ++ codes "/") ps i j
      → find (λ o. clashes name o && not (list_any (same_name o) gone)) (map_of.keys (refs_since c p (from_entries (all ps)))) ≡ option_or (first_some (λ f. standing c p gone f (at_key (all ps) f)) (folders name)) (sought (seek c p gone (name ++ codes "/") (rest ps i j)))
  clash_is name ps i j w place =
      ap (λ l. find (λ o. clashes name o && not (list_any (same_name o) gone)) (map (λ (e : List ℕ × List ℕ). e.0) l)) (entries_are c p ps w)
      ∙ find_present (λ o. clashes name o && not (list_any (same_name o) gone)) (all ps)
      ∙ ap (option_map (λ (e : List ℕ × (List (ℕ × Option (List ℕ)) × ℕ)). e.0)) (
      ap (find (hits name)) (sym (front_rest ps i j))
      ∙ find-append (hits name) (front ps i j) (rest ps i j)
      ∙ ap (λ a. option_or a (find (hits name) (rest ps i j))) (find_before name (front ps i j) place.before ∙ whole)
      ∙ ap (option_or (find (outside name) (all ps))) (find_after name (rest ps i j) place.after))
      ∙ or_map (λ (e : List ℕ × (List (ℕ × Option (List ℕ)) × ℕ)). e.0) (find (outside name) (all ps)) (find (inside name) (rest ps i j))
      ∙ ap (λ a. option_or a (option_map (λ (e : List ℕ × (List (ℕ × Option (List ℕ)) × ℕ)). e.0) (find (inside name) (rest ps i j)))) (ap (option_map (λ (e : List ℕ × (List (ℕ × Option (List ℕ)) × ℕ)). e.0)) (outside_among name (all ps)) ∙ first_standing (all ps) w.sorted (folders name) (folders_ascend name))
      ∙ ap (option_or (first_some (λ f. standing c p gone f (at_key (all ps) f)) (folders name))) (find_seek name (rest ps i j) (sorted_rest_of ps i j w.sorted) place.after)
    where
      whole : find (outside name) (front ps i j) ≡ find (outside name) (all ps)
      whole =
          sym (or_none (find (outside name) (front ps i j)))
          ∙ ap (option_or (find (outside name) (front ps i j))) (sym (none_outside name (rest ps i j) place.after))
          ∙ sym (find-append (outside name) (front ps i j) (rest ps i j))
          ∙ ap (find (outside name)) (front_rest ps i j)

-- ---- what is gone

-- a name that a search met in a list is in it
pub met_gone : (name : List ℕ) (gone : List (List ℕ)) (k : ℕ) → k < length gone → HoldsAt (λ y. key_cmp y name ≡ Equal) gone k → is_gone gone name ≡ true
met_gone name [] k l h = absurd (omega arith)
met_gone name (x ∷ xs) zero l h =
    let same : name ≡ x = sym (key_cmp-IsAntisymmetric x name (h x)) in
    ap (λ b. b || is_gone xs name) (ap (same_name name) (sym same) ∙ same_refl name)
met_gone name (x ∷ xs) (suc k) l h = ap (λ b. same_name name x || b) (met_gone name xs k (omega arith) h) ∙ or-true (same_name name x)
