-- All repositories of a base, put one by one.
use Rattle.std.proofs.Common.{◌≡◌, ℕ, ◌+◌, ◌-◌, ◌≤◌, Bool, true, false, cond, is_some, List, [], ◌∷◌, length, take, drop, Option, Some, None, Result, Ok, Err, OnOk, refl, sym, ap, ◌∙◌, subst, arith}
use Rattle.std.proofs.lemmas.List.{take_all, drop_all}
use Rattle.std.specs.FinMap as map
use Rattle.std.specs.FinMap.{get-empty}
use Rattle.std.specs.Option.{option_map, option_or}
use Rattle.std.specs.Ordering.{eq_by_cmp}
use Rattle.gt_base.specs.declared.held.BaseRepo.{BaseRepo}
use Rattle.gt_base.specs.Held.{refs_of, place_of, repo_of, repo_at, content_of, places_of}
use Rattle.gt_model.specs.declared.entry.Entry.{Entry}
use Rattle.gt_model.specs.declared.reference.RefValue.{RefValue}
use Rattle.gt_model.specs.Contents.{key_cmp, Names, Repo, Content, nothing, and_then, after_all}
use Rattle.gt_model.specs.Verdicts.{refs_in}
use Rattle.gt_objset.specs.Agree as objects
use Rattle.gt_objset.specs.Agree.{ArePlaced}
use Rattle.gt_objset.specs.Places.{Head, head_in, places_after}
use Rattle.gt_objset.specs.Table as objects_table
use Rattle.gt_objset.specs.Table.{head_at, own_at}
use Rattle.gt_objset.specs.declared.place.Place.{Place}
use Rattle.gt_reftable.specs.Agree as refs
use Rattle.gt_reftable.specs.Table as refs_table
use Rattle.gt_reftable.specs.Table.{refs_at, IsEmpty}
use Rattle.gt_reftext.specs.declared.packed_ref.PackedRef.{PackedRef}
use Rattle.gt_table.specs.Seeds.{PutsRepo, PutsRefs, Left, Parts, parts_of, head_of, wanted, given}
use Rattle.gt_table.specs.Table.{Tables, Follow, IsUnmoved, base, floor, content_at, entries_past}
use Rattle.gt_base.proofs.Finding.{one_path, get-content_of}
use Rattle.gt_base.proofs.Contents.{base_placed}

-- ---- before the first

abbrev no_entry : List Entry
no_entry = []

nothing_of : (n : ℕ) → take n no_entry ≡ no_entry
nothing_of n = take_all n no_entry (let none : length no_entry ≡ 0 = refl in omega arith)

dropped_none : (n : ℕ) → drop n no_entry ≡ no_entry
dropped_none n = drop_all n no_entry (let none : length no_entry ≡ 0 = refl in omega arith)

pub left_all : (begin : ℕ) (repos : List BaseRepo) (t : refs_table.Table) (o : objects_table.Table) → IsEmpty begin t → o.floor ≡ begin → objects.Agrees o nothing [] → objects.ArePlacedBy o nothing (λ path x. None) [] → Left t.floor repos repos t o
left_all begin repos t o empty floor h placed = record {
  refs_floor = refl;
  refs_front = empty.front ∙ sym empty.floor;
  objects_floor = start;
  objects_front = last;
  parts = λ path x. ap (λ head. option_or (option_map (λ head. (head, (refs_at t t.floor path, own_at o t.floor path x))) head) (wanted repos path x)) (no_head path);
  no_refs = λ path e. empty.refs t.floor path;
  no_own = λ path x e. placed.own t.floor path x low high ∙ ap (λ l. places_after nothing (λ path x. None) l path x) (nothing_of (t.floor - o.floor));
}
  where
    start : o.floor ≡ t.floor
    start = floor ∙ sym empty.floor

    last : o.front ≡ t.floor
    last = let is : o.front ≡ o.floor + length no_entry = h.front in let none : length no_entry ≡ 0 = refl in omega (arith, start)

    low : o.floor ≤ t.floor
    low = omega (arith, start)

    high : t.floor ≤ o.front
    high = omega (arith, last)

    no_head : (path : List ℕ) → head_at o t.floor path ≡ None
    no_head path =
        h.heads t.floor path low high ∙ ap (λ l. head_in (after_all nothing l) path) (nothing_of (t.floor - o.floor))
        ∙ ap (option_map (λ (r : Repo). record { is_pool = r.is_pool; pool = r.pool })) (get-empty key_cmp path)

-- ---- one more

over_some : {A : Type 0} (o one other : Option A) → is_some o ≡ true → option_or o one ≡ option_or o other
over_some None one other e = let no : ⊥ = cc in absurd no
over_some (Some a) one other e = refl

some_map : {A B : Type 0} (f : A → B) (o : Option A) → is_some (option_map f o) ≡ is_some o
some_map f None = refl
some_map f (Some a) = refl

is_none : {A : Type 0} (o : Option A) → is_some o ≡ false → o ≡ None
is_none None e = refl
is_none (Some a) e = let no : ⊥ = cc in absurd no

module _ (begin : ℕ) (r : BaseRepo) (rest all : List BaseRepo) (t : refs_table.Table) (o : objects_table.Table) (h : Left begin (r ∷ rest) all t o) where
  others_left : (q x : List ℕ) → eq_by_cmp key_cmp q r.path ≡ false → option_or (given begin t o q x) (wanted rest q x) ≡ wanted all q x
  others_left q x f = ap (λ b. option_or (given begin t o q x) (option_map (parts_of x) (cond b (Some r) (repo_at rest q)))) (sym f) ∙ h.parts q x

  pub left_skipped : is_some (head_at o o.floor r.path) ≡ true → Left begin rest all t o
  left_skipped there = record {
    refs_floor = h.refs_floor;
    refs_front = h.refs_front;
    objects_floor = h.objects_floor;
    objects_front = h.objects_front;
    parts = λ q x. by (eq_by_cmp key_cmp q r.path) q x refl;
    no_refs = h.no_refs;
    no_own = h.no_own;
  }
    where
      here : (q x : List ℕ) → eq_by_cmp key_cmp q r.path ≡ true → is_some (given begin t o q x) ≡ true
      here q x same =
          some_map (λ head. (head, (refs_at t begin q, own_at o begin q x))) (head_at o begin q)
          ∙ ap (λ p. is_some (head_at o begin p)) (one_path q r.path same) ∙ ap (λ n. is_some (head_at o n r.path)) (sym h.objects_floor) ∙ there

      by : (b : Bool) (q x : List ℕ) → eq_by_cmp key_cmp q r.path ≡ b → option_or (given begin t o q x) (wanted rest q x) ≡ wanted all q x
      by true q x same = over_some (given begin t o q x) (wanted rest q x) (wanted (r ∷ rest) q x) (here q x same) ∙ h.parts q x
      by false q x same = others_left q x same

  pub left_put : (u : refs_table.Table) (p : objects_table.Table) → is_some (head_at o o.floor r.path) ≡ false → PutsRepo r o p → PutsRefs r.path (refs_of r.packed r.loose) t u → Left begin rest all u p
  left_put u p none objects refs = record {
    refs_floor = refs.floor ∙ h.refs_floor;
    refs_front = refs.front ∙ h.refs_front;
    objects_floor = objects.floor ∙ h.objects_floor;
    objects_front = objects.front ∙ h.objects_front;
    parts = λ q x. made q x ∙ by (eq_by_cmp key_cmp q r.path) q x refl;
    no_refs = λ q e. clean_refs (eq_by_cmp key_cmp q r.path) q refl e;
    no_own = λ q x e. clean_own (eq_by_cmp key_cmp q r.path) q x refl e;
  }
    where
      heads : (q : List ℕ) → head_at p begin q ≡ cond (eq_by_cmp key_cmp q r.path) (Some (head_of r)) (head_at o begin q)
      heads q = ap (λ n. head_at p n q) (sym h.objects_floor) ∙ objects.heads q ∙ ap (λ n. cond (eq_by_cmp key_cmp q r.path) (Some (head_of r)) (head_at o n q)) h.objects_floor

      own : (q x : List ℕ) → own_at p begin q x ≡ cond (eq_by_cmp key_cmp q r.path) (place_of r.packs x) (own_at o begin q x)
      own q x = ap (λ n. own_at p n q x) (sym h.objects_floor) ∙ objects.own q x ∙ ap (λ n. cond (eq_by_cmp key_cmp q r.path) (place_of r.packs x) (own_at o n q x)) h.objects_floor

      names : (q : List ℕ) → refs_at u begin q ≡ cond (eq_by_cmp key_cmp q r.path) (refs_of r.packed r.loose) (refs_at t begin q)
      names q = ap (λ n. refs_at u n q) (sym h.refs_floor) ∙ refs.refs q ∙ ap (λ n. cond (eq_by_cmp key_cmp q r.path) (refs_of r.packed r.loose) (refs_at t n q)) h.refs_floor

      -- what is given now, by the test of the path
      now : Bool → List ℕ → List ℕ → Option Parts
      now b q x =
          option_map (λ head. (head, (cond b (refs_of r.packed r.loose) (refs_at t begin q), cond b (place_of r.packs x) (own_at o begin q x))))
          (cond b (Some (head_of r)) (head_at o begin q))

      made : (q x : List ℕ) → option_or (given begin u p q x) (wanted rest q x) ≡ option_or (now (eq_by_cmp key_cmp q r.path) q x) (wanted rest q x)
      made q x = ap (λ g. option_or g (wanted rest q x))
          (ap (λ k. option_map (λ head. (head, (refs_at u begin q, own_at p begin q x))) k) (heads q)
          ∙ ap (λ m. option_map (λ head. (head, (m, own_at p begin q x))) (cond (eq_by_cmp key_cmp q r.path) (Some (head_of r)) (head_at o begin q))) (names q)
          ∙ ap (λ m. option_map (λ head. (head, (cond (eq_by_cmp key_cmp q r.path) (refs_of r.packed r.loose) (refs_at t begin q), m))) (cond (eq_by_cmp key_cmp q r.path) (Some (head_of r)) (head_at o begin q))) (own q x))

      none_here : (q : List ℕ) → eq_by_cmp key_cmp q r.path ≡ true → head_at o begin q ≡ None
      none_here q same = ap (head_at o begin) (one_path q r.path same) ∙ ap (λ n. head_at o n r.path) (sym h.objects_floor) ∙ is_none (head_at o o.floor r.path) none

      by : (b : Bool) (q x : List ℕ) → eq_by_cmp key_cmp q r.path ≡ b → option_or (now (eq_by_cmp key_cmp q r.path) q x) (wanted rest q x) ≡ wanted all q x
      by true q x same =
          ap (λ b. option_or (now b q x) (wanted rest q x)) same
          ∙ ap (λ b. option_map (parts_of x) (cond b (Some r) (repo_at rest q))) (sym same)
          ∙ sym (ap (λ head. option_or (option_map (λ head. (head, (refs_at t begin q, own_at o begin q x))) head) (wanted (r ∷ rest) q x)) (none_here q same))
          ∙ h.parts q x
      by false q x same = ap (λ b. option_or (now b q x) (wanted rest q x)) same ∙ others_left q x same

      clean_refs : (b : Bool) (q : List ℕ) → eq_by_cmp key_cmp q r.path ≡ b → head_at p begin q ≡ None → refs_at u begin q ≡ map.empty
      clean_refs true q same e = let no : Some (head_of r) ≡ None = sym (heads q ∙ ap (λ b. cond b (Some (head_of r)) (head_at o begin q)) same) ∙ e in let bad : ⊥ = cc in absurd bad
      clean_refs false q same e =
          names q ∙ ap (λ b. cond b (refs_of r.packed r.loose) (refs_at t begin q)) same
          ∙ h.no_refs q (sym (heads q ∙ ap (λ b. cond b (Some (head_of r)) (head_at o begin q)) same) ∙ e)

      clean_own : (b : Bool) (q x : List ℕ) → eq_by_cmp key_cmp q r.path ≡ b → head_at p begin q ≡ None → own_at p begin q x ≡ None
      clean_own true q x same e = let no : Some (head_of r) ≡ None = sym (heads q ∙ ap (λ b. cond b (Some (head_of r)) (head_at o begin q)) same) ∙ e in let bad : ⊥ = cc in absurd bad
      clean_own false q x same e =
          own q x ∙ ap (λ b. cond b (place_of r.packs x) (own_at o begin q x)) same
          ∙ h.no_own q x (sym (heads q ∙ ap (λ b. cond b (Some (head_of r)) (head_at o begin q)) same) ∙ e)

pub ok_left : {A E : Type 0} (res : Result A E) (r : BaseRepo) (packed : List PackedRef) (loose : List RefValue) (t u : refs_table.Table) (o p : objects_table.Table) → packed ≡ r.packed → loose ≡ r.loose
    → is_some (head_at o o.floor r.path) ≡ false → PutsRepo r o p → OnOk res (PutsRefs r.path (refs_of packed loose) t u) → OnOk res ((begin : ℕ) (rest all : List BaseRepo) → Left begin (r ∷ rest) all t o → Left begin rest all u p)
ok_left (Err e) r packed loose t u o p is_packed is_loose none objects refs = tt
ok_left (Ok y) r packed loose t u o p is_packed is_loose none objects refs =
    let P : List PackedRef → Type 0 = λ l. PutsRefs r.path (refs_of l loose) t u in
    let Q : List RefValue → Type 0 = λ l. PutsRefs r.path (refs_of r.packed l) t u in
    let all_refs = subst Q is_loose (subst P is_packed refs) in
    λ begin rest all h. left_put begin r rest all t o h u p none objects all_refs

-- ---- after the last

module _ (begin : ℕ) (repos : List BaseRepo) (t : refs_table.Table) (o : objects_table.Table) (h : Left begin [] repos t o) where
  held_head : (path : List ℕ) → head_at o begin path ≡ head_in (content_of repos) path
  held_head path =
      by (head_at o begin path) (refs_at t begin path, own_at o begin path [])
      ∙ ap (option_map (λ (p : Parts). p.0)) (h.parts path [])
      ∙ back (repo_at repos path)
      ∙ sym (ap (option_map (λ (r : Repo). record { is_pool = r.is_pool; pool = r.pool })) (get-content_of repos path))
    where
      by : (head : Option Head) (more : Names × Option Place) → head ≡ option_map (λ (p : Parts). p.0) (option_or (option_map (λ (k : Head). (k, more)) head) None)
      by None more = refl
      by (Some k) more = refl

      back : (r : Option BaseRepo) → option_map (λ (p : Parts). p.0) (option_map (parts_of []) r) ≡ option_map (λ (r : Repo). record { is_pool = r.is_pool; pool = r.pool }) (option_map repo_of r)
      back None = refl
      back (Some r) = refl

  held_refs : (path : List ℕ) → refs_at t begin path ≡ refs_in (content_of repos) path
  held_refs path =
      by (head_at o begin path) refl
      ∙ ap names_of (h.parts path [])
      ∙ back (repo_at repos path)
      ∙ sym (ap (λ (o : Option Repo). elim o [ None ↦ map.empty | Some r ↦ r.refs ]) (get-content_of repos path))
    where
      names_of : Option Parts → Names
      names_of None = map.empty
      names_of (Some p) = p.1.0

      by : (head : Option Head) → head_at o begin path ≡ head → refs_at t begin path ≡ names_of (option_or (given begin t o path []) None)
      by None e = h.no_refs path e ∙ sym (ap (λ k. names_of (option_or (option_map (λ (k : Head). (k, (refs_at t begin path, own_at o begin path []))) k) None)) e)
      by (Some k) e = sym (ap (λ k. names_of (option_or (option_map (λ (k : Head). (k, (refs_at t begin path, own_at o begin path []))) k) None)) e)

      back : (r : Option BaseRepo) → names_of (option_map (parts_of []) r) ≡ elim (option_map repo_of r) [ None ↦ map.empty | Some r ↦ r.refs ]
      back None = refl
      back (Some r) = refl

  held_own : (path x : List ℕ) → own_at o begin path x ≡ places_of repos path x
  held_own path x = by (head_at o begin path) refl ∙ ap place_in (h.parts path x) ∙ back (repo_at repos path)
    where
      place_in : Option Parts → Option Place
      place_in None = None
      place_in (Some p) = p.1.1

      by : (head : Option Head) → head_at o begin path ≡ head → own_at o begin path x ≡ place_in (option_or (given begin t o path x) None)
      by None e = h.no_own path x e ∙ sym (ap (λ k. place_in (option_or (option_map (λ (k : Head). (k, (refs_at t begin path, own_at o begin path x))) k) None)) e)
      by (Some k) e = sym (ap (λ k. place_in (option_or (option_map (λ (k : Head). (k, (refs_at t begin path, own_at o begin path x))) k) None)) e)

      back : (r : Option BaseRepo) → place_in (option_map (parts_of x) r) ≡ and_then r (λ r. place_of r.packs x)
      back None = refl
      back (Some r) = refl

pub follows : (t : Tables) (begin : ℕ) (repos : List BaseRepo) → t.past.log ≡ [] → begin ≡ t.past.begin → repos ≡ t.past.repos → t.gone ≡ 0 → Left begin [] repos t.refs t.objects
    → ((r : refs_table.Table) (base : Content) → r.front ≡ r.floor → ((path : List ℕ) → refs_at r r.floor path ≡ refs_in base path) → refs.Agrees r base [])
    → ((o : objects_table.Table) (base : Content) (places : List ℕ → List ℕ → Option Place) → o.front ≡ o.floor → ArePlaced base places → ((path : List ℕ) → head_at o o.floor path ≡ head_in base path)
    → ((path x : List ℕ) → own_at o o.floor path x ≡ places path x) → objects.Agrees o base []) → Follow t
follows t begin repos empty at_begin same none left refs_agree objects_agree =
    let B : ℕ → Type 0 = λ n. Left n [] repos t.refs t.objects in
    let R : List BaseRepo → Type 0 = λ l. Left t.past.begin [] l t.refs t.objects in
    let h = subst R same (subst B at_begin left) in
    let b = t.past.begin in
    let files = t.past.repos in
    let gone : t.gone ≡ 0 = none in
    let from : b ≡ floor t = omega arith in
    let no_more : base t.past ≡ content_at t.past (floor t) = sym (ap (λ (l : List Entry). after_all (base t.past) (take (floor t - b) l)) empty ∙ ap (after_all (base t.past)) (nothing_of (floor t - b))) in
    let no_entries : [] ≡ entries_past t.past (floor t) = sym (ap (λ (l : List Entry). drop (floor t - b) l) empty ∙ dropped_none (floor t - b)) in
    let front = h.objects_front ∙ sym h.objects_floor in
    let heads : (path : List ℕ) → head_at t.objects t.objects.floor path ≡ head_in (base t.past) path = λ path. ap (λ n. head_at t.objects n path) h.objects_floor ∙ held_head b files t.refs t.objects h path in
    let own : (path x : List ℕ) → own_at t.objects t.objects.floor path x ≡ places_of files path x = λ path x. ap (λ n. own_at t.objects n path x) h.objects_floor ∙ held_own b files t.refs t.objects h path x in
    let refs_here = refs_agree t.refs (base t.past) (h.refs_front ∙ sym h.refs_floor) (λ path. ap (λ n. refs_at t.refs n path) h.refs_floor ∙ held_refs b files t.refs t.objects h path) in
    let objects_here = objects_agree t.objects (base t.past) (places_of files) front (base_placed files) heads own in
    record {
      within = omega arith;
      refs_floor = h.refs_floor ∙ from;
      objects_floor = h.objects_floor ∙ from;
      refs = subst (refs.Agrees t.refs (content_at t.past (floor t))) no_entries (subst (λ (c : Content). refs.Agrees t.refs c []) no_more refs_here);
      objects = subst (objects.Agrees t.objects (content_at t.past (floor t))) no_entries (subst (λ (c : Content). objects.Agrees t.objects c []) no_more objects_here);
    }

pub unmoved_first : (t : Tables) (begin : ℕ) (repos : List BaseRepo) → t.past.log ≡ [] → begin ≡ t.past.begin → repos ≡ t.past.repos → t.gone ≡ 0 → Left begin [] repos t.refs t.objects
    → ((o : objects_table.Table) (base : Content) (places : List ℕ → List ℕ → Option Place) → o.front ≡ o.floor → ArePlaced base places → ((path : List ℕ) → head_at o o.floor path ≡ head_in base path)
    → ((path x : List ℕ) → own_at o o.floor path x ≡ places path x) → objects.ArePlacedBy o base places []) → IsUnmoved t
unmoved_first t begin repos empty at_begin same none left objects_placed =
    let B : ℕ → Type 0 = λ n. Left n [] repos t.refs t.objects in
    let R : List BaseRepo → Type 0 = λ l. Left t.past.begin [] l t.refs t.objects in
    let h = subst R same (subst B at_begin left) in
    let b = t.past.begin in
    let files = t.past.repos in
    let front = h.objects_front ∙ sym h.objects_floor in
    let heads : (path : List ℕ) → head_at t.objects t.objects.floor path ≡ head_in (base t.past) path = λ path. ap (λ n. head_at t.objects n path) h.objects_floor ∙ held_head b files t.refs t.objects h path in
    let own : (path x : List ℕ) → own_at t.objects t.objects.floor path x ≡ places_of files path x = λ path x. ap (λ n. own_at t.objects n path x) h.objects_floor ∙ held_own b files t.refs t.objects h path x in
    record { whole = none; placed = subst (objects.ArePlacedBy t.objects (base t.past) (places_of files)) (sym empty) (objects_placed t.objects (base t.past) (places_of files) front (base_placed files) heads own) }
