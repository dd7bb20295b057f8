-- Records in a table that has one more entry.
use Rattle.std.proofs.Common.{◌≡◌, ◌⊎◌, inl, inr, ⊎_elim, ℕ, ◌+◌, ◌-◌, ◌<◌, ◌≤◌, Bool, true, false, cond, is_some, length, length-append, drop, List, [], ◌∷◌, ◌++◌, Option, Some, None, refl, sym, ap, ◌∙◌, subst, arith}
use Rattle.std.proofs.lemmas.List.{take-append-le, take_all}
use Rattle.std.specs.Option.{unwrap_or}
use Rattle.std.specs.Ordering.{eq_by_cmp}
use Rattle.gt_apply.specs.Plan.{added_by}
use Rattle.gt_apply.proofs.Lists.{In}
use Rattle.gt_base.specs.Built.{is_built, IsBuilt}
use Rattle.gt_disk.specs.Kinds.{entry_file}
use Rattle.gt_entry.specs.Fits.{IsEntry}
use Rattle.gt_model.specs.declared.added.Added.{Added}
use Rattle.gt_model.specs.declared.change.Change.{Change}
use Rattle.gt_model.specs.declared.change.Change.TheVariants.{Create, Delete, Link, Write, Repack, Prune, PackRefs, Unlink}
use Rattle.gt_model.specs.declared.entry.Entry.{Entry}
use Rattle.gt_model.specs.Contents.{key_cmp, Content, own, after, after_all, at, IsLegal}
use Rattle.gt_model.proofs.Checks.{some_none}
use Rattle.gt_model.proofs.Logs.{after_all-append}
use Rattle.gt_model.proofs.Values.{same_key}
use Rattle.gt_moves.proofs.Members.{to_any}
use Rattle.gt_moves.proofs.Numbers.{positioned}
use Rattle.gt_objset.specs.declared.place.Place.{Place}
use Rattle.gt_objset.specs.Agree.{ArePlaced}
use Rattle.gt_objset.specs.Places.{Head, placed, last_put, added_begin, head_in, own_here, own_if, own_after}
use Rattle.gt_objset.specs.Table.{Table, head_at, own_at, Adds}
use Rattle.gt_places.proofs.Changes.{entry_good}
use Rattle.gt_standing.specs.Following.{Follows}
use Rattle.gt_standing.specs.Standing.{IsGood, AllGood, AreHeld}
use Rattle.gt_standing.specs.Moved.{IsAddedPast, AreMovedTo}
use Rattle.gt_standing.proofs.Numbers.{number-front, number-last, at_most}
use Rattle.gt_standing.proofs.Positions.{owns, counted_on}

-- ---- places after an entry

-- A place that is put is in the entry's file, under a name that is added; else it is what was found before.
put_cases : (G : Type 0) (n begin : ℕ) (added : List Added) (x : List ℕ) (found : Option (Option Place)) (old : Option Place) (place : Place)
    → ((a : Added) → In added a → eq_by_cmp key_cmp x a.name ≡ true → place.file ≡ entry_file n → G) → (unwrap_or found old ≡ Some place → G) → unwrap_or (last_put (placed n begin added) x found) old ≡ Some place → G
put_cases G n begin [] x found old place new was is = was is
put_cases G n begin (a ∷ rest) x found old place new was is =
    put_cases G n (begin + 24 + length a.whole) rest x (cond (eq_by_cmp key_cmp x a.name) (Some (Some (record { file = record { kind = 4; number = n }; at = begin + 24; len = length a.whole }))) found) old place (λ b i. new b (inr i))
    (by (eq_by_cmp key_cmp x a.name) refl) is
  where
    by : (t : Bool) → eq_by_cmp key_cmp x a.name ≡ t → unwrap_or (cond t (Some (Some (record { file = record { kind = 4; number = n }; at = begin + 24; len = length a.whole }))) found) old ≡ Some place → G
    by true t put = new a (inl refl) t (ap (λ (o : Option Place). (unwrap_or o place).file) (sym put))
    by false t put = was put

-- It is where it was, or in the file of the entry, which adds the object.
abbrev Comes : Entry → Option Place → List ℕ → List ℕ → Place → Type 0
Comes e before path x place = (before ≡ Some place) ⊎ (e.path ≡ path) × ((a : Added) × In (added_by e.change) a × (a.name ≡ x)) × (place.file ≡ entry_file e.position)

comes_here : (e : Entry) (change : Change) → e.change ≡ change → is_built change ≡ true → (head : Option Head) (own : List ℕ → List ℕ → Option Place) (path x : List ℕ) (place : Place) → path ≡ e.path
    → own_here change e.position e.path head own x ≡ Some place → Comes e (own path x) path x place
comes_here e (Create pool) of b head own path x place here is = some_none place (sym is)
comes_here e Delete of b head own path x place here is = some_none place (sym is)
comes_here e (Link pool) of b head own path x place here is = absurd (cc b)
comes_here e (Write refs needed added) of b head own path x place here is =
    put_cases (Comes e (own path x) path x place) e.position (added_begin e.path refs needed) added x None (own e.path x) place
    (λ a i t file. inr (sym here, (a, subst (λ (c : Change). In (added_by c) a) (sym of) i, sym (same_key x a.name t)), file)) (λ was. inl (ap (λ (q : List ℕ). own q x) here ∙ was)) is
comes_here e (Repack file dropped) of b head own path x place here is = absurd (cc b)
comes_here e (Prune file dropped) of b head own path x place here is = absurd (cc b)
comes_here e (PackRefs file) of b head own path x place here is = absurd (cc b)
comes_here e (Unlink file) of b head own path x place here is = absurd (cc b)

comes : (e : Entry) → IsBuilt e → (head : Option Head) (own : List ℕ → List ℕ → Option Place) (path x : List ℕ) (place : Place) → own_after e head own path x ≡ Some place → Comes e (own path x) path x place
comes e built head own path x place is = by (eq_by_cmp key_cmp path e.path) refl is
  where
    in_repo : (o : Option Head) → path ≡ e.path → own_if o (own_here e.change e.position e.path head own x) ≡ Some place → Comes e (own path x) path x place
    in_repo None here is = some_none place (sym is)
    in_repo (Some h) here is = comes_here e e.change refl built head own path x place here is

    by : (t : Bool) → eq_by_cmp key_cmp path e.path ≡ t → cond t (own_if head (own_here e.change e.position e.path head own x)) (own path x) ≡ Some place → Comes e (own path x) path x place
    by false t is = inl is
    by true t is = in_repo head (same_key path e.path t) is

-- ---- one more entry

module _ (begin : ℕ) (base : Content) (log : List Entry) (e : Entry) (old new : Table) (f : Follows begin base log old) (legal : IsLegal base (begin + 1) (log ++ e ∷ [])) (a : Adds e old new) where
  numbered : e.position ≡ length log + (begin + 1)
  numbered = positioned base (begin + 1) (log ++ e ∷ []) (length log) e legal (number-last log e)

  below : old.floor ≤ old.front
  below = let i : old.front ≡ old.floor + length (drop (old.floor - begin) log) = f.agrees.front in omega arith

  content_old : (p : ℕ) → p ≤ old.front → at begin base (log ++ e ∷ []) p ≡ at begin base log p
  content_old p l = let i : old.front ≡ begin + length log = f.front in ap (after_all base) (take-append-le (p - begin) log (e ∷ []) (omega arith))

  content_front : at begin base log old.front ≡ after_all base log
  content_front = let i : old.front ≡ begin + length log = f.front in ap (after_all base) (take_all (old.front - begin) log (omega arith))

  content_new : at begin base (log ++ e ∷ []) (old.front + 1) ≡ after (after_all base log) e
  content_new =
      let i : old.front ≡ begin + length log = f.front in
      ap (after_all base) (take_all (old.front + 1 - begin) (log ++ e ∷ []) (omega (arith, length-append log (e ∷ [])))) ∙ after_all-append base log (e ∷ [])

  placed_front : ArePlaced (after_all base log) (own_at old old.front)
  placed_front path x = owns begin base log old f old.front path x below (omega arith) ∙ ap (λ c. is_some (own c path x)) content_front

  head_front : head_at old old.front e.path ≡ head_in (after_all base log) e.path
  head_front = f.agrees.heads old.front e.path below (omega arith) ∙ ap (λ c. head_in c e.path) (sym (counted_on begin old.floor old.front base log f.low below) ∙ content_front)

  own_new : (path x : List ℕ) → own_at new (old.front + 1) path x ≡ own_after e (head_in (after_all base log) e.path) (own_at old old.front) path x
  own_new path x = a.own_next path x ∙ ap (λ h. own_after e h (own_at old old.front) path x) head_front

  module _ (Held : List ℕ → Place → Type 0) (typed : IsEntry e) (h : AreHeld Held begin base log old) where
    further : (whole : List ℕ) (place : Place) → IsGood Held begin log whole place → IsGood Held begin (log ++ e ∷ []) whole place
    further whole place good =
        ⊎_elim
        (λ g. inl (
          record { number = g.0.number; entry = g.0.entry; file = g.0.file; there = number-front log (e ∷ []) g.0.number g.0.entry g.0.there; stands = g.0.stands },
          g.1,
          g.2,
        ))
        inr good

    good_old : (p : ℕ) → old.floor ≤ p → p ≤ old.front → AllGood Held begin (log ++ e ∷ []) (at begin base log p) (own_at old p)
    good_old p l m path x whole place has here = further whole place (h.held p l m path x whole place has here)

    good_new : AllGood Held begin (log ++ e ∷ []) (after (after_all base log) e) (own_after e (head_in (after_all base log) e.path) (own_at old old.front))
    good_new =
        entry_good Held begin (log ++ e ∷ []) (after_all base log) (own_at old old.front) placed_front
        (λ path x whole place has here. good_old old.front below (omega arith) path x whole place (ap (λ c. own c path x) content_front ∙ has) here) e (length log) (number-last log e) numbered typed

    good_at : (p : ℕ) → old.floor ≤ p → (p ≤ old.front) ⊎ (p ≡ old.front + 1) → AllGood Held begin (log ++ e ∷ []) (at begin base (log ++ e ∷ []) p) (own_at new p)
    good_at p l (inl m) path x whole place has here = good_old p l m path x whole place (sym (ap (λ c. own c path x) (content_old p m)) ∙ has) (sym (a.own_before p path x m) ∙ here)
    good_at p l (inr m) path x whole place has here =
        good_new path x whole place (sym (ap (λ n. own (at begin base (log ++ e ∷ []) n) path x) m ∙ ap (λ c. own c path x) content_new) ∙ has) (sym (ap (λ n. own_at new n path x) m ∙ own_new path x) ∙ here)

    pub added_held : AreHeld Held begin base (log ++ e ∷ []) new
    added_held = record {
      held = λ p l m.
          let i : new.floor ≡ old.floor = a.floor in
          let j : new.front ≡ old.front + 1 = a.front in
          good_at p (omega arith) (⊎_elim inl (λ (n : old.front < p). inr (omega arith)) (at_most p old.front));
    }

  module _ (to : ℕ) (built : IsBuilt e) (reach : to ≤ old.front) (h : AreMovedTo to begin log old) where
    -- the table has this place on, too
    later : (p q : ℕ) (path x : List ℕ) (place : Place) → q ≤ old.front → q ≤ p → IsAddedPast to begin log old q path x place → ((r : ℕ) → q < r → r ≤ p → own_at new r path x ≡ Some place) → IsAddedPast to begin (log ++ e ∷ []) new p path x place
    later p q path x place l m was next = record {
      number = was.number;
      entry = was.entry;
      there = number-front log (e ∷ []) was.number was.entry was.there;
      file = was.file;
      past = was.past;
      since = let s : was.number + (begin + 1) ≤ q = was.since in omega arith;
      at_path = was.at_path;
      adds = was.adds;
      own = λ r low s t.
          let i : new.floor ≡ old.floor = a.floor in
          ⊎_elim (λ (n : r ≤ q). a.own_before r path x (omega arith) ∙ was.own r (omega arith) s n) (λ (n : q < r). next r n t) (at_most r q);
    }

    in_file : (path x : List ℕ) (place : Place) → own_at new (old.front + 1) path x ≡ Some place → e.path ≡ path → (b : Added) → In (added_by e.change) b → b.name ≡ x → place.file ≡ entry_file e.position
        → IsAddedPast to begin (log ++ e ∷ []) new (old.front + 1) path x place
    in_file path x place here at b adds name file =
        let i : old.front ≡ begin + length log = f.front in
        record {
          number = length log;
          entry = e;
          there = number-last log e;
          file = file ∙ ap entry_file numbered;
          past = omega arith;
          since = omega arith;
          at_path = at;
          adds = to_any (λ (c : Added). c.name ≡ x) (added_by e.change) b adds name;
          own = λ r low s t. let same : r ≡ old.front + 1 = omega arith in ap (λ n. own_at new n path x) same ∙ here;
        }

    moved_new : (path x : List ℕ) (place : Place) → own_at new (old.front + 1) path x ≡ Some place → place.file.kind ≡ 4 → IsAddedPast to begin (log ++ e ∷ []) new (old.front + 1) path x place
    moved_new path x place here kind =
        ⊎_elim
        (λ was. later (old.front + 1) old.front path x place (omega arith) (omega arith) (h.each old.front path x place below (omega arith) was kind)
        (λ r low high. let same : r ≡ old.front + 1 = omega arith in ap (λ n. own_at new n path x) same ∙ here))
        (λ g. in_file path x place here g.0 g.1.0 g.1.1 g.1.2 g.2) (comes e built (head_in (after_all base log) e.path) (own_at old old.front) path x place (sym (own_new path x) ∙ here))

    moved_at : (p : ℕ) → old.floor ≤ p → (p ≤ old.front) ⊎ (p ≡ old.front + 1) → (path x : List ℕ) (place : Place) → own_at new p path x ≡ Some place → place.file.kind ≡ 4 → IsAddedPast to begin (log ++ e ∷ []) new p path x place
    moved_at p l (inl m) path x place here kind =
        later p p path x place m (omega arith) (h.each p path x place l m (sym (a.own_before p path x m) ∙ here) kind) (λ r low high. let no : ⊥ = omega arith in absurd no)
    moved_at p l (inr m) path x place here kind =
        subst (λ (n : ℕ). IsAddedPast to begin (log ++ e ∷ []) new n path x place) (sym m) (moved_new path x place (sym (ap (λ n. own_at new n path x) m) ∙ here) kind)

    pub added_moved : AreMovedTo to begin (log ++ e ∷ []) new
    added_moved = record {
      each = λ p path x place l m here kind.
          let i : new.floor ≡ old.floor = a.floor in
          let j : new.front ≡ old.front + 1 = a.front in
          moved_at p (omega arith) (⊎_elim inl (λ (n : old.front < p). inr (omega arith)) (at_most p old.front)) path x place here kind;
    }
