-- Records in a table where one of them has moved.
use Rattle.std.proofs.Common.{◌≡◌, ◌⊎◌, inl, inr, ⊎_elim, ℕ, zero, suc, ◌+◌, ◌-◌, ◌<◌, ◌≤◌, Bool, true, false, ◌&&◌, is_some, length, List, Option, Some, None, IsSome, refl, sym, ap, ◌∙◌, subst, arith, slice_get}
use Rattle.std.specs.List.{AllByRecursion}
use Rattle.std.specs.Ordering.{eq_by_cmp}
use Rattle.gt_apply.specs.Plan.{added_by}
use Rattle.gt_apply.proofs.Lists.{In}
use Rattle.gt_base.specs.Built.{IsBuilt}
use Rattle.gt_model.specs.declared.added.Added.{Added}
use Rattle.gt_model.specs.declared.entry.Entry.{Entry}
use Rattle.gt_model.specs.Contents.{key_cmp, Content, own, at, IsLegal}
use Rattle.gt_model.proofs.Values.{same_key}
use Rattle.gt_moves.specs.Standing.{last_added}
use Rattle.gt_moves.specs.declared.moved.Move.{Move}
use Rattle.gt_moves.proofs.Records.{has_last}
use Rattle.gt_objset.specs.declared.place.Place.{Place}
use Rattle.gt_objset.specs.Moved.{IsOwnBetween, BeginsAt, Repoints}
use Rattle.gt_objset.specs.Table.{Table, own_at}
use Rattle.gt_standing.specs.Standing.{IsGood, AreHeld, IsMoveHeld}
use Rattle.gt_standing.specs.Moved.{IsAddedPast, AreMovedTo}
use Rattle.gt_standing.proofs.Numbers.{in-any, in-range, none_of, at_most}
use Rattle.gt_standing.proofs.Plans.{IsMove}
use Rattle.gt_standing.proofs.Positions.{Owns, new_before, made_here, stays}

-- ---- runs of positions

-- It is own at all of these positions, or at one of them it isn't.
own_or_gap : (t : Table) (path x : List ℕ) (from d : ℕ) → IsOwnBetween t path x from (from + d) ⊎ ((r : ℕ) × (from ≤ r) × (r ≤ from + d) × (own_at t r path x ≡ None))
own_or_gap t path x from zero = by (own_at t from path x) refl
  where
    by : (o : Option Place) → own_at t from path x ≡ o → IsOwnBetween t path x from (from + zero) ⊎ ((r : ℕ) × (from ≤ r) × (r ≤ from + zero) × (own_at t r path x ≡ None))
    by None is = inr (from, omega arith, omega arith, is)
    by (Some w) is = inl (λ q l m. let same : q ≡ from = omega arith in ap (λ n. is_some (own_at t n path x)) same ∙ ap is_some is)
own_or_gap t path x from (suc d) = ⊎_elim (λ run. by run (own_at t (from + suc d) path x) refl) (λ gap. let m : gap.0 ≤ from + d = gap.2 in inr (gap.0, gap.1, omega arith, gap.3)) (own_or_gap t path x from d)
  where
    by : IsOwnBetween t path x from (from + d) → (o : Option Place) → own_at t (from + suc d) path x ≡ o → IsOwnBetween t path x from (from + suc d) ⊎ ((r : ℕ) × (from ≤ r) × (r ≤ from + suc d) × (own_at t r path x ≡ None))
    by run None is = inr (from + suc d, omega arith, omega arith, is)
    by run (Some w) is = inl (λ q l m. ⊎_elim (λ (n : q ≤ from + d). run q l n) (λ (n : from + d < q). let same : q ≡ from + suc d = omega arith in ap (λ n. is_some (own_at t n path x)) same ∙ ap is_some is) (at_most q (from + d)))

module _ (to begin : ℕ) (base : Content) (log : List Entry) (legal : IsLegal base (begin + 1) log) where
  -- A table that owns what the log's content owns, up to its end.
  pub record Stage (t : Table) : Type 0 where
    pub low : begin ≤ t.floor
    pub moved : t.floor ≤ to
    pub front : t.front ≡ begin + length log
    pub owns : Owns begin base log t

  -- What an entry adds isn't own in the table just before it.
  gap_before : (t : Table) → Stage t → (k : ℕ) (e : Entry) → slice_get log k ≡ Some e → to < k + (begin + 1) → (a : Added) → In (added_by e.change) a → own_at t (k + begin) e.path a.name ≡ None
  gap_before t s k e there past a i =
      let l : t.floor ≤ to = s.moved in
      let f : t.front ≡ begin + length log = s.front in
      let r = in-range log k e there in
      none_of (own_at t (k + begin) e.path a.name) (s.owns (k + begin) e.path a.name (omega arith) (omega arith) ∙ ap is_some (new_before begin base log legal k e there a i))

  -- A move's record is of one position in the table: not own before it, own there.
  module _ (m : Move) (is : IsMove to begin log m) (t : Table) (s : Stage t) where
    pub move_gap : own_at t (is.number + begin) m.path m.name ≡ None
    move_gap = ap (λ q. own_at t (is.number + begin) q m.name) is.path ∙ ap (λ y. own_at t (is.number + begin) is.entry.path y) is.name ∙ gap_before t s is.number is.entry is.there is.past is.added is.adds

    move_made : own (at begin base log (is.number + (begin + 1))) m.path m.name ≡ last_added is.entry.change m.name
    move_made =
        ap (λ q. own (at begin base log (is.number + (begin + 1))) q m.name) is.path
        ∙ ap (λ y. own (at begin base log (is.number + (begin + 1))) is.entry.path y) is.name
        ∙ made_here begin base log legal is.number is.entry is.there is.added is.adds
        ∙ ap (last_added is.entry.change) (sym is.name)

    pub last_of : (w : List ℕ) × (last_added is.entry.change m.name ≡ Some w)
    last_of = let (w, last) = has_last is.entry.change is.added is.adds in (w, ap (last_added is.entry.change) is.name ∙ last)

    move_own : IsSome (own_at t m.position m.path m.name)
    move_own =
        let l : t.floor ≤ to = s.moved in
        let past : to < is.number + (begin + 1) = is.past in
        let f : t.front ≡ begin + length log = s.front in
        let r = in-range log is.number is.entry is.there in
        let at : m.position ≡ is.number + (begin + 1) = is.position in
        ap (λ n. is_some (own_at t n m.path m.name)) at ∙ s.owns (is.number + (begin + 1)) m.path m.name (omega arith) (omega arith) ∙ ap is_some (move_made ∙ last_of.1)

    pub move_begins : BeginsAt t m.position m.path m.name
    move_begins l same =
        let at : m.position ≡ is.number + (begin + 1) = is.position in
        let before : m.position - 1 ≡ is.number + begin = omega arith in
        let none : own_at t m.position m.path m.name ≡ None = sym same ∙ ap (λ n. own_at t n m.path m.name) before ∙ move_gap in
        let on : false ≡ true = sym (ap is_some none) ∙ move_own in
        let no : ⊥ = cc in no

    -- what the content has there from then on, without a gap
    pub move_record : AllByRecursion IsBuilt log → (p : ℕ) → m.position ≤ p → p ≤ t.front → IsOwnBetween t m.path m.name m.position p → own (at begin base log p) m.path m.name ≡ last_added is.entry.change m.name
    move_record built p l h run =
        let f : t.front ≡ begin + length log = s.front in
        let low : t.floor ≤ to = s.moved in
        let past : to < is.number + (begin + 1) = is.past in
        let at : m.position ≡ is.number + (begin + 1) = is.position in
        let d : is.number + (begin + 1) + (p - (is.number + (begin + 1))) ≡ p = omega arith in
        let (w, last) = last_of in
        ap (λ n. own (at_ n) m.path m.name) (sym d)
        ∙ stays begin base log legal built m.path m.name (is.number + (begin + 1)) w (omega arith) (move_made ∙ last) (p - (is.number + (begin + 1))) (omega arith)
        (λ r a b. sym (s.owns r m.path m.name (omega arith) (omega arith)) ∙ run r (omega arith) (omega arith))
        ∙ sym last
      where
        at_ : ℕ → Content
        at_ n = at begin base log n

  -- No record of the move's entry stands in an entry's file, for as long as it is own.
  abbrev pub Left : Move → Table → Type 0
  Left m t = (p : ℕ) (place : Place) → m.position ≤ p → p ≤ t.front → IsOwnBetween t m.path m.name m.position p → own_at t p m.path m.name ≡ Some place → place.file.kind ≡ 4 → ⊥

  -- ---- one move

  module _ (m : Move) (is : IsMove to begin log m) (old new : Table) (s : Stage old) (r : Repoints m.position m.path m.name m.place old new) where
    -- what holds of the moved record, and of each whose places are the same
    at_key : (P : List ℕ → List ℕ → Type 0) → P m.path m.name → ((q y : List ℕ) → ((p : ℕ) → own_at new p q y ≡ own_at old p q y) → P q y) → (q y : List ℕ) → P q y
    at_key P here others q y = by (eq_by_cmp key_cmp q m.path) (eq_by_cmp key_cmp y m.name) refl refl
      where
        by : (a b : Bool) → eq_by_cmp key_cmp q m.path ≡ a → eq_by_cmp key_cmp y m.name ≡ b → P q y
        by true true t u = subst (λ (k : List ℕ). P k y) (sym (same_key q m.path t)) (subst (λ (k : List ℕ). P m.path k) (sym (same_key y m.name u)) here)
        by true false t u = others q y (λ p. r.others p q y (ap (λ c. c && eq_by_cmp key_cmp y m.name) t ∙ u))
        by false b t u = others q y (λ p. r.others p q y (ap (λ c. c && eq_by_cmp key_cmp y m.name) t))

    same_some : (q y : List ℕ) (p : ℕ) → old.floor ≤ p → is_some (own_at new p q y) ≡ is_some (own_at old p q y)
    same_some =
        at_key (λ q y. (p : ℕ) → old.floor ≤ p → is_some (own_at new p q y) ≡ is_some (own_at old p q y))
        (λ p l. ⊎_elim (λ (e : own_at new p m.path m.name ≡ own_at old p m.path m.name). ap is_some e)
        (λ (e : IsSome (own_at old p m.path m.name) × (own_at new p m.path m.name ≡ Some m.place)). ap is_some e.1 ∙ sym e.0) (r.either p l))
        (λ q y same p l. ap is_some (same p))

    pub stage_next : Stage new
    stage_next = record {
      low = let f : new.floor ≡ old.floor = r.floor in let l : begin ≤ old.floor = s.low in omega arith;
      moved = let f : new.floor ≡ old.floor = r.floor in let l : old.floor ≤ to = s.moved in omega arith;
      front = r.front ∙ s.front;
      owns = λ p q y l h.
          let f : new.floor ≡ old.floor = r.floor in
          let g : new.front ≡ old.front = r.front in
          same_some q y p (omega arith) ∙ s.owns p q y (omega arith) (omega arith);
    }

    not_four : (place : Place) → Some m.place ≡ Some place → place.file.kind ≡ 4 → ⊥
    not_four place e four = let same : m.place ≡ place = cc e in let five : m.place.file.kind ≡ 5 = is.kind in let other : place.file.kind ≡ 5 = sym (ap (λ (p : Place). p.file.kind) same) ∙ five in omega arith

    -- What is in an entry's file was there before.
    was_there : (q y : List ℕ) (p : ℕ) (place : Place) → old.floor ≤ p → own_at new p q y ≡ Some place → place.file.kind ≡ 4 → own_at old p q y ≡ Some place
    was_there =
        at_key (λ q y. (p : ℕ) (place : Place) → old.floor ≤ p → own_at new p q y ≡ Some place → place.file.kind ≡ 4 → own_at old p q y ≡ Some place)
        (λ p place l here four. ⊎_elim (λ (e : own_at new p m.path m.name ≡ own_at old p m.path m.name). sym e ∙ here)
        (λ (e : IsSome (own_at old p m.path m.name) × (own_at new p m.path m.name ≡ Some m.place)). absurd (not_four place (sym e.1 ∙ here) four)) (r.either p l))
        (λ q y same p place l here four. sym (same p) ∙ here)

    -- a run of the new table is one of the old
    old_run : (q y : List ℕ) (from p : ℕ) → old.floor ≤ from → IsOwnBetween new q y from p → IsOwnBetween old q y from p
    old_run q y from p l run k a b = sym (same_some q y k (omega arith)) ∙ run k a b

    module _ (h : AreMovedTo to begin log old) where
      -- a record that is still in its entry's file has moved nowhere in its run
      still_there : (p : ℕ) (place : Place) → old.floor ≤ p → p ≤ old.front → own_at new p m.path m.name ≡ Some place → place.file.kind ≡ 4 → (was : IsAddedPast to begin log old p m.path m.name place)
          → (k : ℕ) → old.floor ≤ k → was.number + (begin + 1) ≤ k → k ≤ p → own_at new k m.path m.name ≡ own_at old k m.path m.name
      still_there p place low high here four was k l a b = ⊎_elim late early (at_most m.position p)
        where
          early : p < m.position → own_at new k m.path m.name ≡ own_at old k m.path m.name
          early n = r.before k l (omega arith)

          inside : was.number + (begin + 1) < m.position → m.position ≤ p → own_at new k m.path m.name ≡ own_at old k m.path m.name
          inside c n =
              let at : m.position ≡ is.number + (begin + 1) = is.position in
              let past : to < is.number + (begin + 1) = is.past in
              let floor : old.floor ≤ to = s.moved in
              let on : own_at old (is.number + begin) m.path m.name ≡ Some place = was.own (is.number + begin) (omega arith) (omega arith) (omega arith) in
              let no : false ≡ true = ap is_some (sym (move_gap m is old s) ∙ on) in
              absurd (cc no)

          itself : m.position ≡ was.number + (begin + 1) → m.position ≤ p → own_at new k m.path m.name ≡ own_at old k m.path m.name
          itself c n =
              let floor : old.floor ≤ to = s.moved in
              let past : to < was.number + (begin + 1) = was.past in
              absurd (not_four place (sym (r.moved (move_begins m is old s) p n (λ q a b. ap is_some (was.own q (omega arith) (omega arith) b))) ∙ here) four)

          gone : m.position < was.number + (begin + 1) → own_at new k m.path m.name ≡ own_at old k m.path m.name
          gone c =
              let (b, adds, name) = in-any (λ (x : Added). x.name ≡ m.name) (added_by was.entry.change) was.adds in
              let none : own_at old (was.number + begin) m.path m.name ≡ None =
              ap (λ q. own_at old (was.number + begin) q m.name) (sym was.at_path) ∙ ap (λ y. own_at old (was.number + begin) was.entry.path y) (sym name) ∙ gap_before old s was.number was.entry was.there was.past b adds in
              r.gone k (was.number + begin) (omega arith) (omega arith) none

          late : m.position ≤ p → own_at new k m.path m.name ≡ own_at old k m.path m.name
          late n =
              ⊎_elim (λ (c : m.position ≤ was.number + (begin + 1)). ⊎_elim (λ (d : was.number + (begin + 1) ≤ m.position). itself (omega arith) n) gone (at_most (was.number + (begin + 1)) m.position)) (λ (c : was.number + (begin + 1) < m.position). inside c n) (at_most m.position (was.number + (begin + 1)))

      abbrev Goal : List ℕ → List ℕ → Type 0
      Goal q y = (p : ℕ) (place : Place) → old.floor ≤ p → p ≤ old.front → own_at new p q y ≡ Some place → place.file.kind ≡ 4
          → (was : IsAddedPast to begin log old p q y place) → (k : ℕ) → old.floor ≤ k → was.number + (begin + 1) ≤ k → k ≤ p → own_at new k q y ≡ own_at old k q y

      all_there : (q y : List ℕ) → Goal q y
      all_there = at_key Goal still_there (λ q y same p place low high here four was k l a b. same k)

      pub moved_next : AreMovedTo to begin log new
      moved_next = record {
        each = λ p q y place l n here four.
            let f : new.floor ≡ old.floor = r.floor in
            let g : new.front ≡ old.front = r.front in
            let low : old.floor ≤ p = omega arith in
            let high : p ≤ old.front = omega arith in
            let was = h.each p q y place low high (was_there q y p place low here four) four in
            record {
              number = was.number;
              entry = was.entry;
              there = was.there;
              file = was.file;
              past = was.past;
              since = was.since;
              at_path = was.at_path;
              adds = was.adds;
              own = λ k a b c. all_there q y p place low high here four was k (omega arith) b c ∙ was.own k (omega arith) b c;
            };
      }

    -- the move's own record, and those of moves that went before
    pub left_here : Left m new
    left_here p place l n run here four =
        let past : to < is.number + (begin + 1) = is.past in
        let at : m.position ≡ is.number + (begin + 1) = is.position in
        let floor : old.floor ≤ to = s.moved in
        not_four place (sym (r.moved (move_begins m is old s) p l (old_run m.path m.name m.position p (omega arith) run)) ∙ here) four

    pub left_next : (other : Move) → to < other.position → Left other old → Left other new
    left_next other past gone p place l n run here four =
        let floor : old.floor ≤ to = s.moved in
        let g : new.front ≡ old.front = r.front in
        gone p place l (omega arith) (old_run other.path other.name other.position p (omega arith) run) (was_there other.path other.name p place (omega arith) here four) four

    -- ---- records

    module _ (Held : List ℕ → Place → Type 0) (built : AllByRecursion IsBuilt log) (h : AreHeld Held begin base log old) (held : IsMoveHeld Held begin log m) where
      abbrev Good : List ℕ → List ℕ → Type 0
      Good q y = (p : ℕ) (whole : List ℕ) (place : Place) → old.floor ≤ p → p ≤ old.front → own (at begin base log p) q y ≡ Some whole → own_at new p q y ≡ Some place → IsGood Held begin log whole place

      moved_good : (p : ℕ) (whole : List ℕ) (place : Place) → m.position ≤ p → p ≤ old.front → IsOwnBetween old m.path m.name m.position p → own (at begin base log p) m.path m.name ≡ Some whole → own_at new p m.path m.name ≡ Some place
          → Held whole place
      moved_good p whole place l n run has here =
          let at : m.position ≡ is.number + (begin + 1) = is.position in
          let number : m.position - (begin + 1) ≡ is.number = omega arith in
          let same : m.place ≡ place = let e : Some m.place ≡ Some place = sym (r.moved (move_begins m is old s) p l run) ∙ here in cc e in
          subst (λ (x : Place). Held whole x) same
          (held is.entry whole (ap (slice_get log) number ∙ is.there) (sym (move_record m is old s built p l n run) ∙ has))

      good_here : Good m.path m.name
      good_here p whole place l n has here = ⊎_elim late (λ (c : p < m.position). as_before (r.before p l c)) (at_most m.position p)
        where
          as_before : own_at new p m.path m.name ≡ own_at old p m.path m.name → IsGood Held begin log whole place
          as_before same = h.held p l n m.path m.name whole place has (sym same ∙ here)

          late : m.position ≤ p → IsGood Held begin log whole place
          late c =
              let d : m.position + (p - m.position) ≡ p = omega arith in
              ⊎_elim (λ run. inr (moved_good p whole place c n (λ q a b. run q a (omega arith)) has here))
              (λ gap. let b : gap.0 ≤ m.position + (p - m.position) = gap.2 in as_before (r.gone p gap.0 gap.1 (omega arith) gap.3)) (own_or_gap old m.path m.name m.position (p - m.position))

      pub held_next : AreHeld Held begin base log new
      held_next = record {
        held = λ p l n q y whole place has here.
            let f : new.floor ≡ old.floor = r.floor in
            let g : new.front ≡ old.front = r.front in
            at_key Good good_here (λ q y same p whole place l n has here. h.held p l n q y whole place has (sym (same p) ∙ here)) q y p whole place (omega arith) (omega arith) has here;
      }
