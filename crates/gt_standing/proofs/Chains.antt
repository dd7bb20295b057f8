-- Records in a table where all those of a batch of entries have moved.
use Rattle.std.proofs.Common.{◌≡◌, inl, inr, ⊎_elim, ℕ, ◌+◌, ◌-◌, ◌<◌, ◌≤◌, is_some, length, take, drop, List, [], ◌∷◌, ◌++◌, Some, refl, sym, ap, ◌∙◌, subst, arith, slice_get, All}
use Rattle.std.proofs.lemmas.List.Elements.{recursion_from_All, All-from_recursion}
use Rattle.std.specs.List.{AllByRecursion}
use Rattle.gt_apply.specs.Plan.{added_by}
use Rattle.gt_apply.proofs.Lists.{In, each, all_of}
use Rattle.gt_base.specs.Built.{IsBuilt}
use Rattle.gt_disk.specs.Files.{States}
use Rattle.gt_model.specs.declared.added.Added.{Added}
use Rattle.gt_model.specs.declared.entry.Entry.{Entry}
use Rattle.gt_model.specs.Contents.{Content, IsLegal}
use Rattle.gt_moves.specs.Moves.{planned_moves}
use Rattle.gt_moves.specs.Standing.{IsStillAt, StandsMoved}
use Rattle.gt_moves.specs.Within.{IsMoveOf}
use Rattle.gt_moves.specs.declared.moved.Move.{Move}
use Rattle.gt_moves.proofs.Members.{has_move}
use Rattle.gt_moves.proofs.Numbers.{positioned}
use Rattle.gt_objset.specs.declared.place.Place.{Place}
use Rattle.gt_objset.specs.Agree.{Agrees}
use Rattle.gt_objset.specs.Moved.{Repoints}
use Rattle.gt_objset.specs.Table.{Table, own_at}
use Rattle.gt_objset.proofs.MovedLaws.{repointed_agrees}
use Rattle.gt_standing.specs.Following.{Follows}
use Rattle.gt_standing.specs.Standing.{AreHeld, IsMoveHeld}
use Rattle.gt_standing.specs.Moved.{IsAddedPast, AreMovedTo, RepointsAll}
use Rattle.gt_standing.proofs.Numbers.{in-number, in-any, take-number, drop-number, at_most}
use Rattle.gt_standing.proofs.Plans.{IsMove, planned, stood}
use Rattle.gt_standing.proofs.Positions.{owns}
use Rattle.gt_standing.proofs.Repointed.{Stage, Left, stage_next, moved_next, left_here, left_next, held_next}

-- ---- moves one after the other

pub one_more : (ms : List Move) (m : Move) (old mid new : Table) → RepointsAll ms old mid → Repoints m.position m.path m.name m.place mid new → RepointsAll (ms ++ m ∷ []) old new
one_more [] m old mid new is r = (new, subst (λ (t : Table). Repoints m.position m.path m.name m.place t new) is r, refl)
one_more (k ∷ ms) m old mid new all r = (all.0, all.1, one_more ms m all.0 mid new all.2 r)

pub all_agree : (base : Content) (log : List Entry) (ms : List Move) (old new : Table) → Agrees old base log → RepointsAll ms old new → Agrees new base log
all_agree base log [] old new h is = subst (λ (t : Table). Agrees t base log) (sym is) h
all_agree base log (m ∷ ms) old new h all = all_agree base log ms all.0 new (repointed_agrees old all.0 base log m.position m.path m.name m.place h all.1) all.2

module _ (to begin : ℕ) (base : Content) (log : List Entry) (legal : IsLegal base (begin + 1) log) where
  abbrev AreMoves : List Move → Type 0
  AreMoves ms = (m : Move) → In ms m → IsMove to begin log m

  abbrev Staged : Table → Type 0
  Staged t = Stage to begin base log legal t

  after_move : (m : Move) → IsMove to begin log m → to < m.position
  after_move m is = let at : m.position ≡ is.number + (begin + 1) = is.position in let past : to < is.number + (begin + 1) = is.past in omega arith

  all_staged : (ms : List Move) → AreMoves ms → (old new : Table) → Staged old → RepointsAll ms old new → Staged new
  all_staged [] are old new s is = subst Staged (sym is) s
  all_staged (m ∷ ms) are old new s all =
      all_staged ms (λ x i. are x (inr i)) all.0 new (stage_next to begin base log legal m (are m (inl refl)) old all.0 s all.1) all.2

  left_all : (other : Move) → to < other.position → (ms : List Move) → AreMoves ms → (old new : Table) → Staged old → RepointsAll ms old new → Left to begin base log legal other old → Left to begin base log legal other new
  left_all other past [] are old new s is gone = subst (λ (t : Table). Left to begin base log legal other t) (sym is) gone
  left_all other past (m ∷ ms) are old new s all gone =
      let one : IsMove to begin log m = are m (inl refl) in
      left_all other past ms (λ x i. are x (inr i)) all.0 new (stage_next to begin base log legal m one old all.0 s all.1) all.2 (left_next to begin base log legal m one old all.0 s all.1 other past gone)

  all_left : (ms : List Move) → AreMoves ms → (old new : Table) → Staged old → RepointsAll ms old new → (m : Move) → In ms m → Left to begin base log legal m new
  all_left [] are old new s all m i = absurd i
  all_left (k ∷ ms) are old new s all m i =
      let one : IsMove to begin log k = are k (inl refl) in
      let next : Staged all.0 = stage_next to begin base log legal k one old all.0 s all.1 in
      ⊎_elim
      (λ e. subst (λ (x : Move). Left to begin base log legal x new) (sym e) (left_all k (after_move k one) ms (λ x j. are x (inr j)) all.0 new next all.2 (left_here to begin base log legal k one old all.0 s all.1)))
      (λ j. all_left ms (λ x j. are x (inr j)) all.0 new next all.2 m j) i

  all_moved : (ms : List Move) → AreMoves ms → (old new : Table) → Staged old → RepointsAll ms old new → AreMovedTo to begin log old → AreMovedTo to begin log new
  all_moved [] are old new s is h = subst (λ (t : Table). AreMovedTo to begin log t) (sym is) h
  all_moved (m ∷ ms) are old new s all h =
      let one : IsMove to begin log m = are m (inl refl) in
      all_moved ms (λ x i. are x (inr i)) all.0 new (stage_next to begin base log legal m one old all.0 s all.1) all.2 (moved_next to begin base log legal m one old all.0 s all.1 h)

  all_held : (Held : List ℕ → Place → Type 0) → AllByRecursion IsBuilt log → (ms : List Move) → AreMoves ms → (old new : Table) → Staged old → RepointsAll ms old new → AllByRecursion (IsMoveHeld Held begin log) ms → AreHeld Held begin base log old
      → AreHeld Held begin base log new
  all_held Held built [] are old new s is held h = subst (λ (t : Table). AreHeld Held begin base log t) (sym is) h
  all_held Held built (m ∷ ms) are old new s all held h =
      let one : IsMove to begin log m = are m (inl refl) in
      all_held Held built ms (λ x i. are x (inr i)) all.0 new (stage_next to begin base log legal m one old all.0 s all.1) all.2 held.1 (held_next to begin base log legal m one old all.0 s all.1 Held built h held.0)

-- ---- all moves of the entries that come next

module _ (begin to n next : ℕ) (base : Content) (log entries : List Entry) (old new : Table) (follows : Follows begin base log old) (legal : IsLegal base (begin + 1) log) (built : All IsBuilt log) (low : old.floor ≤ to)
    (are : entries ≡ take n (drop (to - begin) log)) (moves : RepointsAll (planned_moves next entries) old new) where
  first : Stage to begin base log legal old
  first = record { low = follows.low; moved = low; front = follows.front; owns = owns begin base log old follows }

  of_plan : (m : Move) → In (planned_moves next entries) m → IsMove to begin log m
  of_plan = planned begin to n base log entries legal are next

  last : Stage to begin base log legal new
  last = all_staged to begin base log legal (planned_moves next entries) of_plan old new first moves

  -- Each record that an entry among these adds has a move.
  of_record : (number : ℕ) (e : Entry) (a : Added) → slice_get log number ≡ Some e → to < number + (begin + 1) → number + (begin + 1) ≤ to + length entries → In (added_by e.change) a
      → (m : Move) × In (planned_moves next entries) m × IsMoveOf e a m
  of_record number e a there past late adds =
      let one : begin ≤ old.floor = follows.low in
      let long : length entries ≡ length (take n (drop (to - begin) log)) = ap length are in
      let i : ℕ = number - (to - begin) in
      let at : slice_get (take n (drop (to - begin) log)) i ≡ Some e = take-number n (drop (to - begin) log) i e (omega arith) (drop-number (to - begin) log i number e (omega arith) there) in
      in-any (IsMoveOf e a) (planned_moves next entries) (has_move e a adds entries (in-number entries i e (ap (λ (es : List Entry). slice_get es i) are ∙ at)) next)

  -- The record of a move is in no entry's file, for as long as it is own.
  left_by : (m : Move) → In (planned_moves next entries) m → Left to begin base log legal m new
  left_by m i = all_left to begin base log legal (planned_moves next entries) of_plan old new first moves m i

  -- A record that is still in the file of an entry isn't of one of these.
  none_of_these : (p : ℕ) (path x : List ℕ) (place : Place) → p ≤ new.front → own_at new p path x ≡ Some place → place.file.kind ≡ 4 → (was : IsAddedPast to begin log new p path x place)
      → (m : Move) → In (planned_moves next entries) m → m.position ≡ was.number + (begin + 1) → m.path ≡ path → m.name ≡ x → ⊥
  none_of_these p path x place h here four was m i position path_is name_is =
      let past : to < was.number + (begin + 1) = was.past in
      let since : was.number + (begin + 1) ≤ p = was.since in
      let low : new.floor ≤ to = last.moved in
      let same : (q : ℕ) → own_at new q m.path m.name ≡ own_at new q path x = λ q. ap (λ (k : List ℕ). own_at new q k m.name) path_is ∙ ap (own_at new q path) name_is in
      left_by m i p place (omega arith) h (λ q b c. ap is_some (same q ∙ was.own q (omega arith) (omega arith) c)) (same p ∙ here) four

  none_between : (p : ℕ) (path x : List ℕ) (place : Place) → p ≤ new.front → own_at new p path x ≡ Some place → place.file.kind ≡ 4 → (was : IsAddedPast to begin log new p path x place)
      → was.number + (begin + 1) ≤ to + length entries → ⊥
  none_between p path x place h here four was late =
      let (a, adds, name) = in-any (λ (b : Added). b.name ≡ x) (added_by was.entry.change) was.adds in
      let (m, i, is) = of_record was.number was.entry a was.there was.past late adds in
      none_of_these p path x place h here four was m i (is.position ∙ positioned base (begin + 1) log was.number was.entry legal was.there) (is.path ∙ was.at_path) (is.name ∙ name)

  pub batch_moved : AreMovedTo to begin log old → AreMovedTo (to + length entries) begin log new
  batch_moved h =
      let now : AreMovedTo to begin log new = all_moved to begin base log legal (planned_moves next entries) of_plan old new first moves h in
      record {
        each = λ p path x place l m here four.
            let was = now.each p path x place l m here four in
            record {
              number = was.number;
              entry = was.entry;
              there = was.there;
              file = was.file;
              past = ⊎_elim (λ late. absurd (none_between p path x place m here four was late)) (λ past. past) (at_most (was.number + (begin + 1)) (to + length entries));
              since = was.since;
              at_path = was.at_path;
              adds = was.adds;
              own = was.own;
            };
      }

  pub batch_held : (Held : List ℕ → Place → Type 0) → All (IsMoveHeld Held begin log) (planned_moves next entries) → AreHeld Held begin base log old → AreHeld Held begin base log new
  batch_held Held held h =
      all_held to begin base log legal Held (recursion_from_All IsBuilt log built) (planned_moves next entries) of_plan old new first moves (recursion_from_All (IsMoveHeld Held begin log) (planned_moves next entries) held) h

pub all_stood : (Held : List ℕ → Place → Type 0) (begin to n next : ℕ) (log entries : List Entry) (states : States) → begin ≤ to → entries ≡ take n (drop (to - begin) log) → ((whole : List ℕ) (place : Place) → IsStillAt states place whole → Held whole place)
    → All (StandsMoved to entries states) (planned_moves next entries) → All (IsMoveHeld Held begin log) (planned_moves next entries)
all_stood Held begin to n next log entries states low are still stand =
    All-from_recursion (IsMoveHeld Held begin log) (planned_moves next entries)
    (all_of (IsMoveHeld Held begin log) (planned_moves next entries)
    (λ m i. stood begin to n log entries are low Held states still m (each (StandsMoved to entries states) (planned_moves next entries) m (recursion_from_All (StandsMoved to entries states) (planned_moves next entries) stand) i)))
