-- How marking goes on, and how it ends.
use Rattle.std.proofs.Common.{◌≡◌, ◌≢◌, ◌↔◌, ℕ, Bool, false, true≢false, IsTrue, ◌+◌, ◌<◌, ◌≤◌, List, [], ◌∷◌, ◌++◌, length, get_or, slice_get, Some, refl, sym, subst, ◌∙◌, arith}
use Rattle.std.specs.List.{All, AllWithin, HoldsAt, IsAmong}
use Rattle.std.proofs.lemmas.List.Elements.{All-append, All-same, All-weaker, AllWithin-more}
use Rattle.std.proofs.lemmas.Option.{slice_get_within, get_or_from_slice_get}
use Rattle.gt_mark.specs.Reach.{Pair, Mentions, IsWay, IsReached}
use Rattle.gt_mark.specs.Marking.{Found, IsOnce, IsLookedUp, IsUnderway, IsLeast, Extends, Finds, IsNamed, IsMentioned}
use Rattle.gt_mark.proofs.Pairs.{onward, weaker, extends, longer, stays, at_front, within_front, here_front, among}

-- ---- one index more

pub good_more : (P : Pair → Type 0) (now new : List Pair) (low i next : ℕ) → next ≡ i + 1 → i < length now → Extends now new → AllWithin P now low i → HoldsAt P now i → AllWithin P new low next
good_more P now new low i next is lt longer all here =
    subst (λ (n : ℕ). AllWithin P new low n) (sym is)
    (AllWithin-more P new low i (within_front P now new low i longer (omega (arith, lt)) all) (here_front P now new i longer lt here))

pub good_still : (P : Pair → Type 0) (now new : List Pair) (low i next : ℕ) → next ≡ i → i < length now → Extends now new → AllWithin P now low i → AllWithin P new low next
good_still P now new low i next is lt longer all =
    subst (λ (n : ℕ). AllWithin P new low n) (sym is) (within_front P now new low i longer (omega (arith, lt)) all)

pub bad_still : (P : Pair → Type 0) (now new : List Pair) (i next : ℕ) → next ≡ i → i < length now → Extends now new → HoldsAt P now i → HoldsAt P new next
bad_still P now new i next is lt longer here = subst (λ (n : ℕ). HoldsAt P new n) (sym is) (here_front P now new i longer lt here)

-- what is left where marking isn't done
pub next_left : (b : Bool) (i n : ℕ) → (IsTrue b ↔ (i ≡ n)) → i ≤ n → b ≡ false → i < n
next_left b i n done within not =
    let apart : i ≢ n = λ e. true≢false (sym (done.1 e) ∙ not) in
    omega (arith, apart, within)

module _ (mentions : Mentions) where
  -- the same pair mentions it in the longer list
  later_mention : (now new : List Pair) (low high wide : ℕ) → Extends now new → high ≤ length now → high ≤ wide → (p : Pair) → IsMentioned mentions now low high p → IsMentioned mentions new low wide p
  later_mention now new low high wide longer fits wider p (i, from, to, here) =
      (i, from, omega (arith, to, wider), here_front (λ q. IsNamed q.0 (mentions q.0 q.1) p) now new i longer (omega (arith, to, fits)) here)

  -- one pair more was looked up, at least in part
  pub only_more : (old now new : List Pair) (low high : ℕ) → low ≤ high → high < length now → Extends now new → Finds (IsMentioned mentions now low high) old now → Finds (IsMentioned mentions now high (high + 1)) now new
      → Finds (IsMentioned mentions new low (high + 1)) old new
  only_more old now new low high on lt longer before one =
      onward (IsMentioned mentions new low (high + 1)) old now new
      (weaker (IsMentioned mentions now low high) (IsMentioned mentions new low (high + 1)) old now (later_mention now new low high (high + 1) longer (omega (arith, lt)) (omega arith)) before)
      (weaker (IsMentioned mentions now high (high + 1)) (IsMentioned mentions new low (high + 1)) now new (λ p h. lower p (later_mention now new high (high + 1) (high + 1) longer (omega (arith, lt)) (omega arith) p h)) one)
    where
      lower : (p : Pair) → IsMentioned mentions new high (high + 1) p → IsMentioned mentions new low (high + 1) p
      lower p (i, from, to, here) = (i, omega (arith, from, on), to, here)

  -- as many as were asked for may be looked up
  pub only_asked : (old new : List Pair) (low high wide : ℕ) → high ≤ wide → Finds (IsMentioned mentions new low high) old new → Finds (IsMentioned mentions new low wide) old new
  only_asked old new low high wide wider f = weaker (IsMentioned mentions new low high) (IsMentioned mentions new low wide) old new (λ p (i, from, to, here). (i, from, omega (arith, to, wider), here)) f

-- the pair at an index
pub pair_at : (P : Pair → Type 0) (ps : List Pair) (i : ℕ) (q : Pair) → slice_get ps i ≡ Some q → P q → HoldsAt P ps i
pair_at P ps i q at h d = subst P (sym (get_or_from_slice_get ps i q d at)) h

-- what holds of the next pair
pub next_at : (P : Pair → Type 0) (marked : List Pair) (looked : ℕ) (old : Found) → record { pairs = marked; looked = looked } ≡ old → (q : Pair) → Some q ≡ slice_get marked looked → P q → HoldsAt P old.pairs old.looked
next_at P marked looked old view q at h = subst (λ (f : Found). HoldsAt P f.pairs f.looked) view (pair_at P marked looked q (sym at) h)

module _ (roots : List Pair) (mentions : Mentions) where
  -- ---- the begin

  pub begins : (found : List Pair) → Finds (IsAmong roots) [] found → All (IsAmong found) roots → IsUnderway roots mentions (record { pairs = found; looked = 0 })
  begins found finds all = record {
    within = omega arith;
    roots_found = all;
    reached = All-same (IsReached roots mentions) found finds.rest finds.grows (All-weaker (IsAmong roots) (IsReached roots mentions) (λ p h. ([], h)) finds.rest finds.each);
    looked_up = λ k d from to. absurd (omega (arith, to));
  }

  -- the roots and the first list, each seen in two ways
  pub begun : (slice first found : List Pair) → slice ≡ roots → first ≡ [] → Finds (IsAmong slice) first found → All (IsAmong found) slice → IsUnderway roots mentions (record { pairs = found; looked = 0 })
  begun slice first found is none finds all =
      begins found
      (subst (λ (ps : List Pair). Finds (IsAmong roots) ps found) none (subst (λ (rs : List Pair). Finds (IsAmong rs) first found) is finds))
      (subst (λ (rs : List Pair). All (IsAmong found) rs) is all)

  -- ---- the next pair

  -- what a reached pair mentions is reached
  one_more : (q p : Pair) → IsReached roots mentions q → IsNamed q.0 (mentions q.0 q.1) p → IsReached roots mentions p
  one_more q p (way, is) (e, h) = (q.1 ∷ way, subst (λ (path : List ℕ). IsAmong (mentions path q.1) p.1 × IsWay roots mentions path q.1 way) (sym e) (h, is))

  module _ (old new : Found) (q : Pair) (at : slice_get old.pairs old.looked ≡ Some q) (finds : Finds (IsNamed q.0 (mentions q.0 q.1)) old.pairs new.pairs) (u : IsUnderway roots mentions old) where
    grown : Extends old.pairs new.pairs
    grown = extends (IsNamed q.0 (mentions q.0 q.1)) old.pairs new.pairs finds

    this_reached : IsReached roots mentions q
    this_reached = subst (IsReached roots mentions) (get_or_from_slice_get old.pairs old.looked q q at) (u.reached old.looked q (slice_get_within old.pairs old.looked q at))

    all_reached : All (IsReached roots mentions) new.pairs
    all_reached =
        All-same (IsReached roots mentions) new.pairs (old.pairs ++ finds.rest) finds.grows
        (All-append (IsReached roots mentions) old.pairs finds.rest u.reached
        (All-weaker (IsNamed q.0 (mentions q.0 q.1)) (IsReached roots mentions) (λ p h. one_more q p this_reached h) finds.rest finds.each))

    roots_stay : All (IsAmong new.pairs) roots
    roots_stay = All-weaker (IsAmong old.pairs) (IsAmong new.pairs) (stays old.pairs new.pairs grown) roots u.roots_found

    -- what was looked up before stays so
    before : AllWithin (IsLookedUp mentions new.pairs) new.pairs 0 old.looked
    before =
        within_front (IsLookedUp mentions new.pairs) old.pairs new.pairs 0 old.looked grown u.within
        (λ k d from to name h. stays old.pairs new.pairs grown ((get_or old.pairs k d).0, name) (u.looked_up k d from to name h))

    -- it stopped before all that the pair mentions was found
    pub stopped : new.looked ≡ old.looked → IsUnderway roots mentions new
    stopped same = record {
      within = omega (arith, same, u.within, longer old.pairs new.pairs grown);
      roots_found = roots_stay;
      reached = all_reached;
      looked_up = subst (λ (n : ℕ). AllWithin (IsLookedUp mentions new.pairs) new.pairs 0 n) (sym same) before;
    }

    this_looked_up : All (λ name. IsAmong new.pairs (q.0, name)) (mentions q.0 q.1) → HoldsAt (IsLookedUp mentions new.pairs) new.pairs old.looked
    this_looked_up all d =
        subst (IsLookedUp mentions new.pairs)
        (sym (at_front old.pairs new.pairs old.looked d grown (slice_get_within old.pairs old.looked q at) ∙ get_or_from_slice_get old.pairs old.looked q d at))
        (λ name h. among (λ (n : List ℕ). IsAmong new.pairs (q.0, n)) (mentions q.0 q.1) name all h)

    -- all that the pair mentions was found
    pub went_on : new.looked ≡ old.looked + 1 → All (λ name. IsAmong new.pairs (q.0, name)) (mentions q.0 q.1) → IsUnderway roots mentions new
    went_on next all = record {
      within = omega (arith, next, slice_get_within old.pairs old.looked q at, longer old.pairs new.pairs grown);
      roots_found = roots_stay;
      reached = all_reached;
      looked_up = subst (λ (n : ℕ). AllWithin (IsLookedUp mentions new.pairs) new.pairs 0 n) (sym next)
          (AllWithin-more (IsLookedUp mentions new.pairs) new.pairs 0 old.looked before (this_looked_up all));
    }

  -- The same, as the code has it: a pair is at its index, its path was copied, and its names were read and seen as a slice.
  module _ (marked : List Pair) (looked : ℕ) (old : Found) (view : record { pairs = marked; looked = looked } ≡ old) (q : Pair) (at : Some q ≡ slice_get marked looked)
      (path : List ℕ) (names slice : List (List ℕ)) (copy : path ≡ q.0) (seen : slice ≡ names) (read : names ≡ mentions q.0 q.1) (new : List Pair) (finds : Finds (IsNamed path slice) marked new) where
    found_of : Finds (IsNamed q.0 (mentions q.0 q.1)) marked new
    found_of = subst (λ (p : List ℕ). Finds (IsNamed p (mentions q.0 q.1)) marked new) copy (subst (λ (ns : List (List ℕ)). Finds (IsNamed path ns) marked new) (seen ∙ read) finds)

    was : IsUnderway roots mentions old → IsUnderway roots mentions (record { pairs = marked; looked = looked })
    was u = subst (IsUnderway roots mentions) (sym view) u

    pub stopped_there : IsUnderway roots mentions old → IsUnderway roots mentions (record { pairs = new; looked = looked })
    stopped_there u = stopped (record { pairs = marked; looked = looked }) (record { pairs = new; looked = looked }) q (sym at) found_of (was u) refl

    pub only_this : Finds (IsMentioned mentions old.pairs old.looked (old.looked + 1)) old.pairs new
    only_this =
        subst (λ (f : Found). Finds (IsMentioned mentions f.pairs f.looked (f.looked + 1)) f.pairs new) view
        (weaker (IsNamed q.0 (mentions q.0 q.1)) (IsMentioned mentions marked looked (looked + 1)) marked new (λ p h. (looked, omega arith, omega arith, pair_at (λ r. IsNamed r.0 (mentions r.0 r.1) p) marked looked q (sym at) h)) found_of)

    pub went_there : All (λ name. IsAmong new (path, name)) slice → IsUnderway roots mentions old → IsUnderway roots mentions (record { pairs = new; looked = looked + 1 })
    went_there all u =
        went_on (record { pairs = marked; looked = looked }) (record { pairs = new; looked = looked + 1 }) q (sym at) found_of (was u) refl
        (subst (λ (p : List ℕ). All (λ name. IsAmong new (p, name)) (mentions q.0 q.1)) copy (subst (λ (ns : List (List ℕ)). All (λ name. IsAmong new (path, name)) ns) (seen ∙ read) all))

  -- ---- the end

  module _ (f : Found) (u : IsUnderway roots mentions f) (all : f.looked ≡ length f.pairs) where
    -- what a found pair mentions is found
    closed : (path needer name : List ℕ) → IsAmong f.pairs (path, needer) → IsAmong (mentions path needer) name → IsAmong f.pairs (path, name)
    closed path needer name (i, (lt, is)) =
        subst (IsLookedUp mentions f.pairs) (sym is) (u.looked_up i (path, needer) (omega arith) (omega (arith, lt, all))) name

    -- the last of a way that begins at a root is found
    way_there : (path name : List ℕ) (way : List (List ℕ)) → IsWay roots mentions path name way → IsAmong f.pairs (path, name)
    way_there path name [] root = among (IsAmong f.pairs) roots (path, name) u.roots_found root
    way_there path name (needer ∷ way) (h, rest) = closed path needer name (way_there path needer way rest) h

    pub ends : IsOnce f.pairs → IsLeast roots mentions f.pairs
    ends once = record {
      once = once;
      only = u.reached;
      whole = λ pair reached. way_there pair.0 pair.1 reached.0 reached.1;
    }
