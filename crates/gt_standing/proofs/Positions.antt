-- Contents at the positions of a log over a base, and how long an own object keeps its record.
use Rattle.std.proofs.Common.{◌≡◌, ℕ, zero, suc, ◌+◌, ◌-◌, ◌<◌, ◌≤◌, is_some, length, take, drop, List, [], ◌∷◌, Some, None, IsSome, sym, ap, ◌∙◌, subst, arith, IsTrue, slice_get}
use Rattle.std.proofs.Math.Seq.{take-add}
use Rattle.std.specs.List.{AllByRecursion}
use Rattle.gt_apply.specs.Plan.{added_by}
use Rattle.gt_apply.proofs.Lists.{In, each}
use Rattle.gt_base.specs.Built.{IsBuilt}
use Rattle.gt_model.specs.declared.added.Added.{Added}
use Rattle.gt_model.specs.declared.entry.Entry.{Entry}
use Rattle.gt_model.specs.Contents.{Content, own, after, after_all, at, fits, IsLegal}
use Rattle.gt_model.proofs.Logs.{after_all-append}
use Rattle.gt_moves.specs.Standing.{last_added}
use Rattle.gt_objset.specs.Table.{Table, own_at}
use Rattle.gt_standing.specs.Following.{Follows}
use Rattle.gt_standing.proofs.Entries.{added_new, added_made, own_stays}
use Rattle.gt_standing.proofs.Numbers.{in-number, some-number, some_of}

-- ---- one entry of a log

-- the first entries and one more
more : (c : Content) (log : List Entry) (k : ℕ) (e : Entry) → slice_get log k ≡ Some e → after_all c (take (suc k) log) ≡ after (after_all c (take k log)) e
more c [] k e is = absurd (cc is)
more c (x ∷ log) zero e is = let same : x ≡ e = cc is in ap (after c) same
more c (x ∷ log) (suc k) e is = more (after c x) log k e is

fits_there : (c : Content) (p : ℕ) (log : List Entry) (k : ℕ) (e : Entry) → IsLegal c p log → slice_get log k ≡ Some e → IsTrue (fits (after_all c (take k log)) e)
fits_there c p [] k e legal is = absurd (cc is)
fits_there c p (x ∷ log) zero e legal is = let same : x ≡ e = cc is in subst (λ (y : Entry). IsTrue (fits c y)) same legal.1
fits_there c p (x ∷ log) (suc k) e legal is = fits_there (after c x) (p + 1) log k e legal.2 is

-- The table owns what the content owns, from its floor to its front.
abbrev pub Owns : ℕ → Content → List Entry → Table → Type 0
Owns begin base log t = (p : ℕ) (path x : List ℕ) → t.floor ≤ p → p ≤ t.front → is_some (own_at t p path x) ≡ is_some (own (at begin base log p) path x)

-- ---- contents

-- the same content, counted from a later position on
pub counted_on : (begin floor p : ℕ) (base : Content) (log : List Entry) → begin ≤ floor → floor ≤ p → at begin base log p ≡ at floor (at begin base log floor) (drop (floor - begin) log) p
counted_on begin floor p base log low l =
    let n : p - begin ≡ (floor - begin) + (p - floor) = omega arith in
    ap (λ n. after_all base (take n log)) n
    ∙ ap (after_all base) (take-add (floor - begin) (p - floor) log)
    ∙ after_all-append base (take (floor - begin) log) (take (p - floor) (drop (floor - begin) log))

module _ (begin : ℕ) (base : Content) (log : List Entry) where
  pub owns : (t : Table) → Follows begin base log t → Owns begin base log t
  owns t h p path x l m = h.agrees.own p path x l m ∙ sym (ap (λ c. is_some (own c path x)) (counted_on begin t.floor p base log h.low l))

  abbrev content : ℕ → Content
  content p = at begin base log p

  before_is : (k : ℕ) → content (k + begin) ≡ after_all base (take k log)
  before_is k = let n : k + begin - begin ≡ k = omega arith in ap (λ n. after_all base (take n log)) n

  here_is : (k : ℕ) (e : Entry) → slice_get log k ≡ Some e → content (k + (begin + 1)) ≡ after (after_all base (take k log)) e
  here_is k e is = let n : k + (begin + 1) - begin ≡ suc k = omega arith in ap (λ n. after_all base (take n log)) n ∙ more base log k e is

  module _ (legal : IsLegal base (begin + 1) log) (k : ℕ) (e : Entry) (there : slice_get log k ≡ Some e) where
    -- What an entry adds isn't own just before it.
    pub new_before : (a : Added) → In (added_by e.change) a → own (content (k + begin)) e.path a.name ≡ None
    new_before a i = ap (λ c. own c e.path a.name) (before_is k) ∙ added_new (after_all base (take k log)) e.path e.change (fits_there base (begin + 1) log k e legal there) a i

    pub made_here : (a : Added) → In (added_by e.change) a → own (content (k + (begin + 1))) e.path a.name ≡ last_added e.change a.name
    made_here a i = ap (λ c. own c e.path a.name) (here_is k e there) ∙ added_made (after_all base (take k log)) e.path e.change (fits_there base (begin + 1) log k e legal there) a i

    stays_one : AllByRecursion IsBuilt log → (path x w v : List ℕ) → own (content (k + begin)) path x ≡ Some w → own (content (k + (begin + 1))) path x ≡ Some v → v ≡ w
    stays_one built path x w v before after =
        own_stays (after_all base (take k log)) e.path e.change (each IsBuilt log e built (in-number log k e there)) (fits_there base (begin + 1) log k e legal there) path x w v
        (sym (ap (λ c. own c path x) (before_is k)) ∙ before) (sym (ap (λ c. own c path x) (here_is k e there)) ∙ after)

  -- ---- an own object without a gap

  module _ (legal : IsLegal base (begin + 1) log) (built : AllByRecursion IsBuilt log) (path x : List ℕ) where
    next_same : (p : ℕ) (w : List ℕ) → begin ≤ p → p < begin + length log → own (content p) path x ≡ Some w → IsSome (own (content (p + 1)) path x) → own (content (p + 1)) path x ≡ Some w
    next_same p w low high is some =
        let (e, there) = some-number log (p - begin) (omega arith) in
        let one : p - begin + begin ≡ p = omega arith in
        let two : p - begin + (begin + 1) ≡ p + 1 = omega arith in
        let (v, now) = some_of (own (content (p + 1)) path x) some in
        now ∙ ap Some (stays_one legal (p - begin) e there built path x w v (ap (λ n. own (content n) path x) one ∙ is) (ap (λ n. own (content n) path x) two ∙ now))

    -- Where it is own from one position to another, it has one record.
    pub stays : (q : ℕ) (w : List ℕ) → begin ≤ q → own (content q) path x ≡ Some w → (d : ℕ) → q + d ≤ begin + length log → ((r : ℕ) → q ≤ r → r ≤ q + d → IsSome (own (content r) path x))
        → own (content (q + d)) path x ≡ Some w
    stays q w low is zero high run = let n : q + zero ≡ q = omega arith in ap (λ n. own (content n) path x) n ∙ is
    stays q w low is (suc d) high run =
        let n : q + suc d ≡ q + d + 1 = omega arith in
        ap (λ n. own (content n) path x) n
        ∙ next_same (q + d) w (omega arith) (omega arith) (stays q w low is d (omega arith) (λ r l m. run r l (omega arith)))
        (subst (λ (n : ℕ). IsSome (own (content n) path x)) n (run (q + suc d) (omega arith) (omega arith)))
