-- Lists of pairs to which further pairs are added where they aren't there.
use Rattle.std.proofs.Common.{◌≡◌, ◌⊎◌, inl, inr, ℕ, zero, suc, ◌+◌, ◌<◌, ◌≤◌, Bool, true, false, ◌&&◌, ◌||◌, if◌then◌else◌, List, [], ◌∷◌, ◌++◌, length, take, get_or, refl, sym, ap, subst, ◌∙◌, append_assoc, length-append, true≢false, arith}
use Rattle.std.specs.List.{All, AllWithin, HoldsAt, IsAmong, IsDistinct, list_any}
use Rattle.std.specs.Cmp.Lexicographic.{nat_list_eq_equiv, same_text}
use Rattle.std.proofs.lemmas.List.{append-nil, get_or_append_left, take_all}
use Rattle.std.proofs.lemmas.List.Elements.{All-from_recursion, All-append, All-more, All-push, All-nil, All-weaker}
use Rattle.indexmap.specs.IndexSet.{insert_key}
use Rattle.gt_model.specs.Verdicts.{same_name}
use Rattle.gt_model.specs.Jobs.{same_pair}
use Rattle.gt_model.proofs.Members.{first, there, cases, none, in_front, in_back}
use Rattle.gt_mark.specs.Reach.{Pair}
use Rattle.gt_mark.specs.Marking.{IsOnce, Extends, Finds, IsNamed}

-- ---- the test whether two pairs are one

both : (a b : Bool) → (a && b) ≡ true → (a ≡ true) × (b ≡ true)
both true b e = (refl, e)
both false b e = absurd (true≢false (sym e))

pair_is : (x y : Pair) → same_pair x y ≡ true → x ≡ y
pair_is x y e =
    let p = both (same_name x.0 y.0) (same_name x.1 y.1) e in
    λ i. (same_text x.0 y.0 (sym p.0) i, same_text x.1 y.1 (sym p.1) i)

same_pair_refl : (x : Pair) → same_pair x x ≡ true
same_pair_refl x = λ i. nat_list_eq_equiv.refl x.0 i && nat_list_eq_equiv.refl x.1 i

same_from_is : (x y : Pair) → x ≡ y → same_pair x y ≡ true
same_from_is x y is = subst (λ (z : Pair). same_pair x z ≡ true) is (same_pair_refl x)

-- a pair that the test finds is there
pub found_there : (q : Pair) (ps : List Pair) → list_any (same_pair q) ps ≡ true → IsAmong ps q
found_there q [] e = absurd (true≢false (sym e))
found_there q (x ∷ xs) e = by (λ e. found_there q xs e) (same_pair q x) refl e
  where
    by : (list_any (same_pair q) xs ≡ true → IsAmong xs q) → (b : Bool) → same_pair q x ≡ b → (b || list_any (same_pair q) xs) ≡ true → IsAmong (x ∷ xs) q
    by rest true t e = first x xs q (pair_is q x t)
    by rest false t e = there x xs q (rest e)

-- and one that is there is found
pub there_found : (q : Pair) (ps : List Pair) → IsAmong ps q → list_any (same_pair q) ps ≡ true
there_found q [] h = absurd (none q h)
there_found q (x ∷ xs) h = by (λ h. there_found q xs h) (cases x xs q h)
  where
    or_true : (a b : Bool) → b ≡ true → (a || b) ≡ true
    or_true true b e = refl
    or_true false b e = e

    by : (IsAmong xs q → list_any (same_pair q) xs ≡ true) → (q ≡ x) ⊎ IsAmong xs q → (same_pair q x || list_any (same_pair q) xs) ≡ true
    by rest (inl is) = ap (λ (b : Bool). b || list_any (same_pair q) xs) (same_from_is q x is)
    by rest (inr h) = or_true (same_pair q x) (list_any (same_pair q) xs) (rest h)

-- distinct by the test, so distinct
pub once : (ps : List Pair) → IsDistinct same_pair ps → IsOnce ps
unfolding IsDistinct
once [] distinct i j d lt within = absurd (omega (arith, lt, within))
once (x ∷ xs) distinct zero zero d lt within = absurd (omega (arith, lt))
once (x ∷ xs) distinct zero (suc j) d lt within =
    λ is. true≢false (sym (same_from_is x (get_or xs j d) is) ∙ All-from_recursion (λ y. same_pair x y ≡ false) xs distinct.0 j d (omega (arith, within)))
once (x ∷ xs) distinct (suc i) zero d lt within = absurd (omega (arith, lt))
once (x ∷ xs) distinct (suc i) (suc j) d lt within = once xs distinct.1 i j d (omega (arith, lt)) (omega (arith, within))

-- ---- further pairs

pub same : (rule : Pair → Type 0) (a : List Pair) → Finds rule a a
same rule a = record { rest = []; grows = sym (append-nil a); each = All-nil rule }

pub onward : (rule : Pair → Type 0) (a b c : List Pair) → Finds rule a b → Finds rule b c → Finds rule a c
onward rule a b c f g = record {
  rest = f.rest ++ g.rest;
  grows = g.grows ∙ ap (λ (ps : List Pair). ps ++ g.rest) f.grows ∙ append_assoc a f.rest g.rest;
  each = All-append rule f.rest g.rest f.each g.each;
}

pub weaker : (rule other : Pair → Type 0) (a b : List Pair) → ((p : Pair) → rule p → other p) → Finds rule a b → Finds other a b
weaker rule other a b h f = record { rest = f.rest; grows = f.grows; each = All-weaker rule other h f.rest f.each }

pub extends : (rule : Pair → Type 0) (a b : List Pair) → Finds rule a b → Extends a b
extends rule a b f = (f.rest, f.grows)

pub further : (a b c : List Pair) → Extends a b → Extends b c → Extends a c
further a b c (more, is) (rest, ends) = (more ++ rest, ends ∙ ap (λ (ps : List Pair). ps ++ rest) is ∙ append_assoc a more rest)

pub longer : (a b : List Pair) → Extends a b → length a ≤ length b
longer a b (more, is) = let e : length b ≡ length a + length more = ap length is ∙ length-append a more in omega (arith, e)

pub stays : (a b : List Pair) → Extends a b → (q : Pair) → IsAmong a q → IsAmong b q
stays a b (more, is) q h = subst (λ (ps : List Pair). IsAmong ps q) (sym is) (in_front a more q h)

pub at_front : (a b : List Pair) (i : ℕ) (d : Pair) → Extends a b → i < length a → get_or b i d ≡ get_or a i d
at_front a b i d (more, is) lt = ap (λ (ps : List Pair). get_or ps i d) is ∙ get_or_append_left a more d i lt

pub within_front : (P : Pair → Type 0) (a b : List Pair) (low high : ℕ) → Extends a b → high ≤ length a → AllWithin P a low high → AllWithin P b low high
within_front P a b low high longer fits all k d from to = subst P (sym (at_front a b k d longer (omega (arith, fits, to)))) (all k d from to)

pub here_front : (P : Pair → Type 0) (a b : List Pair) (i : ℕ) → Extends a b → i < length a → HoldsAt P a i → HoldsAt P b i
here_front P a b i longer lt here d = subst P (sym (at_front a b i d longer lt)) (here d)

pub among : {X : Type 0} (P : X → Type 0) (xs : List X) (x : X) → All P xs → IsAmong xs x → P x
among P xs x all (i, (lt, is)) = subst P (sym is) (all i x lt)

-- ---- one pair

-- a pair is added where it isn't there
pub inserted : (ks : List Pair) (q : Pair) → Finds (λ p. p ≡ q) ks (insert_key same_pair ks q)
inserted ks q = by (list_any (same_pair q) ks)
  where
    by : (b : Bool) → Finds (λ p. p ≡ q) ks (if b then ks else ks ++ q ∷ [])
    by true = same (λ p. p ≡ q) ks
    by false = record { rest = q ∷ []; grows = refl; each = All-push (λ p. p ≡ q) [] q (All-nil (λ p. p ≡ q)) refl }

pub inserted_there : (ks : List Pair) (q : Pair) → IsAmong (insert_key same_pair ks q) q
inserted_there ks q = by (list_any (same_pair q) ks) refl
  where
    by : (b : Bool) → list_any (same_pair q) ks ≡ b → IsAmong (if b then ks else ks ++ q ∷ []) q
    by true t = found_there q ks t
    by false t = in_back ks (q ∷ []) q (first q [] q refl)

-- A copy of the pair is inserted into the keys, which are the list.
module _ (ks old new : List Pair) (q : Pair) (path : List ℕ) (view : ks ≡ old) (copy : path ≡ q.0) (put : new ≡ insert_key same_pair ks (path, q.1)) where
  as_inserted : new ≡ insert_key same_pair old q
  as_inserted = put ∙ (λ i. insert_key same_pair (view i) (copy i, q.1))

  pub added : Finds (λ p. p ≡ q) old new
  added = subst (λ (ps : List Pair). Finds (λ p. p ≡ q) old ps) (sym as_inserted) (inserted old q)

  pub added_there : IsAmong new q
  added_there = subst (λ (ps : List Pair). IsAmong ps q) (sym as_inserted) (inserted_there old q)

-- ---- one pair after the other

item_among : {X : Type 0} (xs : List X) (i : ℕ) (x : X) → i < length xs → x ≡ get_or xs i x → IsAmong xs x
item_among xs i x lt is = (i, (lt, is))

pub all_more : (pairs old now new : List Pair) (i : ℕ) (q : Pair) → i < length pairs → q ≡ get_or pairs i q → Finds (IsAmong pairs) old now → Finds (λ p. p ≡ q) now new → Finds (IsAmong pairs) old new
all_more pairs old now new i q lt is before one =
    onward (IsAmong pairs) old now new before (weaker (λ p. p ≡ q) (IsAmong pairs) now new (λ p e. subst (IsAmong pairs) (sym e) (item_among pairs i q lt is)) one)

pub names_more : (path : List ℕ) (names : List (List ℕ)) (old now new : List Pair) (i : ℕ) (at name : List ℕ) → i < length names → name ≡ get_or names i name → at ≡ path
    → Finds (IsNamed path names) old now → Finds (λ p. p ≡ (at, name)) now new → Finds (IsNamed path names) old new
names_more path names old now new i at name lt is this before one =
    onward (IsNamed path names) old now new before
    (weaker (λ p. p ≡ (at, name)) (IsNamed path names) now new (λ p e. (ap (λ (r : Pair). r.0) e ∙ this, subst (IsAmong names) (sym (ap (λ (r : Pair). r.1) e)) (item_among names i name lt is))) one)

pub there_more : {X : Type 0} (f : X → Pair) (xs : List X) (now new : List Pair) (i : ℕ) (x : X) → i < length xs → x ≡ get_or xs i x → Extends now new → All (λ y. IsAmong now (f y)) (take i xs) → IsAmong new (f x) → All (λ y. IsAmong new (f y)) (take (i + 1) xs)
there_more f xs now new i x lt is longer before here =
    All-more (λ y. IsAmong new (f y)) xs i x lt
    (All-weaker (λ y. IsAmong now (f y)) (λ y. IsAmong new (f y)) (λ y h. stays now new longer (f y) h) (take i xs) before)
    (subst (λ y. IsAmong new (f y)) is here)

-- all of them
pub all_taken : {X : Type 0} (P : X → Type 0) (xs : List X) (i : ℕ) → length xs ≤ i → All P (take i xs) → All P xs
all_taken {X} P xs i h all = subst (λ (ys : List X). All P ys) (take_all i xs h) all
