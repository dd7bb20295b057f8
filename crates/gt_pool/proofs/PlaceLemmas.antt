-- Pieces that are put at their places.
use Rattle.std.proofs.Common.{◌≡◌, ◌≢◌, ◌∙◌, ℕ, suc, ◌+◌, ◌<◌, ◌≤◌, nat_eq, ne_eqb, eq-eqb, le-ltb, List, [], ◌∷◌, ◌++◌, length, map, set, get_or, Option, Some, None, Result, Ok, Err, IfOk, refl, sym, ap, subst, arith}
use Rattle.std.proofs.lemmas.List.{get_or-set_same, get_or-set_other, length-set}
use Rattle.std.proofs.lemmas.Option.{slice_get-map, get_or_from_slice_get}
use Rattle.std.specs.Prelude.{slice_get}
use Rattle.std.specs.Option.{option_map}
use Rattle.std.specs.List.{AllByRecursion}
use mathlib.Core.Logic.{dite}
use native.Mathlib.Decide.{ℕ_discrete, dec_le}
use Rattle.gt_pool.specs.declared.numbered.Numbered.{Numbered}
use Rattle.gt_pool.specs.Counting.{pick, times, below}
use Rattle.gt_pool.specs.Working.{InOrder}
use Rattle.gt_pool.specs.Workers.{indices_of, AreGiven, AreFilled, AreAwaited}
use Rattle.gt_pool.proofs.Totals.{total_append}
use Rattle.gt_pool.proofs.ChainLemmas.{indices_more, all_less}

some_is : {A : Type 0} (x y : A) → Some x ≡ Some y → x ≡ y
some_is x y e = cc

some_none : {A : Type 0} (x : A) → Some x ≡ None → ⊥
some_none x e = absurd cc

pub filled_more : {P : Type 0} (gives : ℕ → P → Type 0) (slots : List (Option P)) (i : ℕ) (p : P) → i < length slots → AreFilled gives slots → gives i p → AreFilled gives (set slots i (Some p))
filled_more gives slots i p lt h one j q e =
    dite (ℕ_discrete j i)
    (λ (is : j ≡ i).
    let at : get_or (set slots i (Some p)) i None ≡ Some q = ap (λ (k : ℕ). get_or (set slots i (Some p)) k None) (sym is) ∙ e in
    let same : p ≡ q = some_is p q (sym (get_or-set_same slots i (Some p) None lt) ∙ at) in
    subst (λ (k : ℕ). gives k q) (sym is) (subst (gives i) same one))
    (λ (other : j ≢ i). h j q (sym (get_or-set_other slots i j (Some p) None other) ∙ e))

pub awaited_less : {P : Type 0} (slots : List (Option P)) (count : ℕ) (xs : List (Numbered P)) (x : Numbered P) → x.index < length slots → AreAwaited slots count (xs ++ x ∷ []) → AreAwaited (set slots x.index (Some x.piece)) count xs
awaited_less slots count xs x lt h j below_count e =
    dite (ℕ_discrete j x.index)
    (λ (is : j ≡ x.index).
    let at : get_or (set slots x.index (Some x.piece)) x.index None ≡ None = ap (λ (k : ℕ). get_or (set slots x.index (Some x.piece)) k None) (sym is) ∙ e in
    absurd (some_none x.piece (sym (get_or-set_same slots x.index (Some x.piece) None lt) ∙ at)))
    (λ (other : j ≢ x.index).
    let was = h j below_count (sym (get_or-set_other slots x.index j (Some x.piece) None other) ∙ e) in
    let all = ap (times j) (indices_more xs x) in
    let sum = total_append (λ y. pick (nat_eq y j) 1 0) (indices_of xs) (x.index ∷ []) in
    let none = ap {B = ℕ} (λ b. pick b 1 0) (ne_eqb x.index j (λ same. other (sym same))) in
    omega (arith, was, all, sum, none))

pub all_inside : {P : Type 0} (count : ℕ) (xs : List (Numbered P)) → ((x : ℕ) → times x (indices_of xs) ≤ below x count) → AllByRecursion (λ x. x.index < count) xs
all_inside count [] h = tt
all_inside count (y ∷ ys) h = (head, all_inside count ys (λ x. let le = h x in omega (arith, le)))
  where
    self : ℕ
    self = pick (nat_eq y.index y.index) 1 0

    one : self ≡ 1
    one = ap {B = ℕ} (λ b. pick b 1 0) (eq-eqb y.index y.index refl)

    head : y.index < count
    head =
        let le = h y.index in
        dite (dec_le (y.index + 1) count)
        (λ (lt : y.index + 1 ≤ count). omega (arith, lt))
        (λ past. let none = ap {B = ℕ} (λ b. pick b 1 0) (le-ltb y.index count (omega (arith, past))) in absurd (omega (arith, le, one, none)))

length_some : {P : Type 0} (xs : List P) → length (map (λ (p : P). Some p) xs) ≡ length xs
length_some [] = refl
length_some (x ∷ xs) = ap suc (length_some xs)

pub pieces_in_order : {P : Type 0} (gives : ℕ → P → Type 0) (count : ℕ) (pieces : List P) (slots : List (Option P)) → map (λ p. Some p) pieces ≡ slots → length slots ≡ count → AreFilled gives slots → InOrder gives count pieces
pieces_in_order {P} gives count pieces slots is len filled = record {
  all = (let a = length_some pieces in let b = ap length is in omega (arith, a, b, len));
  each = λ i p e.
      let at : slice_get slots i ≡ Some (Some p) = ap (λ (xs : List (Option P)). slice_get xs i) (sym is) ∙ slice_get-map (λ (q : P). Some q) pieces i ∙ ap (option_map (λ (q : P). Some q)) e in
      filled i p (get_or_from_slice_get slots i (Some p) None at);
}

pub all_in_order : {P E : Type 0} (gives : ℕ → P → Type 0) (count : ℕ) (slots : List (Option P)) (r : Result (List P) E) → IfOk r (λ ps. map (λ p. Some p) ps ≡ slots) → length slots ≡ count → AreFilled gives slots → IfOk r (InOrder gives count)
all_in_order gives count slots (Ok ps) is len filled = pieces_in_order gives count ps slots is len filled
all_in_order gives count slots (Err e) is len filled = tt

-- one piece more is at its place
pub record IsPlacing {P : Type 0} (gives : ℕ → P → Type 0) (count : ℕ) (slots : List (Option P)) (left : List (Numbered P)) : Type 0 where
  pub len : length slots ≡ count
  pub inside : AllByRecursion (λ x. x.index < count) left
  pub given : AreGiven gives left
  pub filled : AreFilled gives slots
  pub awaited : AreAwaited slots count left

pub one_placed : {P : Type 0} (gives : ℕ → P → Type 0) (count : ℕ) (slots after : List (Option P)) (left rest : List (Numbered P)) (x : Numbered P)
    → left ≡ rest ++ x ∷ [] → after ≡ set slots x.index (Some x.piece) → IsPlacing gives count slots left → IsPlacing gives count after rest
one_placed {P} gives count slots after left rest x is set_is h =
    let inside = all_less (λ (y : Numbered P). y.index < count) rest x (subst (AllByRecursion (λ y. y.index < count)) is h.inside) in
    let given = all_less (λ (y : Numbered P). gives y.index y.piece) rest x (subst (AreGiven gives) is h.given) in
    let lt : x.index < length slots = (let a = inside.1 in let b = h.len in omega (arith, a, b)) in
    record {
      len = (let a = ap length set_is in let b = length-set slots x.index (Some x.piece) in let c = h.len in omega (arith, a, b, c));
      inside = inside.0;
      given = given.0;
      filled = subst (AreFilled gives) (sym set_is) (filled_more gives slots x.index x.piece lt h.filled given.1);
      awaited = subst (λ (xs : List (Option P)). AreAwaited xs count rest) (sym set_is) (awaited_less slots count rest x lt (subst (AreAwaited slots count) is h.awaited));
    }
