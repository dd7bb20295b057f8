-- A walk over a list, as a loop does it.
use Rattle.std.proofs.Common.{◌≡◌, ℕ, suc, ◌+◌, ◌<◌, ◌≤◌, List, [], ◌∷◌, length, drop, get_or, Result, Ok, Err, refl, sym, ◌∙◌, arith, drop-cons}
use Rattle.std.proofs.lemmas.List.{drop_all}
use Rattle.gt_bytes.specs.declared.error.FieldError.{FieldError}
use Rattle.gt_bytes.specs.declared.error.FieldError.TheVariants.{BadField, Memory}
use Rattle.gt_bytes.specs.Answers.{Fails}
use Rattle.gt_manifest.specs.Whole.{State, walk}

-- one item more
pub walk_step : {A : Type 0} (step : State → A → Result State ℕ) (xs : List A) (i : ℕ) (x : A) (s t : State) (total : Result State ℕ) → i < length xs → x ≡ get_or xs i x → step s x ≡ Ok t
    → walk step s (drop i xs) ≡ total → walk step t (drop (i + 1) xs) ≡ total
walk_step step xs i x s t total lt is moved so_far =
    let k : suc i ≡ i + 1 = omega arith in
    let rest : drop i xs ≡ x ∷ drop (i + 1) xs = drop-cons xs i x lt ∙ rw (sym is, k) refl in
    let one : walk step s (drop i xs) ≡ walk step t (drop (i + 1) xs) = rw (rest, moved) refl in
    sym one ∙ so_far

-- a bad item
walk_ends : {A : Type 0} (step : State → A → Result State ℕ) (xs : List A) (i : ℕ) (x : A) (s : State) (at : ℕ) (total : Result State ℕ) → i < length xs → x ≡ get_or xs i x → step s x ≡ Err at
    → walk step s (drop i xs) ≡ total → total ≡ Err at
walk_ends step xs i x s at total lt is bad so_far =
    let k : suc i ≡ i + 1 = omega arith in
    let rest : drop i xs ≡ x ∷ drop (i + 1) xs = drop-cons xs i x lt ∙ rw (sym is, k) refl in
    let one : walk step s (drop i xs) ≡ Err at = rw (rest, bad) refl in
    sym so_far ∙ one

pub walk_fails : {A : Type 0} (e : FieldError) (step : State → A → Result State ℕ) (xs : List A) (i : ℕ) (x : A) (s : State) (total : Result State ℕ) → i < length xs → x ≡ get_or xs i x → Fails e (step s x)
    → walk step s (drop i xs) ≡ total → Fails e total
walk_fails Memory step xs i x s total lt is bad so_far = tt
walk_fails (BadField at) step xs i x s total lt is bad so_far = walk_ends step xs i x s at total lt is bad so_far

-- no item is left
pub walk_done : {A : Type 0} (step : State → A → Result State ℕ) (xs : List A) (i : ℕ) (s : State) (total : Result State ℕ) → length xs ≤ i
    → walk step s (drop i xs) ≡ total → total ≡ Ok s
walk_done step xs i s total le so_far =
    let none : drop i xs ≡ [] = drop_all i xs le in
    let one : walk step s (drop i xs) ≡ Ok s = rw none refl in
    sym so_far ∙ one
