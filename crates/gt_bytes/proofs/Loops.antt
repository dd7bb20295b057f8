-- A list with a count, as a loop over the count reads it.
use Rattle.std.proofs.Common.{◌≡◌, ℕ, zero, suc, ◌+◌, ◌-◌, ◌<◌, ◌≤◌, List, [], ◌∷◌, ◌++◌, Result, Ok, Err, IsOk, eqb, false, refl, sym, subst, ◌∙◌, arith}
use Rattle.std.specs.Int.{w32}
use Rattle.gt_bytes.specs.declared.error.FieldError.{FieldError}
use Rattle.gt_bytes.specs.declared.error.FieldError.TheVariants.{BadField, Memory}
use Rattle.gt_bytes.specs.Reading.{number_at, many_at, counted_at, first_at}
use Rattle.gt_bytes.specs.Answers.{Fails}

-- one item more
pub many_step : {A : Type 0} (item : List A → ℕ → Result (A × ℕ) ℕ) (count i : ℕ) (front : List A) (at : ℕ) (x : A × ℕ) (total : Result (List A × ℕ) ℕ) → i < count → item front at ≡ Ok x
    → many_at item (count - i) front at ≡ total → many_at item (count - (i + 1)) (front ++ x.0 ∷ []) x.1 ≡ total
many_step item count i front at x total lt h so_far =
    let k : count - i ≡ suc (count - (i + 1)) = omega arith in
    let one : many_at item (count - i) front at ≡ many_at item (count - (i + 1)) (front ++ x.0 ∷ []) x.1 = rw (k, h) refl in
    sym one ∙ so_far

-- a bad item
pub many_ends : {A : Type 0} (item : List A → ℕ → Result (A × ℕ) ℕ) (count i : ℕ) (front : List A) (at fault : ℕ) (total : Result (List A × ℕ) ℕ) → i < count → item front at ≡ Err fault
    → many_at item (count - i) front at ≡ total → total ≡ Err fault
many_ends item count i front at fault total lt h so_far =
    let k : count - i ≡ suc (count - (i + 1)) = omega arith in
    let one : many_at item (count - i) front at ≡ Err fault = rw (k, h) refl in
    sym so_far ∙ one

-- no item is left
pub many_done : {A : Type 0} (item : List A → ℕ → Result (A × ℕ) ℕ) (count i : ℕ) (front : List A) (at : ℕ) (total : Result (List A × ℕ) ℕ) → count ≤ i
    → many_at item (count - i) front at ≡ total → total ≡ Ok (front, at)
many_done item count i front at total le so_far =
    let k : count - i ≡ 0 = omega arith in
    let one : many_at item (count - i) front at ≡ Ok (front, at) = rw k refl in
    sym so_far ∙ one

-- the loop begins after the count
pub counted_begins : {A : Type 0} (item : List A → ℕ → Result (A × ℕ) ℕ) (bytes : List ℕ) (from count begin : ℕ) → number_at w32 bytes from ≡ Ok (count, begin) → many_at item (count - 0) [] begin ≡ counted_at item bytes from
counted_begins item bytes from count begin e =
    let k : count - 0 ≡ count = omega arith in
    rw (e, k) refl

-- the count is cut
pub counted_short : {A : Type 0} (item : List A → ℕ → Result (A × ℕ) ℕ) (bytes : List ℕ) (from at : ℕ) → number_at w32 bytes from ≡ Err at → counted_at item bytes from ≡ Err at
counted_short item bytes from at e = rw e refl

-- an item fails
pub many_fails : {A : Type 0} (e : FieldError) (item : List A → ℕ → Result (A × ℕ) ℕ) (count i : ℕ) (front : List A) (at : ℕ) (total : Result (List A × ℕ) ℕ) → i < count → Fails e (item front at) → many_at item (count - i) front at ≡ total → Fails e total
many_fails Memory item count i front at total lt h so_far = tt
many_fails (BadField d) item count i front at total lt h so_far = many_ends item count i front at d total lt h so_far

-- how far the first item of the loop has come: before it nothing was read, after it it was
pub record IsBegun {A : Type 0} (item : List A → ℕ → Result (A × ℕ) ℕ) (bytes : List ℕ) (from begin i : ℕ) (front : List A) (at : ℕ) : Type 0 where
  pub none : i ≡ 0 → (front ≡ []) × (at ≡ begin)
  pub some : 1 ≤ i → IsOk (first_at item bytes from)

-- an item that is read is the first, or comes after it
pub first_read : {A : Type 0} (item : List A → ℕ → Result (A × ℕ) ℕ) (bytes : List ℕ) (from count begin i : ℕ) (front : List A) (at : ℕ) → number_at w32 bytes from ≡ Ok (count, begin) → i < count
    → IsBegun item bytes from begin i front at → IsOk (item front at) → IsOk (first_at item bytes from)
first_read item bytes from zero begin i front at e lt so_far ok = absurd (omega (arith, lt))
first_read {A} item bytes from (suc k) begin zero front at e lt so_far ok =
    let is = so_far.none refl in
    let P : List A → Type 0 = λ xs. IsOk (item xs begin) in
    let Q : ℕ → Type 0 = λ n. IsOk (item front n) in
    let some : eqb (suc k) 0 ≡ false = grind arith in
    rw (e, some) (subst P is.0 (subst Q is.1 ok))
first_read item bytes from (suc k) begin (suc i) front at e lt so_far ok = so_far.some (omega arith)

-- the loop begins before the first item
pub first_begins : {A : Type 0} (item : List A → ℕ → Result (A × ℕ) ℕ) (bytes : List ℕ) (from begin : ℕ) → IsBegun item bytes from begin 0 [] begin
first_begins item bytes from begin = record { none = λ _. (refl, refl); some = λ le. absurd (omega (arith, le)) }

-- an item more was read
pub first_step : {A : Type 0} (item : List A → ℕ → Result (A × ℕ) ℕ) (bytes : List ℕ) (from begin i : ℕ) (front : List A) (at : ℕ) → IsOk (first_at item bytes from) → IsBegun item bytes from begin (i + 1) front at
first_step item bytes from begin i front at ok = record { none = λ e. absurd (omega (arith, e)); some = λ _. ok }
