-- What stands one after the other in the bytes.
use Rattle.std.proofs.Common.{◌≡◌, ℕ, ◌+◌, ◌≤◌, List, ◌++◌, length, take, drop, refl, sym, ap, subst, ◌∙◌, append_assoc, arith, inl, inr, slice_range}
use Rattle.std.proofs.lemmas.Bool.{cases_lt}
use Rattle.std.proofs.lemmas.List.{drop_at, drop-drop, take-append-drop, length-append, length-take, length-drop, get_or-drop, get_or-take, get_or_past}
use Rattle.gt_bytes.specs.Standing.{IsBytes, Stands}

pub IsBytes-drop : (n : ℕ) (bytes : List ℕ) → IsBytes bytes → IsBytes (drop n bytes)
IsBytes-drop n bytes h i = rw get_or-drop (h (n + i))

pub IsBytes-take : (n : ℕ) (bytes : List ℕ) → IsBytes bytes → IsBytes (take n bytes)
IsBytes-take n bytes h i =
    elim (cases_lt i n) [
      | inl lt ↦ rw (get_or-take n bytes i 0 lt) (h i)
      | inr le ↦ rw (get_or_past (take n bytes) i 0 (omega (arith, length-take n bytes))) (omega arith)
    ]

-- two parts, one after the other
pub Stands-then : (bytes : List ℕ) (a : ℕ) (x : List ℕ) (m : ℕ) (y : List ℕ) (n : ℕ) → Stands bytes a x m → Stands bytes m y n → Stands bytes a (x ++ y) n
Stands-then bytes a x m y n p q = record {
  parts = p.parts ∙ ap (λ (t : List ℕ). x ++ t) q.parts ∙ sym (append_assoc x y (drop n bytes));
  after = omega (arith, p.after, q.after, length-append x y);
  within = q.within;
}

-- the two parts of what stands there
pub Stands-first : (bytes : List ℕ) (a : ℕ) (x y : List ℕ) (n : ℕ) → a ≤ length bytes → Stands bytes a (x ++ y) n → Stands bytes a x (a + length x) × Stands bytes (a + length x) y n
Stands-first bytes a x y n le p =
    let whole : drop a bytes ≡ x ++ (y ++ drop n bytes) = p.parts ∙ append_assoc x y (drop n bytes) in
    let back : drop (a + length x) bytes ≡ y ++ drop n bytes = sym (drop-drop (length x) a bytes) ∙ ap (drop (length x)) whole ∙ drop_at x (y ++ drop n bytes) (length x) refl in
    let len = length-append x y in
    let end = p.after in
    let inside = p.within in
    (record { parts = whole ∙ ap (λ (t : List ℕ). x ++ t) (sym back); after = refl; within = omega (arith, len, end, inside) }, record { parts = back; after = omega (arith, len, end); within = inside })

-- the front of what is left
pub Stands-front : (bytes : List ℕ) (a n : ℕ) → a + n ≤ length bytes → Stands bytes a (take n (drop a bytes)) (a + n)
Stands-front bytes a n le = record {
  parts = sym (take-append-drop n (drop a bytes)) ∙ ap (λ (t : List ℕ). take n (drop a bytes) ++ t) (drop-drop n a bytes);
  after = omega (arith, length-take n (drop a bytes), length-drop a bytes);
  within = le;
}

-- the same part
pub Stands-same : (bytes : List ℕ) (a : ℕ) (x y : List ℕ) (n : ℕ) → x ≡ y → Stands bytes a x n → Stands bytes a y n
Stands-same bytes a x y n e p = let P : List ℕ → Type 0 = λ t. Stands bytes a t n in subst P e p

-- what is cut out behind a place is the front of what is left
pub range_is : (bytes : List ℕ) (a n : ℕ) → slice_range bytes a (a + n) ≡ take n (drop a bytes)
range_is bytes a n = ap (λ (k : ℕ). take k (drop a bytes)) (omega arith)

-- a part between two others
pub Stands-between : (front part rest : List ℕ) → Stands (front ++ (part ++ rest)) (length front) part (length front + length part)
Stands-between front part rest =
    let after : drop (length front) (front ++ (part ++ rest)) ≡ part ++ rest = drop_at front (part ++ rest) (length front) refl in
    let end : drop (length front + length part) (front ++ (part ++ rest)) ≡ rest = sym (drop-drop (length part) (length front) (front ++ (part ++ rest))) ∙ ap (drop (length part)) after ∙ drop_at part rest (length part) refl in
    record { parts = after ∙ ap (λ (t : List ℕ). part ++ t) (sym end); after = refl; within = omega (arith, length-append front (part ++ rest), length-append part rest) }

-- a part that begins what is left
pub Stands-from : (bytes : List ℕ) (at : ℕ) (part tail : List ℕ) → at ≤ length bytes → drop at bytes ≡ part ++ tail → Stands bytes at part (at + length part)
Stands-from bytes at part tail le e =
    let end : drop (at + length part) bytes ≡ tail = sym (drop-drop (length part) at bytes) ∙ ap (drop (length part)) e ∙ drop_at part tail (length part) refl in
    record { parts = e ∙ ap (λ (t : List ℕ). part ++ t) (sym end); after = refl; within = omega (arith, length-drop at bytes, ap length e, length-append part tail) }
