-- A field that is read stands there as it is spelled, and what stands there as it is spelled is read.
use Rattle.std.proofs.Common.{◌≡◌, ℕ, ◌+◌, ◌^◌, ◌<◌, ◌≤◌, cond, false, ltb, List, [], ◌∷◌, ◌++◌, length, take, drop, Result, Ok, Err, refl, sym, ap, subst, ◌∙◌, arith, slice_range}
use Rattle.std.specs.Int.{Width, w16, w32, w64, byte_len, from_be_bytes, to_be_bytes}
use Rattle.std.proofs.lemmas.Bool.{ltb-false, le-ltb}
use Rattle.std.proofs.lemmas.List.{take_at, length-append, length-take, length-drop}
use Rattle.std.proofs.lemmas.Nat.{be_bytes_2, be_bytes_4, be_bytes_8, from_be_bytes-to_be_bytes_2, from_be_bytes-to_be_bytes_4, from_be_bytes-to_be_bytes_8}
use Rattle.gt_bytes.specs.Spelling.{text}
use Rattle.gt_bytes.specs.Reading.{byte_from, byte_at, number_at, name_at, text_at}
use Rattle.gt_bytes.specs.Standing.{IsBytes, Stands, IsField, IsReadAgain}
use Rattle.gt_bytes.proofs.Steps.{bind_ok, guard_ok}
use Rattle.gt_bytes.proofs.StandingLaws.{IsBytes-drop, IsBytes-take, Stands-then, Stands-first, Stands-front, Stands-same, Stands-between, range_is}

-- what is read exactly where it stands is read between any front and rest
pub field_again : {A : Type 0} (read : List ℕ → ℕ → Result (A × ℕ) ℕ) (s : A → List ℕ) (F : A → Type 0) → ((bytes : List ℕ) → IsField bytes (read bytes) s F) → IsReadAgain read s F
field_again read s F each = λ front x rest fits. (each (front ++ (s x ++ rest))).again (length front) x (length front + length (s x)) (omega (arith, length-append front (s x ++ rest))) (Stands-between front (s x) rest) fits

-- ---- numbers

-- a width whose numbers below the limit and whose bytes give each other back
pub record IsWide (w : Width) (limit : ℕ) : Type 0 where
  pub len : (n : ℕ) → length (to_be_bytes w n) ≡ byte_len w
  pub back : (bytes : List ℕ) → length bytes ≡ byte_len w → IsBytes bytes → to_be_bytes w (from_be_bytes w bytes) ≡ bytes
  pub again : (n : ℕ) → n < limit → from_be_bytes w (to_be_bytes w n) ≡ n
  pub below : (bytes : List ℕ) → IsBytes bytes → from_be_bytes w bytes < limit

pub wide16 : IsWide w16 (2 ^ 16)
wide16 = record {
  len = λ n. refl;
  back = λ bytes len fits. be_bytes_2 bytes _ len fits refl;
  again = λ n lt. from_be_bytes-to_be_bytes_2 n lt;
  below = λ bytes fits. omega (arith, fits 0, fits 1);
}

pub wide32 : IsWide w32 (2 ^ 32)
wide32 = record {
  len = λ n. refl;
  back = λ bytes len fits. be_bytes_4 bytes _ len fits refl;
  again = λ n lt. from_be_bytes-to_be_bytes_4 n lt;
  below = λ bytes fits. omega (arith, fits 0, fits 1, fits 2, fits 3);
}

pub wide64 : IsWide w64 (2 ^ 64)
wide64 = record {
  len = λ n. refl;
  back = λ bytes len fits. be_bytes_8 bytes _ len fits refl;
  again = λ n lt. from_be_bytes-to_be_bytes_8 n lt;
  below = λ bytes fits. omega (arith, fits 0, fits 1, fits 2, fits 3, fits 4, fits 5, fits 6, fits 7);
}

module _ (bytes : List ℕ) (fits : IsBytes bytes) where
  pub number_takes : (w : Width) (limit : ℕ) → IsWide w limit → (at : ℕ) (x : ℕ × ℕ) → at ≤ length bytes → number_at w bytes at ≡ Ok x → Stands bytes at (to_be_bytes w x.0) x.1 × (x.0 < limit)
  number_takes w limit wide at x le e =
      let rest : List ℕ = drop at bytes in
      let front : List ℕ = take (byte_len w) (drop at bytes) in
      let g = guard_ok (ltb (length (drop at bytes)) (byte_len w)) at (from_be_bytes w (take (byte_len w) (drop at bytes)), at + byte_len w) x e in
      let long : byte_len w ≤ length (drop at bytes) = ltb-false _ _ g.0 in
      let room : at + byte_len w ≤ length bytes = omega (arith, length-drop at bytes) in
      let good : IsBytes (take (byte_len w) (drop at bytes)) = IsBytes-take (byte_len w) (drop at bytes) (IsBytes-drop at bytes fits) in
      let len : length (take (byte_len w) (drop at bytes)) ≡ byte_len w = omega (arith, length-take (byte_len w) (drop at bytes)) in
      let there = Stands-same bytes at (take (byte_len w) (drop at bytes)) (to_be_bytes w (from_be_bytes w (take (byte_len w) (drop at bytes)))) (at + byte_len w) (sym (wide.back (take (byte_len w) (drop at bytes)) len good)) (Stands-front bytes at (byte_len w) room) in
      let P : ℕ × ℕ → Type 0 = λ y. Stands bytes at (to_be_bytes w y.0) y.1 × (y.0 < limit) in
      subst P g.1 (there, wide.below (take (byte_len w) (drop at bytes)) good)

-- a number that stands there is read
pub number_again : (bytes : List ℕ) (w : Width) (limit : ℕ) → IsWide w limit → (at n next : ℕ) → at ≤ length bytes → Stands bytes at (to_be_bytes w n) next → n < limit → number_at w bytes at ≡ Ok (n, next)
number_again bytes w limit wide at n next le s lt =
    let len = wide.len n in
    let long : ltb (length (drop at bytes)) (byte_len w) ≡ false = le-ltb _ _ (omega (arith, s.after, s.within, len, length-drop at bytes)) in
    let front : take (byte_len w) (drop at bytes) ≡ to_be_bytes w n = ap (take (byte_len w)) s.parts ∙ take_at (to_be_bytes w n) (drop next bytes) (byte_len w) len in
    let after : at + byte_len w ≡ next = omega (arith, s.after, len) in
    rw (long, front, wide.again n lt, after) refl

-- a number
pub number_field : (bytes : List ℕ) (w : Width) (limit : ℕ) → IsWide w limit → IsField bytes (number_at w bytes) (to_be_bytes w) (λ n. n < limit)
number_field bytes w limit wide = record { takes = λ fits. number_takes bytes fits w limit wide; again = number_again bytes w limit wide }

-- ---- a byte

byte_takes : (bytes : List ℕ) → IsBytes bytes → (at : ℕ) (rest : List ℕ) (x : ℕ × ℕ) → at ≤ length bytes → drop at bytes ≡ rest → byte_from rest at ≡ Ok x → Stands bytes at (x.0 ∷ []) x.1 × (x.0 < 256)
byte_takes bytes fits at [] x le r e = absurd cc
byte_takes bytes fits at (b ∷ rest) x le r e =
    let is : (b, at + 1) ≡ x = cc in
    let first : b < 256 = let h = IsBytes-drop at bytes fits 0 in rw r at h in
    let room : at + 1 ≤ length bytes = omega (arith, length-drop at bytes, ap length r) in
    let there = Stands-same bytes at (take 1 (drop at bytes)) (b ∷ []) (at + 1) (ap (take 1) r) (Stands-front bytes at 1 room) in
    let P : ℕ × ℕ → Type 0 = λ y. Stands bytes at (y.0 ∷ []) y.1 × (y.0 < 256) in
    subst P is (there, first)

byte_again : (bytes : List ℕ) (at n next : ℕ) → at ≤ length bytes → Stands bytes at (n ∷ []) next → n < 256 → byte_at bytes at ≡ Ok (n, next)
byte_again bytes at n next le s lt = let e : next ≡ at + 1 = s.after in rw (s.parts, e) refl

pub byte_field : (bytes : List ℕ) → IsField bytes (byte_at bytes) (λ b. b ∷ []) (λ b. b < 256)
byte_field bytes = record { takes = λ fits at x le e. byte_takes bytes fits at (drop at bytes) x le refl e; again = byte_again bytes }

-- ---- a name

pub name_field : (bytes : List ℕ) → IsField bytes (name_at bytes) (λ x. x) (λ x. length x ≡ 20)
name_field bytes = record { takes = takes; again = again }
  where
    takes : IsBytes bytes → (at : ℕ) (x : List ℕ × ℕ) → at ≤ length bytes → name_at bytes at ≡ Ok x → Stands bytes at x.0 x.1 × (length x.0 ≡ 20)
    takes fits at x le e =
        let g = guard_ok (ltb (length (drop at bytes)) 20) at (take 20 (drop at bytes), at + 20) x e in
        let long : 20 ≤ length (drop at bytes) = ltb-false _ _ g.0 in
        let room : at + 20 ≤ length bytes = omega (arith, length-drop at bytes) in
        let P : List ℕ × ℕ → Type 0 = λ y. Stands bytes at y.0 y.1 × (length y.0 ≡ 20) in
        subst P g.1 (Stands-front bytes at 20 room, omega (arith, length-take 20 (drop at bytes)))

    again : (at : ℕ) (x : List ℕ) (next : ℕ) → at ≤ length bytes → Stands bytes at x next → length x ≡ 20 → name_at bytes at ≡ Ok (x, next)
    again at x next le s len =
        let long : ltb (length (drop at bytes)) 20 ≡ false = le-ltb _ _ (omega (arith, s.after, s.within, length-drop at bytes)) in
        let front : take 20 (drop at bytes) ≡ x = ap (take 20) s.parts ∙ take_at x (drop next bytes) 20 len in
        let after : at + 20 ≡ next = omega (arith, s.after) in
        rw (long, front, after) refl

-- ---- a text

pub text_field : (bytes : List ℕ) → IsField bytes (text_at bytes) text (λ x. length x < 2 ^ 16)
unfolding text_at
text_field bytes = record { takes = takes; again = again }
  where
    takes : IsBytes bytes → (at : ℕ) (x : List ℕ × ℕ) → at ≤ length bytes → text_at bytes at ≡ Ok x → Stands bytes at (text x.0) x.1 × (length x.0 < 2 ^ 16)
    takes fits at x le e =
        let b = bind_ok (number_at w16 bytes at) (λ n. cond (ltb (length (drop n.1 bytes)) n.0) (Err at) (Ok (slice_range bytes n.1 (n.1 + n.0), n.1 + n.0))) x e in
        let n = b.0 in
        let t = number_takes bytes fits w16 (2 ^ 16) wide16 at n le b.1 in
        let g = guard_ok (ltb (length (drop n.1 bytes)) n.0) at (slice_range bytes n.1 (n.1 + n.0), n.1 + n.0) x b.2 in
        let long : n.0 ≤ length (drop n.1 bytes) = ltb-false _ _ g.0 in
        let room : n.1 + n.0 ≤ length bytes = omega (arith, length-drop n.1 bytes, t.0.within) in
        let body : List ℕ = take n.0 (drop n.1 bytes) in
        let len : length (take n.0 (drop n.1 bytes)) ≡ n.0 = omega (arith, length-take n.0 (drop n.1 bytes)) in
        let both = Stands-then bytes at (to_be_bytes w16 n.0) n.1 (take n.0 (drop n.1 bytes)) (n.1 + n.0) t.0 (Stands-front bytes n.1 n.0 room) in
        let whole = Stands-same bytes at (to_be_bytes w16 n.0 ++ take n.0 (drop n.1 bytes)) (text (take n.0 (drop n.1 bytes))) (n.1 + n.0) (ap (λ (k : ℕ). to_be_bytes w16 k ++ take n.0 (drop n.1 bytes)) (sym len)) both in
        let small : length (take n.0 (drop n.1 bytes)) < 2 ^ 16 = omega (arith, t.1) in
        let is : (take n.0 (drop n.1 bytes), n.1 + n.0) ≡ x = ap (λ (z : List ℕ). (z, n.1 + n.0)) (sym (range_is bytes n.1 n.0)) ∙ g.1 in
        let P : List ℕ × ℕ → Type 0 = λ y. Stands bytes at (text y.0) y.1 × (length y.0 < 2 ^ 16) in
        subst P is (whole, small)

    again : (at : ℕ) (x : List ℕ) (next : ℕ) → at ≤ length bytes → Stands bytes at (text x) next → length x < 2 ^ 16 → text_at bytes at ≡ Ok (x, next)
    again at x next le s lt =
        let p = Stands-first bytes at (to_be_bytes w16 (length x)) x next le s in
        let mid : ℕ = at + 2 in
        let n = number_again bytes w16 (2 ^ 16) wide16 at (length x) (at + 2) le p.0 lt in
        let q : Stands bytes (at + 2) x next = p.1 in
        let long : ltb (length (drop (at + 2) bytes)) (length x) ≡ false = le-ltb _ _ (omega (arith, q.after, q.within, length-drop (at + 2) bytes)) in
        let front : slice_range bytes (at + 2) (at + 2 + length x) ≡ x = range_is bytes (at + 2) (length x) ∙ ap (take (length x)) q.parts ∙ take_at x (drop next bytes) (length x) refl in
        let after : at + 2 + length x ≡ next = omega (arith, q.after) in
        rw (n, long, front, after) refl
