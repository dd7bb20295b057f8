-- The items of a pack are read exactly where they stand as they are spelled.
use Rattle.std.proofs.Common.{◌≡◌, ℕ, zero, suc, ◌+◌, ◌-◌, ◌*◌, ◌^◌, ◌<◌, ◌≤◌, Bool, true, false, cond, ltb, List, [], ◌∷◌, ◌++◌, length, take, drop, Option, Some, None, Result, Ok, Err, refl, sym, ap, subst, ◌∙◌, append_assoc, arith, slice_range}
use Rattle.std.specs.Prelude.{codes, nat_eq, slice_get}
use Rattle.std.specs.List.{flat_map, starts_with}
use Rattle.std.specs.Option.{option_map, is_none}
use Rattle.std.specs.Int.{w32, to_be_bytes}
use Rattle.std.proofs.lemmas.Bool.{ltb-false, le-ltb}
use Rattle.std.proofs.lemmas.Bool.Decides.{Decides-eqb}
use Rattle.std.proofs.lemmas.List.{take_at, length-take, length-drop, length-append, append-nil, get_or_at}
use Rattle.std.proofs.lemmas.List.Concat.{flat_map-cons}
use Rattle.std.proofs.lemmas.Option.{slice_get-get_or}
use Rattle.std.proofs.lemmas.Slice.Eq.{starts_is}
use Rattle.gt_bytes.specs.Reading.{◌>>=◌, number_at, name_at, many_at, pair_at}
use Rattle.gt_bytes.specs.Standing.{IsBytes, Stands, IsField}
use Rattle.gt_bytes.proofs.Steps.{bind_ok, kept_ok, ok_is}
use Rattle.gt_bytes.proofs.StandingLaws.{Stands-then, Stands-first, Stands-front, Stands-same, range_is}
use Rattle.gt_bytes.proofs.FieldLaws.{number_field, name_field, wide32}
use Rattle.gt_bytes.proofs.CombinatorLaws.{kept_field}
use Rattle.gt_object.specs.declared.error.ObjectError.{ObjectError}
use Rattle.gt_object.specs.Whole.{why_not}
use Rattle.gt_object.proofs.WholeLaws as wholes
use Rattle.gt_pack.specs.declared.placed.Placed.{Placed}
use Rattle.gt_pack.specs.Spelling.{Packed, item, place, places, above, IsPacked, ArePacked}
use Rattle.gt_pack.specs.Reading.{magic_at, is_record, last_name, name_above, record_at, to_placed, placed_at}

pub magic_field : (bytes : List ℕ) → IsField {A = Unit {0}} bytes (magic_at bytes) (λ _. codes "GTP1") (λ _. Unit {0})
magic_field bytes = record { takes = takes; again = again }
  where
    starts : (at : ℕ) → (starts_with nat_eq (drop at bytes) (codes "GTP1") ≡ true → drop at bytes ≡ codes "GTP1" ++ drop 4 (drop at bytes)) × ((rest : List ℕ) → drop at bytes ≡ codes "GTP1" ++ rest → starts_with nat_eq (drop at bytes) (codes "GTP1") ≡ true)
    starts at = starts_is Decides-eqb (drop at bytes) (codes "GTP1") (starts_with nat_eq (drop at bytes) (codes "GTP1")) refl

    takes : IsBytes bytes → (at : ℕ) (x : Unit {0} × ℕ) → at ≤ length bytes → magic_at bytes at ≡ Ok x → Stands bytes at (codes "GTP1") x.1 × Unit {0}
    takes good at x le e =
        let y : Unit {0} × ℕ = (tt, at + 4) in
        let k = kept_ok (starts_with nat_eq (drop at bytes) (codes "GTP1")) at y x e in
        let w = (starts at).0 k.0 in
        let room : at + 4 ≤ length bytes = omega (arith, ap length w, length-append (codes "GTP1") (drop 4 (drop at bytes)), length-drop at bytes) in
        let front : take 4 (drop at bytes) ≡ codes "GTP1" = ap (take 4) w in
        let there = Stands-same bytes at (take 4 (drop at bytes)) (codes "GTP1") (at + 4) front (Stands-front bytes at 4 room) in
        let P : Unit {0} × ℕ → Type 0 = λ z. Stands bytes at (codes "GTP1") z.1 × Unit {0} in
        subst P k.1 (there, tt)

    again : (at : ℕ) (x : Unit {0}) (next : ℕ) → at ≤ length bytes → Stands bytes at (codes "GTP1") next → Unit {0} → magic_at bytes at ≡ Ok (x, next)
    again at x next le st fits =
        let h = (starts at).1 (drop next bytes) st.parts in
        let after : at + 4 ≡ next = omega (arith, st.after) in
        rw (h, after) refl

name_above_field : (bytes : List ℕ) (before : Option (List ℕ)) → IsField bytes (name_above bytes before) (λ x. x) (λ x. (length x ≡ 20) × (above before x ≡ true))
unfolding name_above
name_above_field bytes before = kept_field bytes (name_at bytes) (λ x. x) (λ x. length x ≡ 20) (above before) (name_field bytes)

-- ---- a record

-- the length of a record, and the record
abbrev pub sized : List ℕ → List ℕ
sized w = to_be_bytes w32 (length w) ++ w

-- a record is short
pub small : (w : List ℕ) → why_not w ≡ None → length w ≤ 16777216
small w good = (wholes.record_takes w good).small

none_is : (o : Option ObjectError) → is_none o ≡ true → o ≡ None
none_is None e = refl
none_is (Some x) e = absurd cc

-- the record that stands here
record Record (bytes : List ℕ) (at : ℕ) (x : (ℕ × ℕ) × ℕ) : Type 0 where
  whole : List ℕ
  stands : Stands bytes at (sized whole) x.1
  good : why_not whole ≡ None
  here : x.0 ≡ (at + 4, length whole)

record_takes : (bytes : List ℕ) → IsBytes bytes → (at : ℕ) (x : (ℕ × ℕ) × ℕ) → at ≤ length bytes → record_at bytes at ≡ Ok x → Record bytes at x
unfolding record_at
record_takes bytes good at x le e =
    let f : ℕ × ℕ → Result ((ℕ × ℕ) × ℕ) ℕ = λ n. cond (ltb (length (drop n.1 bytes)) n.0) (Err n.1) (cond (is_record (slice_range bytes n.1 (n.1 + n.0))) (Ok ((n.1, n.0), n.1 + n.0)) (Err n.1)) in
    let b = bind_ok (number_at w32 bytes at) f x e in
    let n = b.0 in
    let t = (number_field bytes w32 (2 ^ 32) wide32).takes good at n le b.1 in
    rest n t.0 (ltb (length (drop n.1 bytes)) n.0) refl b.2
  where
    rest : (n : ℕ × ℕ) → Stands bytes at (to_be_bytes w32 n.0) n.1 → (b : Bool) → ltb (length (drop n.1 bytes)) n.0 ≡ b → cond b (Err n.1) (cond (is_record (slice_range bytes n.1 (n.1 + n.0))) (Ok ((n.1, n.0), n.1 + n.0)) (Err n.1)) ≡ Ok x → Record bytes at x
    rest n st true p q = absurd cc
    rest n st false p q =
        let y : (ℕ × ℕ) × ℕ = ((n.1, n.0), n.1 + n.0) in
        let k = kept_ok (is_record (slice_range bytes n.1 (n.1 + n.0))) n.1 y x q in
        let long : n.0 ≤ length (drop n.1 bytes) = ltb-false _ _ p in
        let room : n.1 + n.0 ≤ length bytes = omega (arith, length-drop n.1 bytes, st.within) in
        let w : List ℕ = take n.0 (drop n.1 bytes) in
        let len : length (take n.0 (drop n.1 bytes)) ≡ n.0 = omega (arith, length-take n.0 (drop n.1 bytes)) in
        let both = Stands-then bytes at (to_be_bytes w32 n.0) n.1 (take n.0 (drop n.1 bytes)) (n.1 + n.0) st (Stands-front bytes n.1 n.0 room) in
        let whole = Stands-same bytes at (to_be_bytes w32 n.0 ++ take n.0 (drop n.1 bytes)) (sized (take n.0 (drop n.1 bytes))) (n.1 + n.0) (ap (λ (j : ℕ). to_be_bytes w32 j ++ take n.0 (drop n.1 bytes)) (sym len)) both in
        let is : why_not (take n.0 (drop n.1 bytes)) ≡ None = none_is _ (ap is_record (sym (range_is bytes n.1 n.0)) ∙ k.0) in
        let begin : n.1 ≡ at + 4 = st.after in
        let places : (n.1, n.0) ≡ (at + 4, length (take n.0 (drop n.1 bytes))) = ap (λ (j : ℕ). (j, n.0)) begin ∙ ap (λ (j : ℕ). (at + 4, j)) (sym len) in
        let made : Record bytes at y = record { whole = w; stands = whole; good = is; here = places } in
        subst (Record bytes at) k.1 made

record_again : (bytes : List ℕ) (at : ℕ) (w : List ℕ) (next : ℕ) → at ≤ length bytes → Stands bytes at (sized w) next → why_not w ≡ None → record_at bytes at ≡ Ok ((at + 4, length w), next)
unfolding record_at
record_again bytes at w next le st good =
    let p = Stands-first bytes at (to_be_bytes w32 (length w)) w next le st in
    let n = (number_field bytes w32 (2 ^ 32) wide32).again at (length w) (at + 4) le p.0 (omega (arith, small w good)) in
    let q : Stands bytes (at + 4) w next = p.1 in
    let long : ltb (length (drop (at + 4) bytes)) (length w) ≡ false = le-ltb _ _ (omega (arith, q.after, q.within, length-drop (at + 4) bytes)) in
    let front : slice_range bytes (at + 4) (at + 4 + length w) ≡ w = range_is bytes (at + 4) (length w) ∙ ap (take (length w)) q.parts ∙ take_at w (drop next bytes) (length w) refl in
    let after : at + 4 + length w ≡ next = omega (arith, q.after) in
    rw (n, long, front, good, after) refl

-- ---- an item

-- how long an item is
pub length-item : (p : Packed) → length p.name ≡ 20 → length (item p) ≡ 24 + length p.whole
length-item p len = omega (arith, len, length-append p.name (sized p.whole), length-append (to_be_bytes w32 (length p.whole)) p.whole)

-- the item that stands here
record Item (bytes : List ℕ) (before : Option (List ℕ)) (at : ℕ) (x : Placed × ℕ) : Type 0 where
  packed : Packed
  stands : Stands bytes at (item packed) x.1
  fits : IsPacked before packed
  here : x.0 ≡ place at packed

placed_takes : (bytes : List ℕ) → IsBytes bytes → (before : List Placed) (at : ℕ) (x : Placed × ℕ) → at ≤ length bytes → placed_at bytes before at ≡ Ok x → Item bytes (last_name before) at x
unfolding placed_at
placed_takes bytes good before at x le e =
    let l : Option (List ℕ) = last_name before in
    let to : (List ℕ × (ℕ × ℕ)) × ℕ → Result (Placed × ℕ) ℕ = λ z. Ok (to_placed z.0, z.1) in
    let a = bind_ok (pair_at (name_above bytes l) (record_at bytes) at) to x e in
    let f : List ℕ × ℕ → Result ((List ℕ × (ℕ × ℕ)) × ℕ) ℕ = λ y. (let g : (ℕ × ℕ) × ℕ → Result ((List ℕ × (ℕ × ℕ)) × ℕ) ℕ = λ z. Ok ((y.0, z.0), z.1) in record_at bytes y.1 >>= g) in
    let b = bind_ok (name_above bytes l at) f a.0 a.1 in
    let g : (ℕ × ℕ) × ℕ → Result ((List ℕ × (ℕ × ℕ)) × ℕ) ℕ = λ z. Ok ((b.0.0, z.0), z.1) in
    let d = bind_ok (record_at bytes b.0.1) g a.0 b.2 in
    let n = (name_above_field bytes l).takes good at b.0 le b.1 in
    let r = record_takes bytes good b.0.1 d.0 n.0.within d.1 in
    let p : Packed = record { name = b.0.0; whole = r.whole } in
    let made : (List ℕ × (ℕ × ℕ)) × ℕ = ((b.0.0, d.0.0), d.0.1) in
    let begin : b.0.1 + 4 ≡ at + 24 = omega (arith, n.0.after, n.1.0) in
    let is : to_placed (b.0.0, d.0.0) ≡ place at p = ap (λ (z : ℕ × ℕ). to_placed (b.0.0, z)) (r.here ∙ ap (λ (j : ℕ). (j, length r.whole)) begin) in
    let there : Item bytes l at (to_placed (b.0.0, d.0.0), d.0.1) = record {
      packed = p;
      stands = Stands-then bytes at b.0.0 b.0.1 (sized r.whole) d.0.1 n.0 r.stands;
      fits = record { name = n.1.0; rises = n.1.1; good = r.good };
      here = is;
    } in
    let P : (List ℕ × (ℕ × ℕ)) × ℕ → Type 0 = λ z. Item bytes l at (to_placed z.0, z.1) in
    let y : Placed × ℕ = (to_placed a.0.0, a.0.1) in
    subst (Item bytes l at) (ok_is y x a.2) (subst P (ok_is made a.0 d.2) there)

placed_again : (bytes : List ℕ) (before : List Placed) (at : ℕ) (p : Packed) (next : ℕ) → at ≤ length bytes → Stands bytes at (item p) next → IsPacked (last_name before) p → placed_at bytes before at ≡ Ok (place at p, next)
unfolding placed_at
placed_again bytes before at p next le st fits =
    let s = Stands-first bytes at p.name (sized p.whole) next le st in
    let name = (name_above_field bytes (last_name before)).again at p.name (at + length p.name) le s.0 (fits.name, fits.rises) in
    let whole = record_again bytes (at + length p.name) p.whole next s.0.within s.1 fits.good in
    let begin : at + length p.name + 4 ≡ at + 24 = omega (arith, fits.name) in
    let f : ℕ → Result (Placed × ℕ) ℕ = λ j. Ok (to_placed (p.name, (j, length p.whole)), next) in
    rw (name, whole) (ap f begin)

-- ---- items

-- the name of the last
pub last_is : (front : List Placed) (e : Placed) → last_name (front ++ e ∷ []) ≡ Some e.name
last_is front e =
    let len : length (front ++ e ∷ []) - 1 ≡ length front = omega (arith, length-append front (e ∷ [])) in
    let inside : length front < length (front ++ e ∷ []) = omega (arith, length-append front (e ∷ [])) in
    let got : slice_get (front ++ e ∷ []) (length (front ++ e ∷ []) - 1) ≡ Some e = ap (slice_get (front ++ e ∷ [])) len ∙ slice_get-get_or (front ++ e ∷ []) (length front) e inside ∙ ap (λ (z : Placed). Some z) (get_or_at front e [] e (length front) refl) in
    ap (option_map (λ z. z.name)) got

-- the items that stand here
pub record Items (bytes : List ℕ) (front : List Placed) (at n : ℕ) (x : List Placed × ℕ) : Type 0 where
  pub packed : List Packed
  pub here : x.0 ≡ front ++ places at packed
  pub count : length packed ≡ n
  pub stands : Stands bytes at (flat_map item packed) x.1
  pub fits : ArePacked (last_name front) packed

module _ (bytes : List ℕ) where
  pub items_take : IsBytes bytes → (n : ℕ) (front : List Placed) (at : ℕ) (x : List Placed × ℕ) → at ≤ length bytes → many_at (placed_at bytes) n front at ≡ Ok x → Items bytes front at n x
  items_take good zero front at x le e =
      let start : Items bytes front at zero (front, at) = record { packed = []; here = sym (append-nil front); count = refl; stands = record { parts = refl; after = omega arith; within = le }; fits = tt } in
      subst (Items bytes front at zero) (ok_is (front, at) x e) start
  items_take good (suc n) front at x le e =
      let a = bind_ok (placed_at bytes front at) (λ y. many_at (placed_at bytes) n (front ++ y.0 ∷ []) y.1) x e in
      let f = placed_takes bytes good front at a.0 le a.1 in
      let m = items_take good n (front ++ a.0.0 ∷ []) a.0.1 x f.stands.within a.2 in
      let p = f.packed in
      let begin : a.0.1 ≡ at + 24 + length p.whole = omega (arith, f.stands.after, length-item p f.fits.name) in
      let both = Stands-then bytes at (item p) a.0.1 (flat_map item m.packed) x.1 f.stands m.stands in
      let next : last_name (front ++ a.0.0 ∷ []) ≡ Some p.name = last_is front a.0.0 ∙ ap (λ (z : Placed). Some z.name) f.here in
      record {
        packed = p ∷ m.packed;
        here = m.here ∙ append_assoc front (a.0.0 ∷ []) (places a.0.1 m.packed) ∙ ap (λ (z : Placed). front ++ z ∷ places a.0.1 m.packed) f.here ∙ ap (λ (j : ℕ). front ++ place at p ∷ places j m.packed) begin;
        count = ap suc m.count;
        stands = rw flat_map-cons both;
        fits = (f.fits, subst (λ (o : Option (List ℕ)). ArePacked o m.packed) next m.fits);
      }

  pub items_again : (ps : List Packed) (front : List Placed) (at next : ℕ) → at ≤ length bytes → Stands bytes at (flat_map item ps) next → ArePacked (last_name front) ps → many_at (placed_at bytes) (length ps) front at ≡ Ok (front ++ places at ps, next)
  items_again [] front at next le st fits =
      let e : at ≡ next = omega (arith, st.after) in
      rw (append-nil front, e) refl
  items_again (p ∷ ps) front at next le st fits =
      let whole : Stands bytes at (item p ++ flat_map item ps) next = Stands-same bytes at (flat_map item (p ∷ ps)) (item p ++ flat_map item ps) next (flat_map-cons item p ps) st in
      let s = Stands-first bytes at (item p) (flat_map item ps) next le whole in
      let h = placed_again bytes front at p (at + length (item p)) le s.0 fits.0 in
      let named : Some p.name ≡ last_name (front ++ place at p ∷ []) = sym (last_is front (place at p)) in
      let m = items_again ps (front ++ place at p ∷ []) (at + length (item p)) next s.0.within s.1 (subst (λ (o : Option (List ℕ)). ArePacked o ps) named fits.1) in
      let begin : at + length (item p) ≡ at + 24 + length p.whole = omega (arith, length-item p fits.0.name) in
      let f : List Placed → Result (List Placed × ℕ) ℕ = λ es. Ok (es, next) in
      rw h (m ∙ ap f (append_assoc front (place at p ∷ []) (places (at + length (item p)) ps) ∙ ap (λ (j : ℕ). front ++ place at p ∷ places j ps) begin))

-- items are short enough for numbers of 8 bytes
pub size : (before : Option (List ℕ)) (ps : List Packed) → ArePacked before ps → length (flat_map item ps) ≤ 16777240 * length ps
size before [] fits = omega arith
size before (p ∷ ps) fits =
    let e : length (flat_map item (p ∷ ps)) ≡ length (item p) + length (flat_map item ps) = ap length (flat_map-cons item p ps) ∙ length-append (item p) (flat_map item ps) in
    omega (arith, e, length-item p fits.0.name, small p.whole fits.0.good, size (Some p.name) ps fits.1)
