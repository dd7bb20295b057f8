-- A pack is read exactly where the bytes are its spelling.
use Rattle.std.proofs.Common.{◌≡◌, ℕ, ◌+◌, ◌^◌, ◌<◌, ◌≤◌, true, cond, eqb, List, [], ◌∷◌, ◌++◌, length, take, drop, None, Result, Ok, Err, refl, sym, ap, subst, ◌∙◌, append_assoc, arith}
use Rattle.std.specs.Prelude.{codes}
use Rattle.std.specs.List.{flat_map}
use Rattle.std.specs.Int.{w32, w64, to_be_bytes}
use Rattle.std.proofs.lemmas.Bool.{eqb-true, eq-eqb}
use Rattle.std.proofs.lemmas.List.{take_at, drop_at, drop_all, nil_from_length, length-append, append-nil, append_cancel_left}
use Rattle.std.proofs.lemmas.List.Concat.{flat_map-cons}
use Rattle.gt_bytes.specs.Spelling.{counted}
use Rattle.gt_bytes.specs.Reading.{◌>>=◌, number_at, many_at, counted_at}
use Rattle.gt_bytes.specs.Standing.{IsBytes, Stands}
use Rattle.gt_bytes.proofs.Steps.{bind_ok, kept_ok, ok_is}
use Rattle.gt_bytes.proofs.StandingLaws.{Stands-then, Stands-first, Stands-same}
use Rattle.gt_bytes.proofs.FieldLaws.{number_field, wide32}
use Rattle.gt_pack.specs.declared.placed.Placed.{Placed}
use Rattle.gt_pack.specs.Spelling.{Packed, item, indexed, places, tail, pack, IsPack}
use Rattle.gt_pack.specs.Reading.{magic_at, placed_at, exactly_at, index_at, items_at, tail_at, pack_of}
use Rattle.gt_pack.specs.Answers.{IsIndexOf}
use Rattle.gt_pack.proofs.ItemLaws.{magic_field, items_take, items_again, size}
use Rattle.gt_pack.proofs.IndexLaws.{exactly_field, index_take, index_again}

-- ---- what is read stands there

-- what stands before the index
record Front (bytes : List ℕ) (x : List Placed × ℕ) : Type 0 where
  packed : List Packed
  good : IsPack packed
  here : x.0 ≡ places 8 packed
  stands : Stands bytes 0 (codes "GTP1" ++ counted item packed) x.1
  ends : x.1 ≡ 8 + length (flat_map item packed)

front_takes : (bytes : List ℕ) → IsBytes bytes → (x : List Placed × ℕ) → items_at bytes 0 ≡ Ok x → Front bytes x
unfolding items_at
front_takes bytes good x e =
    let a = bind_ok (magic_at bytes 0) (λ m. counted_at (placed_at bytes) bytes m.1) x e in
    let m = (magic_field bytes).takes good 0 a.0 (omega arith) a.1 in
    let b = bind_ok (number_at w32 bytes a.0.1) (λ n. many_at (placed_at bytes) n.0 [] n.1) x a.2 in
    let n = (number_field bytes w32 (2 ^ 32) wide32).takes good a.0.1 b.0 m.0.within b.1 in
    let r = items_take bytes good b.0.0 [] b.0.1 x n.0.within b.2 in
    let eight : b.0.1 ≡ 8 = omega (arith, m.0.after, n.0.after) in
    let both = Stands-then bytes a.0.1 (to_be_bytes w32 b.0.0) b.0.1 (flat_map item r.packed) x.1 n.0 r.stands in
    let whole = Stands-same bytes a.0.1 (to_be_bytes w32 b.0.0 ++ flat_map item r.packed) (counted item r.packed) x.1 (ap (λ (k : ℕ). to_be_bytes w32 k ++ flat_map item r.packed) (sym r.count)) both in
    record {
      packed = r.packed;
      good = (omega (arith, r.count, n.1), r.fits);
      here = r.here ∙ ap (λ (k : ℕ). places k r.packed) eight;
      stands = Stands-then bytes 0 (codes "GTP1") a.0.1 (counted item r.packed) x.1 m.0 whole;
      ends = omega (arith, r.stands.after, eight);
    }

tail_takes : (bytes : List ℕ) → IsBytes bytes → (es : List Placed) (at : ℕ) (x : ℕ × ℕ) → at ≤ length bytes → tail_at bytes es at ≡ Ok x → Stands bytes at (tail es at) x.1
unfolding tail_at
tail_takes bytes good es at x le e =
    let a = bind_ok (index_at bytes es at) (λ y. exactly_at bytes at y.1) x e in
    let i = index_take bytes good es at a.0 le a.1 in
    let n = (exactly_field bytes at).takes good a.0.1 x i.within a.2 in
    let is : to_be_bytes w64 x.0 ≡ to_be_bytes w64 at = ap (to_be_bytes w64) (eqb-true _ _ n.1.1) in
    Stands-then bytes at (flat_map indexed es) a.0.1 (to_be_bytes w64 at) x.1 i (Stands-same bytes a.0.1 (to_be_bytes w64 x.0) (to_be_bytes w64 at) x.1 is n.0)

pub pack_takes : (bytes : List ℕ) → IsBytes bytes → (es : List Placed) → pack_of bytes ≡ Ok es → IsIndexOf bytes es
unfolding pack_of pack
pack_takes bytes good es e =
    let f : List Placed × ℕ → Result (List Placed) ℕ = λ x. (let g : ℕ × ℕ → Result (List Placed) ℕ = λ y. cond (eqb y.1 (length bytes)) (Ok x.0) (Err y.1) in tail_at bytes x.0 x.1 >>= g) in
    let a = bind_ok (items_at bytes 0) f es e in
    let g : ℕ × ℕ → Result (List Placed) ℕ = λ y. cond (eqb y.1 (length bytes)) (Ok a.0.0) (Err y.1) in
    let b = bind_ok (tail_at bytes a.0.0 a.0.1) g es a.2 in
    let k = kept_ok (eqb b.0.1 (length bytes)) b.0.1 a.0.0 es b.2 in
    let r = front_takes bytes good a.0 a.1 in
    let t = tail_takes bytes good a.0.0 a.0.1 b.0 r.stands.within b.1 in
    let is : tail a.0.0 a.0.1 ≡ tail (places 8 r.packed) (8 + length (flat_map item r.packed)) = ap (λ (z : List Placed). tail z a.0.1) r.here ∙ ap (tail (places 8 r.packed)) r.ends in
    let st = Stands-then bytes 0 (codes "GTP1" ++ counted item r.packed) a.0.1 (tail (places 8 r.packed) (8 + length (flat_map item r.packed))) b.0.1 r.stands (Stands-same bytes a.0.1 (tail a.0.0 a.0.1) (tail (places 8 r.packed) (8 + length (flat_map item r.packed))) b.0.1 is t) in
    let none : drop b.0.1 bytes ≡ [] = drop_all b.0.1 bytes (omega (arith, eqb-true _ _ k.0)) in
    let spelled : List ℕ = (codes "GTP1" ++ counted item r.packed) ++ tail (places 8 r.packed) (8 + length (flat_map item r.packed)) in
    record {
      records = r.packed;
      good = r.good;
      spelled = st.parts ∙ ap (λ (z : List ℕ). spelled ++ z) none ∙ append-nil spelled ∙ append_assoc (codes "GTP1") (counted item r.packed) (tail (places 8 r.packed) (8 + length (flat_map item r.packed)));
      placed = sym k.1 ∙ r.here;
    }

-- ---- what stands there is read

-- the parts of a pack, where it begins the bytes
pub record Parts (bytes : List ℕ) (ps : List Packed) : Type 0 where
  pub magic : Stands bytes 0 (codes "GTP1") 4
  pub count : Stands bytes 4 (to_be_bytes w32 (length ps)) 8
  pub items : Stands bytes 8 (flat_map item ps) (8 + length (flat_map item ps))
  pub rest : Stands bytes (8 + length (flat_map item ps)) (tail (places 8 ps) (8 + length (flat_map item ps))) (length (pack ps))

pub parts_of : (ps : List Packed) (rest : List ℕ) → Parts (pack ps ++ rest) ps
unfolding pack
parts_of ps rest =
    let bytes : List ℕ = pack ps ++ rest in
    let end : List ℕ = tail (places 8 ps) (8 + length (flat_map item ps)) in
    let all : Stands (pack ps ++ rest) 0 (pack ps) (length (pack ps)) = record { parts = ap (λ (r : List ℕ). pack ps ++ r) (sym (drop_at (pack ps) rest (length (pack ps)) refl)); after = omega arith; within = omega (arith, length-append (pack ps) rest) } in
    let m = Stands-first bytes 0 (codes "GTP1") (counted item ps ++ end) (length (pack ps)) (omega arith) all in
    let c = Stands-first bytes 4 (counted item ps) end (length (pack ps)) m.0.within m.1 in
    let n = Stands-first bytes 4 (to_be_bytes w32 (length ps)) (flat_map item ps) (4 + length (counted item ps)) m.0.within c.0 in
    let ends : 4 + length (counted item ps) ≡ 8 + length (flat_map item ps) = omega (arith, length-append (to_be_bytes w32 (length ps)) (flat_map item ps)) in
    record {
      magic = m.0;
      count = n.0;
      items = subst (Stands bytes 8 (flat_map item ps)) ends n.1;
      rest = subst (λ (k : ℕ). Stands bytes k end (length (pack ps))) ends c.1;
    }

front_again : (bytes : List ℕ) (ps : List Packed) → IsPack ps → Parts bytes ps → items_at bytes 0 ≡ Ok (places 8 ps, 8 + length (flat_map item ps))
unfolding items_at
front_again bytes ps good p =
    let m = (magic_field bytes).again 0 tt 4 (omega arith) p.magic tt in
    let n = (number_field bytes w32 (2 ^ 32) wide32).again 4 (length ps) 8 p.magic.within p.count good.0 in
    rw (m, n) (items_again bytes ps [] 8 (8 + length (flat_map item ps)) p.count.within p.items good.1)

tail_again : (bytes : List ℕ) (ps : List Packed) → IsPack ps → Parts bytes ps → (n : ℕ) × (tail_at bytes (places 8 ps) (8 + length (flat_map item ps)) ≡ Ok (n, length (pack ps)))
unfolding tail_at
tail_again bytes ps good p =
    let begin : ℕ = 8 + length (flat_map item ps) in
    let index : List ℕ = flat_map indexed (places 8 ps) in
    let s = Stands-first bytes (8 + length (flat_map item ps)) (flat_map indexed (places 8 ps)) (to_be_bytes w64 (8 + length (flat_map item ps))) (length (pack ps)) p.items.within p.rest in
    let lt : 8 + length (flat_map item ps) < 2 ^ 64 = omega (arith, size None ps good.1, good.0) in
    let i = index_again bytes None ps 8 (8 + length (flat_map item ps)) (8 + length (flat_map item ps) + length (flat_map indexed (places 8 ps))) good.1 lt p.items.within s.0 in
    let n = (exactly_field bytes (8 + length (flat_map item ps))).again (8 + length (flat_map item ps) + length (flat_map indexed (places 8 ps))) (8 + length (flat_map item ps)) (length (pack ps)) s.0.within s.1 (lt, eq-eqb _ _ refl) in
    (8 + length (flat_map item ps), rw i n)

pub pack_again : (ps : List Packed) → IsPack ps → pack_of (pack ps) ≡ Ok (places 8 ps)
unfolding pack_of
pack_again ps good =
    let p : Parts (pack ps) ps = subst (λ (b : List ℕ). Parts b ps) (append-nil (pack ps)) (parts_of ps []) in
    let f = front_again (pack ps) ps good p in
    let t = tail_again (pack ps) ps good p in
    let same : eqb (length (pack ps)) (length (pack ps)) ≡ true = eq-eqb _ _ refl in
    rw (f, t.1, same) refl

-- ---- no pack begins another

same_item : (p q : Packed) → item p ≡ item q → p.name ≡ q.name → length p.whole ≡ length q.whole → p ≡ q
same_item p q e name len =
    let all : p.name ++ (to_be_bytes w32 (length p.whole) ++ p.whole) ≡ p.name ++ (to_be_bytes w32 (length p.whole) ++ q.whole) =
    e ∙ ap (λ (t : List ℕ). t ++ (to_be_bytes w32 (length q.whole) ++ q.whole)) (sym name) ∙ ap (λ (k : ℕ). p.name ++ (to_be_bytes w32 k ++ q.whole)) (sym len) in
    let whole : p.whole ≡ q.whole = append_cancel_left (to_be_bytes w32 (length p.whole)) p.whole q.whole (append_cancel_left p.name _ _ all) in
    λ i. record { name = name i; whole = whole i }

abbrev name_in : List Placed → List ℕ
name_in [] = []
name_in (e ∷ es) = e.name

abbrev len_in : List Placed → ℕ
len_in [] = 0
len_in (e ∷ es) = e.len

abbrev rest_of : List Placed → List Placed
rest_of [] = []
rest_of (e ∷ es) = es

-- the same places in the same bytes have the same records
same_items : (bytes : List ℕ) (a b : List Packed) (k l at m n : ℕ) → at ≤ length bytes → places k a ≡ places l b → Stands bytes at (flat_map item a) m → Stands bytes at (flat_map item b) n → a ≡ b
same_items bytes [] [] k l at m n le e p q = refl
same_items bytes [] (y ∷ b) k l at m n le e p q = absurd cc
same_items bytes (x ∷ a) [] k l at m n le e p q = absurd cc
same_items bytes (x ∷ a) (y ∷ b) k l at m n le e p q =
    let name : x.name ≡ y.name = ap name_in e in
    let len : length x.whole ≡ length y.whole = ap len_in e in
    let rest : places (k + 24 + length x.whole) a ≡ places (l + 24 + length y.whole) b = ap rest_of e in
    let xs = Stands-first bytes at (item x) (flat_map item a) m le (Stands-same bytes at (flat_map item (x ∷ a)) (item x ++ flat_map item a) m (flat_map-cons item x a) p) in
    let ys = Stands-first bytes at (item y) (flat_map item b) n le (Stands-same bytes at (flat_map item (y ∷ b)) (item y ++ flat_map item b) n (flat_map-cons item y b) q) in
    let long : length (item x) ≡ length (item y) = omega (arith, ap length name, len, length-append x.name (to_be_bytes w32 (length x.whole) ++ x.whole), length-append y.name (to_be_bytes w32 (length y.whole) ++ y.whole), length-append (to_be_bytes w32 (length x.whole)) x.whole, length-append (to_be_bytes w32 (length y.whole)) y.whole) in
    let first : item x ≡ item y =
    sym (ap (take (length (item x))) xs.0.parts ∙ take_at (item x) _ (length (item x)) refl)
    ∙ ap (λ (k : ℕ). take k (drop at bytes)) long
    ∙ (ap (take (length (item y))) ys.0.parts ∙ take_at (item y) _ (length (item y)) refl) in
    let others : Stands bytes (at + length (item x)) (flat_map item b) n = subst (λ (j : ℕ). Stands bytes (at + j) (flat_map item b) n) (sym long) ys.1 in
    let tails : a ≡ b = same_items bytes a b (k + 24 + length x.whole) (l + 24 + length y.whole) (at + length (item x)) m n xs.0.within rest xs.1 others in
    ap (λ (z : Packed). z ∷ a) (same_item x y first name len) ∙ ap (λ (zs : List Packed). y ∷ zs) tails

pub none_prefix : (a b : List Packed) (rest : List ℕ) → IsPack a → IsPack b → pack b ≡ pack a ++ rest → (a ≡ b) × (rest ≡ [])
none_prefix a b rest ga gb e =
    let bytes : List ℕ = pack a ++ rest in
    let pa : Parts (pack a ++ rest) a = parts_of a rest in
    let pb : Parts (pack a ++ rest) b = subst (λ (z : List ℕ). Parts z b) (append-nil (pack b) ∙ e) (parts_of b []) in
    let fa = front_again (pack a ++ rest) a ga pa in
    let fb = front_again (pack a ++ rest) b gb pb in
    let x : List Placed × ℕ = (places 8 a, 8 + length (flat_map item a)) in
    let y : List Placed × ℕ = (places 8 b, 8 + length (flat_map item b)) in
    let is : x ≡ y = ok_is x y (sym fa ∙ fb) in
    let same : a ≡ b = same_items (pack a ++ rest) a b 8 8 8 (8 + length (flat_map item a)) (8 + length (flat_map item b)) pa.count.within (ap (λ (z : List Placed × ℕ). z.0) is) pa.items pb.items in
    (same, nil_from_length rest (omega (arith, ap length e, length-append (pack a) rest, ap (λ (z : List Packed). length (pack z)) same)))
