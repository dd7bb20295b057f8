-- The index of a pack is read exactly where it stands as it is spelled.
use Rattle.std.proofs.Common.{◌≡◌, ℕ, ◌+◌, ◌-◌, ◌^◌, ◌<◌, ◌≤◌, true, eqb, List, [], ◌∷◌, ◌++◌, length, Option, Some, Result, Ok, refl, ap, subst, ◌∙◌, arith}
use Rattle.std.specs.Prelude.{bytes_eq}
use Rattle.std.specs.List.{flat_map}
use Rattle.std.specs.Int.{w64, to_be_bytes}
use Rattle.std.proofs.lemmas.Bool.{eqb-true, eq-eqb}
use Rattle.std.proofs.lemmas.List.{length-append}
use Rattle.std.proofs.lemmas.List.Concat.{flat_map-cons}
use Rattle.std.proofs.lemmas.Slice.Eq.{bytes_eq-Decides}
use Rattle.gt_bytes.specs.Reading.{number_at, name_at}
use Rattle.gt_bytes.specs.Standing.{IsBytes, Stands, IsField}
use Rattle.gt_bytes.proofs.Steps.{bind_ok, ok_is}
use Rattle.gt_bytes.proofs.StandingLaws.{Stands-then, Stands-first, Stands-same}
use Rattle.gt_bytes.proofs.FieldLaws.{number_field, name_field, wide64}
use Rattle.gt_bytes.proofs.CombinatorLaws.{kept_field, pair_field}
use Rattle.gt_pack.specs.declared.placed.Placed.{Placed}
use Rattle.gt_pack.specs.Spelling.{Packed, item, indexed, place, places, ArePacked}
use Rattle.gt_pack.specs.Reading.{exactly_at, same_at, indexed_at, index_at}
use Rattle.gt_pack.proofs.ItemLaws.{length-item}

pub exactly_field : (bytes : List ℕ) (n : ℕ) → IsField bytes (exactly_at bytes n) (to_be_bytes w64) (λ m. (m < 2 ^ 64) × (eqb m n ≡ true))
unfolding exactly_at
exactly_field bytes n = kept_field bytes (number_at w64 bytes) (to_be_bytes w64) (λ m. m < 2 ^ 64) (λ m. eqb m n) (number_field bytes w64 (2 ^ 64) wide64)

same_field : (bytes : List ℕ) (name : List ℕ) → IsField bytes (same_at bytes name) (λ x. x) (λ x. (length x ≡ 20) × (bytes_eq x name ≡ true))
unfolding same_at
same_field bytes name = kept_field bytes (name_at bytes) (λ x. x) (λ x. length x ≡ 20) (λ x. bytes_eq x name) (name_field bytes)

indexed_field : (bytes : List ℕ) (e : Placed) → IsField {A = List ℕ × ℕ} bytes (indexed_at bytes e) (λ x. x.0 ++ to_be_bytes w64 x.1) (λ x. ((length x.0 ≡ 20) × (bytes_eq x.0 e.name ≡ true)) × ((x.1 < 2 ^ 64) × (eqb x.1 (e.place - 24) ≡ true)))
unfolding indexed_at
indexed_field bytes e = pair_field bytes (same_at bytes e.name) (λ x. x) (λ x. (length x ≡ 20) × (bytes_eq x e.name ≡ true)) (exactly_at bytes (e.place - 24)) (to_be_bytes w64) (λ m. (m < 2 ^ 64) × (eqb m (e.place - 24) ≡ true)) (same_field bytes e.name) (exactly_field bytes (e.place - 24))

module _ (bytes : List ℕ) where
  pub index_take : IsBytes bytes → (es : List Placed) (at : ℕ) (x : Unit {0} × ℕ) → at ≤ length bytes → index_at bytes es at ≡ Ok x → Stands bytes at (flat_map indexed es) x.1
  index_take good [] at x le e =
      let y : Unit {0} × ℕ = (tt, at) in
      let P : Unit {0} × ℕ → Type 0 = λ z. Stands bytes at [] z.1 in
      subst P (ok_is y x e) (record { parts = refl; after = omega arith; within = le })
  index_take good (d ∷ es) at x le e =
      let a = bind_ok (indexed_at bytes d at) (λ y. index_at bytes es y.1) x e in
      let t = (indexed_field bytes d).takes good at a.0 le a.1 in
      let name : a.0.0.0 ≡ d.name = (bytes_eq-Decides a.0.0.0 d.name).0 t.1.0.1 in
      let begin : a.0.0.1 ≡ d.place - 24 = eqb-true _ _ t.1.1.1 in
      let is : a.0.0.0 ++ to_be_bytes w64 a.0.0.1 ≡ indexed d = ap (λ (n : List ℕ). n ++ to_be_bytes w64 a.0.0.1) name ∙ ap (λ (n : ℕ). d.name ++ to_be_bytes w64 n) begin in
      let rest = index_take good es a.0.1 x t.0.within a.2 in
      rw flat_map-cons (Stands-then bytes at (indexed d) a.0.1 (flat_map indexed es) x.1 (Stands-same bytes at (a.0.0.0 ++ to_be_bytes w64 a.0.0.1) (indexed d) a.0.1 is t.0) rest)

  pub index_again : (before : Option (List ℕ)) (ps : List Packed) (begin at next : ℕ) → ArePacked before ps → begin + length (flat_map item ps) < 2 ^ 64 → at ≤ length bytes → Stands bytes at (flat_map indexed (places begin ps)) next → index_at bytes (places begin ps) at ≡ Ok (tt, next)
  index_again before [] begin at next fits lt le st =
      let e : at ≡ next = omega (arith, st.after) in
      let f : ℕ → Result (Unit {0} × ℕ) ℕ = λ j. Ok (tt, j) in
      ap f e
  index_again before (p ∷ ps) begin at next fits lt le st =
      let es : List Placed = places (begin + 24 + length p.whole) ps in
      let whole = Stands-same bytes at (flat_map indexed (place begin p ∷ places (begin + 24 + length p.whole) ps)) (indexed (place begin p) ++ flat_map indexed (places (begin + 24 + length p.whole) ps)) next (flat_map-cons indexed (place begin p) (places (begin + 24 + length p.whole) ps)) st in
      let s = Stands-first bytes at (indexed (place begin p)) (flat_map indexed (places (begin + 24 + length p.whole) ps)) next le whole in
      let sum : length (flat_map item (p ∷ ps)) ≡ length (item p) + length (flat_map item ps) = ap length (flat_map-cons item p ps) ∙ length-append (item p) (flat_map item ps) in
      let long = length-item p fits.0.name in
      let h = (indexed_field bytes (place begin p)).again at (p.name, begin + 24 - 24) (at + length (indexed (place begin p))) le s.0 ((fits.0.name, (bytes_eq-Decides p.name p.name).1 refl), (omega (arith, lt, sum), eq-eqb _ _ refl)) in
      let m = index_again (Some p.name) ps (begin + 24 + length p.whole) (at + length (indexed (place begin p))) next fits.1 (omega (arith, lt, sum, long)) s.0.within s.1 in
      rw h m
