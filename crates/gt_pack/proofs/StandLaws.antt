-- Each record of a pack stands at its place.
use Rattle.std.proofs.Common.{◌≡◌, ℕ, zero, suc, ◌+◌, ◌≤◌, List, [], ◌∷◌, ◌++◌, length, take, drop, Option, Some, None, refl, ap, subst, ◌∙◌, arith}
use Rattle.std.specs.Prelude.{slice_get}
use Rattle.std.specs.List.{flat_map}
use Rattle.std.specs.Int.{w32, to_be_bytes}
use Rattle.std.proofs.lemmas.List.{take_at, append-nil}
use Rattle.std.proofs.lemmas.List.Concat.{flat_map-cons}
use Rattle.gt_bytes.specs.Standing.{Stands}
use Rattle.gt_bytes.proofs.StandingLaws.{Stands-first, Stands-same, range_is}
use Rattle.gt_pack.specs.declared.placed.Placed.{Placed}
use Rattle.gt_pack.specs.Spelling.{Packed, item, place, places, pack, ArePacked, IsPack}
use Rattle.gt_pack.specs.Laws.{StandsAt}
use Rattle.gt_pack.specs.Index.{find_in}
use Rattle.gt_pack.proofs.ItemLaws.{sized, length-item}
use Rattle.gt_pack.proofs.FindLaws.{found_at}
use Rattle.gt_pack.proofs.RiseLaws.{places_rise}
use Rattle.gt_pack.proofs.WholeLaws.{Parts, parts_of}

-- the record of an item that stands here
whole_at : (bytes : List ℕ) (p : Packed) (at n : ℕ) → at ≤ length bytes → length p.name ≡ 20 → Stands bytes at (item p) n → StandsAt bytes p (place at p)
whole_at bytes p at n le len st =
    let s = Stands-first bytes at p.name (sized p.whole) n le st in
    let t = Stands-first bytes (at + length p.name) (to_be_bytes w32 (length p.whole)) p.whole n s.0.within s.1 in
    let begin : at + length p.name + 4 ≡ at + 24 = omega (arith, len) in
    let here : Stands bytes (at + 24) p.whole n = subst (λ (k : ℕ). Stands bytes k p.whole n) begin t.1 in
    record { name = refl; whole = range_is bytes (at + 24) (length p.whole) ∙ ap (take (length p.whole)) here.parts ∙ take_at p.whole (drop n bytes) (length p.whole) refl }

stand_in : (bytes : List ℕ) (before : Option (List ℕ)) (ps : List Packed) (at n : ℕ) → at ≤ length bytes → ArePacked before ps → Stands bytes at (flat_map item ps) n → (i : ℕ) (p : Packed) → slice_get ps i ≡ Some p → (e : Placed) × (slice_get (places at ps) i ≡ Some e) × StandsAt bytes p e
stand_in bytes before [] at n le fits st i p e = absurd cc
stand_in bytes before (x ∷ ps) at n le fits st zero p e =
    let s = Stands-first bytes at (item x) (flat_map item ps) n le (Stands-same bytes at (flat_map item (x ∷ ps)) (item x ++ flat_map item ps) n (flat_map-cons item x ps) st) in
    let is : x ≡ p = cc in
    (place at x, refl, subst (λ (z : Packed). StandsAt bytes z (place at x)) is (whole_at bytes x at (at + length (item x)) le fits.0.name s.0))
stand_in bytes before (x ∷ ps) at n le fits st (suc i) p e =
    let s = Stands-first bytes at (item x) (flat_map item ps) n le (Stands-same bytes at (flat_map item (x ∷ ps)) (item x ++ flat_map item ps) n (flat_map-cons item x ps) st) in
    let begin : at + length (item x) ≡ at + 24 + length x.whole = omega (arith, length-item x fits.0.name) in
    stand_in bytes (Some x.name) ps (at + 24 + length x.whole) n (omega (arith, begin, s.0.within)) fits.1 (subst (λ (k : ℕ). Stands bytes k (flat_map item ps) n) begin s.1) i p e

pub records_are : (ps : List Packed) (i : ℕ) (p : Packed) → IsPack ps → slice_get ps i ≡ Some p → (e : Placed) × (slice_get (places 8 ps) i ≡ Some e) × StandsAt (pack ps) p e
records_are ps i p good e =
    let parts : Parts (pack ps) ps = subst (λ (b : List ℕ). Parts b ps) (append-nil (pack ps)) (parts_of ps []) in
    stand_in (pack ps) None ps 8 (8 + length (flat_map item ps)) parts.count.within good.1 parts.items i p e

pub records_by_name : (ps : List Packed) (i : ℕ) (p : Packed) → IsPack ps → slice_get ps i ≡ Some p → (e : Placed) × (find_in (places 8 ps) p.name ≡ Some (e.place, e.len)) × StandsAt (pack ps) p e
records_by_name ps i p good g =
    let r = records_are ps i p good g in
    let found : find_in (places 8 ps) r.0.name ≡ Some (r.0.place, r.0.len) = found_at None (places 8 ps) i r.0 (places_rise None 8 ps good.1) r.1 in
    (r.0, subst (λ (n : List ℕ). find_in (places 8 ps) n ≡ Some (r.0.place, r.0.len)) r.2.name found, r.2)
