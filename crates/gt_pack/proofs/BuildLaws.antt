-- How a pack grows by one record.
use Rattle.std.proofs.Common.{◌≡◌, ℕ, suc, ◌+◌, ◌<◌, ◌^◌, true, List, [], ◌∷◌, ◌++◌, length, Option, Some, None, refl, sym, ap, subst, ◌∙◌, append_assoc, arith}
use Rattle.std.specs.Prelude.{codes}
use Rattle.std.specs.List.{flat_map}
use Rattle.std.specs.Int.{w32, to_be_bytes}
use Rattle.std.proofs.lemmas.List.{length-append, append-nil}
use Rattle.std.proofs.lemmas.List.Concat.{flat_map-cons, flat_map-append}
use Rattle.gt_object.specs.Whole.{why_not}
use Rattle.gt_disk.specs.Files.{View, still, appended, Synced}
use Rattle.gt_pack.specs.declared.placed.Placed.{Placed}
use Rattle.gt_pack.specs.Spelling.{Packed, item, place, places, head, tail, pack, above, IsPacked, ArePacked}
use Rattle.gt_pack.specs.Reading.{last_name}
use Rattle.gt_pack.specs.Index.{Rises}
use Rattle.gt_pack.specs.Building.{Built, pack_file, added, IsBuilder, IsWritten, Lasts}
use Rattle.gt_pack.proofs.ItemLaws.{length-item, small, last_is}

-- a record's length fits 4 bytes
pub short : (w : List ℕ) → why_not w ≡ None → length w < 2 ^ 32
short w good = omega (arith, small w good)

-- ---- order

rises_push : (front es : List Placed) (e : Placed) → Rises (last_name front) es → above (last_name (front ++ es)) e.name ≡ true → Rises (last_name front) (es ++ e ∷ [])
rises_push front [] e r a = (subst (λ (z : List Placed). above (last_name z) e.name ≡ true) (append-nil front) a, tt)
rises_push front (d ∷ es) e r a =
    let same = append_assoc front (d ∷ []) es in
    let on = rises_push (front ++ d ∷ []) es e
    (subst (λ (o : Option (List ℕ)). Rises o es) (sym (last_is front d)) r.1)
    (subst (λ (z : List Placed). above (last_name z) e.name ≡ true) (sym same) a) in
    (r.0, subst (λ (o : Option (List ℕ)). Rises o (es ++ e ∷ [])) (last_is front d) on)

packed_push : (front : List Placed) (at : ℕ) (ps : List Packed) (p : Packed) → ArePacked (last_name front) ps → IsPacked (last_name (front ++ places at ps)) p → ArePacked (last_name front) (ps ++ p ∷ [])
packed_push front at [] p fits new = (subst (λ (z : List Placed). IsPacked (last_name z) p) (append-nil front) new, tt)
packed_push front at (q ∷ ps) p fits new =
    let rest : List Placed = places (at + 24 + length q.whole) ps in
    let same = append_assoc front (place at q ∷ []) (places (at + 24 + length q.whole) ps) in
    let on = packed_push (front ++ place at q ∷ []) (at + 24 + length q.whole) ps p
    (subst (λ (o : Option (List ℕ)). ArePacked o ps) (sym (last_is front (place at q))) fits.1)
    (subst (λ (z : List Placed). IsPacked (last_name z) p) (sym same) new) in
    (fits.0, subst (λ (o : Option (List ℕ)). ArePacked o (ps ++ p ∷ [])) (last_is front (place at q)) on)

-- ---- places

places_push : (before : Option (List ℕ)) (at : ℕ) (ps : List Packed) (p : Packed) → ArePacked before ps → places at (ps ++ p ∷ []) ≡ places at ps ++ place (at + length (flat_map item ps)) p ∷ []
places_push before at [] p fits = ap (λ (k : ℕ). place k p ∷ []) (omega arith)
places_push before at (q ∷ ps) p fits =
    let sum : length (flat_map item (q ∷ ps)) ≡ length (item q) + length (flat_map item ps) = ap length (flat_map-cons item q ps) ∙ length-append (item q) (flat_map item ps) in
    let end : at + 24 + length q.whole + length (flat_map item ps) ≡ at + length (flat_map item (q ∷ ps)) = omega (arith, sum, length-item q fits.0.name) in
    ap (λ (z : List Placed). place at q ∷ z) (places_push (Some q.name) (at + 24 + length q.whole) ps p fits.1 ∙ ap (λ (k : ℕ). places (at + 24 + length q.whole) ps ++ place k p ∷ []) end)

items_push : (ps : List Packed) (p : Packed) → flat_map item (ps ++ p ∷ []) ≡ flat_map item ps ++ item p
items_push ps p = flat_map-append item ps (p ∷ []) ∙ ap (λ (z : List ℕ). flat_map item ps ++ z) (flat_map-cons item p [] ∙ append-nil (item p))

-- ---- the builder

-- a builder of these fields
abbrev pub built : ℕ → ℕ → ℕ → List Placed → Built
built file count next items = record { file = file; count = count; next = next; items = items }

-- what holds of the fields after one record more
pub builder_push : (count next next' : ℕ) (items items' : List Placed) (p : Packed) → items' ≡ items ++ place next p ∷ [] → next' ≡ next + 24 + length p.whole
    → IsBuilder count next items → length items < count → above (last_name items) p.name ≡ true → why_not p.whole ≡ None → IsBuilder count next' items'
builder_push count next next' items items' p is end h room a good =
    let more : length items' ≡ length items + 1 = ap length is ∙ length-append items (place next p ∷ []) in
    record {
      few = omega (arith, more, room);
      small = omega (arith, more, end, h.small, small p.whole good);
      rises = subst (Rises None) (sym is) (rises_push [] items (place next p) h.rises a);
    }

-- the builder after one record more
pub built_push : (file count next next' : ℕ) (items items' : List Placed) (p : Packed) → items' ≡ items ++ place next p ∷ [] → next' ≡ next + 24 + length p.whole
    → built file count next' items' ≡ added (built file count next items) p
built_push file count next next' items items' p is end = λ i. record { file = file; count = count; next = end i; items = is i }

-- a file that read as a pack's begin, with one item more behind it
pub written_push : (b : Built) (ps : List Packed) (p : Packed) (piece : List ℕ) (v w : View) → piece ≡ item p → length p.name ≡ 20 → above (last_name b.items) p.name ≡ true → why_not p.whole ≡ None
    → w.reads (pack_file b.file) ≡ appended (v.reads (pack_file b.file)) piece → IsWritten b ps v → IsWritten (added b p) (ps ++ p ∷ []) w
written_push b ps p piece v w spelled len a good put h =
    let fits : IsPacked (last_name (places 8 ps)) p = record { name = len; rises = subst (λ (z : List Placed). above (last_name z) p.name ≡ true) h.items a; good = good } in
    let grown : List ℕ = head b.count ++ flat_map item ps in
    let end : flat_map item (ps ++ p ∷ []) ≡ flat_map item ps ++ item p = items_push ps p in
    record {
      items = ap (λ (z : List Placed). z ++ place b.next p ∷ []) h.items ∙ ap (λ (k : ℕ). places 8 ps ++ place k p ∷ []) h.next ∙ sym (places_push None 8 ps p h.fits);
      next = omega (arith, h.next, ap length end, length-append (flat_map item ps) (item p), length-item p len);
      fits = packed_push [] 8 ps p h.fits fits;
      reads = put ∙ ap (λ x. appended x piece) h.reads ∙ ap (appended (Some (head b.count ++ flat_map item ps))) spelled ∙ ap (λ (z : List ℕ). Some z) (append_assoc (head b.count) (flat_map item ps) (item p) ∙ ap (λ (z : List ℕ). head b.count ++ z) (sym end));
    }

places_long : (at : ℕ) (ps : List Packed) → length (places at ps) ≡ length ps
places_long at [] = refl
places_long at (p ∷ ps) = ap suc (places_long (at + 24 + length p.whole) ps)

-- with the index behind them, the items are the pack
pub pack_is : (b : Built) (ps : List Packed) (v : View) → length b.items ≡ b.count → IsWritten b ps v → (head b.count ++ flat_map item ps) ++ tail b.items b.next ≡ pack ps
unfolding pack
pack_is b ps v all h =
    let count : b.count ≡ length ps = sym all ∙ ap length h.items ∙ places_long 8 ps in
    let end : List ℕ = tail (places 8 ps) (8 + length (flat_map item ps)) in
    let four : List ℕ = to_be_bytes w32 (length ps) in
    ap (λ (k : ℕ). (head k ++ flat_map item ps) ++ tail b.items b.next) count
    ∙ ap (λ (z : List Placed). (head (length ps) ++ flat_map item ps) ++ tail z b.next) h.items
    ∙ ap (λ (k : ℕ). (head (length ps) ++ flat_map item ps) ++ tail (places 8 ps) k) h.next
    ∙ append_assoc (head (length ps)) (flat_map item ps) end
    ∙ append_assoc (codes "GTP1") four (flat_map item ps ++ end)
    ∙ ap (λ (z : List ℕ). codes "GTP1" ++ z) (sym (append_assoc four (flat_map item ps) end))

-- the index was appended, and the file synced
pub lasts_now : (b : Built) (ps : List Packed) (piece : List ℕ) (u v w : View) → piece ≡ tail b.items b.next → length b.items ≡ b.count → v.reads (pack_file b.file) ≡ appended (u.reads (pack_file b.file)) piece → Synced (pack_file b.file) v w → IsWritten b ps u → Lasts b.file ps w
lasts_now b ps piece u v w spelled all put s h =
    let is : v.reads (pack_file b.file) ≡ Some (pack ps) = put ∙ ap (λ x. appended x piece) h.reads ∙ ap (appended (Some (head b.count ++ flat_map item ps))) spelled ∙ ap (λ (z : List ℕ). Some z) (pack_is b ps u all h) in
    record { reads = ap (λ r. r (pack_file b.file)) s.reads ∙ is; still = s.this ∙ ap still is }
