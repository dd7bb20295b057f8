-- The records that a pack still waits for.
use Rattle.std.proofs.Common.{◌≡◌, ℕ, ◌+◌, ◌<◌, List, [], ◌∷◌, ◌++◌, length, get_or, take, drop, Option, Some, sym, ◌∙◌, ap, subst, arith, length-drop, length-append}
use Rattle.std.proofs.lemmas.List.{append_assoc, map_push}
use Rattle.std.specs.Prelude.{map as map_list}
use Rattle.gt_applied.specs.Applied.{to_packed}
use Rattle.gt_disk.specs.Files.{View}
use Rattle.gt_model.specs.declared.added.Added.{Added}
use Rattle.gt_pack.specs.declared.placed.Placed.{Placed}
use Rattle.gt_pack.specs.Building.{Built, added, IsWritten}
use Rattle.gt_pack.specs.Reading.{last_name}
use Rattle.gt_pack.specs.Spelling.{Packed, place, ArePacked}
use Rattle.gt_pack.proofs.ItemLaws.{last_is}
use Rattle.gt_checkpoint.proofs.Lists.{drop_next, take_next}

module _ (records : List Added) (i : ℕ) (r : Added) (lt : i < length records) (is : r ≡ get_or records i r) where
  -- what is left begins with this one
  left : (items : List Placed) → ArePacked (last_name items) (map_list to_packed (drop i records)) → ArePacked (last_name items) (to_packed r ∷ map_list to_packed (drop (i + 1) records))
  left items h = subst (λ (rs : List Added). ArePacked (last_name items) (map_list to_packed rs)) (drop_next records i r lt is) h

  so_far : (ps : List Packed) → (ps ++ map_list to_packed (take i records)) ++ to_packed r ∷ [] ≡ ps ++ map_list to_packed (take (i + 1) records)
  so_far ps =
      append_assoc ps (map_list to_packed (take i records)) (to_packed r ∷ [])
      ∙ ap (λ (qs : List Packed). ps ++ qs) (sym (map_push to_packed (take i records) r) ∙ ap (map_list to_packed) (sym (take_next records i r lt is)))

  -- the builder after it
  module _ (old new : Built) (whole : List ℕ) (same : whole ≡ r.whole) (grown : new ≡ added old (record { name = r.name; whole = whole })) where
    grown_items : new.items ≡ old.items ++ place old.next (to_packed r) ∷ []
    grown_items = ap (λ (b : Built). b.items) grown ∙ ap (λ (w : List ℕ). old.items ++ place old.next (record { name = r.name; whole = w }) ∷ []) same

    pub room_left : length old.items + length (drop i records) ≡ old.count → length new.items + length (drop (i + 1) records) ≡ new.count
    room_left room =
        let more : length new.items ≡ length old.items + 1 = ap length grown_items ∙ length-append old.items (place old.next (to_packed r) ∷ []) in
        let count : new.count ≡ old.count = ap (λ (b : Built). b.count) grown in
        omega (arith, length-drop i records, length-drop (i + 1) records)

    pub rest_packed : ArePacked (last_name old.items) (map_list to_packed (drop i records)) → ArePacked (last_name new.items) (map_list to_packed (drop (i + 1) records))
    rest_packed h =
        let last : last_name new.items ≡ Some r.name = ap last_name grown_items ∙ last_is old.items (place old.next (to_packed r)) in
        subst (λ (o : Option (List ℕ)). ArePacked o (map_list to_packed (drop (i + 1) records))) (sym last) (left old.items h).1

    pub same_file : new.file ≡ old.file
    same_file = ap (λ (b : Built). b.file) grown

    pub one_more : (ps : List Packed) (w : View) → IsWritten new ((ps ++ map_list to_packed (take i records)) ++ (record { name = r.name; whole = whole }) ∷ []) w → IsWritten new (ps ++ map_list to_packed (take (i + 1) records)) w
    one_more ps w h =
        let is : (ps ++ map_list to_packed (take i records)) ++ (record { name = r.name; whole = whole }) ∷ [] ≡ ps ++ map_list to_packed (take (i + 1) records) =
        ap (λ (x : List ℕ). (ps ++ map_list to_packed (take i records)) ++ (record { name = r.name; whole = x }) ∷ []) same ∙ so_far ps in
        subst (λ (qs : List Packed). IsWritten new qs w) is h
