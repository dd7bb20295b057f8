-- The places in a pack by the lengths of its records.
use Rattle.std.proofs.Common.{◌≡◌, ℕ, ◌+◌, Bool, true, false, List, [], ◌∷◌, length, flat_map, refl, sym, ap, ◌∙◌, T, Option, Some, None, map as map_list}
use Rattle.std.specs.Ordering.{is_lt}
use Rattle.std.specs.declared.cmp.Ordering.{Ordering}
use Rattle.std.specs.declared.cmp.Ordering.TheVariants.{Less, Equal, Greater}
use Rattle.std.specs.Cmp.Lexicographic.{nat_list_cmp_total}
use Rattle.std.specs.FinMap as map
use Rattle.std.specs.FinMap.{put, entries-insert, is_sorted, entries_sorted}
use Rattle.std.specs.FinMap.Entries.{by_order, below_all}
use Rattle.gt_applied.specs.Applied.{to_packed}
use Rattle.gt_applied.proofs.Typed.{no_entries}
use Rattle.gt_applied.proofs.References.{both}
use Rattle.gt_apply.specs.Plan.{added_by, to_added}
use Rattle.gt_model.specs.Contents.{key_cmp, Names, with_added}
use Rattle.gt_model.specs.declared.added.Added.{Added}
use Rattle.gt_model.specs.declared.entry.Entry.{Entry}
use Rattle.gt_pack.specs.Index.{Rises}
use Rattle.gt_pack.specs.Spelling.{above, places}
use Rattle.gt_pack.specs.declared.placed.Placed.{Placed}
use Rattle.gt_moves.specs.Laying.{Lengths, with_lengths, lengths_of, spaced}
use Rattle.gt_moves.specs.Moves.{laid_out}

-- ---- lengths in place of records

abbrev sized : List (List ℕ × List ℕ) → List (List ℕ × ℕ)
sized es = map_list (λ e. (e.0, length e.1)) es

put_sized : (k v : List ℕ) (es : List (List ℕ × List ℕ)) → put key_cmp k (length v) (sized es) ≡ sized (put key_cmp k v es)
put_sized k v [] = refl
put_sized k v (e ∷ es) = by (key_cmp k e.0) (put_sized k v es)
  where
    by : (o : Ordering) → put key_cmp k (length v) (sized es) ≡ sized (put key_cmp k v es) → by_order o ((k, length v) ∷ sized (e ∷ es)) ((e.0, length v) ∷ sized es) ((e.0, length e.1) ∷ put key_cmp k (length v) (sized es)) ≡ sized (by_order o ((k, v) ∷ e ∷ es) ((e.0, v) ∷ es) (e ∷ put key_cmp k v es))
    by Less more = refl
    by Equal more = refl
    by Greater more = ap (λ (l : List (List ℕ × ℕ)). (e.0, length e.1) ∷ l) more

one_sized : (m : Names) (n : Lengths) (k v : List ℕ) → map.entries n ≡ sized (map.entries m) → map.entries (map.insert n k (length v)) ≡ sized (map.entries (map.insert m k v))
one_sized m n k v h =
    entries-insert nat_list_cmp_total n k (length v)
    ∙ ap (put key_cmp k (length v)) h
    ∙ put_sized k v (map.entries m)
    ∙ ap (λ (es : List (List ℕ × List ℕ)). sized es) (sym (entries-insert nat_list_cmp_total m k v))

all_sized : (added : List Added) (m : Names) (n : Lengths) → map.entries n ≡ sized (map.entries m) → map.entries (with_lengths n added) ≡ sized (map.entries (with_added m added))
all_sized [] m n h = h
all_sized (a ∷ added) m n h = all_sized added (map.insert m a.name a.whole) (map.insert n a.name (length a.whole)) (one_sized m n a.name a.whole h)

-- ---- places

spaced_are : (at : ℕ) (es : List (List ℕ × List ℕ)) → spaced at (sized es) ≡ places at (map_list to_packed (map_list to_added es))
spaced_are at [] = refl
spaced_are at (e ∷ es) = ap (λ (l : List Placed). record { name = e.0; place = at + 24; len = length e.1 } ∷ l) (spaced_are (at + 24 + length e.1) es)

-- Spaced by the lengths of their records, they are the places in the pack.
pub laid_by_lengths : (own : List Entry) → spaced 8 (map.entries (lengths_of own)) ≡ laid_out own
laid_by_lengths own =
    ap (spaced 8) (all_sized (flat_map (λ e. added_by e.change) own) map.empty map.empty (no_entries ℕ ∙ ap (λ (es : List (List ℕ × List ℕ)). sized es) (sym (no_entries (List ℕ)))))
    ∙ spaced_are 8 (map.entries (with_added map.empty (flat_map (λ e. added_by e.change) own)))

-- ---- their order

abbrev IsBelow : Option (List ℕ) → List (List ℕ × List ℕ) → Type 0
IsBelow None es = Unit {0}
IsBelow (Some k) es = T (below_all key_cmp k es)

is_true : (b : Bool) → T b → b ≡ true
is_true true h = refl
is_true false h = absurd h

rise : (before : Option (List ℕ)) (at : ℕ) (es : List (List ℕ × List ℕ)) → T (is_sorted key_cmp es) → IsBelow before es → Rises before (places at (map_list to_packed (map_list to_added es)))
rise before at [] h below = tt
rise before at (e ∷ es) h below =
    let parts = both (below_all key_cmp e.0 es) (is_sorted key_cmp es) h in
    (first before below, rise (Some e.0) (at + 24 + length e.1) es parts.1 parts.0)
  where
    first : (before : Option (List ℕ)) → IsBelow before (e ∷ es) → above before e.0 ≡ true
    first None below = refl
    first (Some k) below = is_true (is_lt (key_cmp k e.0)) (both (is_lt (key_cmp k e.0)) (below_all key_cmp k es) below).0

pub laid_rise : (own : List Entry) → Rises None (laid_out own)
laid_rise own = rise None 8 (map.entries (with_added map.empty (flat_map (λ e. added_by e.change) own))) (entries_sorted (with_added map.empty (flat_map (λ e. added_by e.change) own))) tt
