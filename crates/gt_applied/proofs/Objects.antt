-- The objects of a repository with one pack more, the last one in order of search.
use Rattle.std.proofs.Common.{◌≡◌, ℕ, suc, ◌+◌, Bool, true, false, cond, ◌||◌, List, [], ◌∷◌, ◌++◌, length, fold, Option, Some, None, Result, Ok, refl, sym, ap, ◌∙◌, slice_range, map as map_list}
use Rattle.std.specs.List.{AllByRecursion, list_any, flat_map}
use Rattle.std.specs.Option.{option_or, unwrap_or}
use Rattle.std.specs.Ordering.{eq_by_cmp}
use Rattle.std.specs.Cmp.Lexicographic.{nat_list_cmp_total}
use Rattle.std.specs.FinMap as map
use Rattle.std.specs.FinMap.{get-insert, get-empty, get-from_entries, get-entries}
use Rattle.std.specs.Prelude.{slice_get}
use Rattle.gt_disk.specs.Files.{Content as FileContent, Files}
use Rattle.gt_disk.specs.Kinds.{pack_file}
use Rattle.gt_model.specs.Batches.{has_records}
use Rattle.gt_model.specs.Contents.{key_cmp, Names, union, with_added}
use Rattle.gt_model.specs.declared.added.Added.{Added}
use Rattle.gt_model.specs.declared.change.Change.{Change}
use Rattle.gt_model.specs.declared.change.Change.TheVariants.{Create, Delete, Link, Write, Repack, Prune, PackRefs, Unlink}
use Rattle.gt_model.specs.declared.entry.Entry.{Entry}
use Rattle.gt_model.proofs.Repositories.{get-alike}
use Rattle.gt_objset.proofs.ContentLaws.{get-union}
use Rattle.gt_pack.specs.Spelling.{Packed, place, places, pack, IsPack}
use Rattle.gt_pack.specs.Laws.{StandsAt}
use Rattle.gt_pack.specs.Reading.{pack_of}
use Rattle.gt_pack.specs.declared.placed.Placed.{Placed}
use Rattle.gt_pack.proofs.StandLaws as stand
use Rattle.gt_pack.proofs.WholeLaws.{pack_again}
use Rattle.gt_reading.specs.Reading.{run, parsed, parsed_file}
use Rattle.gt_apply.specs.Plan.{added_by, to_added}
use Rattle.gt_base.specs.Held.{places_or_none, named_record, records_of, own_of}
use Rattle.gt_base.specs.Packs.{PackFile}
use Rattle.gt_base.specs.Recovery.{pack_as}
use Rattle.gt_applied.specs.Applied.{to_packed}
use Rattle.gt_applied.proofs.Shown.{pack_shown, HasPack}

-- ---- the records of a pack

abbrev pair : Packed → List ℕ × List ℕ
pair p = (p.name, p.whole)

-- each record is what stands at its place, under its name
records_at : (bytes : List ℕ) (ps : List Packed) (at : ℕ) → ((i : ℕ) (p : Packed) → slice_get ps i ≡ Some p → (e : Placed) × (slice_get (places at ps) i ≡ Some e) × StandsAt bytes p e) → map_list (named_record bytes) (places at ps) ≡ map_list pair ps
records_at bytes [] at h = refl
records_at bytes (p ∷ ps) at h =
    let (e, is, stands) = h 0 p refl in
    let same : place at p ≡ e = cc is in
    let whole : slice_range bytes (at + 24) (at + 24 + length p.whole) ≡ p.whole = ap (λ (z : Placed). slice_range bytes z.place (z.place + z.len)) same ∙ stands.whole in
    ap (λ (w : List ℕ). (p.name, w) ∷ map_list (named_record bytes) (places (at + 24 + length p.whole) ps)) whole
    ∙ ap (λ (l : List (List ℕ × List ℕ)). pair p ∷ l) (records_at bytes ps (at + 24 + length p.whole) (λ i q g. h (suc i) q g))

records_are : (ps : List Packed) → IsPack ps → map_list (named_record (pack ps)) (places 8 ps) ≡ map_list pair ps
records_are ps good = records_at (pack ps) ps 8 (λ i p g. stand.records_are ps i p good g)

pairs_are : (es : List (List ℕ × List ℕ)) → map_list pair (map_list to_packed (map_list to_added es)) ≡ es
pairs_are [] = refl
pairs_are (e ∷ es) = ap (λ (l : List (List ℕ × List ℕ)). e ∷ l) (pairs_are es)

module _ (files : Files) (n : ℕ) (ps : List Packed) (good : IsPack ps) (there : files (pack_file n) ≡ Some (pack ps)) where
  -- A pack that is written is there.
  pub pack_there : HasPack files n
  pack_there =
      ap (λ (o : FileContent). run files (parsed_file (pack_file n) (λ bytes. pack_as n bytes (pack_of bytes)) o)) there
      ∙ ap (λ (o : Result (List Placed) ℕ). run files (parsed (pack_file n) (pack_as n (pack ps) o))) (pack_again ps good)
      ∙ ap (λ (o : FileContent). Ok (record { number = n; bytes = unwrap_or o [] })) (sym there)

  pack_records : records_of (pack_shown files n) ≡ map.from_entries (map_list pair ps)
  pack_records =
      ap (λ (o : FileContent). records_of (record { number = n; bytes = unwrap_or o [] })) there
      ∙ ap (λ (o : Result (List Placed) ℕ). map.from_entries {R = key_cmp} (map_list (named_record (pack ps)) (places_or_none o))) (pack_again ps good)
      ∙ ap (λ (es : List (List ℕ × List ℕ)). map.from_entries {R = key_cmp} es) (records_are ps good)

-- A pack of a map's records has them.
pub pack_has : (files : Files) (n : ℕ) (m : Names) → IsPack (map_list to_packed (map_list to_added (map.entries m))) → files (pack_file n) ≡ Some (pack (map_list to_packed (map_list to_added (map.entries m)))) → (q : List ℕ)
    → map.get (records_of (pack_shown files n)) q ≡ map.get m q
pack_has files n m good there q =
    let ps : List Packed = map_list to_packed (map_list to_added (map.entries m)) in
    ap (λ (r : Names). map.get r q) (pack_records files n ps good there)
    ∙ ap (λ (es : List (List ℕ × List ℕ)). map.get (map.from_entries {R = key_cmp} es) q) (pairs_are (map.entries m))
    ∙ get-from_entries nat_list_cmp_total (map.entries m) q
    ∙ sym (get-entries m q)

-- ---- one pack more

own-push : (ps : List PackFile) (p : PackFile) (m : Names) → fold (λ own p. union own (records_of p)) m (ps ++ p ∷ []) ≡ union (fold (λ own p. union own (records_of p)) m ps) (records_of p)
own-push [] p m = refl
own-push (x ∷ ps) p m = own-push ps p (union m (records_of x))

map-push : {A B : Type 0} (f : A → B) (xs : List A) (x : A) → map_list f (xs ++ x ∷ []) ≡ map_list f xs ++ f x ∷ []
map-push f [] x = refl
map-push {B = B} f (y ∷ xs) x = ap (λ (l : List B). f y ∷ l) (map-push f xs x)

-- ---- records that are new

-- Nothing is there yet under these names.
abbrev pub AreNew : Names → List Added → Type 0
AreNew own added = AllByRecursion (λ a. map.get own a.name ≡ None) added

added-over : (own m last : Names) (added : List Added) (q : List ℕ) → AreNew own added → map.get m q ≡ option_or (map.get own q) (map.get last q) → map.get (with_added m added) q ≡ option_or (map.get own q) (map.get (with_added last added) q)
added-over own m last [] q new h = h
added-over own m last (a ∷ added) q new h =
    added-over own (map.insert m a.name a.whole) (map.insert last a.name a.whole) added q new.1
    (get-insert nat_list_cmp_total m a.name a.whole q ∙ by (eq_by_cmp key_cmp q a.name) refl new.0 ∙ ap (option_or (map.get own q)) (sym (get-insert nat_list_cmp_total last a.name a.whole q)))
  where
    by : (b : Bool) → eq_by_cmp key_cmp q a.name ≡ b → map.get own a.name ≡ None → cond b (Some a.whole) (map.get m q) ≡ option_or (map.get own q) (cond b (Some a.whole) (map.get last q))
    by true t none = sym (ap (λ (o : Option (List ℕ)). option_or o (Some a.whole)) (get-alike own a.name q t ∙ none))
    by false t none = h

or_none : (o : Option (List ℕ)) → o ≡ option_or o None
or_none None = refl
or_none (Some x) = refl

-- New records are found behind those that are there.
pub new_behind : (own : Names) (added : List Added) (q : List ℕ) → AreNew own added → map.get (with_added own added) q ≡ option_or (map.get own q) (map.get (with_added map.empty added) q)
new_behind own added q new = added-over own own map.empty added q new (or_none (map.get own q) ∙ ap (option_or (map.get own q)) (sym (get-empty key_cmp q)))

-- The packs with a new one have the old objects with the new records.
pub own_follows : (files : Files) (packs : List ℕ) (n : ℕ) (added : List Added) (q : List ℕ) → AreNew (own_of (map_list (pack_shown files) packs)) added
    → IsPack (map_list to_packed (map_list to_added (map.entries (with_added map.empty added)))) → files (pack_file n) ≡ Some (pack (map_list to_packed (map_list to_added (map.entries (with_added map.empty added)))))
    → map.get (own_of (map_list (pack_shown files) (packs ++ n ∷ []))) q ≡ map.get (with_added (own_of (map_list (pack_shown files) packs)) added) q
own_follows files packs n added q new good there =
    let own : Names = own_of (map_list (pack_shown files) packs) in
    ap (λ (ps : List PackFile). map.get (own_of ps) q) (map-push (pack_shown files) packs n)
    ∙ ap (λ (o : Names). map.get o q) (own-push (map_list (pack_shown files) packs) (pack_shown files n) map.empty)
    ∙ get-union own (records_of (pack_shown files n)) q
    ∙ ap (option_or (map.get own q)) (pack_has files n (with_added map.empty added) good there q)
    ∙ sym (new_behind own added q new)

-- ---- entries without records

added_none : (change : Change) → has_records change ≡ false → added_by change ≡ []
added_none (Create pool) h = refl
added_none Delete h = refl
added_none (Link pool) h = refl
added_none (Write refs needed []) h = refl
added_none (Write refs needed (a ∷ added)) h = absurd (cc h)
added_none (Repack file dropped) h = refl
added_none (Prune file dropped) h = refl
added_none (PackRefs file) h = refl
added_none (Unlink file) h = refl

pub all_none : (es : List Entry) → list_any (λ e. has_records e.change) es ≡ false → flat_map (λ e. added_by e.change) es ≡ []
all_none [] h = refl
all_none (e ∷ es) h = by (has_records e.change) refl h (all_none es)
  where
    by : (b : Bool) → has_records e.change ≡ b → (b || list_any (λ e. has_records e.change) es) ≡ false → (list_any (λ e. has_records e.change) es ≡ false → flat_map (λ e. added_by e.change) es ≡ [])
        → flat_map (λ e. added_by e.change) (e ∷ es) ≡ []
    by true is h rest = absurd (cc h)
    by false is h rest = ap (λ (l : List Added). l ++ flat_map (λ e. added_by e.change) es) (added_none e.change is) ∙ rest h
