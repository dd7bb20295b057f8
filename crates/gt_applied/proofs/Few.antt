-- How many new files entries make at most.
use Rattle.std.proofs.Common.{◌≡◌, ℕ, suc, ◌+◌, ◌*◌, ◌^◌, ◌<◌, ◌≤◌, Bool, true, false, cond, is_some, List, [], ◌∷◌, ◌++◌, length, filter, flat_map, ap, ◌∙◌, arith, length-append, All, map as map_list}
use Rattle.std.proofs.lemmas.List.{length-map}
use Rattle.std.proofs.lemmas.Grind.{flat_map-append}
use Rattle.std.proofs.lemmas.List.Elements.{recursion_from_All}
use Rattle.std.specs.List.{AllByRecursion, list_any}
use Rattle.std.specs.Cmp.Lexicographic.{nat_list_cmp_total}
use Rattle.std.specs.FinMap as map
use Rattle.std.specs.FinMap.{FinMap, len-entries, len-empty, len-insert}
use Rattle.gt_entry.specs.Fits.{HasChangeSpelling, HasSpelling}
use Rattle.gt_model.specs.Batches.{is_deletion, has_records, written, pack, loose, files_of, cut, files_at, paths_of, new_files}
use Rattle.gt_model.specs.Contents.{key_cmp}
use Rattle.gt_model.specs.Verdicts.{same_name, ascending}
use Rattle.gt_model.specs.declared.change.Change.{Change}
use Rattle.gt_model.specs.declared.change.Change.TheVariants.{Create, Delete, Link, Write, Repack, Prune, PackRefs, Unlink}
use Rattle.gt_model.specs.declared.entry.Entry.{Entry}

-- ---- lists

-- Where each gives no more than so many, all give no more than so many times their number.
few_flat : {A B : Type 0} (f : A → List B) (n : ℕ) (xs : List A) → AllByRecursion (λ x. length (f x) ≤ n) xs → length (flat_map f xs) ≤ length xs * n
few_flat f n [] h = omega arith
few_flat f n (x ∷ xs) h = omega (arith, length-append (f x) (flat_map f xs), few_flat f n xs h.1, h.0)

few_filtered : {A : Type 0} (p : A → Bool) (xs : List A) → length (filter p xs) ≤ length xs
few_filtered p [] = omega arith
few_filtered p (x ∷ xs) = by (p x) (few_filtered p xs)
  where
    by : (b : Bool) → length (filter p xs) ≤ length xs → length (cond b (x ∷ filter p xs) (filter p xs)) ≤ suc (length xs)
    by true h = omega arith
    by false h = omega arith

one_more : (b : Bool) (n : ℕ) → cond b n (n + 1) ≤ n + 1
one_more true n = omega arith
one_more false n = omega arith

few_keys : (es : List (List ℕ × List ℕ)) → map.len (map.from_entries {R = key_cmp} es) ≤ length es
few_keys [] = omega (arith, len-empty key_cmp (List ℕ))
few_keys (e ∷ es) =
    let m : FinMap key_cmp (List ℕ) = map.from_entries {R = key_cmp} es in
    omega (arith, len-insert nat_list_cmp_total m e.0 e.1, one_more (map.contains_key m e.0) (map.len m), few_keys es)

few_ascending : (names : List (List ℕ)) → length (ascending names) ≤ length names
few_ascending names =
    let pairs : List (List ℕ × List ℕ) = map_list (λ name. (name, name)) names in
    let m : FinMap key_cmp (List ℕ) = map.from_entries {R = key_cmp} pairs in
    omega (arith, length-map (map.entries m) (λ e. e.0), len-entries m, few_keys pairs, length-map {B = List ℕ × List ℕ} names (λ name. (name, name)))

-- ---- files

-- how many references entries write, each as often as they write it
abbrev weight : List Entry → ℕ
weight es = length (flat_map (λ e. written e.change) es)

weight-append : (one two : List Entry) → weight (one ++ two) ≡ weight one + weight two
weight-append one two = ap length (flat_map-append (λ (e : Entry). written e.change) one two) ∙ length-append (flat_map (λ (e : Entry). written e.change) one) (flat_map (λ (e : Entry). written e.change) two)

weight-first : (e : Entry) (es : List Entry) → weight (e ∷ es) ≡ length (written e.change) + weight es
weight-first e es = length-append (written e.change) (flat_map (λ (e : Entry). written e.change) es)

weight-last : (first : List Entry) (e : Entry) → weight (first ++ e ∷ []) ≡ weight first + length (written e.change)
weight-last first e = omega (arith, weight-append first (e ∷ []), weight-first e [])

weight_filtered : (p : Entry → Bool) (es : List Entry) → weight (filter p es) ≤ weight es
weight_filtered p [] = omega arith
weight_filtered p (e ∷ es) = by (p e) (weight_filtered p es)
  where
    by : (b : Bool) → weight (filter p es) ≤ weight es → weight (cond b (e ∷ filter p es) (filter p es)) ≤ weight (e ∷ es)
    by true h = omega (arith, weight-first e es, weight-first e (filter p es))
    by false h = omega (arith, weight-first e es)

few_packs : (b : Bool) → length (cond b (pack ∷ []) []) ≤ 1
few_packs true = omega arith
few_packs false = omega arith

-- a pack, and a file for each reference
few_files : (es : List Entry) → length (files_of es) ≤ 1 + weight es
few_files es =
    let b : Bool = list_any (λ e. has_records e.change) es in
    let names : List (List ℕ) = flat_map (λ e. written e.change) es in
    omega (arith, length-append (cond b (pack ∷ []) []) (map_list loose (ascending names)), few_packs b, length-map (ascending names) loose, few_ascending names)

-- Each repository but the last ends with an entry.
few_cut : (first es : List Entry) → length (flat_map files_of (cut first es)) ≤ (1 + length es) + (weight first + weight es)
few_cut first [] = omega (arith, length-append (files_of first) [], few_files first)
few_cut first (e ∷ es) = by (is_deletion e.change) (few_cut [] es) (few_cut (first ++ e ∷ []) es)
  where
    by : (b : Bool) → length (flat_map files_of (cut [] es)) ≤ (1 + length es) + (0 + weight es) → length (flat_map files_of (cut (first ++ e ∷ []) es)) ≤ (1 + length es) + (weight (first ++ e ∷ []) + weight es)
        → length (flat_map files_of (cond b ((first ++ e ∷ []) ∷ cut [] es) (cut (first ++ e ∷ []) es))) ≤ (1 + suc (length es)) + (weight first + weight (e ∷ es))
    by true rest more = omega (arith, length-append (files_of (first ++ e ∷ [])) (flat_map files_of (cut [] es)), few_files (first ++ e ∷ []), weight-last first e, weight-first e es)
    by false rest more = omega (arith, weight-last first e, weight-first e es)

few_at : (path : List ℕ) (entries : List Entry) → length (files_at path entries) ≤ (1 + length entries) + weight entries
few_at path entries =
    let own : List Entry = filter (λ e. same_name e.path path) entries in
    omega (arith, few_cut [] own, few_filtered (λ (e : Entry). same_name e.path path) entries, weight_filtered (λ (e : Entry). same_name e.path path) entries)

-- ---- entries with a spelling

few_written : (change : Change) → HasChangeSpelling change → length (written change) ≤ 2 ^ 32
few_written (Create pool) h = omega arith
few_written Delete h = omega arith
few_written (Link pool) h = omega arith
few_written (Write refs needed added) h = omega (arith, length-map (filter (λ u. is_some u.new) refs) (λ u. u.name), few_filtered (λ u. is_some u.new) refs, h.refs_few)
few_written (Repack file dropped) h = omega arith
few_written (Prune file dropped) h = omega arith
few_written (PackRefs file) h = omega arith
few_written (Unlink file) h = omega arith

all_few : (entries : List Entry) → AllByRecursion HasSpelling entries → AllByRecursion (λ e. length (written e.change) ≤ 2 ^ 32) entries
all_few [] h = tt
all_few (e ∷ es) h = (few_written e.change h.0, all_few es h.1)

each_path : (n : ℕ) (entries : List Entry) (paths : List (List ℕ)) → (1 + length entries) + weight entries ≤ n → AllByRecursion (λ path. length (files_at path entries) ≤ n) paths
each_path n entries [] h = tt
each_path n entries (path ∷ paths) h = (omega (arith, few_at path entries), each_path n entries paths h)

pub few_new_files : (entries : List Entry) → length entries ≤ 16 → All HasSpelling entries → new_files entries < 2 ^ 62
few_new_files entries few spelled =
    let writes : weight entries ≤ length entries * 2 ^ 32 = few_flat (λ (e : Entry). written e.change) (2 ^ 32) entries (all_few entries (recursion_from_All HasSpelling entries spelled)) in
    let each : (1 + length entries) + weight entries ≤ 2 ^ 37 = omega (arith, writes) in
    let paths : length (paths_of entries) ≤ 16 = omega (arith, few_ascending (map_list (λ e. e.path) entries), length-map entries (λ (e : Entry). e.path)) in
    let all : new_files entries ≤ length (paths_of entries) * 2 ^ 37 = few_flat (λ (path : List ℕ). files_at path entries) (2 ^ 37) (paths_of entries) (each_path (2 ^ 37) entries (paths_of entries) each) in
    omega (arith, all)
