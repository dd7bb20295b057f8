-- What entries write to one repository.
use Rattle.std.proofs.Common.{◌≡◌, ℕ, ◌+◌, arith, length, length-append, Bool, true, false, cond, ◌&&◌, ◌||◌, T, is_some, List, [], ◌∷◌, ◌++◌, Option, Some, None, refl, sym, ap, ◌∙◌, filter, fold, flat_map, map as map_list}
use Rattle.std.proofs.lemmas.List.{map-append}
use Rattle.std.proofs.lemmas.List.Elements.{filter-append}
use Rattle.std.specs.List.{list_any}
use Rattle.std.specs.List.Sorted.{IsStrictlySortedBy}
use Rattle.std.specs.Option.{unwrap_or}
use Rattle.std.specs.Ordering.{eq_by_cmp, is_eq, is_lt}
use Rattle.std.specs.declared.cmp.Ordering.{Ordering}
use Rattle.std.specs.declared.cmp.Ordering.TheVariants.{Less, Equal, Greater}
use Rattle.std.specs.Cmp.{eq_by_cmp_equiv}
use Rattle.std.specs.Cmp.Lexicographic.{nat_list_cmp_total}
use Rattle.std.specs.FinMap as map
use Rattle.std.specs.FinMap.{find, get-insert, get-empty, get-from_entries, get-entries, entries_sorted, is_sorted}
use Rattle.std.specs.FinMap.Entries.{below_all}
use Rattle.gt_model.specs.Batches as batch
use Rattle.gt_model.specs.Batches.{has_records, written, files_of, paths_of}
use Rattle.gt_model.specs.Contents.{key_cmp, Names, zero}
use Rattle.gt_model.specs.Verdicts.{ascending}
use Rattle.gt_model.specs.declared.added.Added.{Added}
use Rattle.gt_model.specs.declared.change.Change.{Change}
use Rattle.gt_model.specs.declared.change.Change.TheVariants.{Create, Delete, Link, Write, Repack, Prune, PackRefs, Unlink}
use Rattle.gt_model.specs.declared.entry.Entry.{Entry}
use Rattle.gt_model.specs.declared.update.RefUpdate.{RefUpdate}
use Rattle.gt_versions.proofs.Keys.{flip}
use Rattle.gt_objset.proofs.ListLaws.{same_keys, names_are_keys}
use Rattle.gt_apply.specs.declared.new_file.NewContent.{NewContent}
use Rattle.gt_apply.specs.declared.new_file.NewContent.TheVariants.{Loose as LooseValue}
use Rattle.gt_apply.specs.declared.writes.Writes.{Writes}
use Rattle.gt_apply.specs.Plan.{updates_by, with_update, values_of, records_of, to_added, content_of}
use Rattle.gt_apply.specs.Steps.{pack_in, new_pack, pack_or_none, files_in, contents_in}

-- ---- the references that are written

-- the references that updates write
abbrev moved : List RefUpdate → List (List ℕ)
moved us = map_list (λ u. u.name) (filter (λ u. is_some u.new) us)

moved-append : (us vs : List RefUpdate) → moved (us ++ vs) ≡ moved us ++ moved vs
moved-append us vs =
    ap (λ (ws : List RefUpdate). map_list (λ u. u.name) ws) (filter-append (λ (u : RefUpdate). is_some u.new) us vs)
    ∙ map-append (λ (u : RefUpdate). u.name) (filter (λ u. is_some u.new) us) (filter (λ u. is_some u.new) vs)

written-moved : (change : Change) → written change ≡ moved (updates_by change)
written-moved (Create pool) = refl
written-moved Delete = refl
written-moved (Link pool) = refl
written-moved (Write refs needed added) = refl
written-moved (Repack file dropped) = refl
written-moved (Prune file dropped) = refl
written-moved (PackRefs file) = refl
written-moved (Unlink file) = refl

all-moved : (es : List Entry) → flat_map (λ e. written e.change) es ≡ moved (flat_map (λ e. updates_by e.change) es)
all-moved [] = refl
all-moved (e ∷ es) =
    ap (λ (ns : List (List ℕ)). ns ++ flat_map (λ e. written e.change) es) (written-moved e.change)
    ∙ ap (λ (ns : List (List ℕ)). moved (updates_by e.change) ++ ns) (all-moved es)
    ∙ sym (moved-append (updates_by e.change) (flat_map (λ e. updates_by e.change) es))

or_assoc : (a b c : Bool) → ((b || a) || c) ≡ (a || (b || c))
or_assoc true true c = refl
or_assoc true false c = refl
or_assoc false true c = refl
or_assoc false false c = refl

-- whether a reference has a value after an update
has-update : (m : Names) (u : RefUpdate) (q : List ℕ) → is_some (map.get (with_update m u) q) ≡ (list_any (eq_by_cmp key_cmp q) (moved (u ∷ [])) || is_some (map.get m q))
has-update m u q = by u.new
  where
    put : (b : Bool) (value : List ℕ) (o : Option (List ℕ)) → is_some (cond b (Some value) o) ≡ ((b || false) || is_some o)
    put true value o = refl
    put false value o = refl

    by : (new : Option (List ℕ)) → is_some (map.get (with_update m (record u { new = new })) q) ≡ (list_any (eq_by_cmp key_cmp q) (moved (record u { new = new } ∷ [])) || is_some (map.get m q))
    by None = refl
    by (Some value) = ap is_some (get-insert nat_list_cmp_total m u.name value q) ∙ put (eq_by_cmp key_cmp q u.name) value (map.get m q)

any-append : (q : List ℕ) (xs ys : List (List ℕ)) → list_any (eq_by_cmp key_cmp q) (xs ++ ys) ≡ (list_any (eq_by_cmp key_cmp q) xs || list_any (eq_by_cmp key_cmp q) ys)
any-append q [] ys = refl
any-append q (x ∷ xs) ys = ap (λ b. eq_by_cmp key_cmp q x || b) (any-append q xs ys) ∙ by (eq_by_cmp key_cmp q x)
  where
    by : (b : Bool) → (b || (list_any (eq_by_cmp key_cmp q) xs || list_any (eq_by_cmp key_cmp q) ys)) ≡ ((b || list_any (eq_by_cmp key_cmp q) xs) || list_any (eq_by_cmp key_cmp q) ys)
    by true = refl
    by false = refl

has-updates : (m : Names) (us : List RefUpdate) (q : List ℕ) → is_some (map.get (fold with_update m us) q) ≡ (is_some (map.get m q) || list_any (eq_by_cmp key_cmp q) (moved us))
has-updates m [] q = none (is_some (map.get m q))
  where
    none : (b : Bool) → b ≡ (b || false)
    none true = refl
    none false = refl
has-updates m (u ∷ us) q =
    has-updates (with_update m u) us q
    ∙ ap (λ b. b || list_any (eq_by_cmp key_cmp q) (moved us)) (has-update m u q)
    ∙ or_assoc (is_some (map.get m q)) (list_any (eq_by_cmp key_cmp q) (moved (u ∷ []))) (list_any (eq_by_cmp key_cmp q) (moved us))
    ∙ ap (λ b. is_some (map.get m q) || b) (sym (any-append q (moved (u ∷ [])) (moved us)) ∙ ap (list_any (eq_by_cmp key_cmp q)) (sym (moved-append (u ∷ []) us)))

-- whether a name is among the keys of names
pub has-name : (names : List (List ℕ)) (q : List ℕ) → is_some (map.get (map.from_entries {R = key_cmp} (map_list (λ name. (name, name)) names)) q) ≡ list_any (eq_by_cmp key_cmp q) names
has-name names q = ap is_some (get-from_entries nat_list_cmp_total (map_list (λ name. (name, name)) names) q) ∙ by names
  where
    one : (b : Bool) (x : List ℕ) (o : Option (List ℕ)) → is_some (cond b (Some x) o) ≡ (b || is_some o)
    one true x o = refl
    one false x o = refl

    by : (names : List (List ℕ)) → is_some (find key_cmp q (map_list (λ name. (name, name)) names)) ≡ list_any (eq_by_cmp key_cmp q) names
    by [] = refl
    by (x ∷ xs) = one (eq_by_cmp key_cmp q x) x (find key_cmp q (map_list (λ name. (name, name)) xs)) ∙ ap (λ b. eq_by_cmp key_cmp q x || b) (by xs)

-- the written references are those that have values
written-keys : (es : List Entry) → map.keys (values_of es) ≡ ascending (flat_map (λ e. written e.change) es)
written-keys es =
    same_keys (values_of es) (map.from_entries {R = key_cmp} (map_list (λ name. (name, name)) (flat_map (λ e. written e.change) es))) (λ q.
    has-updates map.empty (flat_map (λ e. updates_by e.change) es) q
    ∙ ap (λ (o : Option (List ℕ)). is_some o || list_any (eq_by_cmp key_cmp q) (moved (flat_map (λ e. updates_by e.change) es))) (get-empty key_cmp q)
    ∙ ap (list_any (eq_by_cmp key_cmp q)) (sym (all-moved es))
    ∙ sym (has-name (flat_map (λ e. written e.change) es) q))

-- ---- the new files

loose-keys : (vs : List (List ℕ × List ℕ)) → map_list (λ v. batch.loose v.0) vs ≡ map_list batch.loose (map_list (λ v. v.0) vs)
loose-keys [] = refl
loose-keys (v ∷ vs) = ap (λ (fs : List batch.NewFile). batch.loose v.0 ∷ fs) (loose-keys vs)

pack-files : (b : Bool) (records : List Added) → pack_or_none (cond b (Some records) None) ≡ cond b (batch.pack ∷ []) []
pack-files true records = refl
pack-files false records = refl

loose-files : (es : List Entry) → map_list (λ v. batch.loose v.0) (map.entries (values_of es)) ≡ map_list batch.loose (ascending (flat_map (λ e. written e.change) es))
loose-files es = loose-keys (map.entries (values_of es)) ∙ ap (λ (ks : List (List ℕ)). map_list batch.loose ks) (written-keys es)

pub files_are : (es : List Entry) (w : Writes) → w.pack ≡ pack_in es → w.values ≡ map.entries (values_of es) → files_in w ≡ files_of es
files_are es w pack values =
    ap (λ (o : Option (List Added)). pack_or_none o ++ map_list (λ v. batch.loose v.0) w.values) pack
    ∙ ap (λ (vs : List (List ℕ × List ℕ)). pack_or_none (pack_in es) ++ map_list (λ v. batch.loose v.0) vs) values
    ∙ ap (λ (fs : List batch.NewFile). pack_or_none (pack_in es) ++ fs) (loose-files es)
    ∙ ap (λ (fs : List batch.NewFile). fs ++ map_list batch.loose (ascending (flat_map (λ e. written e.change) es)))
    (pack-files (list_any (λ e. has_records e.change) es) (map_list to_added (map.entries (records_of es))))

-- how many there are
pub how_many : (es : List Entry) (values : List (List ℕ × List ℕ)) (b : Bool) → values ≡ map.entries (values_of es) → list_any (λ e. has_records e.change) es ≡ b → cond b 1 0 + length values ≡ length (files_of es)
how_many es values b same any =
    let records : List Added = map_list to_added (map.entries (records_of es)) in
    let all : length (pack_or_none (pack_in es) ++ map_list (λ v. batch.loose v.0) values) ≡ length (files_of es) = ap length (files_are es (record { pack = pack_in es; values = values }) refl same) in
    let parts : length (pack_or_none (pack_in es) ++ map_list (λ v. batch.loose v.0) values) ≡ length (pack_or_none (pack_in es)) + length (map_list (λ v. batch.loose v.0) values) =
    length-append (pack_or_none (pack_in es)) (map_list (λ v. batch.loose v.0) values) in
    let one : length (pack_or_none (pack_in es)) ≡ cond b 1 0 = ap (λ (t : Bool). length (pack_or_none (cond t (Some records) None))) any ∙ by b in
    let many : length (map_list (λ v. batch.loose v.0) values) ≡ length values = long values in
    omega arith
  where
    by : (t : Bool) → length (pack_or_none (cond t (Some (map_list to_added (map.entries (records_of es)))) None)) ≡ cond t 1 0
    by true = refl
    by false = refl

    long : (vs : List (List ℕ × List ℕ)) → length (map_list (λ v. batch.loose v.0) vs) ≡ length vs
    long [] = refl
    long (v ∷ vs) = let e : length (map_list (λ v. batch.loose v.0) vs) ≡ length vs = long vs in omega arith

-- ---- what they have

both : (a b : Bool) → T (a && b) → T a × T b
both true b h = (tt, h)
both false b h = absurd h

less_apart : (o : Ordering) → T (is_lt o) → is_eq o ≡ false
less_apart Less h = refl
less_apart Equal h = absurd h
less_apart Greater h = absurd h

-- what a new file has, by the value that is found under its name
abbrev found_content : Option (List ℕ) → NewContent
found_content o = LooseValue (unwrap_or o zero)

-- further entries are found behind one that is less
found-later : (es fs : List (List ℕ × List ℕ)) (k v : List ℕ) → T (below_all key_cmp k fs)
    → map_list (λ f. found_content (find key_cmp f.0 ((k, v) ∷ es))) fs ≡ map_list (λ f. found_content (find key_cmp f.0 es)) fs
found-later es [] k v h = refl
found-later es (f ∷ fs) k v h =
    let parts : T (is_lt (key_cmp k f.0)) × T (below_all key_cmp k fs) = both (is_lt (key_cmp k f.0)) (below_all key_cmp k fs) h in
    ap (λ b. found_content (cond b (Some v) (find key_cmp f.0 es)) ∷ map_list (λ f. found_content (find key_cmp f.0 ((k, v) ∷ es))) fs) (flip f.0 k ∙ less_apart (key_cmp k f.0) parts.0)
    ∙ ap (λ (cs : List NewContent). found_content (find key_cmp f.0 es) ∷ cs) (found-later es fs k v parts.1)

found-all : (es : List (List ℕ × List ℕ)) → T (is_sorted key_cmp es) → map_list (λ f. found_content (find key_cmp f.0 es)) es ≡ map_list (λ f. LooseValue f.1) es
found-all [] h = refl
found-all (e ∷ es) h =
    let parts : T (below_all key_cmp e.0 es) × T (is_sorted key_cmp es) = both (below_all key_cmp e.0 es) (is_sorted key_cmp es) h in
    ap (λ b. found_content (cond b (Some e.1) (find key_cmp e.0 es)) ∷ map_list (λ f. found_content (find key_cmp f.0 (e ∷ es))) es) ((eq_by_cmp_equiv nat_list_cmp_total).refl e.0)
    ∙ ap (λ (cs : List NewContent). LooseValue e.1 ∷ cs) (found-later es es e.0 e.1 parts.0 ∙ found-all es parts.1)

-- each value is that of its reference
content-values : (es : List Entry) (vs : List (List ℕ × List ℕ)) → map_list (content_of es) (map_list (λ v. batch.loose v.0) vs) ≡ map_list (λ f. found_content (find key_cmp f.0 (map.entries (values_of es)))) vs
content-values es [] = refl
content-values es (v ∷ vs) =
    ap (λ (o : Option (List ℕ)). found_content o ∷ map_list (content_of es) (map_list (λ v. batch.loose v.0) vs)) (get-entries (values_of es) v.0)
    ∙ ap (λ (cs : List NewContent). found_content (find key_cmp v.0 (map.entries (values_of es))) ∷ cs) (content-values es vs)

content-pack : (es : List Entry) (b : Bool) → new_pack (cond b (Some (map_list to_added (map.entries (records_of es)))) None) ≡ map_list (content_of es) (pack_or_none (cond b (Some (map_list to_added (map.entries (records_of es)))) None))
content-pack es true = refl
content-pack es false = refl

pub contents_are : (es : List Entry) (w : Writes) → w.pack ≡ pack_in es → w.values ≡ map.entries (values_of es) → contents_in w ≡ map_list (content_of es) (files_of es)
contents_are es w pack values =
    ap (λ (o : Option (List Added)). new_pack o ++ map_list (λ v. LooseValue v.1) w.values) pack
    ∙ ap (λ (vs : List (List ℕ × List ℕ)). new_pack (pack_in es) ++ map_list (λ v. LooseValue v.1) vs) values
    ∙ ap (λ (cs : List NewContent). cs ++ map_list (λ v. LooseValue v.1) (map.entries (values_of es))) (content-pack es (list_any (λ e. has_records e.change) es))
    ∙ ap (λ (cs : List NewContent). map_list (content_of es) (pack_or_none (pack_in es)) ++ cs) (sym (content-values es (map.entries (values_of es)) ∙ found-all (map.entries (values_of es)) (entries_sorted (values_of es))))
    ∙ sym (map-append (content_of es) (pack_or_none (pack_in es)) (map_list (λ v. batch.loose v.0) (map.entries (values_of es))))
    ∙ ap (λ (fs : List batch.NewFile). map_list (content_of es) fs) (files_are es (record { pack = pack_in es; values = map.entries (values_of es) }) refl refl)

-- ---- the paths of entries

-- a path more
pub noted : (old new b c rest all : Bool) → new ≡ cond c true old → c ≡ b → (old || (b || rest)) ≡ all → (new || rest) ≡ all
noted old new b c rest all put is left = ap (λ x. x || rest) (put ∙ ap (λ x. cond x true old) is) ∙ by old b ∙ left
  where
    by : (old b : Bool) → (cond b true old || rest) ≡ (old || (b || rest))
    by true true = refl
    by true false = refl
    by false true = refl
    by false false = refl

pub paths_are : (es : List Entry) (keys : List (List ℕ)) → IsStrictlySortedBy key_cmp keys → ((q : List ℕ) → list_any (eq_by_cmp key_cmp q) keys ≡ list_any (eq_by_cmp key_cmp q) (map_list (λ e. e.path) es)) → keys ≡ paths_of es
paths_are es keys sorted has =
    names_are_keys keys (map.from_entries {R = key_cmp} (map_list (λ name. (name, name)) (map_list (λ e. e.path) es))) sorted (λ q. has q ∙ sym (has-name (map_list (λ e. e.path) es) q))
