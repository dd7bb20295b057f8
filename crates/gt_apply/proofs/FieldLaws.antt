-- The other fields of one repository: what each step of a plan makes of them.
use Rattle.std.proofs.Common.{◌≡◌, ℕ, ◌+◌, ◌≤◌, Bool, true, false, cond, ◌&&◌, T, is_some, is_none, List, [], ◌∷◌, ◌++◌, length, Option, Some, None, eqb, ltb, nat_le, refl, sym, ap, subst, filter, fold, flat_map, map as map_list, arith}
use Rattle.std.proofs.lemmas.Bool.{ltb-false}
use Rattle.std.proofs.lemmas.List.Elements.{recursion_from_All}
use Rattle.std.specs.List.{AllByRecursion, list_any}
use Rattle.std.specs.Option.{option_map}
use Rattle.std.specs.Ordering.{is_lt}
use Rattle.std.specs.declared.cmp.Ordering.{Ordering}
use Rattle.std.specs.declared.cmp.Ordering.TheVariants.{Less, Equal, Greater}
use Rattle.std.specs.Cmp.Lexicographic.{nat_list_cmp_total}
use Rattle.std.specs.FinMap as map
use Rattle.std.specs.FinMap.{FinMap, put, is_sorted, entries-insert, entries_sorted}
use Rattle.std.specs.FinMap.Entries.{by_order, below_all}
use Rattle.gt_name.specs.Broken.{or_else}
use Rattle.gt_name.specs.Paths.{path_length, IsPath as IsPathText}
use Rattle.gt_name.specs.References.{IsRefName}
use Rattle.gt_name.proofs.LawsLemmas.{failed, kept_by_reference}
use Rattle.gt_entry.specs.Fits.{IsUpdate, IsChange, IsEntry}
use Rattle.gt_manifest.specs.declared.manifest.Loose.{Loose}
use Rattle.gt_manifest.specs.declared.manifest.RepoFiles.{RepoFiles}
use Rattle.gt_manifest.specs.Spelling.{IsPath, IsRef, IsPool}
use Rattle.gt_model.specs.Batches as batch
use Rattle.gt_model.specs.Batches.{is_deletion, has_records, written, files_of}
use Rattle.gt_model.specs.Contents.{key_cmp}
use Rattle.gt_model.specs.Verdicts.{ascending}
use Rattle.gt_model.specs.declared.change.Change.{Change}
use Rattle.gt_model.specs.declared.change.Change.TheVariants.{Create, Delete, Link, Write, Repack, Prune, PackRefs, Unlink}
use Rattle.gt_model.specs.declared.entry.Entry.{Entry}
use Rattle.gt_model.specs.declared.update.RefUpdate.{RefUpdate}
use Rattle.gt_apply.specs.Plan.{numbers_of, to_loose, with_loose, placed, rearranged}
use Rattle.gt_apply.proofs.Lists.{all-append, all-filter}
use Rattle.gt_apply.proofs.NumberLaws.{entries-empty}
use Rattle.gt_apply.proofs.PlacedLaws.{pairs-back}
use Rattle.gt_apply.proofs.SlotLaws.{enter, first_of, start, slot, slots}

-- ---- texts

none_first : {A : Type 0} (a b : Option A) → or_else a b ≡ None → a ≡ None
none_first None b e = refl
none_first (Some x) b e = cc

path_short : (t : List ℕ) → path_length t ≡ None → length t ≤ 255
path_short t e = by (eqb (length t) 0) refl (ltb 255 (length t)) refl e
  where
    by : (a : Bool) → eqb (length t) 0 ≡ a → (b : Bool) → ltb 255 (length t) ≡ b → cond {A = Option ℕ} a (Some 0) (cond {A = Option ℕ} b (Some 255) None) ≡ None → length t ≤ 255
    by true p b q f = absurd cc
    by false p true q f = absurd cc
    by false p false q f = ltb-false _ _ q

pub path_fits : (t : List ℕ) → IsPathText t → IsPath t
path_fits t good = (let short = path_short t (none_first _ _ good) in omega (arith, short), ap is_none good)

pub ref_fits : (t : List ℕ) → IsRefName t → IsRef t
ref_fits t good =
    let short : length t ≤ 1024 = ltb-false _ _ (failed _ 1024 (kept_by_reference t good).0) in
    (omega (arith, short), ap is_none good)

-- ---- names in a map

module _ {X : Type 0} (P : List ℕ → Type 0) where
  named-put : (k : List ℕ) (v : X) (es : List (List ℕ × X)) → P k → AllByRecursion (λ e. P e.0) es → AllByRecursion (λ e. P e.0) (put key_cmp k v es)
  named-put k v [] p h = (p, tt)
  named-put k v (e ∷ es) p h = by (key_cmp k e.0) (named-put k v es p h.1)
    where
      by : (o : Ordering) → AllByRecursion (λ e. P e.0) (put key_cmp k v es) → AllByRecursion (λ e. P e.0) (by_order o ((k, v) ∷ e ∷ es) ((e.0, v) ∷ es) (e ∷ put key_cmp k v es))
      by Less more = (p, h)
      by Equal more = h
      by Greater more = (h.0, more)

  named-insert : (m : FinMap key_cmp X) (k : List ℕ) (v : X) → P k → AllByRecursion (λ e. P e.0) (map.entries m) → AllByRecursion (λ e. P e.0) (map.entries (map.insert m k v))
  named-insert m k v p h = subst (λ (es : List (List ℕ × X)). AllByRecursion (λ e. P e.0) es) (sym (entries-insert nat_list_cmp_total m k v)) (named-put k v (map.entries m) p h)

  named-from : (es : List (List ℕ × X)) → AllByRecursion (λ e. P e.0) es → AllByRecursion (λ e. P e.0) (map.entries (map.from_entries {R = key_cmp} es))
  named-from [] h = subst (λ (es : List (List ℕ × X)). AllByRecursion (λ e. P e.0) es) (sym (entries-empty {X = X})) tt
  named-from (e ∷ es) h = named-insert (map.from_entries es) e.0 e.1 h.0 (named-from es h.1)

-- ---- loose references

abbrev pub pairs : List Loose → List (List ℕ × ℕ)
pairs list = map_list (λ l. (l.name, l.file)) list

named-pairs : (list : List Loose) → AllByRecursion (λ l. IsRef l.name) list → AllByRecursion (λ e. IsRef e.0) (pairs list)
named-pairs [] h = tt
named-pairs (l ∷ ls) h = (h.0, named-pairs ls h.1)

named-loose : (es : List (List ℕ × ℕ)) → AllByRecursion (λ e. IsRef e.0) es → AllByRecursion (λ l. IsRef l.name) (map_list to_loose es)
named-loose [] h = tt
named-loose (e ∷ es) h = (h.0, named-loose es h.1)

left : (a b : Bool) → T (a && b) → T a
left true b h = tt
left false b h = absurd h

right : (a b : Bool) → T (a && b) → T b
right true b h = h
right false b h = absurd h

both : (a b : Bool) → T a → T b → T (a && b)
both true b p q = q
both false b p q = absurd p

below-kept : (p : Loose → Bool) (k : List ℕ) (ls : List Loose) → T (below_all key_cmp k (pairs ls)) → T (below_all key_cmp k (pairs (filter p ls)))
below-kept p k [] h = tt
below-kept p k (l ∷ ls) h = by (p l) (below-kept p k ls (right (is_lt (key_cmp k l.name)) (below_all key_cmp k (pairs ls)) h))
  where
    by : (b : Bool) → T (below_all key_cmp k (pairs (filter p ls))) → T (below_all key_cmp k (pairs (cond b (l ∷ filter p ls) (filter p ls))))
    by true more = both (is_lt (key_cmp k l.name)) (below_all key_cmp k (pairs (filter p ls))) (left (is_lt (key_cmp k l.name)) (below_all key_cmp k (pairs ls)) h) more
    by false more = more

sorted-kept : (p : Loose → Bool) (ls : List Loose) → T (is_sorted key_cmp (pairs ls)) → T (is_sorted key_cmp (pairs (filter p ls)))
sorted-kept p [] h = tt
sorted-kept p (l ∷ ls) h =
    by (p l) (below-kept p l.name ls (left (below_all key_cmp l.name (pairs ls)) (is_sorted key_cmp (pairs ls)) h)) (sorted-kept p ls (right (below_all key_cmp l.name (pairs ls)) (is_sorted key_cmp (pairs ls)) h))
  where
    by : (b : Bool) → T (below_all key_cmp l.name (pairs (filter p ls))) → T (is_sorted key_cmp (pairs (filter p ls))) → T (is_sorted key_cmp (pairs (cond b (l ∷ filter p ls) (filter p ls))))
    by true below more = both (below_all key_cmp l.name (pairs (filter p ls))) (is_sorted key_cmp (pairs (filter p ls))) below more
    by false below more = more

-- ---- a repository

-- It stands at this path, its texts have their types, its references ascend, and its positions are at most this one.
pub record Fine (limit : ℕ) (path : List ℕ) (r : RepoFiles) : Type 0 where
  pub path_is : r.path ≡ path
  pub pool : IsPool r.pool
  pub sorted : T (is_sorted key_cmp (pairs r.loose))
  pub refs : AllByRecursion (λ l. IsRef l.name) r.loose
  pub repacked : r.repacked ≤ limit
  pub refs_packed : r.refs_packed ≤ limit

-- a later limit
pub fine-more : (a b : ℕ) (path : List ℕ) (r : RepoFiles) → a ≤ b → Fine a path r → Fine b path r
fine-more a b path r le f = record {
  path_is = f.path_is;
  pool = f.pool;
  sorted = f.sorted;
  refs = f.refs;
  repacked = let x : r.repacked ≤ a = f.repacked in omega arith;
  refs_packed = let x : r.refs_packed ≤ a = f.refs_packed in omega arith;
}

-- The reference of a new file has its type.
abbrev pub IsGoodFile : batch.NewFile → Type 0
IsGoodFile batch.pack = Unit {0}
IsGoodFile (batch.loose name) = IsRef name

-- The entry has its types, and its position is at most this one.
abbrev pub IsGood : ℕ → Entry → Type 0
IsGood limit e = IsEntry e × (e.position ≤ limit)

module _ (limit : ℕ) (path : List ℕ) where
  fine-placed : (n : ℕ) (files : List batch.NewFile) (r : RepoFiles) → AllByRecursion IsGoodFile files → Fine limit path r → Fine limit path (placed n files r)
  fine-placed n [] r all f = f
  fine-placed n (batch.pack ∷ files) r all f =
      fine-placed (n + 1) files (record r { packs = r.packs ++ n ∷ [] }) all.1 (record { path_is = f.path_is; pool = f.pool; sorted = f.sorted; refs = f.refs; repacked = f.repacked; refs_packed = f.refs_packed })
  fine-placed n (batch.loose name ∷ files) r all f =
      fine-placed (n + 1) files (record r { loose = with_loose r.loose name n }) all.1 (record {
        path_is = f.path_is;
        pool = f.pool;
        sorted = let m : FinMap key_cmp ℕ = map.insert (numbers_of r.loose) name n in subst (λ (es : List (List ℕ × ℕ)). T (is_sorted key_cmp es)) (sym (pairs-back (map.entries m))) (entries_sorted m);
        refs = named-loose (map.entries (map.insert (numbers_of r.loose) name n)) (named-insert IsRef (numbers_of r.loose) name n all.0 (named-from IsRef (pairs r.loose) (named-pairs r.loose f.refs)));
        repacked = f.repacked;
        refs_packed = f.refs_packed;
      })

  fine-rearranged : (position : ℕ) (change : Change) (r : RepoFiles) → IsChange change → position ≤ limit → Fine limit path r → Fine limit path (rearranged position change r)
  fine-rearranged position (Create pool) r typed low f = f
  fine-rearranged position Delete r typed low f = f
  fine-rearranged position (Link pool) r typed low f =
      record { path_is = f.path_is; pool = path_fits pool typed; sorted = f.sorted; refs = f.refs; repacked = f.repacked; refs_packed = f.refs_packed }
  fine-rearranged position (Write refs needed added) r typed low f = f
  fine-rearranged position (Repack file dropped) r typed low f =
      record { path_is = f.path_is; pool = f.pool; sorted = f.sorted; refs = f.refs; repacked = low; refs_packed = f.refs_packed }
  fine-rearranged position (Prune file dropped) r typed low f =
      record { path_is = f.path_is; pool = f.pool; sorted = f.sorted; refs = f.refs; repacked = low; refs_packed = f.refs_packed }
  fine-rearranged position (PackRefs file) r typed low f =
      record {
        path_is = f.path_is;
        pool = f.pool;
        sorted = sorted-kept (λ l. nat_le file l.file) r.loose f.sorted;
        refs = all-filter (λ l. IsRef l.name) (λ l. nat_le file l.file) r.loose f.refs;
        repacked = f.repacked;
        refs_packed = low;
      }
  fine-rearranged position (Unlink file) r typed low f =
      record { path_is = f.path_is; pool = tt; sorted = f.sorted; refs = f.refs; repacked = low; refs_packed = f.refs_packed }

  -- ---- what stands at a path

  abbrev pub FineAt : Option RepoFiles → Type 0
  FineAt None = Unit {0}
  FineAt (Some r) = Fine limit path r

  at-map : (g : RepoFiles → RepoFiles) (o : Option RepoFiles) → ((r : RepoFiles) → Fine limit path r → Fine limit path (g r)) → FineAt o → FineAt (option_map g o)
  at-map g None f h = tt
  at-map g (Some r) f h = f r h

  fine-enter : (e : Entry) (o : Option RepoFiles) → IsGood limit e → FineAt o → FineAt (enter o e)
  fine-enter e o good h = by (is_deletion e.change)
    where
      by : (b : Bool) → FineAt (cond b None (option_map (rearranged e.position e.change) o))
      by true = tt
      by false = at-map (rearranged e.position e.change) o (λ r f. fine-rearranged e.position e.change r good.0.change good.1 f) h

  fine-all : (own : List Entry) (o : Option RepoFiles) → AllByRecursion (IsGood limit) own → FineAt o → FineAt (fold enter o own)
  fine-all [] o all h = h
  fine-all (e ∷ es) o all h = fine-all es (enter o e) all.1 (fine-enter e o all.0 h)

  fine-start : (own : List Entry) (o : Option RepoFiles) → FineAt o → FineAt (start path own o)
  fine-start [] o h = h
  fine-start (e ∷ es) o h = by e.change
    where
      by : (change : Change) → FineAt (first_of change path o)
      by (Create pool) = record { path_is = refl; pool = tt; sorted = tt; refs = tt; repacked = omega arith; refs_packed = omega arith }
      by Delete = h
      by (Link pool) = h
      by (Write refs needed added) = h
      by (Repack file dropped) = h
      by (Prune file dropped) = h
      by (PackRefs file) = h
      by (Unlink file) = h

-- ---- the new files of good entries

moved-good : (us : List RefUpdate) → AllByRecursion IsUpdate us → AllByRecursion IsRef (map_list (λ u. u.name) (filter (λ u. is_some u.new) us))
moved-good [] h = tt
moved-good (u ∷ us) h = by (is_some u.new) (moved-good us h.1)
  where
    by : (b : Bool) → AllByRecursion IsRef (map_list (λ u. u.name) (filter (λ u. is_some u.new) us)) → AllByRecursion IsRef (map_list (λ u. u.name) (cond b (u ∷ filter (λ u. is_some u.new) us) (filter (λ u. is_some u.new) us)))
    by true more = (ref_fits u.name h.0.name, more)
    by false more = more

written-good : (change : Change) → IsChange change → AllByRecursion IsRef (written change)
written-good (Create pool) typed = tt
written-good Delete typed = tt
written-good (Link pool) typed = tt
written-good (Write refs needed added) typed = moved-good refs (recursion_from_All IsUpdate refs typed.refs)
written-good (Repack file dropped) typed = tt
written-good (Prune file dropped) typed = tt
written-good (PackRefs file) typed = tt
written-good (Unlink file) typed = tt

all-written : (limit : ℕ) (own : List Entry) → AllByRecursion (IsGood limit) own → AllByRecursion IsRef (flat_map (λ e. written e.change) own)
all-written limit [] all = tt
all-written limit (e ∷ es) all = all-append IsRef (written e.change) (flat_map (λ e. written e.change) es) (written-good e.change all.0.0.change) (all-written limit es all.1)

named-names : (names : List (List ℕ)) → AllByRecursion IsRef names → AllByRecursion {X = List ℕ × List ℕ} (λ e. IsRef e.0) (map_list (λ name. (name, name)) names)
named-names [] h = tt
named-names (x ∷ xs) h = (h.0, named-names xs h.1)

loose-good : (es : List (List ℕ × List ℕ)) → AllByRecursion (λ e. IsRef e.0) es → AllByRecursion IsGoodFile (map_list batch.loose (map_list (λ e. e.0) es))
loose-good [] h = tt
loose-good (e ∷ es) h = (h.0, loose-good es h.1)

files-good : (limit : ℕ) (own : List Entry) → AllByRecursion (IsGood limit) own → AllByRecursion IsGoodFile (files_of own)
files-good limit own all =
    all-append IsGoodFile (cond (list_any (λ e. has_records e.change) own) (batch.pack ∷ []) []) (map_list batch.loose (ascending (flat_map (λ e. written e.change) own)))
    (pack (list_any (λ e. has_records e.change) own))
    (loose-good (map.entries (map.from_entries {R = key_cmp} (map_list (λ name. (name, name)) (flat_map (λ e. written e.change) own))))
    (named-from IsRef (map_list (λ name. (name, name)) (flat_map (λ e. written e.change) own)) (named-names (flat_map (λ e. written e.change) own) (all-written limit own all))))
  where
    pack : (b : Bool) → AllByRecursion IsGoodFile (cond b (batch.pack ∷ []) [])
    pack true = (tt, tt)
    pack false = tt

pub fine-slots : (limit : ℕ) (path : List ℕ) (n : ℕ) (repos : List (List Entry)) (o : Option RepoFiles) → AllByRecursion (λ own. AllByRecursion (IsGood limit) own) repos → FineAt limit path o → FineAt limit path (slots path n repos o)
fine-slots limit path n [] o all h = h
fine-slots limit path n (own ∷ later) o all h =
    fine-slots limit path (n + length (files_of own)) later (slot path n own o) all.1
    (fine-all limit path own (option_map (placed n (files_of own)) (start path own o)) all.0
    (at-map limit path (placed n (files_of own)) (start path own o) (λ r f. fine-placed limit path n (files_of own) r (files-good limit own all.0) f) (fine-start limit path own o h)))
