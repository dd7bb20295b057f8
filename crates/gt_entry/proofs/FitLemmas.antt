-- What the reader lets stand is what is typed and has a spelling.
use Rattle.std.proofs.Common.{◌≡◌, ℕ, ◌≤◌, Bool, true, false, cond, eqb, ltb, ◌||◌, List, [], ◌∷◌, length, map, Option, Some, None, Result, Ok, Err, refl, sym, ap, subst, arith}
use Rattle.std.specs.Prelude.{is_none, IfSome}
use Rattle.std.specs.List.{All, AllByRecursion, list_any}
use Rattle.std.proofs.lemmas.Bool.{ltb-false}
use Rattle.std.proofs.lemmas.List.{map-id}
use Rattle.std.proofs.lemmas.List.Elements.{All-from_recursion, recursion_from_All}
use Rattle.gt_bytes.specs.Spelling.{Follows}
use Rattle.gt_name.specs.Broken.{or_else}
use Rattle.gt_name.specs.Paths.{bad_path, path_length, IsPath}
use Rattle.gt_name.specs.References.{bad_ref, IsRefName}
use Rattle.gt_name.proofs.LawsLemmas.{failed, kept_by_reference}
use Rattle.gt_object.specs.Whole.{why_not}
use Rattle.gt_object.proofs.WholeLaws as wholes
use Rattle.gt_model.specs.declared.added.Added.{Added}
use Rattle.gt_model.specs.declared.change.Change.{Change}
use Rattle.gt_model.specs.declared.change.Change.TheVariants.{Create, Delete, Link, Write, Repack, Prune, PackRefs, Unlink}
use Rattle.gt_model.specs.declared.entry.Entry.{Entry}
use Rattle.gt_model.specs.declared.update.RefUpdate.{RefUpdate}
use Rattle.gt_entry.specs.declared.version.Version.{Version}
use Rattle.gt_entry.specs.declared.version.Version.TheVariants.{First, Second}
use Rattle.gt_entry.specs.Fits.{IsNumber, IsName, IsUpdate, IsAdded, IsWrite, IsChange, IsEntry, IsCounted, Ascend, IsWritable, HasChangeSpelling, HasSpelling}
use Rattle.gt_entry.specs.Reading.{added_name, checked}
use Rattle.gt_entry.specs.Spelling.{is_check, has_check, version, same}
use Rattle.gt_entry.proofs.Allowed.{IsPathText, IsRefText, IsTarget, MayUpdate, MayName, IsWhole, MayAdd, Are, FitsWrite, FitsPacking, FitsChange, FitsBody}
use Rattle.gt_entry.proofs.OrderLemmas.{apart, joined, Rises, sorted, follows, New, distinct, fresh}

-- ---- single fields

none_is : {A : Type 0} (o : Option A) → is_none o ≡ true → o ≡ None
none_is None e = refl
none_is (Some x) e = absurd cc

first_none : {A : Type 0} (a b : Option A) → or_else a b ≡ None → a ≡ None
first_none None b e = refl
first_none (Some x) b e = absurd cc

-- a path has at most 255 bytes
path_short : (t : List ℕ) → path_length t ≡ None → length t ≤ 255
path_short t e = by (eqb (length t) 0) refl (ltb 255 (length t)) refl e
  where
    by : (a : Bool) → eqb (length t) 0 ≡ a → (b : Bool) → ltb 255 (length t) ≡ b → cond {A = Option ℕ} a (Some 0) (cond {A = Option ℕ} b (Some 255) None) ≡ None → length t ≤ 255
    by true p b q f = absurd cc
    by false p true q f = absurd cc
    by false p false q f = ltb-false _ _ q

path_text : (t : List ℕ) → IsPath t → IsPathText t
path_text t good = (let short = path_short t (first_none _ _ good) in omega (arith, short), ap is_none good)

ref_text : (t : List ℕ) → IsRefName t → IsRefText t
ref_text t good =
    let short : length t ≤ 1024 = ltb-false _ _ (failed _ 1024 (kept_by_reference t good).0) in
    (omega (arith, short), ap is_none good)

whole_is : (w : List ℕ) → why_not w ≡ None → IsWhole w
whole_is w good = (let small = (wholes.record_takes w good).small in omega (arith, small), ap is_none good)

-- ---- updates and checks

-- what is allowed of an update itself
abbrev Typed : Version → RefUpdate → Type 0
Typed v u = IsRefText u.name × (IsName u.old × IsTarget v u.new)

target_named : (v : Version) (new : Option (List ℕ)) → IsTarget v new → IfSome new IsName
target_named First None t = absurd t
target_named First (Some new) t = t
target_named Second None t = tt
target_named Second (Some new) t = t

is_update : (v : Version) (u : RefUpdate) → Typed v u → IsUpdate u
is_update v u t = record { name = none_is (bad_ref u.name) t.0.1; old = t.1.0; new = target_named v u.new t.1.1 }

second_target : (new : Option (List ℕ)) → IfSome new IsName → IsTarget Second new
second_target None t = tt
second_target (Some new) t = t

first_target : (new : Option (List ℕ)) → is_none new ≡ false → IfSome new IsName → IsTarget First new
first_target None e t = absurd cc
first_target (Some new) e t = t

neither : (a b : Bool) → (a || b) ≡ false → (a ≡ false) × (b ≡ false)
neither true b e = absurd cc
neither false b e = (refl, e)

all_second : (us : List RefUpdate) → AllByRecursion IsUpdate us → AllByRecursion (Typed Second) us
all_second [] a = tt
all_second (u ∷ us) a = ((ref_text u.name a.0.name, (a.0.old, second_target u.new a.0.new)), all_second us a.1)

all_first : (us : List RefUpdate) → list_any is_check us ≡ false → AllByRecursion IsUpdate us → AllByRecursion (Typed First) us
all_first [] e a = tt
all_first (u ∷ us) e a =
    let n = neither (is_check u) (list_any is_check us) e in
    ((ref_text u.name a.0.name, (a.0.old, first_target u.new n.0 a.0.new)), all_first us n.1 a.1)

all_updates : (v : Version) (us : List RefUpdate) → AllByRecursion (Typed v) us → AllByRecursion IsUpdate us
all_updates v [] a = tt
all_updates v (u ∷ us) a = (is_update v u a.0, all_updates v us a.1)

-- in the first spelling there is no check
some_no_check : (new : Option (List ℕ)) → IsTarget First new → is_none new ≡ false
some_no_check None t = absurd t
some_no_check (Some new) t = refl

no_check : (us : List RefUpdate) → AllByRecursion (Typed First) us → list_any is_check us ≡ false
no_check [] a = refl
no_check (u ∷ us) a = rw (some_no_check u.new a.0.1.1) (no_check us a.1)

updates_apart : (v : Version) (us : List RefUpdate) → Follows (MayUpdate v) [] us → AllByRecursion (Typed v) us × Follows New [] us
updates_apart v us f = apart (Typed v) New (MayUpdate v) (λ front u m. ((m.0.0, m.1), m.0.1)) [] us f

updates_joined : (v : Version) (us : List RefUpdate) → AllByRecursion (Typed v) us → Follows New [] us → Follows (MayUpdate v) [] us
updates_joined v us a f = joined (Typed v) New (MayUpdate v) (λ front u t n. ((t.0, n), t.1)) [] us a f

-- ---- names and records

names_from : (names : List (List ℕ)) → Are MayName names → All IsName names × (IsCounted names × Ascend names)
names_from names f =
    let a = apart IsName (Rises same) MayName (λ front x m. m) [] names f.1 in
    (All-from_recursion IsName names a.0, (f.0, subst Ascend (map-id names) (sorted same names a.1)))

names_to : (names : List (List ℕ)) → All IsName names → IsCounted names → Ascend names → Are MayName names
names_to names a few up = (few, joined IsName (Rises same) MayName (λ front x n r. (n, r)) [] names (recursion_from_All IsName names a) (follows same names (subst Ascend (sym (map-id names)) up)))

records_from : (records : List Added) → Are MayAdd records → All IsAdded records × (IsCounted records × Ascend (map (λ a. a.name) records))
records_from records f =
    let a = apart IsAdded (Rises added_name) MayAdd (λ front x m. (record { name = m.0.0; whole = none_is (why_not x.whole) m.1.1 }, m.0.1)) [] records f.1 in
    (All-from_recursion IsAdded records a.0, (f.0, sorted added_name records a.1))

records_to : (records : List Added) → All IsAdded records → IsCounted records → Ascend (map (λ a. a.name) records) → Are MayAdd records
records_to records a few up = (few, joined IsAdded (Rises added_name) MayAdd (λ front x t r. ((t.name, r), whole_is x.whole t.whole)) [] records (recursion_from_All IsAdded records a) (follows added_name records up))

-- ---- changes

write_from : (v : Version) (refs : List RefUpdate) (needed : List (List ℕ)) (added : List Added) → FitsWrite v (refs, (needed, added)) → IsWrite refs needed added × IsWritable refs needed added
write_from v refs needed added f =
    let u = updates_apart v refs f.0.1 in
    let n = names_from needed f.1.0 in
    let a = records_from added f.1.1 in (
      record { refs = All-from_recursion IsUpdate refs (all_updates v refs u.0); needed = n.0; added = a.0 },
      record { refs_few = f.0.0; refs_once = distinct refs u.1; needed_few = n.1.0; needed_ascend = n.1.1; added_few = a.1.0; added_ascend = a.1.1 },
    )

write_to : (v : Version) (refs : List RefUpdate) (needed : List (List ℕ)) (added : List Added) → AllByRecursion (Typed v) refs → IsWrite refs needed added → IsWritable refs needed added → FitsWrite v (refs, (needed, added))
write_to v refs needed added t is may =
    ((may.refs_few, updates_joined v refs t (fresh refs may.refs_once)), (names_to needed is.needed may.needed_few may.needed_ascend, records_to added is.added may.added_few may.added_ascend))

packing_from : (file : ℕ) (dropped : List (List ℕ)) → FitsPacking (file, dropped) → (IsNumber file × All IsName dropped) × (IsCounted dropped × Ascend dropped)
packing_from file dropped f = let n = names_from dropped f.1 in ((f.0, n.0), n.1)

packing_to : (file : ℕ) (dropped : List (List ℕ)) → IsNumber file × All IsName dropped → IsCounted dropped × Ascend dropped → FitsPacking (file, dropped)
packing_to file dropped is may = (is.0, names_to dropped is.1 may.0 may.1)

write_fits : (refs : List RefUpdate) (needed : List (List ℕ)) (added : List Added) → IsWrite refs needed added → IsWritable refs needed added → FitsChange (version (Write refs needed added)) (Write refs needed added)
write_fits refs needed added is may = by (list_any is_check refs) refl
  where
    typed : AllByRecursion IsUpdate refs
    typed = recursion_from_All IsUpdate refs is.refs

    by : (b : Bool) → list_any is_check refs ≡ b → FitsChange (cond b Second First) (Write refs needed added)
    by true e = write_to Second refs needed added (all_second refs typed) is may
    by false e = write_to First refs needed added (all_first refs e typed) is may

change_fits : (c : Change) → IsChange c → HasChangeSpelling c → FitsChange (version c) c
change_fits (Create pool) is may = tt
change_fits Delete is may = tt
change_fits (Link pool) is may = path_text pool is
change_fits (Write refs needed added) is may = write_fits refs needed added is may
change_fits (Repack file dropped) is may = packing_to file dropped is may
change_fits (Prune file dropped) is may = packing_to file dropped is may
change_fits (PackRefs file) is may = is
change_fits (Unlink file) is may = is

pub body_fits : (e : Entry) → IsEntry e → HasSpelling e → FitsBody (version e.change) e
body_fits e is may = (is.position, (path_text e.path is.path, change_fits e.change is.change may))

-- It is typed, it has a spelling, and this one.
abbrev Stated : Version → Change → Type 0
Stated v c = IsChange c × (HasChangeSpelling c × (version c ≡ v))

first_stated : (c : Change) → FitsChange First c → Stated First c
first_stated (Create pool) f = (tt, (tt, refl))
first_stated Delete f = (tt, (tt, refl))
first_stated (Link pool) f = (none_is (bad_path pool) f.1, (tt, refl))
first_stated (Write refs needed added) f =
    let w = write_from First refs needed added f in
    let none = no_check refs (updates_apart First refs f.0.1).0 in
    (w.0, (w.1, rw none refl))
first_stated (Repack file dropped) f = let p = packing_from file dropped f in (p.0, (p.1, refl))
first_stated (Prune file dropped) f = let p = packing_from file dropped f in (p.0, (p.1, refl))
first_stated (PackRefs file) f = (f, (tt, refl))
first_stated (Unlink file) f = (f, (tt, refl))

second_stated : (c : Change) → FitsChange Second c → has_check c ≡ true → Stated Second c
second_stated (Create pool) f e = absurd f
second_stated Delete f e = absurd f
second_stated (Link pool) f e = absurd f
second_stated (Write refs needed added) f e = let w = write_from Second refs needed added f in (w.0, (w.1, rw e refl))
second_stated (Repack file dropped) f e = absurd f
second_stated (Prune file dropped) f e = absurd f
second_stated (PackRefs file) f e = absurd f
second_stated (Unlink file) f e = absurd f

-- It is typed, it has a spelling, and this one.
abbrev pub IsStated : Version → Entry → Type 0
IsStated v e = IsEntry e × (HasSpelling e × (version e.change ≡ v))

entry_stated : (v : Version) (e : Entry) → FitsBody v e → Stated v e.change → IsStated v e
entry_stated v e f s = (record { position = f.0; path = none_is (bad_path e.path) f.1.0.1; change = s.0 }, s.1)

pub body_stated : (v : Version) (e a : Entry) → FitsBody v e → checked (v, e) ≡ Ok a → IsStated v e × (e ≡ a)
body_stated First e a f is = (entry_stated First e f (first_stated e.change f.1.1), cc)
body_stated Second e a f is = by (has_check e.change) refl is
  where
    by : (b : Bool) → has_check e.change ≡ b → cond {A = Result Entry ℕ} b (Ok e) (Err 0) ≡ Ok a → IsStated Second e × (e ≡ a)
    by true h i = (entry_stated Second e f (second_stated e.change f.1.1 h), cc)
    by false h i = absurd cc

-- what has a spelling is let through
pub checked_is : (e : Entry) → checked (version e.change, e) ≡ Ok e
checked_is e = by (has_check e.change) refl
  where
    by : (b : Bool) → has_check e.change ≡ b → checked (cond b Second First, e) ≡ Ok e
    by true h = rw h refl
    by false h = refl
