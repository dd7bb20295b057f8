-- A table's look-ups and insertions, as the list that it stands for.
use Rattle.std.proofs.Common.{◌≡◌, ℕ, ◌+◌, Bool, true, false, ◌||◌, cond, is_some, List, [], ◌∷◌, ◌++◌, length, take, map, find, Option, Some, None, refl, sym, ap, ◌∙◌, subst}
use Rattle.std.specs.Option.{option_map}
use Rattle.std.specs.List.{All}
use Rattle.std.specs.List.{slice_get}
use Rattle.std.proofs.lemmas.List.{take_more}
use Rattle.std.proofs.lemmas.Option.{slice_get_within, get_or_from_slice_get}
use Rattle.std.proofs.lemmas.List.Elements.{All-push}
use Rattle.std.proofs.lemmas.List.Sums.{sum_by_push}
use Rattle.std.specs.Map.{keys_of, lookup}
use Rattle.sha1.specs.Sha1.{sha1}
use Rattle.indexmap.specs.IndexMap.{insert_entry}
use Rattle.gt_model.specs.declared.added.Added.{Added}
use Rattle.gt_model.specs.declared.update.RefUpdate.{RefUpdate}
use Rattle.gt_model.specs.Verdicts.{same_name}
use Rattle.gt_stage.specs.declared.refs.StagedRef.{StagedRef}
use Rattle.gt_stage.specs.Staging.{Holding, staged_put, staged_check, has_ref, with_set, with_check, has_record, own_record, with_put, size, IsEachOnce}
use Rattle.gt_stage.specs.Layout.{update_of, updates_of, staged_in, with_new, record_of, added_of, IsCounted}

-- ---- references

abbrev as_staged : RefUpdate → StagedRef
as_staged u = record { old = u.old; new = u.new }

pub staged_in-table : (es : List (List ℕ × StagedRef)) (q : List ℕ) → staged_in (updates_of es) q ≡ lookup (same_name q) es
staged_in-table [] q = refl
staged_in-table (e ∷ es) q =
    elim (same_name q e.0) as (λ b. option_map as_staged (cond b (Some (update_of e)) (find (λ u. same_name q u.name) (updates_of es))) ≡ cond b (Some e.1) (lookup (same_name q) es)) [
      | true ↦ refl
      | false ↦ staged_in-table es q
    ]

pub has_ref-table : (es : List (List ℕ × StagedRef)) (q : List ℕ) → has_ref (updates_of es) q ≡ is_some (lookup (same_name q) es)
has_ref-table [] q = refl
has_ref-table (e ∷ es) q = by (same_name q e.0) (has_ref-table es q)
  where
    by : (b : Bool) → has_ref (updates_of es) q ≡ is_some (lookup (same_name q) es) → (b || has_ref (updates_of es) q) ≡ is_some (cond b (Some e.1) (lookup (same_name q) es))
    by true h = refl
    by false h = h

pub with_set-table : (es : List (List ℕ × StagedRef)) (q old new : List ℕ) → with_set (updates_of es) q old new ≡ updates_of (insert_entry same_name es q (with_new (lookup (same_name q) es) old new))
with_set-table [] q old new = refl
with_set-table (e ∷ es) q old new = by (same_name q e.0) (with_set-table es q old new)
  where
    by : (b : Bool) → with_set (updates_of es) q old new ≡ updates_of (insert_entry same_name es q (with_new (lookup (same_name q) es) old new))
        → cond b (record { name = e.0; old = e.1.old; new = Some new } ∷ updates_of es) (update_of e ∷ with_set (updates_of es) q old new)
        ≡ updates_of (cond b ((e.0, with_new (cond b (Some e.1) (lookup (same_name q) es)) old new) ∷ es) (e ∷ insert_entry same_name es q (with_new (cond b (Some e.1) (lookup (same_name q) es)) old new)))
    by true h = refl
    by false h = ap (λ (us : List RefUpdate). update_of e ∷ us) h

pub with_check-table : (es : List (List ℕ × StagedRef)) (q old : List ℕ) → lookup (same_name q) es ≡ None → with_check (updates_of es) q old ≡ updates_of (insert_entry same_name es q (record { old = old; new = None }))
with_check-table [] q old none = refl
with_check-table (e ∷ es) q old none = by (same_name q e.0) (with_check-table es q old) none
  where
    by : (b : Bool) → (lookup (same_name q) es ≡ None → with_check (updates_of es) q old ≡ updates_of (insert_entry same_name es q (record { old = old; new = None })))
        → cond b (Some e.1) (lookup (same_name q) es) ≡ None
        → cond b (update_of e ∷ updates_of es) (update_of e ∷ with_check (updates_of es) q old)
        ≡ updates_of (cond b ((e.0, record { old = old; new = None }) ∷ es) (e ∷ insert_entry same_name es q (record { old = old; new = None })))
    by true h none = cc
    by false h none = ap (λ (us : List RefUpdate). update_of e ∷ us) (h none)

-- Nothing changes of a reference that is staged.
pub with_check-there : (us : List RefUpdate) (q old : List ℕ) → has_ref us q ≡ true → with_check us q old ≡ us
with_check-there [] q old there = cc
with_check-there (u ∷ us) q old there = by (same_name q u.name) (with_check-there us q old) there
  where
    by : (b : Bool) → (has_ref us q ≡ true → with_check us q old ≡ us) → (b || has_ref us q) ≡ true → cond b (u ∷ us) (u ∷ with_check us q old) ≡ u ∷ us
    by true h there = refl
    by false h there = ap (λ (vs : List RefUpdate). u ∷ vs) (h there)

-- ---- records

pub own_record-table : (es : List (List ℕ × List ℕ)) (q : List ℕ) → own_record (added_of es) q ≡ lookup (same_name q) es
own_record-table [] q = refl
own_record-table (e ∷ es) q =
    elim (same_name q e.0) as (λ b. option_map (λ (a : Added). a.whole) (cond b (Some (record_of e)) (find (λ a. same_name q a.name) (added_of es))) ≡ cond b (Some e.1) (lookup (same_name q) es)) [
      | true ↦ refl
      | false ↦ own_record-table es q
    ]

pub has_record-table : (es : List (List ℕ × List ℕ)) (q : List ℕ) → has_record (added_of es) q ≡ is_some (lookup (same_name q) es)
has_record-table [] q = refl
has_record-table (e ∷ es) q = by (same_name q e.0) (has_record-table es q)
  where
    by : (b : Bool) → has_record (added_of es) q ≡ is_some (lookup (same_name q) es) → (b || has_record (added_of es) q) ≡ is_some (cond b (Some e.1) (lookup (same_name q) es))
    by true h = refl
    by false h = h

pub with_put-there : (as' : List Added) (whole : List ℕ) → has_record as' (sha1 whole) ≡ true → with_put as' whole ≡ as'
with_put-there [] whole there = cc
with_put-there (a ∷ as') whole there = by (same_name (sha1 whole) a.name) (with_put-there as' whole) there
  where
    by : (b : Bool) → (has_record as' (sha1 whole) ≡ true → with_put as' whole ≡ as') → (b || has_record as' (sha1 whole)) ≡ true → cond b (a ∷ as') (a ∷ with_put as' whole) ≡ a ∷ as'
    by true h there = refl
    by false h there = ap (λ (bs : List Added). a ∷ bs) (h there)

pub with_put-new : (as' : List Added) (whole : List ℕ) → has_record as' (sha1 whole) ≡ false → with_put as' whole ≡ as' ++ record { name = sha1 whole; whole = whole } ∷ []
with_put-new [] whole none = refl
with_put-new (a ∷ as') whole none = by (same_name (sha1 whole) a.name) (with_put-new as' whole) none
  where
    by : (b : Bool) → (has_record as' (sha1 whole) ≡ false → with_put as' whole ≡ as' ++ record { name = sha1 whole; whole = whole } ∷ []) → (b || has_record as' (sha1 whole)) ≡ false → cond b (a ∷ as') (a ∷ with_put as' whole) ≡ a ∷ (as' ++ record { name = sha1 whole; whole = whole } ∷ [])
    by true h none = cc
    by false h none = ap (λ (bs : List Added). a ∷ bs) (h none)

-- the names of a table
pub names-updates : (es : List (List ℕ × StagedRef)) → map (λ u. u.name) (updates_of es) ≡ keys_of es
names-updates [] = refl
names-updates (e ∷ es) = ap (λ (ns : List (List ℕ)). e.0 ∷ ns) (names-updates es)

pub names-added : (es : List (List ℕ × List ℕ)) → map (λ a. a.name) (added_of es) ≡ keys_of es
names-added [] = refl
names-added (e ∷ es) = ap (λ (ns : List (List ℕ)). e.0 ∷ ns) (names-added es)

pub added_of-push : (es : List (List ℕ × List ℕ)) (e : List ℕ × List ℕ) → added_of (es ++ e ∷ []) ≡ added_of es ++ record_of e ∷ []
added_of-push [] e = refl
added_of-push (x ∷ es) e = ap (λ (bs : List Added). record_of x ∷ bs) (added_of-push es e)

-- ---- what an insertion makes

is_none : {X : Type 0} (o : Option X) → is_some o ≡ false → o ≡ None
is_none None e = refl
is_none (Some x) e = cc

insert_new : {X : Type 0} (es : List (List ℕ × X)) (q : List ℕ) (v : X) → lookup (same_name q) es ≡ None → insert_entry same_name es q v ≡ es ++ (q, v) ∷ []
insert_new [] q v none = refl
insert_new {X} (e ∷ es) q v none = by (same_name q e.0) (insert_new es q v) none
  where
    by : (b : Bool) → (lookup (same_name q) es ≡ None → insert_entry same_name es q v ≡ es ++ (q, v) ∷ []) → cond b (Some e.1) (lookup (same_name q) es) ≡ None
        → cond b ((e.0, v) ∷ es) (e ∷ insert_entry same_name es q v) ≡ e ∷ (es ++ (q, v) ∷ [])
    by true h none = cc
    by false h none = ap (λ (fs : List (List ℕ × X)). e ∷ fs) (h none)

pub set_done : (us : List RefUpdate) (es fs : List (List ℕ × StagedRef)) (q old new : List ℕ) (first : Option StagedRef) (staged : StagedRef)
    → updates_of es ≡ us → first ≡ lookup (same_name q) es → staged ≡ with_new first old new → fs ≡ insert_entry same_name es q staged → updates_of fs ≡ with_set us q old new
set_done us es fs q old new first staged is found made put =
    ap updates_of (put ∙ ap (insert_entry same_name es q) (made ∙ ap (λ (o : Option StagedRef). with_new o old new) found)) ∙ sym (with_set-table es q old new) ∙ ap (λ (vs : List RefUpdate). with_set vs q old new) is

pub check_done : (us : List RefUpdate) (es fs : List (List ℕ × StagedRef)) (q old : List ℕ)
    → updates_of es ≡ us → has_ref us q ≡ false → fs ≡ insert_entry same_name es q (record { old = old; new = None }) → updates_of fs ≡ with_check us q old
check_done us es fs q old is absent put =
    let none : lookup (same_name q) es ≡ None = is_none (lookup (same_name q) es) (sym (has_ref-table es q) ∙ ap (λ (vs : List RefUpdate). has_ref vs q) is ∙ absent) in
    ap updates_of put ∙ sym (with_check-table es q old none) ∙ ap (λ (vs : List RefUpdate). with_check vs q old) is

-- the table once a record is added whose name it lacks
added : (as' : List Added) (es fs : List (List ℕ × List ℕ)) (name whole : List ℕ)
    → added_of es ≡ as' → has_record as' name ≡ false → fs ≡ insert_entry same_name es name whole → fs ≡ es ++ (name, whole) ∷ []
added as' es fs name whole is absent put =
    put ∙ insert_new es name whole (is_none (lookup (same_name name) es) (sym (has_record-table es name) ∙ ap (λ (bs : List Added). has_record bs name) is ∙ absent))

pub put_done : (as' : List Added) (es fs : List (List ℕ × List ℕ)) (name whole : List ℕ)
    → added_of es ≡ as' → has_record as' name ≡ false → sha1 whole ≡ name → fs ≡ insert_entry same_name es name whole → added_of fs ≡ with_put as' whole
put_done as' es fs name whole is absent named put =
    ap added_of (added as' es fs name whole is absent put) ∙ added_of-push es (name, whole) ∙ ap (λ (bs : List Added). bs ++ record_of (name, whole) ∷ []) is
    ∙ ap (λ (n : List ℕ). as' ++ record { name = n; whole = whole } ∷ []) (sym named)
    ∙ sym (with_put-new as' whole (ap (has_record as') named ∙ absent))

pub counted_more : (as' : List Added) (es fs : List (List ℕ × List ℕ)) (name whole : List ℕ) (bytes n : ℕ)
    → added_of es ≡ as' → has_record as' name ≡ false → sha1 whole ≡ name → fs ≡ insert_entry same_name es name whole → IsEachOnce (keys_of fs) → n ≡ length whole → IsCounted es bytes → IsCounted fs (bytes + n)
counted_more as' es fs name whole bytes n is absent named put once long counted =
    let more : fs ≡ es ++ (name, whole) ∷ [] = added as' es fs name whole is absent put in
    record {
      keys = once;
      named = subst (λ (l : List (List ℕ × List ℕ)). All (λ e. sha1 e.1 ≡ e.0) l) (sym more) (All-push (λ (e : List ℕ × List ℕ). sha1 e.1 ≡ e.0) es (name, whole) counted.named named);
      size = ap (λ (x : ℕ). x + n) counted.size ∙ ap (λ (x : ℕ). size (added_of es) + x) long ∙ sym (sum_by_push (λ (a : Added). length a.whole) (added_of es) (record_of (name, whole))) ∙ ap size (sym (added_of-push es (name, whole))) ∙ ap (λ (l : List (List ℕ × List ℕ)). size (added_of l)) (sym more);
    }

-- ---- what is there already

pub put_there : (h : Holding) (as' : List Added) (whole name : List ℕ) (found : Bool) → as' ≡ h.staged.records → name ≡ sha1 whole → found ≡ has_record as' name → found ≡ true → h ≡ staged_put h whole
put_there h as' whole name found is named said there =
    let has : has_record h.staged.records (sha1 whole) ≡ true = sym (ap (λ (bs : List Added). has_record bs (sha1 whole)) is) ∙ ap (has_record as') (sym named) ∙ sym said ∙ there in
    ap (λ (bs : List Added). record h { staged = record h.staged { records = bs } }) (sym (with_put-there h.staged.records whole has))

pub check_there : (h : Holding) (us : List RefUpdate) (name old : List ℕ) (found : Bool) → us ≡ h.staged.refs → found ≡ has_ref us name → found ≡ true → h ≡ staged_check h name old
check_there h us name old found is said there =
    let has : has_ref h.staged.refs name ≡ true = sym (ap (λ (vs : List RefUpdate). has_ref vs name) is) ∙ sym said ∙ there in
    ap (λ (vs : List RefUpdate). record h { staged = record h.staged { refs = vs } }) (sym (with_check-there h.staged.refs name old has))

-- ---- copies

pub copied_more : {X : Type 0} (xs done new : List X) (i : ℕ) (x : X) → done ≡ take i xs → slice_get xs i ≡ Some x → new ≡ done ++ x ∷ [] → new ≡ take (i + 1) xs
copied_more {X} xs done new i x is at push =
    push ∙ ap (λ (ys : List X). ys ++ x ∷ []) is ∙ ap (λ (y : X). take i xs ++ y ∷ []) (sym (get_or_from_slice_get xs i x x at)) ∙ sym (take_more xs i x (slice_get_within xs i x at))
