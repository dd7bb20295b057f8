-- A list of references as a table of names, and what is laid over it.
use Rattle.std.proofs.Common.{◌≡◌, ℕ, ◌+◌, Bool, true, false, cond, nat_eq, List, [], ◌∷◌, ◌++◌, take, Option, Some, None, refl, sym, ap, ◌∙◌, filter, map as map_list, append_assoc, append-nil}
use Rattle.std.specs.List.{slice_get, starts_with}
use Rattle.std.specs.List.Sorted.{IsStrictlySortedBy}
use Rattle.std.specs.BTreeMap.{is_at}
use Rattle.std.specs.FinMap as map
use Rattle.std.proofs.lemmas.List.Sums.{fold_more}
use Rattle.std.proofs.lemmas.Option.{slice_get_within, get_or_from_slice_get}
use Rattle.gt_model.specs.declared.reference.RefValue.{RefValue}
use Rattle.gt_model.specs.declared.update.RefUpdate.{RefUpdate}
use Rattle.gt_model.specs.Contents.{key_cmp, is_zero, Names, with_value, with_refs}
use Rattle.gt_model.specs.Machine.{references}
use Rattle.gt_versions.proofs.Keys.{at_key, removed, entries_of}
use Rattle.gt_session.specs.Courses.{as_names}
use Rattle.gt_session.specs.Pieces.{names_of, values_with}

-- ---- a list as a table

-- the references laid over names, the last one first
abbrev pub over : List RefValue → Names → Names
over [] m = m
over (r ∷ rs) m = map.insert (over rs m) r.name r.value

pub over-empty : (list : List RefValue) → over list map.empty ≡ as_names list
over-empty [] = refl
over-empty (r ∷ rs) = ap (λ (m : Names). map.insert m r.name r.value) (over-empty rs)

over-push : (list : List RefValue) (r : RefValue) (m : Names) → over (list ++ r ∷ []) m ≡ over list (map.insert m r.name r.value)
over-push [] r m = refl
over-push (x ∷ list) r m = ap (λ (n : Names). map.insert n x.name x.value) (over-push list r m)

pub over_less : (old list : List RefValue) (r : RefValue) (m n end' : Names) → old ≡ list ++ r ∷ [] → n ≡ map.insert m r.name r.value → over old m ≡ end' → over list n ≡ end'
over_less old list r m n end' e put is =
    ap (over list) put ∙ sym (over-push list r m) ∙ sym (ap (λ (l : List RefValue). over l m) e) ∙ is

-- ---- the staged updates

pub value_put : (m n : Names) (name new : List ℕ) (given : Option (List ℕ)) → given ≡ Some new → is_zero new ≡ false → n ≡ map.insert m name new → n ≡ with_value m name given
value_put m n name new given e z put =
    put
    ∙ sym (ap (λ (g : Option (List ℕ)). with_value m name g) e ∙ ap (λ (b : Bool). cond b (map.remove m name) (map.insert m name new)) z)

pub value_gone : (es fs : List (List ℕ × List ℕ)) (name new : List ℕ) (given : Option (List ℕ)) → given ≡ Some new → is_zero new ≡ true → ((q : List ℕ) → at_key fs q ≡ cond (is_at (key_cmp name) q) None (at_key es q))
    → names_of fs ≡ with_value (names_of es) name given
value_gone es fs name new given e z gone =
    removed es fs name gone
    ∙ sym (ap (λ (g : Option (List ℕ)). with_value (names_of es) name g) e ∙ ap (λ (b : Bool). cond b (map.remove (names_of es) name) (map.insert (names_of es) name new)) z)

pub laid_more : (refs : List RefUpdate) (i : ℕ) (u : RefUpdate) (start now after : Names) → slice_get refs i ≡ Some u → now ≡ with_refs start (take i refs) → after ≡ with_value now u.name u.new → after ≡ with_refs start (take (i + 1) refs)
laid_more refs i u start now after at is step =
    let f : Names → RefUpdate → Names = λ m v. with_value m v.name v.new in
    step ∙ ap (λ (m : Names). with_value m u.name u.new) is
    ∙ sym (fold_more f start refs i u (slice_get_within refs i u at) ∙ ap (f (with_refs start (take i refs))) (get_or_from_slice_get refs i u u at))

-- ---- the table as a list

values_first : (prefix : List ℕ) (e : List ℕ × List ℕ) (es : List (List ℕ × List ℕ)) → values_with prefix (e ∷ es) ≡ values_with prefix (e ∷ []) ++ values_with prefix es
values_first prefix e es = by_test (starts_with nat_eq e.0 prefix) refl
  where
    by_test : (b : Bool) → starts_with nat_eq e.0 prefix ≡ b → values_with prefix (e ∷ es) ≡ values_with prefix (e ∷ []) ++ values_with prefix es
    by_test true t = rw (t, filter) refl
    by_test false t = rw (t, filter) refl

pub values_more : (prefix : List ℕ) (name value : List ℕ) (old rest : List (List ℕ × List ℕ)) (list new end' : List RefValue) → old ≡ (name, value) ∷ rest → new ≡ list ++ values_with prefix ((name, value) ∷ [])
    → list ++ values_with prefix old ≡ end' → new ++ values_with prefix rest ≡ end'
values_more prefix name value old rest list new end' e put is =
    ap (λ (l : List RefValue). l ++ values_with prefix rest) put ∙ append_assoc list (values_with prefix ((name, value) ∷ [])) (values_with prefix rest)
    ∙ ap (λ (l : List RefValue). list ++ l) (sym (ap (values_with prefix) e ∙ values_first prefix (name, value) rest)) ∙ is

pub values_all : (prefix : List ℕ) (es : List (List ℕ × List ℕ)) (list : List RefValue) → IsStrictlySortedBy key_cmp (map_list (λ e. e.0) es) → list ≡ values_with prefix es → list ≡ references (names_of es) prefix
values_all prefix es list sorted e = e ∙ ap (values_with prefix) (sym (entries_of es sorted))

pub values_end : (prefix : List ℕ) (rest : List (List ℕ × List ℕ)) (list end' : List RefValue) → rest ≡ [] → list ++ values_with prefix rest ≡ end' → list ≡ end'
values_end prefix rest list end' e is =
    sym (append-nil list) ∙ sym (ap (λ (es : List (List ℕ × List ℕ)). list ++ values_with prefix es) e) ∙ is
