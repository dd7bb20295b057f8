-- A commit whose verdict is good says what it needs.
use Rattle.std.proofs.Common.{◌≡◌, ◌⊎◌, inl, inr, ℕ, Bool, true, false, not, ◌&&◌, is_some, is_ok, IsTrue, List, [], ◌∷◌, ◌++◌, map as map_list, Option, Some, None, Result, Ok, Err, refl, sym, ◌∙◌, ap, subst, true≢false}
use Rattle.std.specs.List.{AllByRecursion, IsAmong, filter_map, flat_map}
use Rattle.std.specs.Cmp.Lexicographic.{nat_list_cmp_total}
use Rattle.std.specs.FinMap as map
use Rattle.std.specs.FinMap.{get-from_entries, get-entries}
use Rattle.gt_object.specs.Whole.{deps}
use Rattle.gt_model.specs.declared.added.Added.{Added}
use Rattle.gt_model.specs.declared.change.Change.TheVariants.{Write}
use Rattle.gt_model.specs.declared.refusal.Refusal.{Refusal}
use Rattle.gt_model.specs.Contents.{Content, key_cmp, is_visible}
use Rattle.gt_model.specs.Verdicts.{Staged, Ready, target, is_staged, is_added, by_name, added_records, needed_names, failed, verdict}
use Rattle.gt_model.specs.Needed.{mentioned_by, needed_by, added_by}
use Rattle.gt_model.proofs.Checks.{named, entries_named, find_staged, good}
use Rattle.gt_model.proofs.Members.{first, there, cases, none, parts, in_front, in_back, in_filter, in_map, found_key, in_ascending}

pub ready_needed : (c : Content) (path : List ℕ) (s : Staged) (ready : Ready) → verdict c path s ≡ Ok ready → ready.needed ≡ needed_names c path s
ready_needed c path s ready e = by (failed c path s) e
  where
    needed_of : Result Ready Refusal → List (List ℕ)
    needed_of (Ok r) = r.needed
    needed_of (Err r) = needed_names c path s

    by : (f : Option Refusal)
        → elim f as (λ f. Result Ready Refusal) [ Some refusal ↦ Err refusal | None ↦ Ok (record { refs = s.refs; needed = needed_names c path s; added = map_list (λ a. a.name) (added_records c path s) }) ] ≡ Ok ready
        → ready.needed ≡ needed_names c path s
    by None e = sym (ap needed_of e)
    by (Some r) e = absurd (true≢false (sym (ap is_ok e)))

-- a record under its name, among the values
value_named : (name : List ℕ) (v : Added) (es : List (List ℕ × Added)) → AllByRecursion (λ e. (e.1.name ≡ e.0) × Unit {0}) es → IsAmong es (name, v) → (v.name ≡ name) × IsAmong (map_list (λ e. e.1) es) v
value_named name v [] h at = absurd (none (name, v) at)
value_named name v (e ∷ es) h at = by (λ at. value_named name v es h.1 at) (cases e es (name, v) at)
  where
    later : (v.name ≡ name) × IsAmong (map_list (λ e. e.1) es) v → (v.name ≡ name) × IsAmong (map_list (λ e. e.1) (e ∷ es)) v
    later (is, h) = (is, there e.1 (map_list (λ e. e.1) es) v h)

    by : (IsAmong es (name, v) → (v.name ≡ name) × IsAmong (map_list (λ e. e.1) es) v) → ((name, v) ≡ e) ⊎ IsAmong es (name, v) → (v.name ≡ name) × IsAmong (map_list (λ e. e.1) (e ∷ es)) v
    by rest (inl is) = (subst (λ (x : List ℕ × Added). x.1.name ≡ x.0) (sym is) h.0.0, first e.1 (map_list (λ e. e.1) es) v (ap (λ (x : List ℕ × Added). x.1) is))
    by rest (inr at) = later (rest at)

-- a staged name that isn't visible is that of an added record
pub staged_listed : (c : Content) (path : List ℕ) (s : Staged) (name : List ℕ) → IsTrue (is_staged s name) → is_visible c path name ≡ false → IsAmong (map_list (λ a. a.name) (added_records c path s)) name
staged_listed c path s name staged hidden =
    let got : IsTrue (is_some (map.find key_cmp name (map.entries (named s.records)))) =
    sym (ap is_some (sym (get-from_entries nat_list_cmp_total (map_list (λ a. (a.name, a)) s.records) name) ∙ get-entries (named s.records) name)) ∙ find_staged name s.records staged in
    let at = found_key name (map.entries (named s.records)) got in
    let v = value_named name at.0 (map.entries (named s.records)) (entries_named (λ a. Unit {0}) s.records (every s.records)) at.1 in
    let kept : not (is_visible c path at.0.name) ≡ true = ap (λ (n : List ℕ). not (is_visible c path n)) v.0 ∙ ap not hidden in
    let listed = in_filter (λ a. not (is_visible c path a.name)) (by_name s.records) at.0 kept v.1 in
    subst (λ (n : List ℕ). IsAmong (map_list (λ a. a.name) (added_records c path s)) n) v.0 (in_map (λ a. a.name) (added_records c path s) at.0 listed)
  where
    every : (xs : List Added) → AllByRecursion (λ a. Unit {0}) xs
    every [] = tt
    every (x ∷ xs) = (tt, every xs)

pub good_needs : (c : Content) (path : List ℕ) (s : Staged) (ready : Ready) → verdict c path s ≡ Ok ready → (name : List ℕ)
    → IsAmong (mentioned_by (Write ready.refs ready.needed (added_records c path s))) name
    → IsAmong (needed_by (Write ready.refs ready.needed (added_records c path s))) name ⊎ IsAmong (added_by (Write ready.refs ready.needed (added_records c path s))) name
good_needs c path s ready e name h = by (is_staged s name) (is_visible c path name) refl refl
  where
    added : List Added
    added = added_records c path s

    targets : List (List ℕ)
    targets = filter_map target s.refs

    names : List (List ℕ)
    names = map_list (λ a. a.name) s.records

    mentions : List (List ℕ)
    mentions = flat_map (λ a. deps a.whole) added

    among : IsAmong targets name ⊎ IsAmong mentions name
    among = parts targets mentions name (subst (λ refs. IsAmong (filter_map target refs ++ mentions) name) (good c path s ready e).1 h)

    whole : IsAmong targets name ⊎ IsAmong mentions name → IsAmong (targets ++ names ++ mentions) name
    whole (inl h) = in_front (targets ++ names) mentions name (in_front targets names name h)
    whole (inr h) = in_back (targets ++ names) mentions name h

    needed : is_added c path s name ≡ false → IsAmong ready.needed name
    needed is =
        subst (λ (n : List (List ℕ)). IsAmong n name) (sym (ready_needed c path s ready e))
        (in_ascending _ name (in_filter (λ name. not (is_added c path s name)) (targets ++ names ++ mentions) name (ap not is) (whole among)))

    by : (staged visible : Bool) → is_staged s name ≡ staged → is_visible c path name ≡ visible → IsAmong ready.needed name ⊎ IsAmong (map_list (λ a. a.name) added) name
    by true false t v = inr (staged_listed c path s name t v)
    by true true t v = inl (needed (ap (λ b. b && not (is_visible c path name)) t ∙ ap not v))
    by false visible t v = inl (needed (ap (λ b. b && not (is_visible c path name)) t))
