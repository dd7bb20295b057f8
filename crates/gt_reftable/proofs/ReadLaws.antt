-- What is read of the references of a repository.
use Rattle.std.proofs.Common.{◌≡◌, ℕ, nat_eq, Bool, find, List, [], map, filter, None, Result, Ok, Err, IfOk, ap, ◌∙◌}
use Rattle.std.specs.List.{starts_with}
use Rattle.std.specs.FinMap as map_of
use Rattle.gt_model.specs.Contents.{key_cmp, Names}
use Rattle.gt_model.specs.Machine.{references}
use Rattle.gt_model.specs.declared.reference.RefValue.{RefValue}
use Rattle.gt_slots.proofs.ListLaws.{entries_sorted_of}

pub no_entries : map_of.entries (map_of.empty {X = List ℕ} {R = key_cmp}) ≡ []
no_entries = entries_sorted_of [] tt

pub no_references : (prefix : List ℕ) → references map_of.empty prefix ≡ []
no_references prefix = ap (λ l. map {B = RefValue} (λ (e : List ℕ × List ℕ). record { name = e.0; value = e.1 }) (filter (λ (e : List ℕ × List ℕ). starts_with nat_eq e.0 prefix) l)) no_entries

pub listed_found : {E : Type 0} (res : Result (List RefValue) E) (m n : Names) (prefix : List ℕ) → m ≡ n → IfOk res (λ l. l ≡ references m prefix) → IfOk res (λ l. l ≡ references n prefix)
listed_found (Ok l) m n prefix e h = h ∙ ap (λ x. references x prefix) e
listed_found (Err e) m n prefix same h = tt

pub no_keys : (t : List ℕ → Bool) → find t (map_of.keys (map_of.empty {X = List ℕ} {R = key_cmp})) ≡ None
no_keys t = ap (λ l. find t (map {B = List ℕ} (λ (e : List ℕ × List ℕ). e.0) l)) no_entries
