-- What the two tables of a stage stand for.
use Rattle.std.specs.Prelude.{◌≡◌, ℕ, List, map, find, All, Option, Some}
use Rattle.std.specs.Map.{keys_of}
use Rattle.std.specs.Option.{option_map, option_map_or}
use Rattle.sha1.specs.Sha1.{sha1}
use Rattle.gt_model.specs.declared.added.Added.{Added}
use Rattle.gt_model.specs.declared.update.RefUpdate.{RefUpdate}
use Rattle.gt_model.specs.Verdicts.{same_name}
use Rattle.gt_stage.specs.declared.refs.StagedRef.{StagedRef}
use Rattle.gt_stage.specs.Staging.{size, IsEachOnce}

-- ---- references

abbrev pub update_of : List ℕ × StagedRef → RefUpdate
update_of e = record { name = e.0; old = e.1.old; new = e.1.new }

abbrev pub updates_of : List (List ℕ × StagedRef) → List RefUpdate
updates_of es = map update_of es

-- what is staged of a reference
abbrev pub staged_in : List RefUpdate → List ℕ → Option StagedRef
staged_in refs name = option_map (λ u. record { old = u.old; new = u.new }) (find (λ u. same_name name u.name) refs)

-- the first old value, or else this one, and the new value
abbrev pub with_new : Option StagedRef → List ℕ → List ℕ → StagedRef
with_new first old new = record { old = option_map_or (λ a. a.old) first old; new = Some new }

abbrev pub HasDistinctKeys : List (List ℕ × StagedRef) → Type 0
HasDistinctKeys es = IsEachOnce (keys_of es)

-- ---- records

abbrev pub record_of : List ℕ × List ℕ → Added
record_of e = record { name = e.0; whole = e.1 }

abbrev pub added_of : List (List ℕ × List ℕ) → List Added
added_of es = map record_of es

-- No key stands twice, each record stands under its name, and the bytes are counted.
pub record IsCounted (es : List (List ℕ × List ℕ)) (bytes : ℕ) : Type 0 where
  pub keys : IsEachOnce (keys_of es)
  pub named : All (λ e. sha1 e.1 ≡ e.0) es
  pub size : bytes ≡ size (added_of es)
