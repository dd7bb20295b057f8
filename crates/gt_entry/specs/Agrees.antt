-- A set beside a list of updates.
use Rattle.std.specs.Prelude.{◌≡◌, ℕ, List}
use Rattle.std.specs.List.{list_any}
use Rattle.std.specs.BTreeSet.{BTreeSet, contains}
use Rattle.gt_model.specs.declared.update.RefUpdate.{RefUpdate}
use Rattle.gt_model.specs.Contents.{key_cmp}
use Rattle.gt_model.specs.Verdicts.{same_name}

-- The set has the names of the updates.
abbrev pub Agrees : BTreeSet (List ℕ) → List RefUpdate → Type 0
Agrees set refs = (name : List ℕ) → contains key_cmp set name ≡ list_any (λ u. same_name u.name name) refs
