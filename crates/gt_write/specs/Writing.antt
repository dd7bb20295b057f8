-- The records of an entry that writes.
use Rattle.std.specs.Prelude.{ℕ, List, Option}
use Rattle.std.specs.List.{filter_map}
use Rattle.std.specs.Option.{option_map}
use Rattle.gt_model.specs.declared.added.Added.{Added}
use Rattle.gt_model.specs.Verdicts.{Staged}
use Rattle.gt_stage.specs.Staging.{own_record}

-- the record that is staged under a name, with it
abbrev pub record_under : Staged → List ℕ → Option Added
record_under staged name = option_map (λ whole. record { name = name; whole = whole }) (own_record staged.records name)

-- the staged records of these names, in their order
abbrev pub records_of : Staged → List (List ℕ) → List Added
records_of staged names = filter_map (record_under staged) names
