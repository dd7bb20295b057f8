-- The references that name something at a position.
use Rattle.std.specs.Prelude.{ℕ, List, Option, None}
use Rattle.std.specs.List.{filter_map}
use Rattle.std.specs.Option.{option_map}
use Rattle.std.specs.FinMap as map
use Rattle.std.specs.FinMap.{FinMap}
use Rattle.gt_model.specs.Contents.{key_cmp, Names}
use Rattle.gt_versions.specs.Versions.{last_at}
use Rattle.gt_versions.specs.Lives.{value_since}

-- where what was given before a start doesn't count
abbrev pub present : ℕ → ℕ → List (List ℕ × (List (ℕ × Option (List ℕ)) × ℕ)) → List (List ℕ × List ℕ)
present start p es = filter_map (λ e. option_map (λ v. (e.0, v)) (value_since start (last_at e.1.0 p None))) es

abbrev pub refs_since : ℕ → ℕ → FinMap key_cmp (List (ℕ × Option (List ℕ)) × ℕ) → Names
refs_since start p m = map.from_entries (present start p (map.entries m))
