-- The names that a change relies on: what a prune must keep while the change is new.
use Rattle.std.specs.Prelude.{ℕ, ◌⊎◌, List, [], ◌++◌, map as map_list}
use Rattle.std.specs.List.{All, IsAmong, flat_map, filter_map}
use Rattle.gt_object.specs.Whole.{deps}
use Rattle.gt_model.specs.declared.change.Change.{Change}
use Rattle.gt_model.specs.declared.change.Change.TheVariants.{Write}
use Rattle.gt_model.specs.declared.entry.Entry.{Entry}
use Rattle.gt_model.specs.Verdicts.{target}

-- the names that a change says it relies on
abbrev pub needed_by : Change → List (List ℕ)
needed_by (Write refs needed added) = needed
needed_by change = []

-- the names of the records that it adds
abbrev pub added_by : Change → List (List ℕ)
added_by (Write refs needed added) = map_list (λ a. a.name) added
added_by change = []

-- what it mentions: new values of references, and what added records mention
abbrev pub mentioned_by : Change → List (List ℕ)
mentioned_by (Write refs needed added) = filter_map target refs ++ flat_map (λ a. deps a.whole) added
mentioned_by change = []

-- Each name that an entry mentions is among those that it says it relies on, but for what it adds itself.
abbrev pub HasNeeded : Entry → Type 0
HasNeeded e = (name : List ℕ) → IsAmong (mentioned_by e.change) name → IsAmong (needed_by e.change) name ⊎ IsAmong (added_by e.change) name

abbrev pub AreNeeded : List Entry → Type 0
AreNeeded log = All HasNeeded log
