-- Slots, each with the position that it keeps, or free.
use Rattle.std.specs.Prelude.{ℕ, List, Option, is_none, min}
use Rattle.std.specs.List.{position_from, filter_map, reduce}

-- the least slot that is free
abbrev pub free_slot : List (Option ℕ) → Option ℕ
free_slot slots = position_from is_none 0 slots

-- the positions that are kept, one for each slot that isn't free
abbrev pub kept_positions : List (Option ℕ) → List ℕ
kept_positions slots = filter_map (λ slot. slot) slots

-- the least position that is kept
abbrev pub least_position : List (Option ℕ) → Option ℕ
least_position slots = reduce min (kept_positions slots)
