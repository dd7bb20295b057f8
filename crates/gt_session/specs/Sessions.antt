-- What a session has.
use Rattle.std.specs.Prelude.{ℕ, ◌-◌, ◌≤◌, List, [], ◌∷◌, max, slice_index, slice_set, Option, Some, None, Result}
use Rattle.std.specs.Option.{option_map}
use Rattle.gt_model.specs.declared.done.Done.{Done}
use Rattle.gt_model.specs.declared.refusal.Refusal.{Refusal}
use Rattle.gt_model.specs.Histories.{position}
use Rattle.gt_stage.specs.Staging.{Holding, empty_stage}

-- the numbers of the partitions
abbrev pub IsPartition : ℕ → Type 0
IsPartition n = (1 ≤ n) × (n ≤ 8)

-- an open transaction: its partition, the number that its pass has there, and what it has staged
pub record Open : Type 0 where
  pub partition : ℕ
  pub pin : ℕ
  pub stage : Holding

-- its number, the transaction that it has open, and of each partition in order the greatest position in its answers
pub record Session : Type 0 where
  pub number : ℕ
  pub «open» : Option Open
  pub seen : List ℕ

abbrev pub new_session : ℕ → Session
new_session number = record { number = number; «open» = None; seen = 0 ∷ 0 ∷ 0 ∷ 0 ∷ 0 ∷ 0 ∷ 0 ∷ 0 ∷ [] }

-- the stage that a transaction begins with
abbrev pub begun : ℕ → ℕ → Open
begun partition pin = record { partition = partition; pin = pin; stage = empty_stage 33554432 10000 }

-- the partition and the number of its pass
abbrev pub pass_in : Session → Option (ℕ × ℕ)
pass_in s = option_map (λ o. (o.partition, o.pin)) s.open

abbrev pub with_stage : Session → Open → Holding → Session
with_stage s o stage = record s { «open» = Some (record o { stage = stage }) }

abbrev pub forgotten : Session → Session
forgotten s = record s { «open» = None }

-- the greatest position of a partition in its answers
abbrev pub seen_of : Session → ℕ → ℕ
seen_of s partition = slice_index s.seen (partition - 1)

-- what was seen of each partition, and the position of an answer of this one
abbrev pub heard : List ℕ → ℕ → Result Done Refusal → List ℕ
heard seen partition answer = slice_set seen (partition - 1) (max (slice_index seen (partition - 1)) (position answer))

-- it has seen the position of an answer of this partition
abbrev pub told : Session → ℕ → Result Done Refusal → Session
told s partition answer = record s { seen = heard s.seen partition answer }
