-- What clauses see of claims, claimers, tickets and passes.
use Rattle.std.specs.Prelude.{ℕ, List, Bool}
use Rattle.std.specs.declared.alloc.Global.{Global}
use Rattle.atomic_table.specs.Seated.{TableId}
use Rattle.crossbeam_queue.specs.SegTies.{SegId}

-- which claim word it is, and how many numbers it gives
pub record Counted : Type 0 where
  pub table : TableId
  pub count : ℕ

-- whose claims, with how many of the 1,024 parts, whether the count was found to be reached, and the numbers that were claimed
pub record Claiming : Type 0 where
  pub of : Counted
  pub parts : ℕ
  pub finished : Bool
  pub claims : List ℕ

-- which queue it is
abbrev pub Queued : Type 0
Queued = SegId Global

-- of which queue, with how many of the 1,024 parts, and what was put and taken by it
pub record Ticketing : Type 0 where
  pub of : Queued
  pub parts : ℕ
  pub put : List ℕ
  pub taken : List ℕ
