use Rattle.std.proofs.Common.{◌≡◌, ◌++◌, ◌+◌, ◌-◌, [], false, map, reverse, length}
use Rattle.std.specs.List.{AllByRecursion}
use Rattle.gt_pool.specs.Workers.{IsReady}
use Rattle.gt_pool.proofs.workers.workers_of.Given as goal

abbrev pub invariant-kits : goal.invariant-kits
invariant-kits g l = record {
  kits : map (λ w. w.kit) l.workers.items ++ reverse l.left ≡ l.fn.kits;
  claimer : l.claimer ≡ record { of = l.claims; parts = 1024 - length l.workers.items; finished = false; claims = [] };
  pass_of : l.pass.of ≡ l.tickets;
  pass_parts : l.pass.parts ≡ 1024 - length l.workers.items;
  ready : AllByRecursion (IsReady l.claims l.tickets) l.workers.items;
  few : length l.workers.items + length l.left ≡ length l.fn.kits;
}

abbrev pub decreases-kits : goal.decreases-kits
decreases-kits g l = length l.left
