use Rattle.std.proofs.Common.{ℕ, ◌+◌, ◌-◌, ◌/◌, ap, arith}
use Rattle.gt_versions.proofs.VersionLaws.{low_half, high_half}
use Rattle.gt_versions.proofs.versions.count_up_to.Goals as goal

pub halves-preserved-then-items-middle : goal.halves-preserved-then-items-middle
halves-preserved-then-items-middle g c =
    let same = ap (λ (x : ℕ × g.row.V.Denot). x.0) c.index-items-middle.is in
    record {
      order = omega arith;
      bound = c.halves.invariant.bound;
      below = low_half c.args.items.now c.args.position (c.halves.low + (c.halves.high - c.halves.low) / 2) c.index-items-middle.result c.requires (omega arith) (omega arith);
      above = c.halves.invariant.above;
    }

pub halves-preserved : goal.halves-preserved
halves-preserved g c =
    let same = ap (λ (x : ℕ × g.row.V.Denot). x.0) c.index-items-middle.is in
    record {
      order = omega arith;
      bound = omega arith;
      below = c.halves.invariant.below;
      above = high_half c.args.items.now c.args.position (c.halves.low + (c.halves.high - c.halves.low) / 2) c.index-items-middle.result c.requires (omega arith) (omega arith);
    }
