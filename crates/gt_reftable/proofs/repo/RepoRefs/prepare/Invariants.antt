use Rattle.std.proofs.Common.{ℕ, drop}
use Rattle.gt_reftable.specs.Tracks.{Track, HasRoom, IsRoomier}
use Rattle.gt_reftable.proofs.repo.RepoRefs.prepare.Given as goal

abbrev pub invariant-loop-update : goal.invariant-loop-update
invariant-loop-update l = record {
  same : IsRoomier l.fn.self l.self;
  done : (t : Track) → IsRoomier l.self t → (q : ℕ) → HasRoom q t (drop l.update-index l.updates) → HasRoom q t l.updates;
}
