use Rattle.std.proofs.Common.{◌≡◌, ◌≤◌, ◌-◌, length}
use Rattle.gt_bytes.specs.Reading.{many_at, counted_at}
use Rattle.gt_manifest.specs.Reading.{repo_at}
use Rattle.gt_manifest.proofs.FirstLemmas.{IsBegun}
use Rattle.gt_manifest.proofs.reading.read_repos.Given as goal

abbrev pub invariant-items : goal.invariant-items
invariant-items l = record { within : l.at ≤ length l.bytes; so_far : many_at (repo_at l.version l.applied l.bytes) (l.count - l.counter) l.items l.at ≡ counted_at (repo_at l.version l.applied l.bytes) l.bytes l.from; long : length l.items ≡ l.counter; first : IsBegun l.bytes l.from l.begin l.counter l.at }
