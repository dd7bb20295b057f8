-- Which calls of the objects in memory are to fail.
use Rattle.std.specs.Prelude.{◌≡◌, ℕ, List}
use Rattle.gt_outside.specs.declared.failing.FailingCalls.{FailingCalls}
use Rattle.gt_outside.specs.declared.mem_source.MemSource.{MemSource}
use Rattle.gt_outside.specs.declared.mem_sink.MemSink.{MemSink}
use Rattle.gt_outside.specs.declared.mem_host.MemHost.{MemHost}

abbrev pub source_plan : MemSource → FailingCalls
source_plan source = source.calls

abbrev pub sink_plan : MemSink → FailingCalls
sink_plan sink = sink.calls

abbrev pub host_plan : MemHost → FailingCalls
host_plan host = host.calls

-- no call was made yet, and those of these numbers are to fail
pub record IsAsListed (calls : FailingCalls) (numbers : List ℕ) : Type 0 where
  pub listed : calls.numbers.items ≡ numbers
  pub made : calls.made ≡ 0
