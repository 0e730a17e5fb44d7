use Rattle.std.proofs.Common.{◌≤◌, ◌<◌, ◌-◌, length}
use Rattle.tree_build.specs.Chunks.{before}
use Rattle.tree_build.proofs.chunks.chunk_of.Given as goal

abbrev pub decreases-loop-high : goal.decreases-loop-high
decreases-loop-high l = l.high - l.low

abbrev pub invariant-loop-high : goal.invariant-loop-high
invariant-loop-high l = record {
  order : l.low < l.high;
  within : l.high ≤ length l.chunks;
  from : before l.chunks l.low ≤ l.place;
  to : l.place < before l.chunks l.high;
}
