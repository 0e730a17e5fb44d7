use Rattle.std.proofs.Common.{◌≡◌, length}
use Rattle.tree_build.specs.Chunks.{all, before, CountsTo}
use Rattle.tree_build.proofs.chunks.recount.Given as goal

abbrev pub invariant-loop-place : goal.invariant-loop-place
invariant-loop-place l = record {
  many : length l.chunks.items ≡ length l.fn.chunks.items;
  same : all l.chunks.items ≡ all l.fn.chunks.items;
  start : l.start ≡ before l.chunks.items l.place;
  counts : CountsTo l.place l.chunks.items;
}
