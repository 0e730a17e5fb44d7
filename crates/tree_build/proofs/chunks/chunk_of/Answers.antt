use Rattle.std.proofs.Common.{◌≤◌, ◌<◌, length, arith}
use Rattle.tree_build.proofs.Spots.{before_none, before_whole, some_chunk}
use Rattle.tree_build.proofs.chunks.chunk_of.Goals as goal

pub loop-high-init : goal.loop-high-init
loop-high-init c =
    let vs = c.args.chunks.now in
    let p = c.requires.place in
    let some = some_chunk vs c.args.place p in
    let none = before_none vs in
    let whole = before_whole vs in record {
      order = some;
      within = omega arith;
      from = omega arith;
      to = omega arith;
    }
