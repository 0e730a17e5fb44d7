use Rattle.std.proofs.Common.{◌<◌, length, subst, arith}
use Rattle.tree_build.proofs.Spots.{Chunks, counts_front}
use Rattle.tree_build.proofs.chunks.make_room.Goals as goal

pub split-done-requires : goal.split-done-requires
split-done-requires c =
    subst (λ (l : Chunks). c.spot_of-chunk.result.chunk < length l) c.deref.ensures.value c.spot_of-chunk.ensures.chunk

pub recount-requires-clause-from : goal.recount-requires-clause-from
recount-requires-clause-from c =
    let k = subst (λ (l : Chunks). c.spot_of-chunk.result.chunk < length l) c.deref.ensures.value c.spot_of-chunk.ensures.chunk in
    let many = c.split-done.ensures.many in
    omega arith

pub recount-requires-clause-counts : goal.recount-requires-clause-counts
recount-requires-clause-counts c =
    let k = subst (λ (l : Chunks). c.spot_of-chunk.result.chunk < length l) c.deref.ensures.value c.spot_of-chunk.ensures.chunk in
    counts_front c.args.chunks.now.items c.split-done.new.chunks.items c.spot_of-chunk.result.chunk (omega arith)
    c.split-done.ensures.front c.requires.starts
