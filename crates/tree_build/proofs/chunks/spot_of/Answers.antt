use Rattle.std.proofs.Common.{ℕ, ◌≡◌, ◌+◌, ◌-◌, ◌<◌, suc, sym, subst, arith}
use Rattle.tree_build.specs.Chunks.{before, IsSpot}
use Rattle.tree_build.proofs.Spots.{spot_in}
use Rattle.tree_build.proofs.chunks.spot_of.Goals as goal

pub returns-clause-spot : goal.returns-clause-spot
returns-clause-spot c =
    let vs = c.args.chunks.now in
    let k = c.chunk_of-chunk.result in
    let one : k + 1 ≡ suc k = omega arith in
    subst (λ (n : ℕ). IsSpot vs c.args.place k (c.args.place - n))
    (sym (c.requires.starts k c.index-chunks-chunk.result c.chunk_of-chunk.ensures.chunk))
    (spot_in vs c.args.place k c.chunk_of-chunk.ensures.chunk c.chunk_of-chunk.ensures.from
    (subst (λ (n : ℕ). c.args.place < before vs n) one c.chunk_of-chunk.ensures.to))
