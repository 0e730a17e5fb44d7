use Rattle.std.proofs.Common.{length}
use Rattle.pack_text.specs.PackText.{blocks_text}
use Rattle.pack_text.proofs.BlocksLeft.{AreLeft}
use Rattle.pack_text.proofs.entry.put_blocks.Given as goal

-- The sink took the blocks before those of `rest`.
abbrev pub invariant-loop-rest : goal.invariant-loop-rest
invariant-loop-rest g l =
    AreLeft g.S.Sink.Took l.fn.sink l.sink (blocks_text (length l.bytes) l.bytes) l.rest

abbrev pub decreases-loop-rest : goal.decreases-loop-rest
decreases-loop-rest g l = length l.rest
