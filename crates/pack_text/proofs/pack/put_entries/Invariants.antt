use Rattle.std.proofs.Common.{drop}
use Rattle.std.specs.List.{flat_map}
use Rattle.pool_file_format.proofs.Pieces.{HasTaken}
use Rattle.pack_text.specs.PackText.{entry_text}
use Rattle.pack_text.proofs.pack.put_entries.Given as goal

-- The sink took the entries before the position of the loop.
abbrev pub invariant-loop-position : goal.invariant-loop-position
invariant-loop-position g l = HasTaken g.S.Sink.Took l.fn.sink l.sink
    (flat_map entry_text (g.C.PackContents.contents l.contents))
    (flat_map entry_text (drop l.position (g.C.PackContents.contents l.contents)))
