use Rattle.std.proofs.Common.{drop}
use Rattle.std.specs.List.{flat_map}
use Rattle.pool_file_format.specs.Format.{ref_text}
use Rattle.pool_file_format.specs.Shown.{refs_of}
use Rattle.pool_file_format.proofs.Pieces.{HasTaken}
use Rattle.pool_file_format.proofs.printing.put_many_refs.Given as goal

-- The sink took all before the place of the loop.
abbrev pub invariant-loop-one : goal.invariant-loop-one
invariant-loop-one g l = HasTaken g.S.Sink.Took l.fn.sink l.sink (flat_map ref_text (refs_of l.refs))
    (flat_map ref_text (refs_of (drop l.one-index l.refs)))
