use Rattle.std.proofs.Common.{drop, map}
use Rattle.std.specs.List.{flat_map}
use Rattle.pool_file_format.specs.Format.{object_text}
use Rattle.pool_file_format.proofs.Pieces.{HasTaken}
use Rattle.pool_file_format.proofs.printing.put_many_objects.Given as goal

-- The sink took all before the place of the loop.
abbrev pub invariant-loop-object : goal.invariant-loop-object
invariant-loop-object g l = HasTaken g.S.Sink.Took l.fn.sink l.sink (flat_map object_text (map g.O.Printed.object l.objects))
    (flat_map object_text (map g.O.Printed.object (drop l.object-index l.objects)))
