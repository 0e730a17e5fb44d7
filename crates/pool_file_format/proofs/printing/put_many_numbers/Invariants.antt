use Rattle.std.proofs.Common.{length}
use Rattle.std.specs.List.{flat_map}
use Rattle.pool_file_format.specs.Format.{number_text}
use Rattle.pool_file_format.proofs.Pieces.{HasTaken}
use Rattle.pool_file_format.proofs.printing.put_many_numbers.Given as goal

-- The sink took the texts of all numbers but those that are left.
abbrev pub invariant-loop-left : goal.invariant-loop-left
invariant-loop-left g l = HasTaken g.S.Sink.Took l.fn.sink l.sink (flat_map number_text l.numbers) (flat_map number_text l.left)

abbrev pub decreases-loop-left : goal.decreases-loop-left
decreases-loop-left g l = length l.left
