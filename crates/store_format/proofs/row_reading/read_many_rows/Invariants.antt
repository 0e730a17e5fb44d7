use Rattle.std.proofs.Common.{◌≡◌, ◌-◌}
use Rattle.pool_file_format.specs.Lengths.{many_at}
use Rattle.store_format.specs.Lengths.{row_at}
use Rattle.store_format.specs.Shown.{rows_of}
use Rattle.store_format.proofs.Loop.{with_front}
use Rattle.store_format.proofs.row_reading.read_many_rows.Given as goal

-- What stands before the place of the loop was read.
abbrev pub invariant-loop : goal.invariant-loop
invariant-loop l =
    with_front (rows_of l.rows.items) (many_at row_at (l.count - l.counter) l.rest) ≡ many_at row_at l.count l.bytes
