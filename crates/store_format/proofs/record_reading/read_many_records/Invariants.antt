use Rattle.std.proofs.Common.{◌≡◌, ◌-◌}
use Rattle.pool_file_format.specs.Lengths.{many_at}
use Rattle.store_format.specs.Lengths.{record_at}
use Rattle.store_format.specs.Shown.{records_of}
use Rattle.store_format.proofs.Loop.{with_front}
use Rattle.store_format.proofs.record_reading.read_many_records.Given as goal

-- What stands before the place of the loop was read.
abbrev pub invariant-loop : goal.invariant-loop
invariant-loop l =
    with_front (records_of l.records.items) (many_at record_at (l.count - l.counter) l.rest) ≡ many_at record_at l.count l.bytes
