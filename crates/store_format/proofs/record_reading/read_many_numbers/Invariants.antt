use Rattle.std.proofs.Common.{◌≡◌, ◌-◌}
use Rattle.pool_file_format.specs.Lengths.{many_at}
use Rattle.std.specs.Int.{w32}
use Rattle.pool_file_format.specs.Lengths.{number_at}
use Rattle.store_format.proofs.Loop.{with_front}
use Rattle.store_format.proofs.record_reading.read_many_numbers.Given as goal

-- What stands before the place of the loop was read.
abbrev pub invariant-loop : goal.invariant-loop
invariant-loop l =
    with_front (l.numbers.items) (many_at (number_at w32) (l.count - l.counter) l.rest) ≡ many_at (number_at w32) l.count l.bytes
