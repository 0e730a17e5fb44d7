use Rattle.std.proofs.Common.{◌≡◌, ◌-◌}
use Rattle.pool_file_format.specs.Lengths.{many_at}
use Rattle.store_format.specs.Lengths.{change_at}
use Rattle.store_format.specs.Shown.{changes_of}
use Rattle.store_format.proofs.Loop.{with_front}
use Rattle.store_format.proofs.record_reading.read_many_changes.Given as goal

-- What stands before the place of the loop was read.
abbrev pub invariant-loop : goal.invariant-loop
invariant-loop l =
    with_front (changes_of l.changes.items) (many_at change_at (l.count - l.counter) l.rest) ≡ many_at change_at l.count l.bytes
