use Rattle.std.proofs.Common.{◌≡◌, ◌-◌}
use Rattle.pool_file_format.specs.Lengths.{many_at}
use Rattle.store_format.specs.Lengths.{contents_file_at}
use Rattle.store_format.specs.Shown.{contents_files_of}
use Rattle.store_format.proofs.Loop.{with_front}
use Rattle.store_format.proofs.reading.read_many.Given as goal

-- What stands before the place of the loop was read.
abbrev pub invariant-loop : goal.invariant-loop
invariant-loop l =
    with_front (contents_files_of l.files.items) (many_at contents_file_at (l.count - l.counter) l.rest) ≡ many_at contents_file_at l.count l.bytes
