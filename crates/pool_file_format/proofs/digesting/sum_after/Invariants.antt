use Rattle.std.proofs.Common.{◌≡◌, ◌+◌, ◌%◌, take}
use Rattle.std.specs.Prelude.{sum}
use Rattle.pool_file_format.proofs.digesting.sum_after.Given as goal

abbrev pub invariant-loop-byte : goal.invariant-loop-byte
invariant-loop-byte l = l.sum ≡ (l.start + sum (take l.byte-index l.bytes)) % 256
