use Rattle.std.proofs.Common.{◌≡◌, ◌%◌, take}
use Rattle.std.specs.Prelude.{sum}
use Rattle.git_names.proofs.tail_naming.sum_of.Given as goal

abbrev pub invariant-loop-byte : goal.invariant-loop-byte
invariant-loop-byte l = l.sum ≡ sum (take l.byte-index l.bytes) % 256
