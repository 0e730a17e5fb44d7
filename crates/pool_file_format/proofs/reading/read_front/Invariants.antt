use Rattle.std.proofs.Common.{drop}
use Rattle.byte_devices.specs.Device.{device_of, seen}
use Rattle.pool_file_format.specs.Lengths.{front_at}
use Rattle.pool_file_format.proofs.WholeLemmas.{Leads}
use Rattle.pool_file_format.proofs.reading.read_front.Given as goal

-- What is left of the bytes leads to all of them.
abbrev pub invariant-loop-byte : goal.invariant-loop-byte
invariant-loop-byte g l = Leads l.bound (front_at l.expected) (seen (g.R.Read.remaining (device_of l.fn.reader)) l.fn.reader)
    (front_at (drop l.byte-index l.expected)) (seen (g.R.Read.remaining (device_of l.reader)) l.reader)
