use Rattle.std.proofs.Common.{◌≡◌, ◌+◌, length, Ok}
use Rattle.byte_devices.specs.Device.{device_of, seen}
use Rattle.pool_file_format.specs.Lengths.{bytes_at}
use Rattle.pool_file_format.specs.Taking.{ReadsValue}
use Rattle.pool_file_format.proofs.filling.read_bytes.Given as goal

-- All bytes but those that are left were read.
abbrev pub invariant-loop-left : goal.invariant-loop-left
invariant-loop-left g l = (length l.bytes.items + l.left ≡ l.count)
    × ReadsValue l.bound (bytes_at (length l.bytes.items)) (seen (g.R.Read.remaining (device_of l.fn.reader)) l.fn.reader)
    (Ok l.bytes.items) (seen (g.R.Read.remaining (device_of l.reader)) l.reader)

abbrev pub decreases-loop-left : goal.decreases-loop-left
decreases-loop-left g l = l.left
