use Rattle.std.proofs.Common.{◌≡◌, ◌-◌, length}
use Rattle.byte_devices.specs.Device.{device_of, seen}
use Rattle.byte_devices.specs.Reading.{HasReadWell}
use Rattle.gitpool.proofs.pack_lines.read_text.Given as goal

abbrev pub decreases-loop-block : goal.decreases-loop-block
decreases-loop-block g l = 67108865 - length l.text.items

-- The text so far was read.
abbrev pub invariant-loop-block : goal.invariant-loop-block
invariant-loop-block g l = (length l.block ≡ 8192)
    × HasReadWell (seen (g.R.Read.remaining (device_of l.fn.reader)) l.fn.reader)
    (seen (g.R.Read.remaining (device_of l.reader)) l.reader) l.text.items
