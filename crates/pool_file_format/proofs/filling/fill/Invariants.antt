use Rattle.std.proofs.Common.{length, take, ◌+◌, ◌-◌, ◌≡◌, ◌≤◌}
use Rattle.byte_devices.specs.Device.{device_of, seen, calls_of}
use Rattle.byte_devices.specs.Reading.{AreBytes, HasReadWell}
use Rattle.pool_file_format.proofs.filling.fill.Given as goal

abbrev pub decreases-loop-filled : goal.decreases-loop-filled
decreases-loop-filled g l = length l.initial.room - l.filled

-- The front of the room was read, and each call gave some of it.
abbrev pub invariant-loop-filled : goal.invariant-loop-filled
invariant-loop-filled g l = (l.filled ≤ length l.room) × (length l.room ≡ length l.initial.room)
    × HasReadWell (seen (g.R.Read.remaining (device_of l.fn.reader)) l.fn.reader)
    (seen (g.R.Read.remaining (device_of l.reader)) l.reader) (take l.filled l.room)
    × (calls_of l.fn.reader ≤ l.bound → calls_of l.reader ≤ l.bound)
    × (calls_of l.reader ≤ calls_of l.fn.reader + l.filled) × AreBytes l.room
