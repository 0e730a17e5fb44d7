use Rattle.std.proofs.Common.{length, take, ◌-◌, ◌≡◌, ◌≤◌}
use Rattle.byte_devices.specs.Device.{device_of, seen}
use Rattle.byte_devices.specs.Reading.{AreBytes, HasReadWell}
use Rattle.byte_devices.proofs.filling.fill.Given as goal

abbrev pub decreases-loop-filled : goal.decreases-loop-filled
decreases-loop-filled g l = length l.initial.room - l.filled

-- The front of the room was read.
abbrev pub invariant-loop-filled : goal.invariant-loop-filled
invariant-loop-filled g l = (l.filled ≤ length l.room) × (length l.room ≡ length l.initial.room)
    × HasReadWell (seen (g.R.Read.remaining (device_of l.fn.reader)) l.fn.reader)
    (seen (g.R.Read.remaining (device_of l.reader)) l.reader) (take l.filled l.room) × AreBytes l.room
