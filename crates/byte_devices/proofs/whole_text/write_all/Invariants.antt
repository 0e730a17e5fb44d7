use Rattle.std.proofs.Common.{◌≡◌, length}
use Rattle.byte_devices.specs.Device.{device_of, faults_of}
use Rattle.byte_devices.proofs.whole_text.write_all.Given as goal
use Rattle.byte_devices.proofs.WrittenSoFar.{IsWrittenSoFar}

abbrev pub decreases-loop-left : goal.decreases-loop-left
decreases-loop-left g l = length l.left

-- What stands before `left` is written, and no call failed.
abbrev pub invariant-loop-left : goal.invariant-loop-left
invariant-loop-left g l =
    IsWrittenSoFar (g.W.Write.contents (device_of l.fn.writer))
    (g.W.Write.contents (device_of l.writer)) l.fn.bytes l.left
    × (faults_of l.writer ≡ faults_of l.fn.writer)
