use Rattle.std.proofs.Common.{◌≡◌, ◌≤◌, ◌+◌, ◌*◌, take}
use Rattle.std.specs.Prelude.{sum}
use Rattle.pack_text.specs.Adler.{high_sum}
use Rattle.pack_text.proofs.adler.sums_after.Given as goal

-- The sums of the bytes before the place of the loop, which fit by far.
abbrev pub invariant-loop-byte : goal.invariant-loop-byte
invariant-loop-byte l = (l.low ≡ l.low_before + sum (take l.byte-index l.bytes))
    × (l.high ≡ l.high_before + high_sum l.low_before (take l.byte-index l.bytes))
    × (l.low ≤ 65521 + 255 * l.byte-index)
    × (l.high ≤ 65521 + 16777216 * l.byte-index)
