use Rattle.std.proofs.Common.{◌-◌}
use Rattle.std.specs.Int.{w64}
use Rattle.byte_devices.specs.Device.{device_of, seen}
use Rattle.pool_file_format.specs.Lengths.{number_at}
use Rattle.pool_file_format.proofs.Readings.{Goes}
use Rattle.pool_file_format.proofs.fields.read_many_numbers.Given as goal

abbrev pub invariant-loop : goal.invariant-loop
invariant-loop g l = Goes l.bound (number_at w64) l.count (seen (g.R.Read.remaining (device_of l.fn.reader)) l.fn.reader)
    (l.numbers.items) (l.count - l.counter) (seen (g.R.Read.remaining (device_of l.reader)) l.reader)
