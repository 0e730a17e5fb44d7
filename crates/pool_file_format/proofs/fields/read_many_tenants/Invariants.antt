use Rattle.std.proofs.Common.{◌-◌}
use Rattle.byte_devices.specs.Device.{device_of, seen}
use Rattle.pool_file_format.specs.Lengths.{tenant_at}
use Rattle.pool_file_format.specs.Shown.{tenants_of}
use Rattle.pool_file_format.proofs.Readings.{Goes}
use Rattle.pool_file_format.proofs.fields.read_many_tenants.Given as goal

abbrev pub invariant-loop : goal.invariant-loop
invariant-loop g l = Goes l.bound (tenant_at l.version) l.count (seen (g.R.Read.remaining (device_of l.fn.reader)) l.fn.reader)
    (tenants_of l.tenants.items) (l.count - l.counter) (seen (g.R.Read.remaining (device_of l.reader)) l.reader)
