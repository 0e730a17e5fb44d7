use Rattle.pool_file_format.specs.Lengths.{tenant_at}
use Rattle.pool_file_format.proofs.Readings.{counted_reads, counted_fails, stops}
use Rattle.pool_file_format.proofs.fields.read_tenants.Goals as goal

pub returns-in_err-count : goal.returns-in_err-count
returns-in_err-count g c = stops _ _ _ c.from_residual.ensures.1 (counted_fails (tenant_at c.args.version) c.in_err-count.ensures)

pub returns : goal.returns
returns g c = counted_reads (tenant_at c.args.version) c.in_ok-count.ensures c.read_many_tenants.ensures
