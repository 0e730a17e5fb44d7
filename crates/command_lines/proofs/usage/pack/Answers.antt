use Rattle.std.proofs.Common.{codes}
use Rattle.command_lines.specs.Usage.{tenant_usage}
use Rattle.command_lines.proofs.usage.pack.Goals as goal

pub returns : goal.returns
returns c = c.with_all.ensures (tenant_usage (codes "pack")) c.for_tenant.ensures
