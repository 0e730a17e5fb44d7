use Rattle.std.proofs.Common.{codes}
use Rattle.command_lines.specs.Usage.{tenant_usage}
use Rattle.command_lines.proofs.usage.extract.Goals as goal

pub returns : goal.returns
returns c = c.with_file.ensures (tenant_usage (codes "extract")) c.for_tenant-command.ensures
