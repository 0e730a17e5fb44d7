use Rattle.std.proofs.Common.{◌∙◌}
use Rattle.tenant_tables.proofs.InSight.{number_seen}
use Rattle.tenant_tables.proofs.objects.Objects.len.Goals as goal

pub returns : goal.returns
returns g c = c.len_in_sight.ensures ∙ number_seen c.self.inside.pool.now _ _ c.self.view_is
