use Rattle.std.proofs.Common.{◌∙◌}
use Rattle.std.specs.Str.{bytes_eq}
use Rattle.indexmap.proofs.CallerLemmas.{insert_entry-new}
use Rattle.tenant_service.proofs.tenants.add_tenant.Goals as goal

pub returns-in-Ok-clause-ok : goal.returns-in-Ok-clause-ok
returns-in-Ok-clause-ok c =
    c.in-Ok.ensures.entries ∙ insert_entry-new bytes_eq c.args.tenants.now c.args.name c.args.tenant c.requires
