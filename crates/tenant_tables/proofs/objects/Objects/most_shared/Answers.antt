use Rattle.std.proofs.Common.{◌∙◌, ap}
use Rattle.name_index.specs.Index.{most_shared}
use Rattle.tenant_tables.proofs.InSight.{names_seen}
use Rattle.tenant_tables.proofs.objects.Objects.most_shared.Goals as goal

pub returns : goal.returns
returns g c =
    c.most_shared.ensures ∙ ap (most_shared c.args.id.now) (names_seen c.self.inside.pool.now _ _ c.self.view_is)
