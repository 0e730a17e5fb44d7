use Rattle.std.proofs.Common.{◌∙◌, ap}
use Rattle.tenant_tables.specs.Abbreviation.{found_among}
use Rattle.tenant_tables.proofs.InSight.{names_seen}
use Rattle.tenant_tables.proofs.objects.Objects.starting_with.Goals as goal

pub returns : goal.returns
returns g c =
    c.starting_with.ensures ∙ ap (found_among c.args.digits.now) (names_seen c.self.inside.pool.now _ _ c.self.view_is)
